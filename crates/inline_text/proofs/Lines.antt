-- Lines of verbatim text with soft line breaks between them.
use Rattle.std.proofs.Common.{◌≡◌, ℕ, ◌+◌, ◌-◌, ◌<◌, ◌≤◌, Bool, List, [], ◌∷◌, true, false, ◌||◌, ◌&&◌, eqb, Fits, w8, refl, sym, ap, ◌∙◌, subst}
use Rattle.std.proofs.Common.{get_or, length, drop, arith, inl, inr, ◌⊎◌}
use Rattle.std.proofs.lemmas.Bool.{and_parts, and_right, cases_Bool, cases_lt, cond-false, eqb-true, ne_eqb, or_cases, or_from, or_left}
use Rattle.std.proofs.lemmas.List.{drop-drop, drop_more, get_or-drop, length-drop}
use Rattle.definition_text.specs.Columns.{is_white, indent}
use Rattle.definition_text.specs.Content.{content_codes, is_eol}
use Rattle.definition_text.specs.Encode.{encoded_byte}
use Rattle.inline_leaves.proofs.Codes.{plain_code}
use Rattle.inline_text.specs.declared.plain.TheConstants.{STOPS}
use Rattle.inline_text.specs.Fronts.{AreLines, IsTextFront}
use Rattle.inline_text.specs.Mark.{IsStopWith}
use Rattle.inline_text.specs.Plain.{begins_more, goes_on, is_front_at, is_replaced, is_text_at, IsLineSize, IsSoft, IsStart}
use Rattle.inline_text.specs.Verbatim.{AreVerbatim}
use Rattle.inline_text.proofs.Fronts.{dark_text, first_ascii, first_stops, free_text, stop_ascii, stop_text, white_stops}
use Rattle.inline_text.proofs.LiteralFronts.{bare_byte, first_of, free_byte, next_start, next_verbatim}
use Rattle.inline_text.proofs.Texts.{IsFilled, IsText, more_text, text_end, text_stops}

-- ---- bytes

dark_white : (b : ℕ) → 32 < b → b < 256 → is_white b ≡ false
dark_white b low high =
    or_from (eqb b 32 || eqb b 9) (eqb b 256)
    (or_from (eqb b 32) (eqb b 9) (ne_eqb b 32 (λ e. omega (arith, e, low))) (ne_eqb b 9 (λ e. omega (arith, e, low))))
    (ne_eqb b 256 (λ e. omega (arith, e, high)))

-- text goes on at no line ending
eol_goes_not : (on : Bool) (b : ℕ) → is_eol b ≡ true → goes_on on b ≡ false
eol_goes_not on b eol = elim (or_cases (eqb b 10 || eqb b 13) (eqb b 257) eol) [
  | inl single ↦ elim (or_cases (eqb b 10) (eqb b 13) single) [
    | inl h ↦ ap (goes_on on) (eqb-true b 10 h) ∙ and_right on false refl
    | inr h ↦ ap (goes_on on) (eqb-true b 13 h) ∙ and_right on false refl
  ]
  | inr h ↦ ap (goes_on on) (eqb-true b 257 h) ∙ and_right on false refl
]

-- a byte at which it goes on, and isn't verbatim
going_byte : (on : Bool) (b : ℕ) → goes_on on b ≡ true → (is_white b ≡ false) × (b < 128)
going_byte on b goes = elim (or_cases (is_replaced b) (on && eqb b 64) goes) [
  | inl replaced ↦ elim (or_cases (eqb b 0) (eqb b 34 || eqb b 62) replaced) [
    | inl h ↦ is 0 (eqb-true b 0 h) refl (omega arith)
    | inr other ↦ elim (or_cases (eqb b 34) (eqb b 62) other) [
      | inl h ↦ is 34 (eqb-true b 34 h) refl (omega arith)
      | inr h ↦ is 62 (eqb-true b 62 h) refl (omega arith)
    ]
  ]
  | inr sign ↦ is 64 (eqb-true b 64 (and_parts on (eqb b 64) sign).1) refl (omega arith)
] where
  is : (x : ℕ) → b ≡ x → is_white x ≡ false → x < 128 → (is_white b ≡ false) × (b < 128)
  is x e white ascii = (ap is_white e ∙ white, omega (arith, e, ascii))

-- ---- lines one after another

filled : {on m : Bool} → (bytes : List ℕ) (size : ℕ) → AreLines on m bytes size → IsFilled (is_front_at true) bytes size
filled bytes size are = record { within = are.within; text = are.text; plain = are.plain }

-- text is a line
text_lines : {on m : Bool} → (bytes : List ℕ) (size : ℕ) → IsText bytes size
    → ((k : ℕ) → k < size → begins_more on m (drop k bytes) ≡ false) → AreVerbatim on bytes size → AreLines on m bytes size
text_lines bytes size is bare verbatim = record {
  within = is.within;
  text = λ k lt. or_left (is_text_at (drop k (content_codes bytes))) _ (is.text k lt);
  plain = is.plain;
  bare = bare;
  verbatim = verbatim;
}

pub more_lines : (on m : Bool) (bytes : List ℕ) (at size next : ℕ) → next ≡ at + size → AreLines on m bytes at → AreLines on m (drop at bytes) size
    → AreLines on m bytes next
more_lines on m bytes at size next e first more =
    let both = more_text bytes at size next e (filled bytes at first) (filled (drop at bytes) size more) in
    record {
      within = both.within;
      text = both.text;
      plain = both.plain;
      bare = λ k lt. elim (cases_lt k at) [
        | inl before ↦ first.bare k before
        | inr after ↦
            ap (λ j. begins_more on m (drop j bytes)) (sym (place k after)) ∙ ap (begins_more on m) (sym (drop-drop (k - at) at bytes))
            ∙ more.bare (k - at) (omega (arith, lt, after, e))
      ];
      verbatim = record {
        same = λ k lt. elim (cases_lt k at) [
          | inl before ↦ first.verbatim.same k before
          | inr after ↦ subst (λ b. encoded_byte b ≡ b ∷ []) (there k after) (more.verbatim.same (k - at) (omega (arith, lt, after, e)))
        ];
        bare = λ k lt. elim (cases_lt k at) [
          | inl before ↦ first.verbatim.bare k before
          | inr after ↦ subst (λ b. (on && eqb b 64) ≡ false) (there k after) (more.verbatim.bare (k - at) (omega (arith, lt, after, e)))
        ];
      };
    }
  where
    place : (k : ℕ) → at ≤ k → at + (k - at) ≡ k
    place k ge = omega (arith, ge)

    there : (k : ℕ) → at ≤ k → get_or (drop at bytes) (k - at) 0 ≡ get_or bytes k 0
    there k ge = get_or-drop at bytes (k - at) 0 ∙ ap (λ j. get_or bytes j 0) (place k ge)

-- ---- a line and the soft line break after it

feed_starts_none : (on m : Bool) (bs : List ℕ) → begins_more on m (10 ∷ bs) ≡ false
feed_starts_none true true [] = refl
feed_starts_none true false [] = refl
feed_starts_none true true (b ∷ bs) = refl
feed_starts_none true false (b ∷ bs) = refl
feed_starts_none false true bs = refl
feed_starts_none false false bs = refl

soft_byte : (on m : Bool) (bs : List ℕ) → 0 < length bs → 32 < get_or bs 0 0 → get_or bs 0 0 < 256 → AreLines on m (10 ∷ bs) 1
soft_byte on m [] some low high = absurd (omega (arith, some))
soft_byte on m (b ∷ bs) some low high = record {
  within = omega arith;
  text = λ k lt. ap (λ n. is_front_at true (drop n (content_codes (10 ∷ b ∷ bs)))) (only k lt) ∙ soft;
  plain = λ k lt e. apart (ap (λ n. get_or (10 ∷ b ∷ bs) n 0) (sym (only k lt)) ∙ e);
  bare = λ k lt. ap (λ n. begins_more on m (drop n (10 ∷ b ∷ bs))) (only k lt) ∙ feed_starts_none on m (b ∷ bs);
  verbatim = record {
    same = λ k lt. subst (λ n. encoded_byte (get_or (10 ∷ b ∷ bs) n 0) ≡ get_or (10 ∷ b ∷ bs) n 0 ∷ []) (sym (only k lt)) refl;
    bare = λ k lt. ap (λ n. on && eqb (get_or (10 ∷ b ∷ bs) n 0) 64) (only k lt) ∙ and_right on false refl;
  };
} where
  only : (k : ℕ) → k < 1 → k ≡ 0
  only k lt = omega (arith, lt)

  apart : get_or (10 ∷ b ∷ bs) 0 0 ≡ 13 → ⊥
  apart e = omega (arith, e)

  soft : is_front_at true (content_codes (10 ∷ b ∷ bs)) ≡ true
  soft =
      ap (λ cs. eqb (indent cs) 0) (plain_code b bs (λ e. omega (arith, e, low)))
      ∙ ap (λ n. eqb n 0) (cond-false (is_white b) _ _ (dark_white b low high))

module _ (on m : Bool) (line : List ℕ) (fits : (k : ℕ) → Fits w8 (get_or line k 0)) (stop : ℕ) where
  -- a line that ends at a soft line break, and that one
  pub soft_line : IsStart on m line stop → AreVerbatim on line stop → IsSoft line stop → AreLines on m line (stop + 1)
  soft_line first are soft =
      let here = drop_more line stop 0 (omega (arith, soft.inside)) ∙ ap (λ b. b ∷ drop (stop + 1) line) soft.feed in
      let next = first_of line (stop + 1) in
      let dark = λ (some : 0 < stop). dark_white (get_or line (stop - 1) 0) (soft.before some) (fits (stop - 1)).fits in
      more_lines on m line stop 1 (stop + 1) refl (text_lines line stop (dark_text on m line stop first stop (omega arith) dark) first.bare are)
      (subst (λ xs. AreLines on m xs 1) (sym here)
      (soft_byte on m (drop (stop + 1) line) (omega (arith, length-drop (stop + 1) line, soft.inside)) (omega (arith, next, soft.after))
      (omega (arith, next, (fits (stop + 1)).fits))))

-- ---- the last line

-- a line after which something may start, or that ends before a byte that makes text not verbatim
pub record IsLast (on m : Bool) (line : List ℕ) (size : ℕ) : Type 0 where
  pub lines : AreLines on m line size
  pub stops : size < length line
      → (is_text_at (content_codes (drop size line)) ≡ false) ⊎ ((begins_more on m (drop size line) ≡ true) ⊎ (goes_on on (get_or line size 0) ≡ true))
  pub ascii : size < length line → get_or line size 0 < 128

module _ (on m : Bool) (line : List ℕ) (fits : (k : ℕ) → Fits w8 (get_or line k 0)) (stop : ℕ) (next : IsStopWith on m STOPS line stop) where
  abbrev byte : ℕ
  byte = get_or line stop 0

  -- it ends at a soft line break
  pub next_soft : IsSoft line stop → AreLines on m line (stop + 1)
  next_soft soft =
      soft_line on m line fits stop (next_start on m line fits stop next (λ lt. eol_goes_not on byte (ap is_eol soft.feed)))
      (next_verbatim on m line fits stop next) soft

  at_going : stop < length line → is_eol byte ≡ false → goes_on on byte ≡ true → IsLast on m line stop
  at_going lt inner goes =
      let is = going_byte on byte goes in
      record {
        lines =
            text_lines line stop (free_text line stop next.within (free_byte on m line fits stop next) (λ some. inr (lt, (is.0, inner))))
            (bare_byte on m line fits stop next) (next_verbatim on m line fits stop next);
        stops = λ _. inr (inr goes);
        ascii = λ _. is.1;
      }

  at_start : stop < length line → is_eol byte ≡ false → goes_on on byte ≡ false → IsLast on m line stop
  at_start lt inner kept =
      let first = next_start on m line fits stop next (λ _. kept) in
      record {
        lines = text_lines line stop (stop_text on m line stop first lt inner) first.bare (next_verbatim on m line fits stop next);
        stops = λ _. elim (first_stops on m line stop first lt) [
          | inl h ↦ inl h
          | inr more ↦ inr (inl more)
        ];
        ascii = λ _. first_ascii on m line stop first (fits stop) lt;
      }

  -- white space at its end is left out
  at_ending : (size : ℕ) → IsLineSize line stop size → (stop < length line → is_eol byte ≡ true) → IsLast on m line size
  at_ending size is ending =
      let first = next_start on m line fits stop next (λ lt. eol_goes_not on byte (ending lt)) in
      let are = next_verbatim on m line fits stop next in
      record {
        lines =
            text_lines line size (dark_text on m line stop first size is.within (is.dark ending)) (λ k lt. first.bare k (omega (arith, lt, is.within)))
            (record {
              same = λ k lt. are.same k (omega (arith, lt, is.within));
              bare = λ k lt. are.bare k (omega (arith, lt, is.within));
            });
        stops = λ lt. inl (white_stops line size stop lt is.within first.within is.white ending);
        ascii = λ lt. elim (cases_lt size stop) [
          | inl before ↦
              stop_ascii (get_or line size 0) (fits size) (or_left (is_white (get_or line size 0)) _ (is.white size (omega arith) before))
          | inr after ↦
              let e : stop ≡ size = omega (arith, after, is.within) in
              subst (λ k. get_or line k 0 < 128) e (first_ascii on m line stop first (fits stop) (omega (arith, e, lt)))
        ];
      }

  pub last_line : (size : ℕ) → IsLineSize line stop size → IsLast on m line size
  last_line size is = elim (cases_lt stop (length line)) [
    | inl lt ↦ elim (cases_Bool (is_eol byte)) [
      | inl eol ↦ at_ending size is (λ _. eol)
      | inr inner ↦
          subst (IsLast on m line) (sym (is.inner lt inner)) (elim (cases_Bool (goes_on on byte)) [
            | inl goes ↦ at_going lt inner goes
            | inr kept ↦ at_start lt inner kept
          ])
    ]
    | inr past ↦ at_ending size is (λ lt. absurd (omega (arith, lt, past)))
  ]

-- ---- all of them

-- the bytes from a place on
pub line_fits : (bytes line : List ℕ) (at : ℕ) → line ≡ drop at bytes → ((k : ℕ) → Fits w8 (get_or bytes k 0)) → (k : ℕ) → Fits w8 (get_or line k 0)
line_fits bytes line at is fits k = subst (Fits w8) (sym (ap (λ xs. get_or xs k 0) is ∙ get_or-drop at bytes k 0)) (fits (at + k))

-- lines, and a last one after them
pub with_last : (on m : Bool) (bytes : List ℕ) (at size : ℕ) → 0 < at → AreLines on m bytes at → IsLast on m (drop at bytes) size
    → IsTextFront on m bytes (record { size = at + size; is_verbatim = true })
with_last on m bytes at size some are last =
    let all = more_lines on m bytes at size (at + size) refl are last.lines in
    let there = drop-drop size at bytes in
    let byte = get_or-drop at bytes size 0 in
    let inside : at + size < length bytes → size < length (drop at bytes) = λ lt. omega (arith, lt, length-drop at bytes) in
    record {
      within = all.within;
      text = all.text;
      plain = all.plain;
      bare = all.bare;
      stops = λ lt. elim (last.stops (inside lt)) [
        | inl h ↦ inl (text_stops bytes (at + size) (filled bytes (at + size) all) (ap (λ xs. is_text_at (content_codes xs)) (sym there) ∙ h))
        | inr other ↦ elim other [
          | inl more ↦ inr (inl (ap (begins_more on m) (sym there) ∙ more))
          | inr goes ↦ inr (inr (omega (arith, some), ap (goes_on on) (sym byte) ∙ goes))
        ]
      ];
      ascii = λ lt. subst (λ b. b < 128) byte (last.ascii (inside lt));
      ending = text_end bytes (at + size) (filled bytes (at + size) all);
      verbatim = λ _. all.verbatim;
    }

-- lines up to the end
pub whole_lines : (on m : Bool) (bytes : List ℕ) (at : ℕ) → length bytes ≤ at → AreLines on m bytes at
    → IsTextFront on m bytes (record { size = at; is_verbatim = true })
whole_lines on m bytes at past are = record {
  within = are.within;
  text = are.text;
  plain = are.plain;
  bare = are.bare;
  stops = λ lt. absurd (omega (arith, lt, past));
  ascii = λ lt. absurd (omega (arith, lt, past));
  ending = text_end bytes at (filled bytes at are);
  verbatim = λ _. are.verbatim;
}
