-- Bytes before the first at which a construct or a literal may start.
use Rattle.std.proofs.Common.{◌≡◌, ℕ, ◌+◌, ◌-◌, ◌<◌, ◌≤◌, Bool, List, [], ◌∷◌, true, false, ◌||◌, ◌&&◌, eqb, not, Fits, w8, refl, sym, ap, ap₂, ◌∙◌}
use Rattle.std.proofs.Common.{get_or, length, drop, arith, inl, inr, ◌⊎◌, ◌==◌}
use Rattle.std.specs.Char.{to_ascii_lowercase}
use Rattle.std.proofs.lemmas.Bool.{agree_below_at, and_parts, cases_Bool, cases_lt, eq-eqb, eqb-false, eqb-true, ne_eqb, or_parts, or_cases, or_from, or_left}
use Rattle.std.proofs.lemmas.Bool.{or_right, false≢true}
use Rattle.std.proofs.lemmas.List.{drop-drop, get_or-drop, length-drop}
use Rattle.std.proofs.lemmas.List.Sums.{fails_before_first, passes_at_first, prefix_len-le-length}
use Rattle.std.specs.List.{position_or_len}
use Rattle.text_search.specs.Sets.{holds}
use Rattle.definition_inline.specs.Mark.{is_equals}
use Rattle.inline_literals.specs.Literals.{may_begin}
use Rattle.inline_text.specs.declared.plain.TheConstants.{STARTS, STOPS}
use Rattle.inline_text.specs.declared.letters.StopBytes.{StopBytes}
use Rattle.inline_text.specs.Letters.{are_letters}
use Rattle.inline_text.specs.Mark.{is_more, IsStopWith}
use Rattle.inline_text.specs.Plain.{starts, begins_more, goes_on, starts_here, stops, is_replaced, IsStart}
use Rattle.inline_text.specs.Verbatim.{AreVerbatim}
use Rattle.inline_text.proofs.Verbatim.{verbatim_byte}

eqb_flip : (a b : ℕ) → eqb a b ≡ eqb b a
eqb_flip a b = elim (cases_Bool (eqb a b)) [
  | inl is ↦ is ∙ sym (eq-eqb b a (sym (eqb-true a b is)))
  | inr other ↦ other ∙ sym (ne_eqb b a (λ e. eqb-false a b other (sym e)))
]

flip : (x a y b : Bool) → x ≡ a → y ≡ b → (x && (y && true)) ≡ (a && b)
flip true a true b p q = ap₂ (λ s t. s && t) p q
flip true a false b p q = ap₂ (λ s t. s && t) p q
flip false a y b p q = ap (λ s. s && b) p

alone : (x a : Bool) → x ≡ a → (x && false) ≡ (a && false)
alone x a p = ap (λ s. s && false) p

-- two letters at the front
may_letters : (xs : List ℕ) → may_begin xs ≡ are_letters (get_or xs 0 0) (get_or xs 1 0)
may_letters [] = refl
may_letters (b ∷ []) =
    let small = to_ascii_lowercase b in
    ap₂ (λ s t. s || t) (alone (eqb 119 small) (eqb small 119) (eqb_flip 119 small)) (alone (eqb 104 small) (eqb small 104) (eqb_flip 104 small))
may_letters (b ∷ c ∷ cs) =
    let small = to_ascii_lowercase b in
    let next = to_ascii_lowercase c in
    ap₂ (λ s t. s || t) (flip (eqb 119 small) (eqb small 119) (eqb 119 next) (eqb next 119) (eqb_flip 119 small) (eqb_flip 119 next))
    (flip (eqb 104 small) (eqb small 104) (eqb 116 next) (eqb next 116) (eqb_flip 104 small) (eqb_flip 116 next))

letters_at : (bytes : List ℕ) (k : ℕ) → may_begin (drop k bytes) ≡ are_letters (get_or bytes k 0) (get_or bytes (k + 1) 0)
letters_at bytes k =
    may_letters (drop k bytes)
    ∙ ap₂ are_letters (get_or-drop k bytes 0 0 ∙ ap (λ n. get_or bytes n 0) (omega arith)) (get_or-drop k bytes 1 0)

stop_byte : (b : ℕ) → Fits w8 b → holds STOPS.set b ≡ stops b
stop_byte b fits = agree_below_at (holds STOPS.set) stops 256 b refl fits.fits

start_byte : (b : ℕ) → Fits w8 b → holds STARTS.set b ≡ starts b
start_byte b fits = agree_below_at (holds STARTS.set) starts 256 b refl fits.fits

-- a byte of a set alone, where literals are off
pub next_alone : (stops : StopBytes) (bytes : List ℕ) (stop : ℕ) → stop ≡ position_or_len (holds stops.set) bytes
    → IsStopWith false false stops bytes stop
next_alone stops bytes stop first = record {
  within = omega (arith, first, prefix_len-le-length (λ b. not (holds stops.set b)) bytes);
  free = λ k lt. or_from (holds stops.set (get_or bytes k 0)) false (fails_before_first (holds stops.set) bytes k 0 (omega (arith, first, lt))) refl;
  hit = λ lt.
      or_left (holds stops.set (get_or bytes stop 0)) false
      (ap (λ k. holds stops.set (get_or bytes k 0)) first ∙ passes_at_first (holds stops.set) bytes 0 (omega (arith, first, lt)));
}

pub first_of : (bytes : List ℕ) (k : ℕ) → get_or (drop k bytes) 0 0 ≡ get_or bytes k 0
first_of bytes k = get_or-drop k bytes 0 0 ∙ ap (λ n. get_or bytes n 0) (omega arith)

-- neither of two tests passes, where a third or fourth passes only if these do
more_none : (on equals extra letters : Bool) → (equals || (on && (extra || letters))) ≡ false → ((equals || (on && letters)) ≡ false) × ((on && extra) ≡ false)
more_none on true extra letters h = absurd (false≢true (sym h))
more_none true false true letters h = absurd (false≢true (sym h))
more_none true false false letters h = (h, refl)
more_none false false extra letters h = (refl, refl)

more_some : (on equals extra letters : Bool) → (equals || (on && (extra || letters))) ≡ true → ((equals || (on && letters)) ≡ true) ⊎ ((on && extra) ≡ true)
more_some on true extra letters h = inl refl
more_some true false true letters h = inr refl
more_some true false false letters h = inl h
more_some false false extra letters h = absurd (false≢true h)

-- what may begin at a place, or is the extra byte
module _ (on m : Bool) (extra : ℕ) (bytes : List ℕ) (k : ℕ) where
  abbrev here : ℕ
  here = get_or bytes k 0

  abbrev behind : ℕ
  behind = get_or bytes (k + 1) 0

  begins_at : begins_more on m (drop k bytes) ≡ ((m && is_equals here) || (on && are_letters here behind))
  begins_at = ap₂ (λ b letters. (m && is_equals b) || (on && letters)) (first_of bytes k) (letters_at bytes k)

  none_at : is_more on m extra here behind ≡ false → (begins_more on m (drop k bytes) ≡ false) × ((on && (here == extra)) ≡ false)
  none_at none =
      let parts = more_none on (m && is_equals here) (eqb here extra) (are_letters here behind) none in
      (begins_at ∙ parts.0, parts.1)

  some_at : is_more on m extra here behind ≡ true → (begins_more on m (drop k bytes) ≡ true) ⊎ ((on && (here == extra)) ≡ true)
  some_at some = elim (more_some on (m && is_equals here) (eqb here extra) (are_letters here behind) some) [
    | inl more ↦ inl (begins_at ∙ more)
    | inr is ↦ inr is
  ]

module _ (on m : Bool) (bytes : List ℕ) (fits : (k : ℕ) → Fits w8 (get_or bytes k 0)) (stop : ℕ) (next : IsStopWith on m STOPS bytes stop) where
  -- at a byte before the stop nothing stops or begins, and it is no `@` where literals are on
  record IsPassed (k : ℕ) : Type 0 where
    plain : stops (get_or bytes k 0) ≡ false
    more : begins_more on m (drop k bytes) ≡ false
    bare : (on && (get_or bytes k 0 == 64)) ≡ false

  passed : (k : ℕ) → k < stop → IsPassed k
  passed k lt =
      let parts = or_parts (holds STOPS.set (get_or bytes k 0)) _ (next.free k lt) in
      let none = none_at on m 64 bytes k parts.1 in
      record { plain = sym (stop_byte (get_or bytes k 0) (fits k)) ∙ parts.0; more = none.0; bare = none.1 }

  pub free_byte : (k : ℕ) → k < stop → starts (get_or bytes k 0) ≡ false
  free_byte k lt = (or_parts (starts (get_or bytes k 0)) (is_replaced (get_or bytes k 0)) (passed k lt).plain).0

  pub bare_byte : (k : ℕ) → k < stop → begins_more on m (drop k bytes) ≡ false
  bare_byte k lt = (passed k lt).more

  pub next_verbatim : AreVerbatim on bytes stop
  next_verbatim = record { same = λ k lt. verbatim_byte (get_or bytes k 0) (passed k lt).plain; bare = λ k lt. (passed k lt).bare }

  -- something starts there, where text doesn't go on
  pub next_start : (stop < length bytes → goes_on on (get_or bytes stop 0) ≡ false) → IsStart on m bytes stop
  next_start kept = record {
    within = next.within;
    free = free_byte;
    bare = λ k lt. (passed k lt).more;
    stops = λ lt.
        let b = get_or bytes stop 0 in
        let no_more = or_parts (is_replaced b) (on && (b == 64)) (kept lt) in
        ap (λ x. starts x || begins_more on m (drop stop bytes)) (first_of bytes stop)
        ∙ elim (or_cases (holds STOPS.set b) _ (next.hit lt)) [
          | inr more ↦ elim (some_at on m 64 bytes stop more) [
            | inl begins ↦ or_right (starts b) (begins_more on m (drop stop bytes)) begins
            | inr is ↦ absurd (false≢true (sym no_more.1 ∙ is))
          ]
          | inl held ↦ elim (or_cases (starts b) (is_replaced b) (sym (stop_byte b (fits stop)) ∙ held)) [
            | inl start ↦ or_left (starts b) (begins_more on m (drop stop bytes)) start
            | inr replaced ↦ absurd (false≢true (sym no_more.0 ∙ replaced))
          ]
        ];
  }

  -- or from there on
  pub later_start : (n size : ℕ) → size ≡ stop + n → IsStart on m (drop stop bytes) n → IsStart on m bytes size
  later_start n size is from = record {
    within = omega (arith, is, from.within, length-drop stop bytes, next.within);
    free = λ k lt. elim (cases_lt k stop) [
      | inl before ↦ free_byte k before
      | inr after ↦
          ap (λ j. starts (get_or bytes j 0)) (sym (place k after)) ∙ ap starts (sym (get_or-drop stop bytes (k - stop) 0))
          ∙ from.free (k - stop) (omega (arith, lt, after, is))
    ];
    bare = λ k lt. elim (cases_lt k stop) [
      | inl before ↦ (passed k before).more
      | inr after ↦
          ap (λ j. begins_more on m (drop j bytes)) (sym (place k after)) ∙ ap (begins_more on m) (sym (drop-drop (k - stop) stop bytes))
          ∙ from.bare (k - stop) (omega (arith, lt, after, is))
    ];
    stops = λ lt.
        ap (λ j. starts_here on m (drop j bytes)) is ∙ ap (starts_here on m) (sym (drop-drop n stop bytes))
        ∙ from.stops (omega (arith, lt, is, length-drop stop bytes));
  }
    where
      place : (k : ℕ) → stop ≤ k → stop + (k - stop) ≡ k
      place k ge = omega (arith, ge)

-- the first byte at which something may start
pub start_at : (on m : Bool) (bytes : List ℕ) → ((k : ℕ) → Fits w8 (get_or bytes k 0)) → (stop : ℕ) → IsStopWith on m STARTS bytes stop → IsStart on m bytes stop
start_at on m bytes fits stop next = record {
  within = next.within;
  free = λ k lt. (passed k lt).0;
  bare = λ k lt. (passed k lt).1;
  stops = λ lt.
      let b = get_or bytes stop 0 in
      ap (λ x. starts x || begins_more on m (drop stop bytes)) (first_of bytes stop)
      ∙ elim (or_cases (holds STARTS.set b) _ (next.hit lt)) [
        | inl held ↦ or_left (starts b) (begins_more on m (drop stop bytes)) (sym (start_byte b (fits stop)) ∙ held)
        | inr more ↦ elim (some_at on m 96 bytes stop more) [
          | inl begins ↦ or_right (starts b) (begins_more on m (drop stop bytes)) begins
          | inr is ↦ or_left (starts b) (begins_more on m (drop stop bytes)) (at_backtick b (and_parts on (b == 96) is).1)
        ]
      ];
}
  where
    passed : (k : ℕ) → k < stop → (starts (get_or bytes k 0) ≡ false) × (begins_more on m (drop k bytes) ≡ false)
    passed k lt =
        let parts = or_parts (holds STARTS.set (get_or bytes k 0)) _ (next.free k lt) in
        (sym (start_byte (get_or bytes k 0) (fits k)) ∙ parts.0, (none_at on m 96 bytes k parts.1).0)

    at_backtick : (b : ℕ) → (b == 96) ≡ true → starts b ≡ true
    at_backtick b is = ap starts (eqb-true b 96 is)
