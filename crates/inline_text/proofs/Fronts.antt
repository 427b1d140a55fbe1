-- Text before the first byte at which a construct may start.
use Rattle.std.proofs.Common.{◌≡◌, ℕ, zero, suc, ◌+◌, ◌-◌, ◌<◌, ◌≤◌, List, [], ◌∷◌, Bool, true, false, not, ◌||◌, ◌&&◌, eqb, leb, refl, sym, ap, ◌∙◌, get_or}
use Rattle.std.proofs.Common.{length, drop, arith, subst, Fits, w8, ◌⊎◌, inl, inr}
use Rattle.std.proofs.lemmas.Bool.{cases_Bool, cases_lt, cond-false, cond-true, eqb-true, false≢true, or_right, or_cases, or_from, ne_eqb, leb-false}
use Rattle.std.proofs.lemmas.Bool.{agree_below_at}
use Rattle.std.proofs.lemmas.List.{drop_more, get_or-drop, length-drop}
use Rattle.definition_text.specs.Columns.{is_white, indent, bare}
use Rattle.definition_text.specs.Content.{content_codes, is_eol}
use Rattle.definition_inline.specs.HardBreak.{ends_here}
use Rattle.inline_leaves.proofs.Codes.{plain_code, at_return}
use Rattle.inline_text.specs.Plain.{starts, begins_more, is_special, is_text_at, IsStart}
use Rattle.inline_text.proofs.Texts.{IsText, is_other, no_text, more_text, byte_text, special_stop, white_starts_not, more_byte}

-- no construct starts at so many bytes at the front
abbrev pub AreFree : List ℕ → ℕ → Type 0
AreFree bytes n = (k : ℕ) → k < n → starts (get_or bytes k 0) ≡ false

-- the last of so many bytes is no white space, or the byte after them is neither that nor a line ending
abbrev pub GoesOn : List ℕ → ℕ → Type 0
GoesOn bytes n =
    ((0 < n) × ((k : ℕ) → suc k ≡ n → is_white (get_or bytes k 0) ≡ false))
    ⊎ ((n < length bytes) × ((is_white (get_or bytes n 0) ≡ false) × (is_eol (get_or bytes n 0) ≡ false)))

later : (b : ℕ) (bs : List ℕ) (n : ℕ) → 0 < n → GoesOn (b ∷ bs) (suc n) → GoesOn bs n
later b bs n some on = elim on [
  | inl h ↦ inl (some, λ k e. h.1 (suc k) (omega (arith, e)))
  | inr h ↦ inr (omega (arith, h.0), h.1)
]

after_white : (b : ℕ) (bs : List ℕ) (n : ℕ) → is_white b ≡ true → GoesOn (b ∷ bs) (suc n) → GoesOn bs n
after_white b bs n white on = elim (cases_lt 0 n) [
  | inl some ↦ later b bs n some on
  | inr none ↦ elim on [
    | inl h ↦ absurd (false≢true (sym (h.1 0 (omega (arith, none))) ∙ white))
    | inr h ↦ inr (omega (arith, h.0), h.1)
  ]
]

apart : (b : ℕ) → is_eol b ≡ false → b ≡ 13 → ⊥
apart b inner e = false≢true (sym inner ∙ ap is_eol e)

white_apart : (b : ℕ) → is_white b ≡ true → b ≡ 13 → ⊥
white_apart b white e = false≢true (ap is_white (sym e) ∙ white)

-- white space first
skip : (b : ℕ) (codes : List ℕ) (x : Bool) → is_white b ≡ true → ends_here (bare codes) ≡ x → ends_here (bare (b ∷ codes)) ≡ x
skip b codes x white h =
    let e : indent (b ∷ codes) ≡ 1 + indent codes = cond-true (is_white b) _ _ white in
    let f : indent (b ∷ codes) ≡ suc (indent codes) = omega arith in
    ap (λ n. ends_here (drop n (b ∷ codes))) f ∙ h

skip_byte : (b : ℕ) (bs : List ℕ) (x : Bool) → is_white b ≡ true → ends_here (bare (content_codes bs)) ≡ x → ends_here (bare (content_codes (b ∷ bs))) ≡ x
skip_byte b bs x white h = ap (λ cs. ends_here (bare cs)) (plain_code b bs (white_apart b white)) ∙ skip b (content_codes bs) x white h

-- something else first
at_dark : (b : ℕ) (codes : List ℕ) → is_white b ≡ false → ends_here (bare (b ∷ codes)) ≡ is_eol b
at_dark b codes dark = ap (λ k. ends_here (drop k (b ∷ codes))) (cond-false (is_white b) _ _ dark)

goes_on : (bytes : List ℕ) (n : ℕ) → n ≤ length bytes → AreFree bytes n → GoesOn bytes n → ends_here (bare (content_codes bytes)) ≡ false
goes_on [] n within free on = elim on [
  | inl h ↦ absurd (omega (arith, within, h.0))
  | inr h ↦ absurd (omega (arith, h.0))
]
goes_on (b ∷ bs) zero within free on = elim on [
  | inl h ↦ absurd (omega (arith, h.0))
  | inr h ↦ ap (λ cs. ends_here (bare cs)) (plain_code b bs (apart b h.1.1)) ∙ at_dark b (content_codes bs) h.1.0 ∙ h.1.1
]
goes_on (b ∷ bs) (suc n) within free on = elim (cases_Bool (is_white b)) [
  | inl white ↦ skip_byte b bs false white (goes_on bs n (omega (arith, within)) (λ k lt. free (suc k) (omega (arith, lt))) (after_white b bs n white on))
  | inr dark ↦
      let inner = (is_other b (free 0 (omega arith))).ending in
      ap (λ cs. ends_here (bare cs)) (plain_code b bs (apart b inner)) ∙ at_dark b (content_codes bs) dark ∙ inner
]

-- white space before something else on its line
white_one : (b : ℕ) (bs : List ℕ) → is_white b ≡ true → ends_here (bare (content_codes bs)) ≡ false → IsText (b ∷ bs) 1
white_one b bs white on = record {
  within = omega arith;
  text = λ k lt. here k (omega (arith, lt));
  plain = λ k lt. no_return k (omega (arith, lt));
}
  where
    here : (k : ℕ) → k ≡ 0 → is_text_at (drop k (content_codes (b ∷ bs))) ≡ true
    here k e =
        ap (λ n. is_text_at (drop n (content_codes (b ∷ bs)))) e
        ∙ ap is_text_at (plain_code b bs (white_apart b white)) ∙ cond-true (is_white b) _ _ white ∙ ap not (skip b (content_codes bs) false white on)

    no_return : (k : ℕ) → k ≡ 0 → get_or (b ∷ bs) k 0 ≡ 13 → ⊥
    no_return k e return = white_apart b white (ap (λ n. get_or (b ∷ bs) n 0) (sym e) ∙ return)

-- bytes at which nothing starts are text
pub free_text : (bytes : List ℕ) (n : ℕ) → n ≤ length bytes → AreFree bytes n → (0 < n → GoesOn bytes n) → IsText bytes n
free_text bytes zero within free on = no_text bytes
free_text [] (suc n) within free on = absurd (omega (arith, within))
free_text (b ∷ bs) (suc n) within free on =
    let rest : IsText bs n = free_text bs n (omega (arith, within)) (λ k lt. free (suc k) (omega (arith, lt))) (λ some. later b bs n some (on (omega arith))) in
    elim (cases_Bool (is_white b)) [
      | inl white ↦
          more_text (b ∷ bs) 1 n (suc n) (omega arith)
          (white_one b bs white (goes_on bs n (omega (arith, within)) (λ k lt. free (suc k) (omega (arith, lt))) (after_white b bs n white (on (omega arith)))))
          rest
      | inr dark ↦ more_text (b ∷ bs) 1 n (suc n) (omega arith) (byte_text b bs dark (free 0 (omega arith))) rest
    ]

-- ---- where text ends

pub started_dark : (b : ℕ) → starts b ≡ true → is_white b ≡ false
started_dark b special = elim (cases_Bool (is_white b)) [
  | inl white ↦ absurd (false≢true (sym (white_starts_not b white) ∙ special))
  | inr dark ↦ dark
]

eol_starts : (b : ℕ) → is_eol b ≡ true → starts b ≡ true
eol_starts b eol = or_right (is_special b) (is_eol b) eol

-- white space up to a line ending or to the end
ends_white : (bytes : List ℕ) (n : ℕ) → n ≤ length bytes → ((k : ℕ) → k < n → is_white (get_or bytes k 0) ≡ true)
    → (n < length bytes → is_eol (get_or bytes n 0) ≡ true) → ends_here (bare (content_codes bytes)) ≡ true
ends_white [] n within white ending = refl
ends_white (b ∷ bs) zero within white ending =
    let eol = ending (omega arith) in
    elim (cases_Bool (eqb b 13)) [
      | inl h ↦
          ap (λ x. ends_here (bare (content_codes (x ∷ bs)))) (eqb-true b 13 h)
          ∙ at_return (λ cs. ends_here (bare cs)) true bs (λ cs. refl) (λ cs. refl)
      | inr h ↦
          ap (λ cs. ends_here (bare cs)) (cond-false (eqb b 13) _ _ h) ∙ at_dark b (content_codes bs) (started_dark b (eol_starts b eol)) ∙ eol
    ]
ends_white (b ∷ bs) (suc n) within white ending =
    skip_byte b bs true (white 0 (omega arith)) (ends_white bs n (omega (arith, within)) (λ k lt. white (suc k) (omega (arith, lt)))
    (λ lt. ending (omega (arith, lt))))

-- text ends at a byte at which something starts
pub start_stops : (bytes : List ℕ) (at : ℕ) → at < length bytes → starts (get_or bytes at 0) ≡ true → is_text_at (content_codes (drop at bytes)) ≡ false
start_stops bytes at lt special =
    ap (λ s. is_text_at (content_codes s)) (drop_more bytes at 0 lt) ∙ special_stop (get_or bytes at 0) (drop (at + 1) bytes)
    (started_dark (get_or bytes at 0) special) special

-- text ends before white space at the end of its line
pub white_stops : (bytes : List ℕ) (at end : ℕ) → at < length bytes → at ≤ end → end ≤ length bytes
    → ((k : ℕ) → at ≤ k → k < end → is_white (get_or bytes k 0) ≡ true)
    → (end < length bytes → is_eol (get_or bytes end 0) ≡ true) → is_text_at (content_codes (drop at bytes)) ≡ false
white_stops bytes at end lt le within white ending = elim (cases_lt at end) [
  | inl some ↦
      let b = get_or bytes at 0 in
      let bs = drop (at + 1) bytes in
      let here = drop_more bytes at 0 lt in
      let first : is_white b ≡ true = white at (omega arith) some in
      let same = plain_code b bs (white_apart b first) in
      let size = length-drop at bytes in
      let there = λ (k : ℕ). get_or-drop at bytes k 0 in
      let place : at + (end - at) ≡ end = omega arith in
      let ends : ends_here (bare (content_codes (drop at bytes))) ≡ true =
      ends_white (drop at bytes) (end - at) (omega (arith, size))
      (λ k inside. ap is_white (there k) ∙ white (at + k) (omega arith) (omega (arith, inside)))
      (λ more. ap is_eol (there (end - at) ∙ ap (λ j. get_or bytes j 0) place) ∙ ending (omega (arith, more, size))) in
      ap (λ s. is_text_at (content_codes s)) here
      ∙ ap is_text_at same ∙ cond-true (is_white b) _ _ first
      ∙ ap not (ap (λ cs. ends_here (bare cs)) (sym same) ∙ ap (λ s. ends_here (bare (content_codes s))) (sym here) ∙ ends)
  | inr none ↦
      let e : at ≡ end = omega arith in
      start_stops bytes at lt (eol_starts (get_or bytes at 0) (ap (λ j. is_eol (get_or bytes j 0)) e ∙ ending (omega (arith, e, lt))))
]

-- the byte at which text ends is ASCII
pub stop_ascii : (b : ℕ) → Fits w8 b → (is_white b || starts b) ≡ true → b < 128
stop_ascii b fits stop =
    leb-false 128 b (ap (λ s. s && leb 128 b) (sym stop) ∙ agree_below_at (λ x. (is_white x || starts x) && leb 128 x) (λ _. false) 256 b refl fits.fits)

-- an ASCII byte after the space is no white space and no line ending
pub dark_byte : (b : ℕ) → 32 < b → b < 128 → (is_white b ≡ false) × (is_eol b ≡ false)
dark_byte b low high = (
  or_from (eqb b 32 || eqb b 9) (eqb b 256) (or_from (eqb b 32) (eqb b 9) (ne_eqb b 32 (λ e. omega (arith, e, low))) (ne_eqb b 9 (λ e. omega (arith, e, low))))
      (ne_eqb b 256 (λ e. omega (arith, e, high))),
  or_from (eqb b 10 || eqb b 13) (eqb b 257) (or_from (eqb b 10) (eqb b 13) (ne_eqb b 10 (λ e. omega (arith, e, low)))
      (ne_eqb b 13 (λ e. omega (arith, e, low))))
      (ne_eqb b 257 (λ e. omega (arith, e, high))),
)

-- the first place at which something starts
module _ (literals m : Bool) (bytes : List ℕ) (stop : ℕ) (first : IsStart literals m bytes stop) where
  here : get_or (drop stop bytes) 0 0 ≡ get_or bytes stop 0
  here = get_or-drop stop bytes 0 0 ∙ ap (λ k. get_or bytes k 0) (omega arith)

  pub start_cases : stop < length bytes → (starts (get_or bytes stop 0) ≡ true) ⊎ (begins_more literals m (drop stop bytes) ≡ true)
  start_cases lt = elim (or_cases (starts (get_or (drop stop bytes) 0 0)) (begins_more literals m (drop stop bytes)) (first.stops lt)) [
    | inl h ↦ inl (ap starts (sym here) ∙ h)
    | inr h ↦ inr h
  ]

  more_here : begins_more literals m (drop stop bytes) ≡ true → (32 < get_or bytes stop 0) × (get_or bytes stop 0 < 128)
  more_here more = subst (λ b. (32 < b) × (b < 128)) here (more_byte literals m (drop stop bytes) more)

  stop_dark : stop < length bytes → is_white (get_or bytes stop 0) ≡ false
  stop_dark lt = elim (start_cases lt) [
    | inl h ↦ started_dark (get_or bytes stop 0) h
    | inr more ↦ let byte = more_here more in (dark_byte (get_or bytes stop 0) byte.0 byte.1).0
  ]

  pub first_ascii : Fits w8 (get_or bytes stop 0) → stop < length bytes → get_or bytes stop 0 < 128
  first_ascii fits lt = elim (start_cases lt) [
    | inl h ↦ stop_ascii (get_or bytes stop 0) fits (or_right (is_white (get_or bytes stop 0)) _ h)
    | inr more ↦ (more_here more).1
  ]

  -- text ends there
  pub first_stops : stop < length bytes → (is_text_at (content_codes (drop stop bytes)) ≡ false) ⊎ (begins_more literals m (drop stop bytes) ≡ true)
  first_stops lt = elim (start_cases lt) [
    | inl h ↦ inl (start_stops bytes stop lt h)
    | inr more ↦ inr more
  ]

  -- it is no line ending
  pub stop_text : stop < length bytes → is_eol (get_or bytes stop 0) ≡ false → IsText bytes stop
  stop_text lt inner = free_text bytes stop first.within first.free (λ some. inr (lt, (stop_dark lt, inner)))

  -- white space before it is left out
  pub dark_text : (size : ℕ) → size ≤ stop → (0 < size → is_white (get_or bytes (size - 1) 0) ≡ false) → IsText bytes size
  dark_text size le dark =
      free_text bytes size (omega (arith, le, first.within)) (λ k lt. first.free k (omega (arith, lt, le)))
      (λ some. inl (some, λ k e. let place : size - 1 ≡ k = omega (arith, e) in ap (λ j. is_white (get_or bytes j 0)) (sym place) ∙ dark some))
