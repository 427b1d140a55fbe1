-- Bytes of which constructs have runs.
use Rattle.std.proofs.Common.{◌≡◌, ◌∙◌, ℕ, Bool, true, false, not, ◌==◌, inl, inr, refl, sym, ap}
use Rattle.state_verdicts.proofs.BlockPrelude.{cases_Bool, eq-eqb, eqb-true, is_eol, is_space_or_tab, is_white, or_cases, text_byte}
use Rattle.std.proofs.lemmas.Bool.{ne_eqb}
use Rattle.state_verdicts.proofs.Seen.{seen_eol, seen_sort, seen_white}

-- what isn't false is true, and the other way round
pub flip : (b : Bool) → not b ≡ false → b ≡ true
flip true h = refl
flip false h = absurd (let f : true ≡ false = h in cc)

pub flop : (b : Bool) → not b ≡ true → b ≡ false
flop true h = absurd (let f : false ≡ true = h in cc)
flop false h = refl

-- a byte is another exactly if that is it
pub swap : (a b : ℕ) → (a == b) ≡ (b == a)
swap a b = elim (cases_Bool (b == a)) [
  | inl h ↦ ap (λ (i : ℕ). a == i) (eqb-true b a h) ∙ sym (ap (λ (i : ℕ). i == a) (eqb-true b a h))
  | inr h ↦ ne_eqb a b (λ e. let f : true ≡ false = sym (eq-eqb b a (sym e)) ∙ h in absurd (cc)) ∙ sym h
]

-- what is known of such a byte: it is seen of no other code, and is neither white space nor a line ending
pub record Marker (m : ℕ) : Type 0 where
  pub itself : (c : ℕ) → (text_byte c == m) ≡ (c == m)
  pub no_white : (b : ℕ) → is_space_or_tab b ≡ true → (b == m) ≡ false
  pub no_feed : (10 == m) ≡ false

white_is : (b : ℕ) → is_space_or_tab b ≡ true → (is : ℕ → Bool) → is 9 ≡ false → is 32 ≡ false → is b ≡ false
white_is b h is k l = elim (or_cases (b == 9) (b == 32) h) [ inl e ↦ ap is (eqb-true b 9 e) ∙ k | inr e ↦ ap is (eqb-true b 32 e) ∙ l ]

-- each byte of ASCII but a control and a space is one
pub marker_of : (m : ℕ) → (10 == m) ≡ false → (13 == m) ≡ false → (257 == m) ≡ false → (32 == m) ≡ false → (256 == m) ≡ false → (9 == m) ≡ false → Marker m
marker_of m feed back both space column tab = record {
  itself = seen_sort (λ b. b == m) feed back both (space ∙ sym column);
  no_white = λ b h. white_is b h (λ c. c == m) tab space;
  no_feed = feed;
}

module _ (m : ℕ) (marker : Marker m) where
  pub white_apart : (c : ℕ) → is_white c ≡ true → (c == m) ≡ false
  white_apart c h = sym (marker.itself c) ∙ marker.no_white (text_byte c) (seen_white c ∙ h)

  pub eol_apart : (c : ℕ) → is_eol c ≡ true → (c == m) ≡ false
  eol_apart c h = sym (marker.itself c) ∙ (ap (λ (b : ℕ). b == m) (seen_eol c h) ∙ marker.no_feed)

  pub marker_inner : (c : ℕ) → (c == m) ≡ true → is_eol c ≡ false
  marker_inner c h = no_by (is_eol c) refl
    where
      no_by : (is : Bool) → is_eol c ≡ is → is ≡ false
      no_by true k = absurd (let f : true ≡ false = sym h ∙ eol_apart c k in cc)
      no_by false k = refl

  pub no_feed_at : (b : ℕ) → (b == m) ≡ true → (b == 10) ≡ false
  no_feed_at b h = no_by (b == 10) refl
    where
      no_by : (is : Bool) → (b == 10) ≡ is → is ≡ false
      no_by true k = absurd (let f : true ≡ false = sym h ∙ (ap (λ (i : ℕ). i == m) (eqb-true b 10 k) ∙ marker.no_feed) in cc)
      no_by false k = refl
