-- Columns of a line are codes, and what is known of them without some white space at the front.
use Rattle.std.proofs.Common.{◌≡◌, ◌∙◌, ℕ, zero, suc, ◌<◌, ◌≤◌, true, ◌==◌, List, [], ◌∷◌, drop, inl, inr, refl, sym, ap, subst, arith, Some}
use Rattle.state_verdicts.proofs.BlockPrelude.{after_line, as_byte, byte, cases_Bool, eqb-true, indent, is_white, nothing, Point, Sees}
use Rattle.state_verdicts.proofs.BlockPrelude.{SkipsOnce, tab, Text, text_byte}
use Rattle.state_verdicts.specs.Codes.{full}
use Rattle.state_verdicts.specs.Columns.{SeesColumns, along, ended}
use Rattle.state_verdicts.proofs.LineCodes.{after_more, prefix_more, prefix_none}
use Rattle.state_verdicts.proofs.Seen.{white_inner}

-- columns are seen as codes: of a tab the first column is the tab
pub columns_sees : {text : Text} {p : Point} {codes : List ℕ} → SeesColumns text p codes → Sees text p codes
columns_sees (ended e) = nothing e
columns_sees {text = text} {p = p} (along {q = q} {c = c} {cs = cs} e s) = elim (cases_Bool (c == 9)) [
  | inl is ↦
      let code_is = eqb-true c 9 is in
      subst (λ (i : ℕ). Sees text p (i ∷ cs)) (sym code_is)
      (tab (omega arith) (e ∙ ap (λ (i : ℕ). Some (as_byte (text_byte i) q)) code_is) full (columns_sees s))
  | inr other ↦ byte other e (columns_sees s)
]

-- from where reading goes on the same is seen
pub columns_start : {text : Text} {p : Point} {codes : List ℕ} → SkipsOnce text → SeesColumns text p codes → SeesColumns text (text.start p) codes
columns_start {text = text} {p = p} once (ended e) = ended (ap text.byte (once p) ∙ e)
columns_start {text = text} {p = p} once (along e s) = along (ap text.byte (once p) ∙ e) s

-- without some white space the line ends where it did
pub after_drop : (n : ℕ) (codes : List ℕ) → n ≤ indent codes → after_line (drop n codes) ≡ after_line codes
after_drop zero codes h = refl
after_drop (suc n) [] h = absurd (omega (arith, h))
after_drop (suc n) (c ∷ cs) h = elim (cases_Bool (is_white c)) [
  | inl is ↦ let size = prefix_more is_white c cs is in after_drop n cs (omega (arith, h, size)) ∙ sym (after_more c cs (white_inner c is))
  | inr is ↦ let size = prefix_none is_white c cs is in absurd (omega (arith, h, size))
]

-- more white space is left
pub record WhiteLeft (codes : List ℕ) : Type 0 where
  pub code : ℕ
  pub rest : List ℕ
  pub is : codes ≡ code ∷ rest
  pub white : is_white code ≡ true

pub white_left : (n : ℕ) (codes : List ℕ) → n < indent codes → WhiteLeft (drop n codes)
white_left n [] h = absurd (omega (arith, h))
white_left zero (c ∷ cs) h = elim (cases_Bool (is_white c)) [
  | inl is ↦ record { code = c; rest = cs; is = refl; white = is }
  | inr is ↦ let size = prefix_none is_white c cs is in absurd (omega (arith, h, size))
]
white_left (suc n) (c ∷ cs) h = elim (cases_Bool (is_white c)) [
  | inl is ↦ let size = prefix_more is_white c cs is in white_left n cs (omega (arith, h, size))
  | inr is ↦ let size = prefix_none is_white c cs is in absurd (omega (arith, h, size))
]
