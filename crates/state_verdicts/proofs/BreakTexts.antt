-- What is a thematic break, code by code.
use Rattle.std.proofs.Common.{◌≡◌, ◌∙◌, ℕ, ◌+◌, min, Bool, true, false, not, ◌==◌, ◌&&◌, ◌||◌, leb, nat_lt, if◌then◌else◌, List, [], ◌∷◌, refl, sym, ap, arith}
use Rattle.std.proofs.Common.{inl, inr}
use Rattle.state_verdicts.proofs.BlockPrelude.{bare, cases_Bool, count_by, eq-eqb, is_white, le-ltb, leb-false, leb-true, line_of, list_all, lt-ltb}
use Rattle.state_verdicts.proofs.BlockPrelude.{no_limit}
use Rattle.std.proofs.lemmas.List.Sums.{sum_by-cons}
use Rattle.definition_block.specs.ThematicBreak.{is_break_by}
use Rattle.state_verdicts.proofs.LineCodes.{line_more, rest_more, rest_none}
use Rattle.state_verdicts.proofs.Seen.{white_inner}

-- so many markers were read, and with those of the line it is a break
abbrev pub breaks : ℕ → ℕ → List ℕ → Bool
breaks m n line = list_all (λ b. (b == m) || is_white b) line && leb 3 (n + count_by (λ b. b == m) line)

module _ (m : ℕ) where
  counted : (c : ℕ) (line : List ℕ) (is : Bool) → (c == m) ≡ is → count_by (λ b. b == m) (c ∷ line) ≡ (if is then 1 else 0) + count_by (λ b. b == m) line
  counted c line is h = sum_by-cons (λ b. if b == m then 1 else 0) c line ∙ ap (λ (b : Bool). (if b then 1 else 0) + count_by (λ b. b == m) line) h

  by_code : (n : ℕ) (c : ℕ) (line : List ℕ) (is white : Bool) → (c == m) ≡ is → is_white c ≡ white
      → breaks m n (c ∷ line) ≡ (((is || white) && list_all (λ b. (b == m) || is_white b) line)
      && leb 3 (n + ((if is then 1 else 0) + count_by (λ b. b == m) line)))
  by_code n c line is white h k =
      ap (λ (b : Bool). ((b || is_white c) && list_all (λ b. (b == m) || is_white b) line) && leb 3 (n + count_by (λ b. b == m) (c ∷ line))) h
      ∙ (ap (λ (b : Bool). ((is || b) && list_all (λ b. (b == m) || is_white b) line) && leb 3 (n + count_by (λ b. b == m) (c ∷ line))) k
      ∙ ap (λ (i : ℕ). ((is || white) && list_all (λ b. (b == m) || is_white b) line) && leb 3 (n + i)) (counted c line is h))

  pub breaks_none : (n : ℕ) → breaks m n [] ≡ leb 3 n
  breaks_none n = ap (λ (i : ℕ). leb 3 i) (let e : n + 0 ≡ n = omega arith in e)

  pub breaks_marker : (n c : ℕ) (line : List ℕ) → (c == m) ≡ true → breaks m n (c ∷ line) ≡ breaks m (n + 1) line
  breaks_marker n c line h = by_code n c line true (is_white c) h refl ∙ ap (λ (i : ℕ). list_all (λ b. (b == m) || is_white b) line && leb 3 i)
      (let e : n + (1 + count_by (λ b. b == m) line) ≡ n + 1 + count_by (λ b. b == m) line = omega arith in e)

  pub breaks_white : (n c : ℕ) (line : List ℕ) → (c == m) ≡ false → is_white c ≡ true → breaks m n (c ∷ line) ≡ breaks m n line
  breaks_white n c line h k = by_code n c line false true h k ∙ ap (λ (i : ℕ). list_all (λ b. (b == m) || is_white b) line && leb 3 i)
      (let e : n + (0 + count_by (λ b. b == m) line) ≡ n + count_by (λ b. b == m) line = omega arith in e)

  pub breaks_other : (n c : ℕ) (line : List ℕ) → (c == m) ≡ false → is_white c ≡ false → breaks m n (c ∷ line) ≡ false
  breaks_other n c line h k = by_code n c line false false h k

  -- the first marker
  pub breaks_first : (line : List ℕ) → is_break_by m (m ∷ line) ≡ breaks m 1 line
  breaks_first line =
      ap (λ (b : Bool). ((b || is_white m) && list_all (λ b. (b == m) || is_white b) line) && leb 3 (count_by (λ b. b == m) (m ∷ line))) (eq-eqb m m refl)
      ∙ ap (λ (i : ℕ). list_all (λ b. (b == m) || is_white b) line && leb 3 i) (counted m line true (eq-eqb m m refl))

  -- after white space it is a break exactly if it is one before it
  pub breaks_bare : ((c : ℕ) → is_white c ≡ true → (c == m) ≡ false) → (n : ℕ) (cs : List ℕ) → breaks m n (line_of (bare cs)) ≡ breaks m n (line_of cs)
  breaks_bare apart n [] = refl
  breaks_bare apart n (c ∷ cs) = elim (cases_Bool (is_white c)) [
    | inl h ↦
        ap (λ (l : List ℕ). breaks m n (line_of l)) (rest_more is_white c cs h)
        ∙ (breaks_bare apart n cs ∙ sym (ap (breaks m n) (line_more c cs (white_inner c h)) ∙ breaks_white n c (line_of cs) (apart c h) h))
    | inr h ↦ ap (λ (l : List ℕ). breaks m n (line_of l)) (rest_none is_white c cs h)
  ]

-- the count that is kept is at least three exactly if the real one is
pub is_few : (n : ℕ) (is : Bool) → leb 3 n ≡ is → nat_lt (min n no_limit) 3 ≡ not is
is_few n true h = let f = leb-true 3 n h in le-ltb (min n no_limit) 3 (omega (arith, f))
is_few n false h = let f = leb-false 3 n h in lt-ltb (min n no_limit) 3 (omega (arith, f))
