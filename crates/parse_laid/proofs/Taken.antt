-- Lines of a leaf, one after another.
use Rattle.std.proofs.Common.{◌≡◌, ℕ, suc, zero, ◌<◌, List, [], ◌∷◌, ◌++◌, length, take, drop, refl, sym, subst, arith}
use Rattle.parse_laid.proofs.Prelude.{AreTaken, Between, BlockLine, Constructs, Container, IsOn, LineRest, Place, Prefixed}

module _ (on : Constructs) (around : List Container) (IsLine : Prefixed → BlockLine → Type 0) where
  -- one more line
  pub more_taken : (ls : List BlockLine) (line : BlockLine) (from to : Place) (here : Prefixed) (left : List LineRest)
      → AreTaken on around IsLine ls from to → IsOn on around to here left → IsLine here line
      → AreTaken on around IsLine (ls ++ line ∷ []) from (Between left)
  more_taken [] line from to here left p is fits = (here, left, subst (λ x. IsOn on around x here left) (sym p) is, fits, refl)
  more_taken (l ∷ ls) line from to here left p is fits =
      (p.0, p.1, p.2, p.3, more_taken ls line (Between p.1) to here left p.4 is fits)

  -- more lines
  pub join_taken : (ls others : List BlockLine) (from under to : Place) → AreTaken on around IsLine ls from under
      → AreTaken on around IsLine others under to → AreTaken on around IsLine (ls ++ others) from to
  join_taken [] others from under to p q = subst (λ x. AreTaken on around IsLine others x to) (sym p) q
  join_taken (l ∷ ls) others from under to p q = (p.0, p.1, p.2, p.3, join_taken ls others (Between p.1) under to p.4 q)

  -- the first lines, so many, and the others
  pub split_taken : (n : ℕ) (ls : List BlockLine) (from to : Place) → AreTaken on around IsLine ls from to
      → (under : Place) × AreTaken on around IsLine (take n ls) from under × AreTaken on around IsLine (drop n ls) under to
  split_taken zero ls from to p = (from, refl, p)
  split_taken (suc n) [] from to p = (from, refl, p)
  split_taken (suc n) (l ∷ ls) from to p =
      let r = split_taken n ls (Between p.1) to p.4 in (r.0, (p.0, p.1, p.2, p.3, r.1), r.2)

  -- after a line comes the next
  pub after_taken : (ls : List BlockLine) (before : List LineRest) (to : Place) → AreTaken on around IsLine ls (Between before) to
      → (left : List LineRest) × (to ≡ Between left)
  after_taken [] before to p = (before, sym p)
  after_taken (l ∷ ls) before to p = after_taken ls p.1 to p.4

  pub after_some : (ls : List BlockLine) (from to : Place) → 0 < length ls → AreTaken on around IsLine ls from to
      → (left : List LineRest) × (to ≡ Between left)
  after_some [] from to some p = absurd (omega (arith, some))
  after_some (l ∷ ls) from to some p = after_taken ls p.1 to p.4

-- lines that are read in another way, too
pub each_taken : (on : Constructs) (around : List Container) (P Q : Prefixed → BlockLine → Type 0) (ls : List BlockLine) (from to : Place)
    → ((here : Prefixed) (line : BlockLine) → P here line → Q here line) → AreTaken on around P ls from to → AreTaken on around Q ls from to
each_taken on around P Q [] from to f p = p
each_taken on around P Q (l ∷ ls) from to f p = (p.0, p.1, p.2, f p.0 l p.3, each_taken on around P Q ls (Between p.1) to f p.4)
