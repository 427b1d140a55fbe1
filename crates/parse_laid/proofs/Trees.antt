-- The blocks of a tree are laid in lines, before they are rows.
use Rattle.std.proofs.Common.{◌≡◌, Bool, true, false, List, [], ◌∷◌, Option, refl, sym, ap, subst, inl, inr}
use Rattle.parse_laid.proofs.Prelude.{AtEnding, Between, Blank, Block, block_and_ending, Blocks, Break, Cons, Constructs, Container, Definition, Ending}
use Rattle.parse_laid.proofs.Prelude.{false≢true, FencedCode, Heading, Holds, Html, IndentedCode, is_ending, IsLeafLaid, Items, join, Leaf, LeafBlock}
use Rattle.parse_laid.proofs.Prelude.{LineEnding, LineRest, Nil, Paragraph, Place, Starts, Stops, Table, Within}
use Rattle.parse_laid.specs.Laid.{IsEndingLaid, IsBlankLaid}

-- a block in these containers, from a place to another, and children one after another
abbrev mutual
  pub IsBlockLaid : Constructs → List Container → Block → Place → Place → Type 0
  IsBlockLaid on around (Leaf leaf) from to = IsLeafLaid on around leaf from to
  IsBlockLaid on around (Holds c kids) from to =
      (first last : Place) × Starts on around c from first × AreBlocksLaid on (c ∷ around) kids first last × Stops on (c ∷ around) last to
  IsBlockLaid on around (Items items) from to = ⊥
  IsBlockLaid on around (Ending ending) from to = IsEndingLaid ending from to
  IsBlockLaid on around (Blank ending) from to = IsBlankLaid on around ending from to

  pub AreBlocksLaid : Constructs → List Container → Blocks → Place → Place → Type 0
  AreBlocksLaid on around Nil from to = from ≡ to
  AreBlocksLaid on around (Cons b bs) from to = (under : Place) × IsBlockLaid on around b from under × AreBlocksLaid on around bs under to

-- whether a place is between lines
abbrev pub is_between : Place → Bool
is_between (Between left) = true
is_between (Within here left) = false
is_between (AtEnding ending left) = false

module _ (on : Constructs) (around : List Container) where
  pub join_laid : (bs cs : Blocks) (from under to : Place) → AreBlocksLaid on around bs from under → AreBlocksLaid on around cs under to
      → AreBlocksLaid on around (join bs cs) from to
  join_laid Nil cs from under to p q = subst (λ x. AreBlocksLaid on around cs x to) (sym p) q
  join_laid (Cons b bs) cs from under to p q = (p.0, p.1, join_laid bs cs p.0 under to p.2 q)

  pub split_laid : (bs cs : Blocks) (from to : Place) → AreBlocksLaid on around (join bs cs) from to
      → (under : Place) × AreBlocksLaid on around bs from under × AreBlocksLaid on around cs under to
  split_laid Nil cs from to p = (from, refl, p)
  split_laid (Cons b bs) cs from to p = let r = split_laid bs cs p.0 to p.2 in (r.0, (p.0, p.1, r.1), r.2)

  -- a block and the ending after it
  pub ended_laid : (b : Block) (ending : Option LineEnding) (from : Place) (left : List LineRest) → IsBlockLaid on around b from (AtEnding ending left)
      → AreBlocksLaid on around (block_and_ending b ending) from (Between left)
  ended_laid b ending from left p = (AtEnding ending left, p, (Between left, (left, refl, refl), refl))

  -- a leaf leads to an ending
  in_line : (to : Place) (ending : Option LineEnding) (left : List LineRest) → to ≡ AtEnding ending left → is_between to ≡ false
  in_line to ending left e = ap is_between e

  leaf_in_line : (leaf : LeafBlock) (from to : Place) → IsLeafLaid on around leaf from to → is_between to ≡ false
  leaf_in_line (Paragraph ls) from to p = ap is_between p.4.2
  leaf_in_line (Heading rank ls) from to p = elim p [ inl h ↦ ap is_between h.7 | inr h ↦ ap is_between h.8 ]
  leaf_in_line Break from to p = ap is_between p.4
  leaf_in_line (IndentedCode ls) from to p = ap is_between p.4.2
  leaf_in_line (FencedCode info false ls) from to p = ap is_between p.5
  leaf_in_line (FencedCode info true ls) from to p = ap is_between p.9
  leaf_in_line (Html ls) from to p = ap is_between p.5.2
  leaf_in_line (Table ls) from to p = ap is_between p.4.2
  leaf_in_line (Definition ls label destination title) from to p = ap is_between p.5.2

-- so does the end of a container
pub stops_in_line : (on : Constructs) (around : List Container) (from to : Place) → Stops on around from to → is_between to ≡ false
stops_in_line on around (Between []) to p = absurd p
stops_in_line on around (Between (next ∷ left)) to p = ap is_between p.2
stops_in_line on around (Within here left) to p = ap is_between p
stops_in_line on around (AtEnding ending left) to p = ap is_between p

pub block_in_line : (on : Constructs) (around : List Container) (b : Block) (from to : Place) → is_ending b ≡ false → IsBlockLaid on around b from to
    → is_between to ≡ false
block_in_line on around (Leaf leaf) from to off p = leaf_in_line on around leaf from to p
block_in_line on around (Holds c kids) from to off p = stops_in_line on (c ∷ around) p.1 to p.4
block_in_line on around (Items items) from to off p = absurd p
block_in_line on around (Ending ending) from to off p = absurd (false≢true (sym off))
block_in_line on around (Blank ending) from to off p = absurd (false≢true (sym off))
