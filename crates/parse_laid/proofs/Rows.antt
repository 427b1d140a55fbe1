-- Blocks that are laid in lines have rows that are.
use Rattle.std.proofs.Common.{List, [], ◌∷◌, ◌++◌, refl, sym, subst, append_assoc}
use Rattle.parse_laid.proofs.Prelude.{append-nil, AreLaid, Between, Blank, Block, BlockRow, Blocks, Cons, Constructs, Container, Definition, Ending, Exit}
use Rattle.parse_laid.proofs.Prelude.{Footnote, Holds, IsLeafLaid, IsRowLaid, IsWrittenLaid, Item, Items, Leaf, LeafBlock, Nil, Place, Quote, rows_of}
use Rattle.parse_laid.proofs.Prelude.{start_row, Starts}
use Rattle.block_rows.specs.Rows.{spaced_leaf, block_rows}
use Rattle.parse_laid.proofs.Trees.{IsBlockLaid, AreBlocksLaid}

module _ (on : Constructs) where
  entered_laid : (around : List Container) (c : Container) (from to : Place) → Starts on around c from to
      → IsRowLaid on around (start_row c) from (c ∷ around) to
  entered_laid around Quote from to p = (Quote, refl, refl, p)
  entered_laid around (Item item) from to p = (Item item, refl, refl, p)
  entered_laid around (Footnote label) from to p = (Footnote label, refl, refl, p)

  written_laid : (around : List Container) (leaf : LeafBlock) (from to : Place) → IsLeafLaid on around leaf from to
      → IsWrittenLaid on around (spaced_leaf leaf) from to
  written_laid around (Definition ls label destination title) from to p = (label, destination, title, refl, refl, refl, p)
  written_laid around leaf from to p = p

  mutual
    block_rows_laid : (b : Block) (around : List Container) (from to : Place) (others : List BlockRow) → IsBlockLaid on around b from to
        → AreLaid on around to others → AreLaid on around from (block_rows b ++ others)
    block_rows_laid (Leaf leaf) around from to others p q = (around, to, (refl, written_laid around leaf from to p), q)
    block_rows_laid (Holds c kids) around from to others p q =
        let rows = rows_of kids in
        let ended : AreLaid on (c ∷ around) p.1 (Exit ∷ others) = (around, to, (c, refl, p.4), q) in
        let inside = rows_of_laid kids (c ∷ around) p.0 p.1 (Exit ∷ others) p.3 ended in
        (c ∷ around, p.0, entered_laid around c from p.0 p.2, subst (AreLaid on (c ∷ around) p.0) (sym (append_assoc rows (Exit ∷ []) others)) inside)
    block_rows_laid (Items items) around from to others p q = absurd p
    block_rows_laid (Ending ending) around from to others p q = (around, to, (refl, p), q)
    block_rows_laid (Blank ending) around from to others p q = (around, to, (refl, p), q)

    pub rows_of_laid : (bs : Blocks) (around : List Container) (from to : Place) (others : List BlockRow) → AreBlocksLaid on around bs from to
        → AreLaid on around to others → AreLaid on around from (rows_of bs ++ others)
    rows_of_laid Nil around from to others p q = subst (λ x. AreLaid on around x others) (sym p) q
    rows_of_laid (Cons b bs) around from to others p q =
        subst (AreLaid on around from) (sym (append_assoc (block_rows b) (rows_of bs) others))
        (block_rows_laid b around from p.0 (rows_of bs ++ others) p.1 (rows_of_laid bs around p.0 to others p.2 q))

  pub all_laid : (bs : Blocks) (from : Place) → AreBlocksLaid on [] bs from (Between []) → AreLaid on [] from (rows_of bs)
  all_laid bs from p = subst (AreLaid on [] from) (append-nil (rows_of bs)) (rows_of_laid bs [] from (Between []) [] p (refl, refl))
