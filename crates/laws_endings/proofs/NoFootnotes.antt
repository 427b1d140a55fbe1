-- Where footnotes can't be defined, a text defines none.
use Rattle.std.proofs.Common.{◌≡◌, ℕ, false, List, [], ◌++◌, refl, ap, ◌∙◌, true≢false}
use Rattle.laws_endings.proofs.Prelude.{Block, block_footnotes, blocks, Blocks, Constructs, Footnote, footnotes, Holds, Items, Kind, or_parts}
use Rattle.definition_block.specs.Tree.{Nil, Cons}
use Rattle.laws_block.specs.Occurs.{block_has, has, is_footnote_definition}
use Rattle.laws_block.proofs.Occurs.{no_footnote_definitions}

mutual
  block_none : (b : Block) → block_has is_footnote_definition b ≡ false → block_footnotes b ≡ []
  block_none (Holds (Footnote label) kids) h = absurd (true≢false h)
  block_none (Holds c kids) h = ap (λ labels. labels ++ []) (none kids h)
  block_none (Items items) h = none items h
  block_none b h = refl

  none : (bs : Blocks) → has is_footnote_definition bs ≡ false → footnotes bs ≡ []
  none Nil h = refl
  none (Cons b bs) h =
      let parts = or_parts (block_has is_footnote_definition b) (has is_footnote_definition bs) h in
      ap (λ labels. labels ++ footnotes bs) (block_none b parts.0) ∙ none bs parts.1

pub no_footnotes : (on : Constructs) (kind : Kind) (text : List ℕ) → on.gfm_footnote_definition ≡ false → footnotes (blocks on kind text) ≡ []
no_footnotes on kind text off = none (blocks on kind text) (no_footnote_definitions on kind text off)
