-- What is closed, with another ending in place of each LF.
use Rattle.std.proofs.Common.{◌≡◌, List, [], ◌∷◌, false, cond, ◌&&◌, refl, ap, ◌∙◌}
use Rattle.laws_endings.proofs.Prelude.{At, Blank, Block, block_and_ending, block_with, Blocks, blocks_with, close, Constructs, Container, definition_cut}
use Rattle.laws_endings.proofs.Prelude.{DefinitionCut, Ending, Fenced, FencedCode, Footnote, Holds, if_ending_with, Indented, Inside, is_ending, Item, join}
use Rattle.laws_endings.proofs.Prelude.{leaf_block_with, LeafBlock, LineEnding, lines_with, one, OpenHtml, Opening, OpenLeaf, OpenTable, paragraph_of, Quote}
use Rattle.laws_endings.proofs.Prelude.{Text}
use Rattle.definition_block.specs.Tree.{BlockLine, last_ending, own_lines, Paragraph, IndentedCode, Html, Table}
use Rattle.definition_block.specs.Tree.{Leaf, Nil, Cons}
use Rattle.definition_block.specs.Tree.{blanks, with_paragraph}
use Rattle.definition_block.specs.Tree.{close_leaf, all_endings, front, trailing, without_last, last_of, container_block}
use Rattle.laws_endings.proofs.Codes.{cond-under}
use Rattle.laws_endings.proofs.Cuts.{last_ending_or-with, last_ending-with, own_lines-with, cut_with, join-with, cut-with}
use Rattle.laws_endings.proofs.Openings.{leaf_with, opening_with}

module _ (e : LineEnding) where
  -- a leaf made of lines, and the ending of its last one
  ended-with : (make : List BlockLine → LeafBlock) → ((ls : List BlockLine) → make (lines_with e ls) ≡ leaf_block_with e (make ls)) → (ls : List BlockLine)
      → block_and_ending (Leaf (make (own_lines (lines_with e ls)))) (last_ending (lines_with e ls))
      ≡ blocks_with e (block_and_ending (Leaf (make (own_lines ls))) (last_ending ls))
  ended-with make same ls =
      ap (λ own. block_and_ending (Leaf (make own)) (last_ending (lines_with e ls))) (own_lines-with e ls)
      ∙ ap (λ leaf. block_and_ending (Leaf leaf) (last_ending (lines_with e ls))) (same (own_lines ls))
      ∙ ap (block_and_ending (block_with e (Leaf (make (own_lines ls))))) (last_ending-with e ls)

  blanks-with : (ls : List BlockLine) → blanks (lines_with e ls) ≡ blocks_with e (blanks ls)
  blanks-with [] = refl
  blanks-with (line ∷ ls) = ap (Cons (Blank (if_ending_with e line.ending))) (blanks-with ls)

  pub paragraph_of-with : (ls : List BlockLine) → paragraph_of (lines_with e ls) ≡ blocks_with e (paragraph_of ls)
  paragraph_of-with [] = refl
  paragraph_of-with (line ∷ ls) = ended-with Paragraph (λ _. refl) (line ∷ ls)

  with_paragraph-with : (parts : DefinitionCut) → with_paragraph (cut_with e parts) ≡ blocks_with e (with_paragraph parts)
  with_paragraph-with parts =
      ap (join (blocks_with e parts.definitions)) (paragraph_of-with parts.left) ∙ join-with e parts.definitions (paragraph_of parts.left)

  close_leaf-with : (on : Constructs) (leaf : OpenLeaf) → close_leaf on (leaf_with e leaf) ≡ blocks_with e (close_leaf on leaf)
  close_leaf-with on (Text ls) = ap with_paragraph (cut-with e on ls) ∙ with_paragraph-with (definition_cut on ls)
  close_leaf-with on (Indented ls pending) =
      let code = block_and_ending (Leaf (IndentedCode (own_lines ls))) (last_ending ls) in
      ap (λ bs. join bs (blanks (lines_with e pending))) (ended-with IndentedCode (λ _. refl) ls)
      ∙ ap (join (blocks_with e code)) (blanks-with pending)
      ∙ join-with e code (blanks pending)
  close_leaf-with on (Fenced fence ending ls) = ap (block_and_ending (Leaf (FencedCode fence.info false (lines_with e ls)))) (last_ending_or-with e ending ls)
  close_leaf-with on (OpenHtml kind ls) = ended-with Html (λ _. refl) ls
  close_leaf-with on (OpenTable ls) = ended-with Table (λ _. refl) ls

  -- ---- endings at the end of a container

  pub is_ending-with : (b : Block) → is_ending (block_with e b) ≡ is_ending b
  is_ending-with (Ending ending) = refl
  is_ending-with b = refl

  all_endings-with : (bs : Blocks) → all_endings (blocks_with e bs) ≡ all_endings bs
  all_endings-with Nil = refl
  all_endings-with (Cons b bs) =
      ap (λ is. is && all_endings (blocks_with e bs)) (is_ending-with b) ∙ ap (λ all. is_ending b && all) (all_endings-with bs)

  front-with : (bs : Blocks) → front (blocks_with e bs) ≡ blocks_with e (front bs)
  front-with Nil = refl
  front-with (Cons b bs) =
      ap (λ all. cond all Nil (Cons (block_with e b) (front (blocks_with e bs)))) (all_endings-with (Cons b bs))
      ∙ cond-under (blocks_with e) (all_endings (Cons b bs)) refl (ap (Cons (block_with e b)) (front-with bs))

  trailing-with : (bs : Blocks) → trailing (blocks_with e bs) ≡ blocks_with e (trailing bs)
  trailing-with Nil = refl
  trailing-with (Cons b bs) =
      ap (λ all. cond all (blocks_with e (Cons b bs)) (trailing (blocks_with e bs))) (all_endings-with (Cons b bs))
      ∙ cond-under (blocks_with e) (all_endings (Cons b bs)) refl (trailing-with bs)

  without_last-with : (bs : Blocks) → without_last (blocks_with e bs) ≡ blocks_with e (without_last bs)
  without_last-with Nil = refl
  without_last-with (Cons b Nil) =
      ap (λ is. cond is Nil (one (block_with e b))) (is_ending-with b) ∙ cond-under (blocks_with e) (is_ending b) refl refl
  without_last-with (Cons b (Cons c bs)) = ap (Cons (block_with e b)) (without_last-with (Cons c bs))

  last_of-with : (bs : Blocks) → last_of (blocks_with e bs) ≡ blocks_with e (last_of bs)
  last_of-with Nil = refl
  last_of-with (Cons b Nil) =
      ap (λ is. cond is (one (block_with e b)) Nil) (is_ending-with b) ∙ cond-under (blocks_with e) (is_ending b) refl refl
  last_of-with (Cons b (Cons c bs)) = last_of-with (Cons c bs)

  holds-with : (c : Container) (kids : Blocks) → container_block c (blocks_with e kids) ≡ blocks_with e (container_block c kids)
  holds-with Quote kids =
      ap (λ bs. Cons (Holds Quote bs) (last_of (blocks_with e kids))) (without_last-with kids)
      ∙ ap (Cons (Holds Quote (blocks_with e (without_last kids)))) (last_of-with kids)
  holds-with (Item item) kids =
      ap (λ bs. Cons (Holds (Item item) bs) (trailing (blocks_with e kids))) (front-with kids)
      ∙ ap (Cons (Holds (Item item) (blocks_with e (front kids)))) (trailing-with kids)
  holds-with (Footnote label) kids =
      ap (λ bs. Cons (Holds (Footnote label) bs) (trailing (blocks_with e kids))) (front-with kids)
      ∙ ap (Cons (Holds (Footnote label) (blocks_with e (front kids)))) (trailing-with kids)

  pub close-with : (on : Constructs) (now : Opening) → close on (opening_with e now) ≡ blocks_with e (close on now)
  close-with on (At leaf) = close_leaf-with on leaf
  close-with on (Inside c kids inner) =
      ap (λ bs. container_block c (join (blocks_with e kids) bs)) (close-with on inner)
      ∙ ap (container_block c) (join-with e kids (close on inner))
      ∙ holds-with c (join kids (close on inner))
