-- The blocks of a text with another ending in place of each LF.
use Rattle.std.proofs.Common.{◌≡◌, ℕ, List, [], ◌∷◌, None, Some, Option, cond, ◌&&◌, refl, ap, ◌∙◌, map}
use Rattle.laws_endings.proofs.Prelude.{blocks_with, close, cond_both, Constructs, grow, IfSome, join, Kind, LineEnding, lines, option_map, text_line_with}
use Rattle.laws_endings.proofs.Prelude.{TextLine, Tree, tree, whole}
use Rattle.markdown_options.specs.declared.beside.Kind.TheVariants.{Whitespace}
use Rattle.definition_block.specs.Frontmatter.{is_metadata_fence, after_metadata_fence, after_frontmatter}
use Rattle.definition_block.specs.Tree.{empty_tree, beside_line, step, steps, blocks_at_end, children, children_after}
use Rattle.definition_page.proofs.LineReads.{LinesGood, MayBegin, lines_good}
use Rattle.laws_endings.proofs.Each.{Each}
use Rattle.laws_endings.specs.Laws.{BlocksLaw}
use Rattle.laws_endings.proofs.Lines.{ending_lines_law}
use Rattle.laws_endings.proofs.Codes.{cond-under}
use Rattle.laws_endings.proofs.Cuts.{join-with}
use Rattle.laws_endings.proofs.Rests.{Feedless, codes_from-kept}
use Rattle.laws_endings.proofs.Openings.{opening_with, tree_with}
use Rattle.laws_endings.proofs.Closing.{close-with}
use Rattle.laws_endings.proofs.Growing.{grow-with}

-- ---- no line of a text holds an LF

abbrev pub LinesFeedless : List TextLine → Type 0
LinesFeedless ls = LinesGood Feedless ls

each_feedless : (text : List ℕ) → Each (MayBegin Feedless) text
each_feedless [] = tt
each_feedless (b ∷ bs) = (λ h more p. (h, p), each_feedless bs)

pub lines_feedless : (text : List ℕ) → LinesFeedless (lines text)
lines_feedless text = lines_good Feedless tt text (each_feedless text)

-- ---- the lines after a frontmatter

-- what is left is of a text's lines
abbrev IfFeedless : Option (List TextLine) → Type 0
IfFeedless o = IfSome o (λ ls. LinesFeedless ls)

after_fence_feedless : (byte : ℕ) (ls : List TextLine) → LinesFeedless ls → IfFeedless (after_metadata_fence byte ls)
after_fence_feedless byte [] p = tt
after_fence_feedless byte (line ∷ ls) p =
    cond_both (is_metadata_fence byte line.content) (Some ls) (after_metadata_fence byte ls) IfFeedless (λ _. p.1) (λ _. after_fence_feedless byte ls p.1)

after_frontmatter_feedless : (on : Constructs) (ls : List TextLine) → LinesFeedless ls → IfFeedless (after_frontmatter on ls)
after_frontmatter_feedless on [] p = tt
after_frontmatter_feedless on (line ∷ ls) p =
    let plus = on.frontmatter && is_metadata_fence 43 line.content in
    cond_both (on.frontmatter && is_metadata_fence 45 line.content) (after_metadata_fence 45 ls) (cond plus (after_metadata_fence 43 ls) None) IfFeedless
    (λ _. after_fence_feedless 45 ls p.1)
    (λ _. cond_both plus (after_metadata_fence 43 ls) None IfFeedless (λ _. after_fence_feedless 43 ls p.1) (λ _. tt))

module _ (e : LineEnding) where
  abbrev text_lines_with : List TextLine → List TextLine
  text_lines_with ls = map (text_line_with e) ls

  abbrev if_lines : Option (List TextLine) → Option (List TextLine)
  if_lines ls = option_map text_lines_with ls

  after_fence-with : (byte : ℕ) (ls : List TextLine) → after_metadata_fence byte (text_lines_with ls) ≡ if_lines (after_metadata_fence byte ls)
  after_fence-with byte [] = refl
  after_fence-with byte (line ∷ ls) = cond-under if_lines (is_metadata_fence byte line.content) refl (after_fence-with byte ls)

  after_frontmatter-with : (on : Constructs) (ls : List TextLine) → after_frontmatter on (text_lines_with ls) ≡ if_lines (after_frontmatter on ls)
  after_frontmatter-with on [] = refl
  after_frontmatter-with on (line ∷ ls) =
      cond-under if_lines (on.frontmatter && is_metadata_fence 45 line.content) (after_fence-with 45 ls)
      (cond-under if_lines (on.frontmatter && is_metadata_fence 43 line.content) (after_fence-with 43 ls) refl)

  -- ---- lines that are folded

  step-with : (on : Constructs) (before : Kind) (t : Tree) (line : TextLine) → Feedless line.content
      → step on before (tree_with e t) (text_line_with e line) ≡ tree_with e (step on before t line)
  step-with on before t line p =
      let more = grow on (beside_line before line) t.now (whole line.content) in
      ap (λ (grown : Tree). tree (join (blocks_with e t.done) grown.done) grown.now)
      (grow-with e on (beside_line before line) t.now (whole line.content) (codes_from-kept e 0 line.content p))
      ∙ ap (λ done. tree done (opening_with e more.now)) (join-with e t.done more.done)

  steps-with : (on : Constructs) (before : Kind) (t : Tree) (ls : List TextLine) → LinesFeedless ls
      → steps on before (tree_with e t) (text_lines_with ls) ≡ tree_with e (steps on before t ls)
  steps-with on before t [] p = refl
  steps-with on before t (line ∷ ls) p =
      ap (λ grown. steps on Whitespace grown (text_lines_with ls)) (step-with on before t line p.0)
      ∙ steps-with on Whitespace (step on before t line) ls p.1

  closed-with : (on : Constructs) (t : Tree) → blocks_at_end on (tree_with e t) ≡ blocks_with e (blocks_at_end on t)
  closed-with on t = ap (join (blocks_with e t.done)) (close-with e on t.now) ∙ join-with e t.done (close on t.now)

  children-with : (on : Constructs) (before : Kind) (ls : List TextLine) → LinesFeedless ls
      → children on before (text_lines_with ls) ≡ blocks_with e (children on before ls)
  children-with on before ls p = ap (blocks_at_end on) (steps-with on before empty_tree ls p) ∙ closed-with on (steps on before empty_tree ls)

  children_after-with : (on : Constructs) (before : Kind) (ls : List TextLine) (found : Option (List TextLine)) → LinesFeedless ls → IfFeedless found
      → children_after on before (text_lines_with ls) (if_lines found) ≡ blocks_with e (children_after on before ls found)
  children_after-with on before ls None p q = children-with on before ls p
  children_after-with on before ls (Some others) p q = children-with on Whitespace others q

pub blocks_law : BlocksLaw
blocks_law e on before text p =
    let ls = lines text in
    ap (λ found. children_after on before found (after_frontmatter on found)) (ending_lines_law e text p)
    ∙ ap (children_after on before (map (text_line_with e) ls)) (after_frontmatter-with e on ls)
    ∙ children_after-with e on before ls (after_frontmatter on ls) (lines_feedless text) (after_frontmatter_feedless on ls (lines_feedless text))
