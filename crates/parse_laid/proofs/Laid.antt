-- The rows of the blocks of a text are laid in its lines.
use Rattle.std.proofs.Common.{ℕ, cond, ◌&&◌, List, [], ◌∷◌, Option, None, Some, refl, subst}
use Rattle.parse_laid.proofs.Prelude.{AreLines, Between, blocks, BlockTree, close, cond_both, Constructs, Kind, LineEnding, lines, open_text, Place, step}
use Rattle.parse_laid.proofs.Prelude.{TextLine, unread, WhereSome}
use Rattle.markdown_options.specs.declared.line_ending.LineEnding.TheVariants.{LineFeed}
use Rattle.markdown_options.specs.declared.beside.Kind.TheVariants.{Whitespace}
use Rattle.definition_block.specs.Frontmatter.{is_metadata_fence, after_metadata_fence, after_frontmatter}
use Rattle.definition_block.specs.Tree.{empty_tree, steps, children, children_after}
use Rattle.block_rows.proofs.OpenLines.{AreTextLines, AreLinesTo, are_lines, lines_of_text, open_step}
use Rattle.parse_laid.specs.Laid.{unread_after, RowsAreLaid}
use Rattle.parse_laid.proofs.Trees.{AreBlocksLaid, join_laid}
use Rattle.parse_laid.proofs.Leaves.{TreeLaid, close_laid}
use Rattle.parse_laid.proofs.Lines.{step_laid}
use Rattle.parse_laid.proofs.Rows.{all_laid}

module _ (on : Constructs) where
  -- all lines, the last of which may have no ending
  steps_laid : (before : Kind) (e : LineEnding) (t : BlockTree) (ls : List TextLine) (from : Place) → AreTextLines ls
      → AreLinesTo (Some e) (open_text t.now) → TreeLaid on [] t from (Between (unread before ls))
      → TreeLaid on [] (steps on before t ls) from (Between []) × AreLines (open_text (steps on before t ls).now)
  steps_laid before e t [] from text h p = (p, are_lines (Some e) (open_text t.now) h)
  steps_laid before e t (line ∷ []) from text h p = (
    step_laid on before t line [] from (are_lines (Some e) (open_text t.now) h) p,
    are_lines line.ending (open_text (step on before t line).now) (open_step on before e t line text h),
  )
  steps_laid before e t (line ∷ next ∷ others) from text h p =
      let more = step on before t line in
      steps_laid Whitespace text.1.0 more (next ∷ others) from text.2
      (subst (λ o. AreLinesTo o (open_text more.now)) text.1.1 (open_step on before e t line text.0 h))
      (step_laid on before t line (unread Whitespace (next ∷ others)) from (are_lines (Some e) (open_text t.now) h) p)

  children_laid : (before : Kind) (ls : List TextLine) → AreTextLines ls
      → AreBlocksLaid on [] (children on before ls) (Between (unread before ls)) (Between [])
  children_laid before ls text =
      let from = Between (unread before ls) in
      let t = steps on before empty_tree ls in
      let p = steps_laid before LineFeed empty_tree ls from text tt (from, refl, refl) in
      join_laid on [] t.done (close on t.now) from p.0.0 (Between []) p.0.1 (close_laid on [] t.now p.0.0 (Between []) p.1 p.0.2)

  -- ---- frontmatter

  later_lines : (line : TextLine) (ls : List TextLine) → AreTextLines (line ∷ ls) → AreTextLines ls
  later_lines line [] h = tt
  later_lines line (next ∷ others) h = h.2

  after_fence_later : (byte : ℕ) (ls : List TextLine) → AreTextLines ls → WhereSome AreTextLines (after_metadata_fence byte ls)
  after_fence_later byte [] h = tt
  after_fence_later byte (line ∷ ls) h =
      let clean = later_lines line ls h in
      cond_both (is_metadata_fence byte line.content) (Some ls) (after_metadata_fence byte ls) (WhereSome AreTextLines) (λ _. clean)
      (λ _. after_fence_later byte ls clean)

  after_frontmatter_later : (ls : List TextLine) → AreTextLines ls → WhereSome AreTextLines (after_frontmatter on ls)
  after_frontmatter_later [] h = tt
  after_frontmatter_later (line ∷ ls) h =
      let clean = later_lines line ls h in
      let plus = on.frontmatter && is_metadata_fence 43 line.content in
      cond_both (on.frontmatter && is_metadata_fence 45 line.content) (after_metadata_fence 45 ls) (cond plus (after_metadata_fence 43 ls) None)
      (WhereSome AreTextLines) (λ _. after_fence_later 45 ls clean)
      (λ _. cond_both plus (after_metadata_fence 43 ls) None (WhereSome AreTextLines) (λ _. after_fence_later 43 ls clean) (λ _. tt))

  children_after_laid : (before : Kind) (ls : List TextLine) (o : Option (List TextLine)) → AreTextLines ls → WhereSome AreTextLines o
      → AreBlocksLaid on [] (children_after on before ls o) (Between (unread_after before ls o)) (Between [])
  children_after_laid before ls None text h = children_laid before ls text
  children_after_laid before ls (Some others) text h = children_laid Whitespace others h

pub rows_are_laid : RowsAreLaid
rows_are_laid on before text bytes =
    let ls = lines text in
    let clean = lines_of_text text bytes in
    let found = after_frontmatter on ls in
    all_laid on (blocks on before text) (Between (unread_after before ls found))
    (children_after_laid on before ls found clean (after_frontmatter_later on ls clean))
