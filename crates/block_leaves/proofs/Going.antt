-- How the open leaf takes a line, and what is left where nothing is open.
use Rattle.std.proofs.Common.{◌≡◌, ℕ, List, [], ◌∷◌, ◌++◌, Option, Bool, if◌then◌else◌, true, false, ◌&&◌, refl, ap, ◌∙◌, length}
use Rattle.block_leaves.proofs.Prelude.{At, block_and_ending, BlockLine, cond-false, cond-true, Constructs, cut_into, cut_most, Fence, fence_line, Fenced}
use Rattle.block_leaves.proofs.Prelude.{FencedCode, Indented, is_some_line, Leaf, LineEnding, Nil, OpenHtml, OpenLeaf, outdent, Rest, rest_line, Tree}
use Rattle.block_leaves.proofs.Prelude.{with_paragraph}
use Rattle.markdown_options.specs.declared.beside.Beside.{Beside}
use Rattle.definition_text.specs.Columns.{is_blank}
use Rattle.definition_block.specs.CodeIndented.{starts_code_indented}
use Rattle.definition_block.specs.CodeFenced.{is_fence_end}
use Rattle.definition_block.specs.HtmlFlow.{ends_before_blank}
use Rattle.std.specs.Prelude.{unwrap_or}
use Rattle.definition_block.specs.Tree.{tree, nothing}
use Rattle.definition_block.specs.Tree.{html_with, new}
use Rattle.block_leaves.specs.View.{leaf_grown}

-- ---- the open leaf takes a line

module _ (on : Constructs) (e : Beside) (r : Rest) where
  abbrev other_line : OpenLeaf → Tree
  other_line leaf = new (length r) on true (At leaf) e r

  pub indented_blank : (ls pending : List BlockLine) → is_blank r ≡ true
      → leaf_grown on e r (At (Indented ls pending)) ≡ tree Nil (At (Indented ls (pending ++ rest_line (outdent 4 r) e ∷ [])))
  indented_blank ls pending h = ap (λ o. unwrap_or o (other_line (Indented ls pending))) (cond-true (is_blank r) _ _ h)

  pub indented_code : (ls pending : List BlockLine) → is_blank r ≡ false → starts_code_indented on r ≡ true
      → leaf_grown on e r (At (Indented ls pending)) ≡ tree Nil (At (Indented (ls ++ pending ++ rest_line (outdent 4 r) e ∷ []) []))
  indented_code ls pending h k =
      ap (λ o. unwrap_or o (other_line (Indented ls pending))) (cond-false (is_blank r) _ _ h ∙ cond-true (starts_code_indented on r) _ _ k)

  pub indented_other : (ls pending : List BlockLine) → is_blank r ≡ false → starts_code_indented on r ≡ false
      → leaf_grown on e r (At (Indented ls pending)) ≡ new (length r) on true (At (Indented ls pending)) e r
  indented_other ls pending h k =
      ap (λ o. unwrap_or o (other_line (Indented ls pending))) (cond-false (is_blank r) _ _ h ∙ cond-false (starts_code_indented on r) _ _ k)

  pub fenced_end : (f : Fence) (opening : Option LineEnding) (ls : List BlockLine) → is_fence_end on f r ≡ true
      → leaf_grown on e r (At (Fenced f opening ls)) ≡ tree (block_and_ending (Leaf (FencedCode f.info true ls)) e.ending) nothing
  fenced_end f opening ls h = ap (λ o. unwrap_or o (other_line (Fenced f opening ls))) (cond-true (is_fence_end on f r) _ _ h)

  pub fenced_goes_on : (f : Fence) (opening : Option LineEnding) (ls : List BlockLine) → is_fence_end on f r ≡ false
      → leaf_grown on e r (At (Fenced f opening ls)) ≡ tree Nil (At (Fenced f opening (ls ++ rest_line (fence_line f r) e ∷ [])))
  fenced_goes_on f opening ls h = ap (λ o. unwrap_or o (other_line (Fenced f opening ls))) (cond-false (is_fence_end on f r) _ _ h)

-- ---- an HTML block takes a line

module _ (on : Constructs) (e : Beside) (r : Rest) (kind : ℕ) (ls : List BlockLine) where
  pub html_goes_on : (ends_before_blank kind && is_blank r) ≡ false → leaf_grown on e r (At (OpenHtml kind ls)) ≡ html_with kind ls r e
  html_goes_on h = ap (λ o. unwrap_or o (new (length r) on true (At (OpenHtml kind ls)) e r)) (cond-false (ends_before_blank kind && is_blank r) _ _ h)

  pub html_stops : (ends_before_blank kind && is_blank r) ≡ true → leaf_grown on e r (At (OpenHtml kind ls))
      ≡ new (length r) on true (At (OpenHtml kind ls)) e r
  html_stops h = ap (λ o. unwrap_or o (new (length r) on true (At (OpenHtml kind ls)) e r)) (cond-true (ends_before_blank kind && is_blank r) _ _ h)

-- ---- nothing is open

-- no paragraph is open
pub no_text : (ls : List BlockLine) → is_some_line ls ≡ false → ls ≡ []
no_text [] h = refl
no_text (l ∷ ls) h = let wrong : true ≡ false = h in cc

-- nothing is closed then
pub closed_nothing : (b : Bool) → with_paragraph (if b then cut_most 0 [] else cut_into Nil []) ≡ Nil
closed_nothing true = refl
closed_nothing false = refl
