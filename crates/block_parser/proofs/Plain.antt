-- Plain lines.
use Rattle.std.proofs.Common.{◌≡◌, ℕ, List, [], Bool, true, ◌&&◌, ap, ◌∙◌, arith}
use Rattle.std.specs.Prelude.{leb}
use Rattle.block_parser.proofs.Prelude.{and_parts, At, bare, Beside, BlockLine, Blocks, bytes_of, Constructs, has_text, indent, Inside, InText, is_plain}
use Rattle.block_parser.proofs.Prelude.{leaf_line, math_start, new, Opening, option_or, Rest, rest_line, spine_at, state_of, table_if, Text, text_here}
use Rattle.block_parser.proofs.Prelude.{text_line_of, tree, Tree}
use Rattle.block_starts.specs.Plain.{begins_plain}
use Rattle.block_starts.proofs.PlainLemmas.{plain_starts, plain_not_blank, plain_not_code, plain_fence, plain_math, plain_html, plain_heading, plain_underline}
use Rattle.block_starts.proofs.PlainLemmas.{plain_break, plain_delimiters}
use Rattle.block_parser.proofs.Closing.{opening_depth}
use Rattle.block_parser.proofs.Starting.{new_none}
use Rattle.block_parser.proofs.Steps.{text_leaf, turns_not}

-- ---- nothing begins on a plain rest but text

module _ (on : Constructs) (away : Opening) (r : Rest) (e : Beside) (plain : is_plain on r ≡ true) where
  both : (leb (indent r) 3 ≡ true) × (begins_plain on (bytes_of (bare r)) ≡ true)
  both = and_parts (leb (indent r) 3) (begins_plain on (bytes_of (bare r))) plain

  pub plain_leaf : leaf_line on away r e ≡ text_line_of on away r e
  plain_leaf =
      text_leaf on away r e (plain_not_blank on r both.1) (plain_not_code on r (has_text away) both.0)
      (ap (λ o. option_or o (math_start on r)) (plain_fence on r both.1) ∙ plain_math on r both.1)
      (plain_html on r both.1 (has_text away)) (plain_heading on r both.1)
      (turns_not on r e.ending away (plain_underline on r both.1))
      (plain_break on r both.1)
      (ap (λ o. table_if on o (text_here away) (rest_line r e)) (plain_delimiters on r both.1))

  pub plain_new : (n : ℕ) (all : Bool) → new n on all away e r ≡ text_line_of on away r e
  plain_new n all = new_none on e n all away r (plain_starts on (all && has_text away) r both.1) ∙ plain_leaf

-- ---- where no container is open, and no leaf but a paragraph

-- the leaf that is open is a paragraph, in no container
pub of_text : (P : Tree → Type 0) → ((kids : Blocks) (ls : List BlockLine) → P (tree kids (At (Text ls)))) → (kids : Blocks) (now : Opening)
    → opening_depth now ≡ 0 → InText ≡ state_of (spine_at [] kids now).leaf → P (tree kids now)
of_text P h kids (At (Text ls)) none is = h kids ls
of_text P h kids (At leaf) none is = let wrong = is in cc
of_text P h kids (Inside c inner_kids inner) none is = absurd (omega (arith, none))
