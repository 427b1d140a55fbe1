use Rattle.std.proofs.Common.{arith, sym, ap, ◌∙◌}
use Rattle.parse_leaves.proofs.Prelude.{on_ok_weaker, own_lines, piece_lines, reading_by}
use Rattle.block_starts.specs.HeadingAtx.{atx_if}
use Rattle.parse_leaves.proofs.AtxLists.{first_clear}
use Rattle.parse_leaves.proofs.Headings.{atx_only, no_pieces, setext_only}
use Rattle.parse_leaves.proofs.heading.push_any_heading.Goals as goal

pub returns-in_default-clause-written : goal.returns-in_default-clause-written
returns-in_default-clause-written g c =
    on_ok_weaker c.push_setext_heading.result
    (λ written ds knows are. setext_only (reading_by g.T.Tables c.args.texts.now ds) c.args.rank c.args.walk.now c.push_setext_heading.new.walk
    (own_lines (piece_lines c.args.lines.now)) (sym c.heading_atx.ensures ∙ ap atx_if c.in_default.is) (written ds c.args.rank knows are))
    c.push_setext_heading.ensures.written

pub returns-in-len1-up-clause-written : goal.returns-in-len1-up-clause-written
returns-in-len1-up-clause-written g c =
    on_ok_weaker c.push_heading.result
    (λ written ds knows are. atx_only (reading_by g.T.Tables c.args.texts.now ds) c.args.rank c.args.walk.now c.push_heading.new.walk
    c.args.lines.now _ _ (sym (ap atx_if c.in-Some.is) ∙ c.heading_atx.ensures)
    (written ds knows (first_clear c.args.lines.now _ are (omega arith))))
    c.push_heading.ensures.written

pub returns-in-empty-clause-written : goal.returns-in-empty-clause-written
returns-in-empty-clause-written g c = λ ds knows are.
    no_pieces (reading_by g.T.Tables c.args.texts.now ds) c.args.rank c.args.walk.now c.args.walk.now c.args.lines.now (omega arith)
