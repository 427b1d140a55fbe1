use Rattle.std.proofs.Common.{◌∙◌, subst}
use Rattle.parse_leaves.proofs.Prelude.{both_ok, content_view, piece_lines, read_content, reading_by, WritesContent}
use Rattle.definition_inline.specs.Targets.{Targets}
use Rattle.parse_leaves.specs.Texts.{KnowsTargets}
use Rattle.parse_leaves.proofs.Contents.{lines_written}
use Rattle.parse_leaves.proofs.text.push_text.Goals as goal

pub returns-in-Some-clause-written : goal.returns-in-Some-clause-written
returns-in-Some-clause-written g c =
    both_ok c.push_content.result
    (λ bytes written. λ ds known are.
    let r = reading_by g.T.Tables c.args.texts.now ds in
    lines_written r c.args.after c.in-Some.content c.args.first (piece_lines c.args.lines.now) c.args.walk.now c.push_content.new.walk are bytes
    (c.in-Some.ensures.content r.tables.is_punctuation are) (written ds known))
    c.push_content.ensures.bytes c.push_content.ensures.written

pub returns-clause-written : goal.returns-clause-written
returns-clause-written g c =
    let content = c.content-content.result in
    let old = c.args.walk.now in
    let new = c.push_checked.new.walk in
    both_ok c.push_checked.result
    (λ bytes written. λ ds known are.
    let r = reading_by g.T.Tables c.args.texts.now ds in
    let by_texts =
    subst (λ t. (ds : Targets) → KnowsTargets t ds → WritesContent (reading_by g.T.Tables t ds) content.text.now
    (read_content (reading_by g.T.Tables t ds) c.args.first (content_view (reading_by g.T.Tables t ds).tables.is_punctuation content)) old new)
    c.reborrow-texts.ensures written in
    lines_written r c.args.after content c.args.first (piece_lines c.args.lines.now) old new are bytes
    (c.content-content.ensures r.tables.is_punctuation ∙ c.in_ok-join.ensures r.tables.is_punctuation c.args.after are) (by_texts ds known))
    c.push_checked.ensures.bytes c.push_checked.ensures.written
