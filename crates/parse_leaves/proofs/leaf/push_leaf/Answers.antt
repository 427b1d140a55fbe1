use Rattle.std.proofs.Common.{refl, arith}
use Rattle.parse_leaves.proofs.Prelude.{on_ok_weaker, piece_lines, reading_by}
use Rattle.parse_leaves.proofs.RowLeaves.{break_row, definition_row, fenced_row, heading_row, html_row, indented_row, paragraph_row, setext_row, unclosed_row, whole_code_row}
use Rattle.parse_leaves.proofs.RowLeaves.{whole_first, whole_paragraph_row, whole_second}
use Rattle.parse_leaves.proofs.leaf.push_leaf.Goals as goal

pub returns-in-Paragraph-clause-written : goal.returns-in-Paragraph-clause-written
returns-in-Paragraph-clause-written g c =
    let ls = piece_lines c.args.lines.now in
    on_ok_weaker c.push_paragraph.result
    (λ written ds knows of. paragraph_row (reading_by g.T.Tables c.args.texts.now ds) c.args.first c.args.row ls c.args.walk.now c.push_paragraph.new.walk c.in-Paragraph.field-0 c.in-Paragraph.is of (written ds knows))
    c.push_paragraph.ensures.written

pub returns-in-len1-up-clause-written : goal.returns-in-len1-up-clause-written
returns-in-len1-up-clause-written g c =
    let ls = piece_lines c.args.lines.now in
    on_ok_weaker c.push_whole_paragraph.result
    (λ written ds knows of. whole_paragraph_row (reading_by g.T.Tables c.args.texts.now ds) c.args.first c.args.row ls c.args.walk.now c.push_whole_paragraph.new.walk c.bytes_only.result.now c.in-WholeParagraph.is
    (whole_first c.args.lines.now _ c.bytes_only.result.now (omega (arith, c.in-len1-up.len_at_least)) c.bytes_only.ensures.same c.bytes_only.ensures.bytes) (written ds knows))
    c.push_whole_paragraph.ensures.written

pub returns-in-Heading-clause-written : goal.returns-in-Heading-clause-written
returns-in-Heading-clause-written g c =
    let ls = piece_lines c.args.lines.now in
    on_ok_weaker c.push_any_heading.result
    (λ written ds knows of. heading_row (reading_by g.T.Tables c.args.texts.now ds) c.args.first c.args.row ls c.args.walk.now c.push_any_heading.new.walk c.in-Heading.rank c.in-Heading.is of (written ds knows))
    c.push_any_heading.ensures.written

pub returns-in-SetextHeading-clause-written : goal.returns-in-SetextHeading-clause-written
returns-in-SetextHeading-clause-written g c =
    let ls = piece_lines c.args.lines.now in
    on_ok_weaker c.push_any_heading-in-SetextHeading.result
    (λ written ds knows of. setext_row (reading_by g.T.Tables c.args.texts.now ds) c.args.first c.args.row ls c.args.walk.now c.push_any_heading-in-SetextHeading.new.walk c.in-SetextHeading.rank _ c.in-SetextHeading.is of (written ds knows))
    c.push_any_heading-in-SetextHeading.ensures.written

pub returns-in-Break-clause-written : goal.returns-in-Break-clause-written
returns-in-Break-clause-written g c =
    let ls = piece_lines c.args.lines.now in
    on_ok_weaker c.push_thematic_break.result
    (λ written ds knows of. break_row (reading_by g.T.Tables c.args.texts.now ds) c.args.first c.args.row ls c.args.walk.now c.push_thematic_break.new.walk c.in-Break.is (written (reading_by g.T.Tables c.args.texts.now ds) c.args.first))
    c.push_thematic_break.ensures.written

pub returns-in-IndentedCode-clause-written : goal.returns-in-IndentedCode-clause-written
returns-in-IndentedCode-clause-written g c =
    let ls = piece_lines c.args.lines.now in
    on_ok_weaker c.push_indented_code.result
    (λ written ds knows of. indented_row (reading_by g.T.Tables c.args.texts.now ds) c.args.first c.args.row ls c.args.walk.now c.push_indented_code.new.walk c.in-IndentedCode.count c.in-IndentedCode.is of
    (written (reading_by g.T.Tables c.args.texts.now ds) c.args.first))
    c.push_indented_code.ensures.written

pub returns-in-Html-clause-written : goal.returns-in-Html-clause-written
returns-in-Html-clause-written g c =
    let ls = piece_lines c.args.lines.now in
    on_ok_weaker c.push_html.result
    (λ written ds knows of. html_row (reading_by g.T.Tables c.args.texts.now ds) c.args.first c.args.row ls c.args.walk.now c.push_html.new.walk c.in-Html.count c.in-Html.is of
    (written (reading_by g.T.Tables c.args.texts.now ds) c.args.first))
    c.push_html.ensures.written

pub returns-in-FencedCode-clause-written : goal.returns-in-FencedCode-clause-written
returns-in-FencedCode-clause-written g c =
    let ls = piece_lines c.args.lines.now in
    on_ok_weaker c.push_fenced_code.result
    (λ written ds knows of. fenced_row (reading_by g.T.Tables c.args.texts.now ds) c.args.first c.args.row ls c.args.walk.now c.push_fenced_code.new.walk c.in-FencedCode.count c.in-FencedCode.is of
    (λ info own size. written (reading_by g.T.Tables c.args.texts.now ds) c.args.first info own (record { constructs = refl; same_names = refl; lines = size })))
    c.push_fenced_code.ensures.written

pub returns-in-len2-up-clause-written : goal.returns-in-len2-up-clause-written
returns-in-len2-up-clause-written g c =
    let ls = piece_lines c.args.lines.now in
    on_ok_weaker c.push_whole_code.result
    (λ written ds knows of. whole_code_row (reading_by g.T.Tables c.args.texts.now ds) c.args.first c.args.row ls c.args.walk.now c.push_whole_code.new.walk c.bytes_only-in-len2-up.result.now c.in-WholeCode.is
    (whole_second c.args.lines.now _ c.bytes_only-in-len2-up.result.now (omega (arith, c.in-len2-up.len_at_least)) c.bytes_only-in-len2-up.ensures.same c.bytes_only-in-len2-up.ensures.bytes)
    (λ info own size. written (reading_by g.T.Tables c.args.texts.now ds) c.args.first info own (record { constructs = refl; same_names = refl; lines = size })))
    c.push_whole_code.ensures.written

pub returns-in-UnclosedCode-clause-written : goal.returns-in-UnclosedCode-clause-written
returns-in-UnclosedCode-clause-written g c =
    let ls = piece_lines c.args.lines.now in
    on_ok_weaker c.push_unclosed_code.result
    (λ written ds knows of. unclosed_row (reading_by g.T.Tables c.args.texts.now ds) c.args.first c.args.row ls c.args.walk.now c.push_unclosed_code.new.walk c.in-UnclosedCode.count c.in-UnclosedCode.is of
    (λ info own size. written (reading_by g.T.Tables c.args.texts.now ds) c.args.first info own (record { constructs = refl; same_names = refl; lines = size })))
    c.push_unclosed_code.ensures.written

pub returns-in-Definition-clause-written : goal.returns-in-Definition-clause-written
returns-in-Definition-clause-written g c =
    let ls = piece_lines c.args.lines.now in
    on_ok_weaker c.push_definition.result
    (λ written ds knows of. definition_row (reading_by g.T.Tables c.args.texts.now ds) c.args.first c.args.row ls c.args.walk.now c.push_definition.new.walk _ c.in-Definition.is of
    (written ds c.args.first knows))
    c.push_definition.ensures.written
