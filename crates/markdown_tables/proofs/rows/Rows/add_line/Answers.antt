use Rattle.std.proofs.Common.{sym, ap, ◌∙◌}
use Rattle.std.specs.Option.{option_map}
use Rattle.definition_text.specs.Columns.{is_blank, whole}
use Rattle.markdown_tables.specs.RowParts.{row_view}
use Rattle.markdown_tables.specs.Rows.{texts_of}
use Rattle.markdown_tables.proofs.Putting.{no_text}
use Rattle.markdown_tables.proofs.Reading.{row_added}
use Rattle.markdown_tables.proofs.rows.Rows.add_line.Goals as goal

pub returns-in_ok-add-in-Some : goal.returns-in_ok-add-in-Some
returns-in_ok-add-in-Some g c earlier has =
    let found = sym c.read_row.ensures.row ∙ ap (option_map row_view) c.in-Some.is in
    row_added c.args.number (is_blank (whole c.args.line.now)) earlier _ (row_view c.in-Some.row) (texts_of c.args.self.now) (texts_of c.add.new.self) found has
    (no_text _ (sym c.contains_key.ensures ∙ c.if-contains_key.false)) c.in_ok-add-in-Some.ensures
