use Rattle.std.proofs.Common.{◌≡◌, ◌∙◌, ◌++◌, ap, subst}
use Rattle.compile_blocks.proofs.Prelude.{bare_tag, ending_bytes, fold, in_bytes, inline_pieces, lay, leads_to, meaning_by, OnOk, output_view}
use Rattle.compile_blocks.proofs.Prelude.{parts_in_cell, place_target}
use Rattle.definition_page.specs.BlockPieces.{heading_name}
use Rattle.definition_page.specs.HeadingText.{heading_text}
use Rattle.html_bytes.specs.Pieces.{Named}
use Rattle.compile_blocks.proofs.text.push_named_rows.Goals as goal

pub returns-clause-printed : goal.returns-clause-printed
returns-clause-printed g c = λ definition footnotes is has rows.
    let printing = c.args.printing.now in
    let out = output_view c.args.page.now.out in
    let default = ending_bytes c.args.page.now.default_ending in
    let options = printing.compile.now in
    let meaning = meaning_by (g.T.Tables.reference_of printing.tables.now) printing definition footnotes in
    let text : c.as_str.result.now ≡ heading_text is =
    c.as_str.ensures.value
    ∙ c.in_ok-push_heading_text.ensures (place_target printing.definitions.now) (leads_to definition) is rows
    ∙ ap (λ s. s ++ heading_text is) c.clear.ensures.bytes in
    let start : output_view c.start_heading.new.self ≡ lay options default out (Named (bare_tag (heading_name c.args.rank)) (heading_text is)) =
    c.in_ok-start_heading.ensures default
    ∙ ap (λ name. lay options default out (Named (bare_tag name) c.as_str.result.now)) c.heading_name.ensures
    ∙ ap (λ t. lay options default out (Named (bare_tag (heading_name c.args.rank)) t)) text in
    subst (λ l. OnOk c.push_rows.result (output_view c.push_rows.new.out
    ≡ fold (lay options default) l (in_bytes (inline_pieces meaning (parts_in_cell printing.cell is))))) start
    (c.push_rows.ensures definition footnotes default is has rows)
