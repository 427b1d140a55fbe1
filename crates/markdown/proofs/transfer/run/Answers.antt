use Rattle.std.proofs.Common.{◌∙◌, ap}
use Rattle.std.proofs.lemmas.Result.{on_ok_weaker}
use Rattle.markdown_definition.specs.Html.{html}
use Rattle.markdown_definition.specs.TextTables.{text_tables}
use Rattle.markdown_devices.specs.Faults.{is_write_error}
use Rattle.markdown_devices.proofs.Transfers.{begins_of_text, if_err_from, page_of_text}
use Rattle.markdown.proofs.transfer.run.Goals as goal

pub returns-clause-ok : goal.returns-clause-ok
returns-clause-ok g c =
    let tables = text_tables (g.T.Tables.reference_of c.args.tables.now) (g.T.Tables.punctuation_of c.args.tables.now) in
    on_ok_weaker c.write_all.result
    (λ wrote. page_of_text _ _ _ c.in_ok-bytes.bytes.items c.as_bytes.result.now tables c.args.options.now c.in_ok-bytes.ensures.ok
    (c.as_bytes.ensures.value ∙ c.in_ok-page.ensures.ok ∙ ap (λ b. html tables b c.args.options.now) c.deref.ensures.value) wrote)
    c.write_all.ensures.ok

pub returns-clause-beginning : goal.returns-clause-beginning
returns-clause-beginning g c =
    let tables = text_tables (g.T.Tables.reference_of c.args.tables.now) (g.T.Tables.punctuation_of c.args.tables.now) in
    if_err_from is_write_error c.write_all.result
    (begins_of_text _ _ _ c.in_ok-bytes.bytes.items c.as_bytes.result.now tables c.args.options.now c.in_ok-bytes.ensures.ok
    (c.as_bytes.ensures.value ∙ c.in_ok-page.ensures.ok ∙ ap (λ b. html tables b c.args.options.now) c.deref.ensures.value)
    c.write_all.ensures.beginning)
