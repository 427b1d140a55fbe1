use Rattle.markdown_tables.proofs.Putting.{kept-lawful, put-lawful, put-texts}
use Rattle.markdown_tables.proofs.name_texts.put.Goals as goal

pub returns-clause-put : goal.returns-clause-put
returns-clause-put g c = put-texts c.args.texts.now c.insert.new.self c.args.name c.args.text c.in_ok-insert.ensures.updates

pub returns-clause-lawful : goal.returns-clause-lawful
returns-clause-lawful g c =
    let asked = c.requires in
    put-lawful c.args.texts.now c.insert.new.self c.args.name c.args.text asked.lawful asked.named asked.nonempty c.in_ok-insert.ensures.updates

pub returns-in_err-insert-clause-lawful : goal.returns-in_err-insert-clause-lawful
returns-in_err-insert-clause-lawful g c = kept-lawful c.args.texts.now c.insert.new.self c.requires.lawful c.in_err-insert.ensures.err
