use Rattle.std.proofs.Common.{map, string_bytes, inl, refl, subst}
use Rattle.markdown_settings.specs.Settings.{Refuses, faults_of}
use Rattle.markdown_devices.proofs.Refusals.{may_come_of_writer}
use Rattle.markdown.proofs.command.obey.Goals as goal

pub returns-in-Err-Memory-clause-page : goal.returns-in-Err-Memory-clause-page
returns-in-Err-Memory-clause-page g c faultless = inl (refl, refl, refl)

pub returns-in-Err-Help-clause-fault : goal.returns-in-Err-Help-clause-fault
returns-in-Err-Help-clause-fault g c =
    let kinds = faults_of (map string_bytes c.args.words.now) in
    let help = c.in-Err-Help in
    may_come_of_writer kinds help.text.now c.answer.result (subst (Refuses kinds) help.field-0-is help.ensures.refused) c.answer.ensures.fault
