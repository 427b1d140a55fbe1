use Rattle.compile_strings.proofs.PassLaw.{whole_next}
use Rattle.compile_strings.proofs.spelled.joined_sequence.Goals as goal

pub returns-in-Some : goal.returns-in-Some
returns-in-Some c = λ others.
    whole_next c.args.bytes.now c.args.event.now.kind c.args.event.now.name c.in_ok-sequence.sequence c.args.events.now c.in-Some.field-0.now others
    c.in_ok-sequence.ensures c.in-Some.ensures
