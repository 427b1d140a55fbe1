use Rattle.compile_html.proofs.Going.{exiting, exit_step}
use Rattle.compile_html.proofs.printer.Printer.event.Goals as goal

pub returns-in-Enter-clause-printed : goal.returns-in-Enter-clause-printed
returns-in-Enter-clause-printed g c = λ m ds whole meant at goes. c.enter.ensures.printed m ds whole meant at c.in-Enter.is goes

pub returns-in_ok-leave-in-Exit-clause-printed : goal.returns-in_ok-leave-in-Exit-clause-printed
returns-in_ok-leave-in-Exit-clause-printed g c = λ m ds whole meant at goes.
    let names = g.T.Tables.reference_of c.args.source.now.tables.now in
    let bytes = c.args.source.now.checked.bytes.now in
    let events = c.args.source.now.checked.events.now in
    let e = exiting names bytes m events whole c.args.self.now c.args.event.now c.args.after.now c.in-Exit.is goes in
    let f = c.in_ok-leave-in-Exit.ensures in
    exit_step names bytes m e c.leave.new.self f.opened c.leave.ensures.loose f.default (f.printed m.compile)
