use Rattle.std.proofs.Common.{◌∙◌, sym, ap}
use Rattle.compile_written.proofs.Prelude.{Kind, pass_next, pass_view, Spot, spot_of}
use Rattle.engine_events.specs.declared.event.Kind.TheVariants as kinds
use Rattle.compile_written.proofs.list.Pass.event.Goals as goal

pub returns-in_ok-enter-in-Enter : goal.returns-in_ok-enter-in-Enter
returns-in_ok-enter-in-Enter g c =
    let bytes = c.args.bytes.now in
    let event = c.args.event.now in
    let old = pass_view c.args.self.now in
    c.in_ok-enter-in-Enter.ensures bytes
    ∙ ap (λ (z : Spot). pass_next bytes kinds.Enter event.name z old) c.spot_of-at.ensures
    ∙ ap (λ (z : Kind). pass_next bytes z event.name (spot_of event) old) (sym c.in-Enter.is)
