use Rattle.std.proofs.Common.{arith, length-append}
use Rattle.engine_events.specs.declared.event.Name.TheVariants.{Data}
use Rattle.parse_lines.proofs.Prelude.{data_nodes, end_in}
use Rattle.parse_output.proofs.Joined.{flat_data}
use Rattle.parse_lines.proofs.InLine.{writes_next, writes_nothing}
use Rattle.parse_lines.proofs.Steps.{both_ok}
use Rattle.parse_lines.proofs.walk.Walk.data.Goals as goal

pub returns-then-size-eq0-clause-written : goal.returns-then-size-eq0-clause-written
returns-then-size-eq0-clause-written g c =
    λ text front line is st bytes. writes_nothing text c.args.self.now front line c.args.size c.if-size-eq0.true is st

pub returns-clause-written : goal.returns-clause-written
returns-clause-written g c =
    let w = c.args.self.now in
    both_ok c.data.result
    (λ end written text front line is st bytes.
    writes_next text w c.data.new.self front line Data c.args.size c.saturating_add-self.result c.content_end-end.result (data_nodes text (end_in w.out)) is st
    bytes
    (omega (arith, c.saturating_add-self.ensures, st.fits, is, length-append front line)) c.content_end-end.ensures end (written text)
    (flat_data text (end_in w.out)))
    c.data.ensures.end c.data.ensures.written
