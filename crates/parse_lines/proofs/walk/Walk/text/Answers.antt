use Rattle.std.proofs.Common.{arith, length-append}
use Rattle.parse_lines.proofs.Prelude.{end_in, flat_void, void_nodes}
use Rattle.parse_lines.proofs.InLine.{writes_next}
use Rattle.parse_lines.proofs.Steps.{both_ok}
use Rattle.parse_lines.proofs.walk.Walk.text.Goals as goal

pub returns-clause-written : goal.returns-clause-written
returns-clause-written g c =
    let w = c.args.self.now in
    both_ok c.token.result
    (λ end written text front line is other st bytes.
    writes_next text w c.token.new.self front line c.args.name c.args.size c.saturating_add-self.result c.content_end-end.result
    (void_nodes text c.args.name (end_in w.out)) is st bytes
    (omega (arith, c.saturating_add-self.ensures, st.fits, is, length-append front line)) c.content_end-end.ensures end (written text)
    (λ to. flat_void text c.args.name (end_in w.out) to other))
    c.token.ensures.end c.token.ensures.written
