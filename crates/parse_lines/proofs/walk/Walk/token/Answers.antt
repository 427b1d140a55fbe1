use Rattle.std.proofs.Common.{◌+◌, ◌^◌, ◌<◌, ap, ◌∙◌, sym, subst}
use Rattle.parse_lines.proofs.Prelude.{End, end_at, IsToken, on_ok_weaker, void_nodes, Writes, written_to}
use Rattle.parse_lines.proofs.walk.Walk.token.Goals as goal

pub returns-clause-written : goal.returns-clause-written
returns-clause-written g c =
    let old = c.args.self.now in
    let at = c.end.ensures in
    on_ok_weaker c.token.result
    (λ written. λ fits. λ text order token.
    let is = c.after-end.ensures (subst (λ (x : End). x.index + c.args.size < 2 ^ 64) (sym at) fits)
    ∙ ap (λ (x : End). end_at (x.index + c.args.size) 0) at in
    subst (λ (x : End). Writes text old.out c.token.new.self (void_nodes text c.args.name (written_to old) x)) is (
    written text order (subst (λ (x : End). IsToken text c.args.name (written_to old) x) (sym is) token)
    ))
    c.token.ensures.written
