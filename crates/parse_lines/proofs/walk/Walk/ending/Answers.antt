use Rattle.std.proofs.Common.{◌≡◌, ℕ, ◌+◌, ◌-◌, ◌^◌, ◌<◌, ap, ◌∙◌, sym, subst, arith, length}
use Rattle.parse_lines.proofs.Prelude.{End, end_at, IsToken, on_ok_weaker, standing, void_nodes, Writes, written_to}
use Rattle.parse_lines.proofs.Written.{ending_end}
use Rattle.parse_lines.proofs.Steps.{both_ok, line_ends}
use Rattle.parse_lines.proofs.walk.Walk.ending.Goals as goal

pub returns-clause-ends : goal.returns-clause-ends
returns-clause-ends g c = on_ok_weaker c.token.result (λ e. line_ends (standing c.args.self.now)) c.token.ensures.open

pub returns-clause-written : goal.returns-clause-written
returns-clause-written g c =
    let old = c.args.self.now in
    both_ok c.token.result
    (λ written end. λ text ending left st order token.
    let size = c.ending_size.ensures in
    let reach = ending_end text (standing old) st.line in
    let first = ap (λ (x : End). x.index) c.at.ensures in
    let fits : c.at.result.index + c.ending_size.result < 2 ^ 64 = omega (arith, reach.0, reach.1) in
    let same : c.at.result.index + c.ending_size.result ≡ old.size - length old.left.now = omega (arith, reach.0, reach.1) in
    let is = c.after-end.ensures fits ∙ ap (λ (k : ℕ). end_at k 0) same in (
      subst (λ (x : End). Writes text old.out c.token.new.self (void_nodes text c.args.name (written_to old) x)) is (
          written text order (subst (λ (x : End). IsToken text c.args.name (written_to old) x) (sym is) token)
          ),
      end ∙ is,
    ))
    c.token.ensures.written c.token.ensures.end
