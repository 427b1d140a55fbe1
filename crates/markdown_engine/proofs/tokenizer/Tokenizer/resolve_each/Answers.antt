use Rattle.std.proofs.Common.{◌≡◌, ◌+◌, drop, subst, sym, List}
use Rattle.markdown_engine.proofs.Prelude.{drop_more, read_with, Resolver, view_config}
use Rattle.markdown_engine.specs.Resolving.{found_of}
use Rattle.markdown_engine.proofs.Push.{same_read}
use Rattle.markdown_engine.proofs.Resolves.{resolved_at, resolving_on, settled_at}
use Rattle.markdown_engine.proofs.tokenizer.Tokenizer.resolve_each.Goals as goal

pub resolve-requires : goal.resolve-requires
resolve-requires g c =
    let i = c.loop-name.name-index in
    let names = c.args.names.now in
    let settled = g.M.Machine.settled in
    let t = c.loop-name.self in
    let here = drop_more names i _ c.loop-name-test.true in
    let at = same_read c.args.self.now t c.loop-name.invariant.parse_state in (
      drop (i + 1) names,
      settled_at settled (read_with c.args.self.now) (read_with t) (view_config g.M.Machine.seen t) _ (sym at)
          (subst (λ (z : List Resolver). settled (read_with c.args.self.now) (view_config g.M.Machine.seen t) z) here c.loop-name.invariant.settles),
    )

pub loop-name-preserved : goal.loop-name-preserved
loop-name-preserved g c =
    let i = c.loop-name.name-index in
    let names = c.args.names.now in
    let t = c.loop-name.self in
    let x = read_with c.args.self.now in
    let at : read_with t ≡ x = same_read c.args.self.now t c.loop-name.invariant.parse_state in
    let said = resolved_at g.M.Machine.seen g.M.Machine.resolved (read_with t) x t c.resolve.new.tokenizer _
    (found_of c.in_ok-more.more) at c.in_ok-more.ensures.config c.in_ok-more.ensures.found in
    resolving_on g.M.Machine.seen (g.M.Machine.resolved x) (g.M.Machine.settled x) (drop i names)
    (drop (i + 1) names) _ t c.resolve.new.tokenizer c.loop-name.found c.add_found.new.found
    (found_of c.in_ok-more.more) names c.args.self.now c.args.found.now
    (g.met.M.Machine.resolving x).keeps (drop_more names i _ c.loop-name-test.true) said.0 said.1 c.in_ok-add_found.ensures.found
    c.in_ok-more.ensures.parse_state c.in_ok-add_found.ensures.done c.loop-name.invariant
