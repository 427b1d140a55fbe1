use Rattle.std.proofs.Common.{◌≡◌, ◌-◌, sym, ap, ◌∙◌, subst, refl, length, arith}
use Rattle.block_parser.proofs.Prelude.{AreLines, container_views, HasRead, spine_at}
use Rattle.block_parser.proofs.Closing as closing
use Rattle.block_parser.proofs.Steps.{text_at}
use Rattle.std.proofs.Common.{suc, vec_len}
use Rattle.block_parser.proofs.parser.Parser.close_to.Goals as goal

pub loop-self-preserved : goal.loop-self-preserved
loop-self-preserved g c =
    let k = c.loop-self.invariant in
    let n = vec_len c.args.self.now.open - vec_len c.loop-self.self.open in
    record {
      more = omega (arith, c.in_ok-exit.ensures.count, c.loop-self-test.true, c.len.ensures);
      fewer = omega (arith, c.in_ok-exit.ensures.count, k.fewer);
      reads = λ s leaf h.
          let next : suc n ≡ vec_len c.args.self.now.open - vec_len c.exit.new.self.open =
          omega (arith, c.in_ok-exit.ensures.count, c.loop-self-test.true, c.len.ensures, k.fewer) in
          subst (λ m. HasRead c.exit.new.self (closing.exits m s)) next (c.in_ok-exit.ensures.read (closing.exits n s) (closing.exits-leaf n s ∙ leaf)
          (k.reads s leaf h));
    }

pub returns-clause-read : goal.returns-clause-read
returns-clause-read g c = λ around kids away deep clean h.
    let p = c.args.self.now in
    let k = c.loop-self.invariant in
    let s = spine_at around kids away in
    let closed_leaf = c.in_ok-close_leaf.ensures s.leaf (subst AreLines (sym (text_at around kids away)) clean) (container_views p.open.items) s.around s.kids h in
    let n : vec_len c.args.self.now.open - vec_len c.loop-self.self.open ≡ closing.opening_depth away =
    omega (
      arith,
      c.loop-self-test.false,
      c.len.ensures,
      k.more,
      deep,
      p.open.ok.0,
      closing.views_length p.open.items,
      ap length h.opened,
      closing.length-containers s.around,
      closing.length-around around kids away,
    ) in
    subst (HasRead c.loop-self.self) (closing.closed-spine c.args.on.now around kids away)
    (subst (λ m. HasRead c.loop-self.self (closing.exits m (closing.leaf_closed c.args.on.now s))) n
    (k.reads (closing.leaf_closed c.args.on.now s) refl closed_leaf))
