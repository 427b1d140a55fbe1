use Rattle.std.proofs.Common.{◌≡◌, ◌∷◌, ◌==◌, ◌&&◌, sym, ap, ◌∙◌, subst, length, arith}
use Rattle.block_parser.proofs.Prelude.{beside_in, close, container_start, container_view, has_text, HasRead, Inside, join, level, new_inside, Nil, nothing}
use Rattle.block_parser.proofs.Prelude.{on_ok_weaker, rest_of, spine_after, started_if, starts, tree, Tree}
use Rattle.block_starts.proofs.MarkLemmas.{none_starts}
use Rattle.block_parser.proofs.Closing as closing
use Rattle.block_parser.proofs.Starting as starting
use Rattle.std.proofs.Common.{vec_len}
use Rattle.block_parser.proofs.parser.Parser.start_line.Goals as goal

pub returns-then-not-container_may_start : goal.returns-then-not-container_may_start
returns-then-not-container_may_start g c =
    on_ok_weaker c.leaf_line.result (λ grows. λ around kids away deep clean h.
    let on = c.args.on.now in
    let r = rest_of c.args.rest.now in
    let all = c.args.depth == vec_len c.args.self.now.open in
    let none = none_starts on (all && has_text away) r (sym c.container_may_start.ensures ∙ c.if-not-container_may_start.true) in
    subst (λ (x : Tree). HasRead c.leaf_line.new.self (spine_after around kids x))
    (sym (starting.new_none on c.args.beside (length r) all away r none)) (grows around kids away deep clean h))
    c.leaf_line.ensures

pub returns-in_default : goal.returns-in_default
returns-in_default g c =
    on_ok_weaker c.leaf_line-in_default.result (λ grows. λ around kids away deep clean h.
    let on = c.args.on.now in
    let r = rest_of c.args.rest.now in
    let none = ap (λ b. starts on b r) (sym (c.interrupts.ensures around kids away deep h)) ∙ sym c.starts.ensures ∙ ap started_if c.in_default.is in
    subst (λ (x : Tree). HasRead c.leaf_line-in_default.new.self (spine_after around kids x))
    (sym (starting.new_none on c.args.beside (length r) (c.args.depth == vec_len c.args.self.now.open) away r none)) (grows around kids away deep clean h))
    c.leaf_line-in_default.ensures

pub returns : goal.returns
returns g c =
    on_ok_weaker c.leaf_line-2.result (λ grows. λ around kids away deep clean h.
    let on = c.args.on.now in
    let r = rest_of c.args.rest.now in
    let e = c.args.beside in
    let all = c.args.depth == vec_len c.args.self.now.open in
    let s = container_start (container_view c.in-Some.container) (rest_of c.in-Some.line.rest) c.in-Some.line.before in
    let some = ap (λ b. starts on b r) (sym (c.interrupts.ensures around kids away deep h)) ∙ sym c.starts.ensures ∙ ap started_if c.in-Some.is in
    let kids2 = join kids (close on away) in
    let inner = beside_in s.before e in
    let t = new_inside on inner s.rest in
    let holder = tree Nil (Inside s.container t.done t.now) in
    let start_row = c.in_ok-enter.ensures around kids2 (c.in_ok-close_to.ensures.read around kids away deep clean h) in
    let inside = c.in_ok-inside.ensures (level s.container kids2 ∷ around) Nil start_row in
    let q = c.enter_all.new.self in
    let deeper : c.len-depth.result ≡ length inside.inner =
    omega (
      arith,
      c.len-depth.ensures,
      q.open.ok.0,
      closing.views_length q.open.items,
      ap length inside.reads.opened,
      closing.length-containers inside.inner,
    ) in
    subst (λ (x : Tree). HasRead c.leaf_line-2.new.self (spine_after around kids x)) (sym (starting.new_some on e all away r s some))
    (closing.after_added on (HasRead c.leaf_line-2.new.self) around kids away holder
    (subst (HasRead c.leaf_line-2.new.self) (sym (starting.grown-inside on e around kids2 s.container t ∙ inside.grows))
    (grows inside.inner inside.inner_kids nothing deeper tt inside.reads))))
    c.leaf_line-2.ensures
