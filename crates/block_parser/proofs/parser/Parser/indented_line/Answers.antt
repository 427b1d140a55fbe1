use Rattle.std.proofs.Common.{◌≡◌, true, ◌==◌, sym, ap, ◌∙◌, subst, length, arith, vec_len}
use Rattle.block_parser.proofs.Prelude.{AreRead, At, container_views, eq-eqb, HasRead, Indented, new, on_ok_weaker, rest_of, spine_after, Tree}
use Rattle.block_leaves.proofs.Going as going
use Rattle.block_parser.proofs.Closing as closing
use Rattle.block_parser.proofs.parser.Parser.indented_line.Goals as goal

pub returns-then-is_blank : goal.returns-then-is_blank
returns-then-is_blank g c =
    on_ok_weaker c.indented_blank.result (λ reads. λ ls pending around kids h.
    let holders = container_views c.args.self.now.open.items in
    subst (λ (t : Tree). AreRead c.indented_blank.new.self holders (spine_after around kids t))
    (sym (going.indented_blank c.args.on.now c.args.beside (rest_of c.args.rest.now) ls pending (sym c.is_blank.ensures ∙ c.if-is_blank.true)))
    (reads ls pending holders around kids h))
    c.indented_blank.ensures

pub returns-then-starts_code_indented : goal.returns-then-starts_code_indented
returns-then-starts_code_indented g c =
    on_ok_weaker c.indented_code.result (λ reads. λ ls pending around kids h.
    let holders = container_views c.args.self.now.open.items in
    subst (λ (t : Tree). AreRead c.indented_code.new.self holders (spine_after around kids t))
    (sym (going.indented_code c.args.on.now c.args.beside (rest_of c.args.rest.now) ls pending (sym c.is_blank.ensures ∙ c.if-is_blank.false)
    (sym c.starts_code_indented.ensures ∙ c.if-starts_code_indented.true)))
    (reads ls pending holders around kids h))
    c.indented_code.ensures

pub returns : goal.returns
returns g c =
    on_ok_weaker c.start_line.result (λ grows. λ ls pending around kids h.
    let p = c.args.self.now in
    let on = c.args.on.now in
    let r = rest_of c.args.rest.now in
    let e = c.args.beside in
    let leaf = At (Indented ls pending) in
    let last : (c.len-depth.result == vec_len p.open) ≡ true = eq-eqb c.len-depth.result (vec_len p.open) c.len-depth.ensures in
    let deep : c.len-depth.result ≡ length around =
    omega (arith, c.len-depth.ensures, p.open.ok.0, closing.views_length p.open.items, ap length h.opened, closing.length-containers around) in
    subst (λ (t : Tree). HasRead c.start_line.new.self (spine_after around kids t))
    (ap (λ all. new (length r) on all leaf e r) last
    ∙ sym (going.indented_other on e r ls pending (sym c.is_blank.ensures ∙ c.if-is_blank.false)
    (sym c.starts_code_indented.ensures ∙ c.if-starts_code_indented.false)))
    (grows around kids leaf deep tt h))
    c.start_line.ensures
