use Rattle.std.proofs.Common.{◌≡◌, true, ◌==◌, sym, ap, ◌∙◌, subst, refl, length, arith, vec_len}
use Rattle.block_parser.proofs.Prelude.{AreRead, At, container_views, eq-eqb, HasRead, new, number_of, on_ok_weaker, OpenHtml, rest_of, spine_after, Tree}
use Rattle.block_leaves.proofs.Going as going
use Rattle.block_parser.proofs.Closing as closing
use Rattle.block_parser.proofs.parser.Parser.html_line.Goals as goal

pub returns-then-html_stops : goal.returns-then-html_stops
returns-then-html_stops g c =
    on_ok_weaker c.start_line.result (λ grows. λ ls around kids h.
    let p = c.args.self.now in
    let on = c.args.on.now in
    let r = rest_of c.args.rest.now in
    let e = c.args.beside in
    let kind = number_of c.args.kind in
    let leaf = At (OpenHtml kind ls) in
    let last : (c.len-depth.result == vec_len p.open) ≡ true = eq-eqb c.len-depth.result (vec_len p.open) c.len-depth.ensures in
    let deep : c.len-depth.result ≡ length around =
    omega (arith, c.len-depth.ensures, p.open.ok.0, closing.views_length p.open.items, ap length h.opened, closing.length-containers around) in
    subst (λ (t : Tree). HasRead c.start_line.new.self (spine_after around kids t))
    (ap (λ all. new (length r) on all leaf e r) last ∙ sym (going.html_stops on e r kind ls (sym c.html_stops.ensures ∙ c.if-html_stops.true)))
    (grows around kids leaf deep tt h))
    c.start_line.ensures

pub returns : goal.returns
returns g c =
    on_ok_weaker c.html_with.result (λ reads. λ ls around kids h.
    let on = c.args.on.now in
    let r = rest_of c.args.rest.now in
    let e = c.args.beside in
    let kind = number_of c.args.kind in
    subst (λ (t : Tree). AreRead c.html_with.new.self (container_views c.args.self.now.open.items) (spine_after around kids t))
    (sym (going.html_goes_on on e r kind ls (sym c.html_stops.ensures ∙ c.if-html_stops.false)))
    (reads (OpenHtml kind ls) ls refl (container_views c.args.self.now.open.items) around kids h))
    c.html_with.ensures
