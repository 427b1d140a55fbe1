use Rattle.std.proofs.Common.{◌≡◌, [], refl, ◌<◌, length, vec_len, sym, ap, ◌∙◌, subst, arith}
use Rattle.markdown_options.specs.declared.beside.Kind.TheVariants.{Whitespace}
use Rattle.block_parser.proofs.Prelude.{beside_in, container_line, container_view, container_views, Descent, HasRead, Rest, rest_of}
use Rattle.block_starts.specs.View.{line_if}
use Rattle.block_parser.proofs.Closing as closing
use Rattle.block_parser.proofs.Descending as descending
use Rattle.block_parser.proofs.Quotes as quotes
use Rattle.block_parser.proofs.parser.Parser.descend.Goals as goal

pub returns-in-None-clause-descent : goal.returns-in-None-clause-descent
returns-in-None-clause-descent g c = λ t h.
    let p = c.args.self.now in
    let k = c.loop-depth.invariant t h in
    let d = c.index.result.now in
    let lt : c.loop-depth.depth < length p.open.items = omega (arith, c.loop-depth-test.true, c.len-depth-end.ensures, p.open.ok.0) in
    let cs = container_views p.open.items in
    subst (λ n. Descent c.args.on.now c.args.beside (rest_of c.args.line) t n c.loop-depth.depth (rest_of c.loop-depth.rest) c.loop-depth.here)
    (closing.views_length p.open.items ∙ sym p.open.ok.0)
    (descending.stays_outside c.args.on.now c.args.beside (rest_of c.args.line) t c.loop-depth.depth (rest_of c.loop-depth.rest) c.loop-depth.here cs h.opened
    (omega (arith, lt, closing.views_length p.open.items)) (container_view d)
    (closing.view_at p.open.items c.loop-depth.depth d lt c.index.ensures) c.began_blank.result
    (λ around kids inner_kids cc inner deep same. c.began_blank.ensures around kids inner_kids cc inner deep (subst (HasRead p) (sym same) h))
    (sym c.continues.ensures ∙ ap line_if c.in-None.is) k)

pub loop-depth-preserved : goal.loop-depth-preserved
loop-depth-preserved g c = λ t h.
    let p = c.args.self.now in
    let k = c.loop-depth.invariant t h in
    let d = c.index.result.now in
    let lt : c.loop-depth.depth < length p.open.items = omega (arith, c.loop-depth-test.true, c.len-depth-end.ensures, p.open.ok.0) in
    let cs = container_views p.open.items in
    descending.goes_inside c.args.on.now c.args.beside (rest_of c.args.line) t c.loop-depth.depth (rest_of c.loop-depth.rest) c.loop-depth.here cs h.opened
    (omega (arith, lt, closing.views_length p.open.items)) (container_view d)
    (closing.view_at p.open.items c.loop-depth.depth d lt c.index.ensures) c.began_blank.result
    (λ around kids inner_kids cc inner deep same. c.began_blank.ensures around kids inner_kids cc inner deep (subst (HasRead p) (sym same) h))
    (container_line (rest_of c.in-Some.inside.rest) c.in-Some.inside.before) (sym c.continues.ensures ∙ ap line_if c.in-Some.is) k

pub loop-depth-init : goal.loop-depth-init
loop-depth-init g c = λ t h.
    record { around = []; kids = t.done; now = t.now; deep = refl; same = refl; grows = refl; stuck = λ wrong. absurd (omega arith) }

pub returns-then-all_go_on-clause-descent : goal.returns-then-all_go_on-clause-descent
returns-then-all_go_on-clause-descent g c = λ t h.
    let p = c.args.self.now in
    let cs = container_views p.open.items in
    let depth = c.loop-depth.depth in
    let on = c.args.on.now in
    let beside = c.args.beside in
    let line = rest_of c.args.line in
    let here = beside_in Whitespace c.loop-depth.here in
    let yes = c.if-all_go_on.true in
    let empty = c.all_go_on.ensures.empty yes in
    let lt : depth < length cs = omega (arith, c.loop-depth-test.true, c.len-depth-end.ensures, p.open.ok.0, closing.views_length p.open.items) in
    let k = subst (λ (r : Rest). Descent on beside line t 0 depth r c.loop-depth.here) empty (c.loop-depth.invariant t h) in
    let all = quotes.all_go_on on beside line t cs h.opened (c.all_go_on.ensures.began yes t h) depth c.loop-depth.here lt
    (c.all_go_on.ensures.none yes) k in
    let count : length cs ≡ vec_len p.open = closing.views_length p.open.items ∙ sym p.open.ok.0 in
    let is_len : length cs ≡ c.len.result = count ∙ sym c.len.ensures in
    subst (λ (r : Rest). Descent on beside line t (vec_len p.open) c.len.result r here) (sym empty)
    (subst (λ m. Descent on beside line t (vec_len p.open) m [] here) is_len
    (subst (λ n. Descent on beside line t n (length cs) [] here) count all))
