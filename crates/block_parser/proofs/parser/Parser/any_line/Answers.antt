use Rattle.std.proofs.Common.{◌≡◌, [], false, ◌==◌, sym, ap, ◌∙◌, subst, length, arith, vec_len}
use Rattle.block_parser.proofs.Prelude.{AreLines, AreRead, beside_line, container_views, eq-eqb, fence_view, grow, HasRead, leaf_state, leaf_text, ne_eqb, new}
use Rattle.block_parser.proofs.Prelude.{number_of, on_ok_weaker, Rest, rest_of, Spine, spine_after, text_line}
use Rattle.block_parser.proofs.Closing as closing
use Rattle.block_parser.proofs.Descending as descending
use Rattle.block_parser.proofs.Steps.{text_at}
use Rattle.block_parser.proofs.parser.Parser.any_line.Goals as goal

pub returns-then-depth-len : goal.returns-then-depth-len
returns-then-depth-len g c =
    on_ok_weaker c.start_line.result (λ grows. λ t clean h.
    let p = c.args.self.now in
    let on = c.args.on.now in
    let b = beside_line c.args.before (text_line c.args.content.now c.args.ending) in
    let d = c.descend-depth.ensures.descent t h in
    let depth = c.descend-depth.result.0 in
    let r = rest_of c.descend-depth.result.1 in
    let e = c.descend-depth.result.2 in
    let whole_line = ap (λ (x : Rest). spine_after [] t.done (grow on b t.now x)) c.new.ensures in
    let here = subst (HasRead p) (sym d.same) h in
    let clean_here = subst AreLines (ap (λ (s : Spine). leaf_text s.leaf) (sym d.same) ∙ text_at d.around d.kids d.now)
    (subst AreLines (sym (text_at [] t.done t.now)) clean) in
    let outer : (depth == vec_len p.open) ≡ false = ne_eqb depth (vec_len p.open) (λ same. omega (arith, same, c.if-depth-len.true, c.len.ensures)) in
    subst (HasRead c.start_line.new.self)
    (ap (λ all. spine_after d.around d.kids (new (length r) on all d.now e r)) outer
    ∙ ap (spine_after d.around d.kids) (sym (d.stuck (omega (arith, c.if-depth-len.true, c.len.ensures))))
    ∙ sym d.grows ∙ whole_line)
    (grows d.around d.kids d.now d.deep clean_here here))
    c.start_line.ensures

pub returns-in-Text : goal.returns-in-Text
returns-in-Text g c =
    on_ok_weaker c.start_line-in-Text.result (λ grows. λ t clean h.
    let p = c.args.self.now in
    let on = c.args.on.now in
    let b = beside_line c.args.before (text_line c.args.content.now c.args.ending) in
    let d = c.descend-depth.ensures.descent t h in
    let depth = c.descend-depth.result.0 in
    let r = rest_of c.descend-depth.result.1 in
    let e = c.descend-depth.result.2 in
    let whole_line = ap (λ (x : Rest). spine_after [] t.done (grow on b t.now x)) c.new.ensures in
    let here = subst (HasRead p) (sym d.same) h in
    let clean_here = subst AreLines (ap (λ (s : Spine). leaf_text s.leaf) (sym d.same) ∙ text_at d.around d.kids d.now)
    (subst AreLines (sym (text_at [] t.done t.now)) clean) in
    let none = descending.no_deeper (container_views p.open.items) d.around d.kids d.now here.opened
    (omega (arith, d.deep, c.if-depth-len.false, c.len.ensures, c.descend-depth.ensures.within, p.open.ok.0, closing.views_length p.open.items)) in
    subst (HasRead c.start_line-in-Text.new.self) (sym d.grows ∙ whole_line)
    (descending.text_grows (HasRead p) (HasRead c.start_line-in-Text.new.self) on e r d.around d.kids d.now none
    (sym (ap leaf_state c.in-Text.is) ∙ here.same_state)
    (subst (λ all. HasRead c.start_line-in-Text.new.self (spine_after d.around d.kids (new (length r) on all d.now e r)))
    (eq-eqb depth (vec_len p.open) (omega (arith, c.if-depth-len.false, c.len.ensures, c.descend-depth.ensures.within)))
    (grows d.around d.kids d.now d.deep clean_here here))))
    c.start_line-in-Text.ensures

pub returns-in-Indented : goal.returns-in-Indented
returns-in-Indented g c =
    on_ok_weaker c.indented_line.result (λ grows. λ t clean h.
    let p = c.args.self.now in
    let on = c.args.on.now in
    let b = beside_line c.args.before (text_line c.args.content.now c.args.ending) in
    let d = c.descend-depth.ensures.descent t h in
    let depth = c.descend-depth.result.0 in
    let r = rest_of c.descend-depth.result.1 in
    let e = c.descend-depth.result.2 in
    let whole_line = ap (λ (x : Rest). spine_after [] t.done (grow on b t.now x)) c.new.ensures in
    let here = subst (HasRead p) (sym d.same) h in
    let none = descending.no_deeper (container_views p.open.items) d.around d.kids d.now here.opened
    (omega (arith, d.deep, c.if-depth-len.false, c.len.ensures, c.descend-depth.ensures.within, p.open.ok.0, closing.views_length p.open.items)) in
    subst (HasRead c.indented_line.new.self) (sym d.grows ∙ whole_line)
    (descending.indented_grows (HasRead p) (HasRead c.indented_line.new.self) on e r
    (λ around kids ls pending. grows ls pending around kids) c.in-Indented.count c.in-Indented.ending d.around d.kids d.now none
    (sym (ap leaf_state c.in-Indented.is) ∙ here.same_state) here))
    c.indented_line.ensures

pub returns-in-Fenced : goal.returns-in-Fenced
returns-in-Fenced g c =
    on_ok_weaker c.fenced_line.result (λ grows. λ t clean h.
    let p = c.args.self.now in
    let on = c.args.on.now in
    let b = beside_line c.args.before (text_line c.args.content.now c.args.ending) in
    let d = c.descend-depth.ensures.descent t h in
    let depth = c.descend-depth.result.0 in
    let r = rest_of c.descend-depth.result.1 in
    let e = c.descend-depth.result.2 in
    let whole_line = ap (λ (x : Rest). spine_after [] t.done (grow on b t.now x)) c.new.ensures in
    let here = subst (HasRead p) (sym d.same) h in
    let none = descending.no_deeper (container_views p.open.items) d.around d.kids d.now here.opened
    (omega (arith, d.deep, c.if-depth-len.false, c.len.ensures, c.descend-depth.ensures.within, p.open.ok.0, closing.views_length p.open.items)) in
    subst (AreRead c.fenced_line.new.self (container_views p.open.items)) (sym d.grows ∙ whole_line)
    (descending.fenced_grows (HasRead p) (AreRead c.fenced_line.new.self (container_views p.open.items)) on e r (fence_view c.in-Fenced.fence)
    (λ around kids opening ls. grows opening ls (container_views p.open.items) around kids) c.in-Fenced.ending d.around d.kids d.now none
    (sym (ap leaf_state c.in-Fenced.is) ∙ here.same_state) here))
    c.fenced_line.ensures

pub returns-in-Html : goal.returns-in-Html
returns-in-Html g c =
    on_ok_weaker c.html_line.result (λ grows. λ t clean h.
    let p = c.args.self.now in
    let on = c.args.on.now in
    let b = beside_line c.args.before (text_line c.args.content.now c.args.ending) in
    let d = c.descend-depth.ensures.descent t h in
    let depth = c.descend-depth.result.0 in
    let r = rest_of c.descend-depth.result.1 in
    let e = c.descend-depth.result.2 in
    let whole_line = ap (λ (x : Rest). spine_after [] t.done (grow on b t.now x)) c.new.ensures in
    let here = subst (HasRead p) (sym d.same) h in
    let none = descending.no_deeper (container_views p.open.items) d.around d.kids d.now here.opened
    (omega (arith, d.deep, c.if-depth-len.false, c.len.ensures, c.descend-depth.ensures.within, p.open.ok.0, closing.views_length p.open.items)) in
    subst (HasRead c.html_line.new.self) (sym d.grows ∙ whole_line)
    (descending.html_grows (HasRead p) (HasRead c.html_line.new.self) on e r (number_of c.in-Html.kind)
    (λ around kids ls. grows ls around kids) c.in-Html.ending d.around d.kids d.now none (sym (ap leaf_state c.in-Html.is) ∙ here.same_state) here))
    c.html_line.ensures

pub returns-in-Table : goal.returns-in-Table
returns-in-Table g c =
    on_ok_weaker c.start_line-in-Table.result (λ grows. λ t clean h.
    let p = c.args.self.now in
    let on = c.args.on.now in
    let b = beside_line c.args.before (text_line c.args.content.now c.args.ending) in
    let d = c.descend-depth.ensures.descent t h in
    let depth = c.descend-depth.result.0 in
    let r = rest_of c.descend-depth.result.1 in
    let e = c.descend-depth.result.2 in
    let whole_line = ap (λ (x : Rest). spine_after [] t.done (grow on b t.now x)) c.new.ensures in
    let here = subst (HasRead p) (sym d.same) h in
    let clean_here = subst AreLines (ap (λ (s : Spine). leaf_text s.leaf) (sym d.same) ∙ text_at d.around d.kids d.now)
    (subst AreLines (sym (text_at [] t.done t.now)) clean) in
    let none = descending.no_deeper (container_views p.open.items) d.around d.kids d.now here.opened
    (omega (arith, d.deep, c.if-depth-len.false, c.len.ensures, c.descend-depth.ensures.within, p.open.ok.0, closing.views_length p.open.items)) in
    subst (HasRead c.start_line-in-Table.new.self) (sym d.grows ∙ whole_line)
    (descending.table_grows (HasRead p) (HasRead c.start_line-in-Table.new.self) on e r c.in-Table.ending d.around d.kids d.now none
    (sym (ap leaf_state c.in-Table.is) ∙ here.same_state)
    (subst (λ all. HasRead c.start_line-in-Table.new.self (spine_after d.around d.kids (new (length r) on all d.now e r)))
    (eq-eqb depth (vec_len p.open) (omega (arith, c.if-depth-len.false, c.len.ensures, c.descend-depth.ensures.within)))
    (grows d.around d.kids d.now d.deep clean_here here))))
    c.start_line-in-Table.ensures
