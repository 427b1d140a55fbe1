use Rattle.std.proofs.Common.{◌≡◌, ◌∷◌, [], ◌++◌, List, Bool, true, false, string_bytes, sym, ap, ◌∙◌, subst}
use Rattle.html_inline.proofs.Prelude.{is_described, leaf_in, leaves_bytes, map, meaning_by, OnOk, opened_view, OpenPart, place_target, reverse, spelled_view}
use Rattle.html_inline.proofs.rows.push_spelled.Goals as goal

pub returns-then-is_described-clause-printed : goal.returns-then-is_described-clause-printed
returns-then-is_described-clause-printed g c = λ definition footnotes rows.
    let p = c.args.printing.now in
    let meaning = meaning_by (g.T.Tables.reference_of p.tables.now) p definition footnotes in
    let at = place_target p.definitions.now in
    let view = opened_view meaning at rows in
    let h : is_described (map view (reverse c.args.scratch.now.stack.items)) ≡ true =
    ap (λ (s : List OpenPart). is_described (map view (reverse s))) (sym c.as_slice.ensures.value) ∙ sym (c.is_described.ensures meaning at rows)
    ∙ c.if-is_described.true in
    subst (λ (t : Bool). OnOk c.push_spelled_description.result (string_bytes c.push_spelled_description.new.out
    ≡ string_bytes c.args.out.now ++ leaves_bytes p.compile.now t (leaf_in p.cell (spelled_view c.args.leaf) ∷ [])))
    (sym h) c.push_spelled_description.ensures

pub returns-else-is_described-clause-printed : goal.returns-else-is_described-clause-printed
returns-else-is_described-clause-printed g c = λ definition footnotes rows.
    let p = c.args.printing.now in
    let meaning = meaning_by (g.T.Tables.reference_of p.tables.now) p definition footnotes in
    let at = place_target p.definitions.now in
    let view = opened_view meaning at rows in
    let h : is_described (map view (reverse c.args.scratch.now.stack.items)) ≡ false =
    ap (λ (s : List OpenPart). is_described (map view (reverse s))) (sym c.as_slice.ensures.value) ∙ sym (c.is_described.ensures meaning at rows)
    ∙ c.if-is_described.false in
    subst (λ (t : Bool). OnOk c.push_spelled_leaf.result (string_bytes c.push_spelled_leaf.new.out
    ≡ string_bytes c.args.out.now ++ leaves_bytes p.compile.now t (leaf_in p.cell (spelled_view c.args.leaf) ∷ [])))
    (sym h) c.push_spelled_leaf.ensures
