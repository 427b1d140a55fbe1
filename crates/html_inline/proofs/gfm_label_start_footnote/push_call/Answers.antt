use Rattle.std.proofs.Common.{◌≡◌, ℕ, List, [], true, false, sym, ap, ◌∙◌}
use Rattle.html_inline.proofs.Prelude.{CallOf, content_codes, CountOf, first_match, is_described, lay, map, meaning_by, normal_label, on_ok_weaker}
use Rattle.html_inline.proofs.Prelude.{opened_view, OpenPart, output_view, place_of, place_target, reverse}
use Rattle.html_inline.proofs.FootnoteCalls.{uncalled, counted, called}
use Rattle.html_inline.proofs.gfm_label_start_footnote.push_call.Goals as goal

pub returns-in-None-clause-laid : goal.returns-in-None-clause-laid
returns-in-None-clause-laid g c = λ definition footnotes rows held.
    let p = c.args.printing.now in
    let meaning = meaning_by (g.T.Tables.reference_of p.tables.now) p definition footnotes in
    let view = opened_view meaning (place_target p.definitions.now) rows in
    let label = content_codes c.args.label.now in
    let normalized : c.as_str-label.result.now ≡ normal_label label =
    c.as_str-label.ensures.value ∙ c.in_ok-normalize_label.ensures ∙ ap (λ (s : List ℕ). normal_label (content_codes s)) c.as_bytes.ensures.value in
    let found : first_match label footnotes ≡ c.find_normal.result =
    ap (λ (n : List ℕ). place_of n (map normal_label footnotes)) (sym normalized) ∙ sym (c.find_normal.ensures footnotes held) in
    uncalled meaning (is_described (map view (reverse c.args.scratch.now.stack.items))) label (output_view c.args.out.now) (found ∙ c.in-None.is)

pub returns-then-is_described-clause-laid : goal.returns-then-is_described-clause-laid
returns-then-is_described-clause-laid g c = λ definition footnotes rows held.
    let p = c.args.printing.now in
    let meaning = meaning_by (g.T.Tables.reference_of p.tables.now) p definition footnotes in
    let view = opened_view meaning (place_target p.definitions.now) rows in
    let described = is_described (map view (reverse c.args.scratch.now.stack.items)) in
    let label = content_codes c.args.label.now in
    let normal = c.as_str-label.result.now in
    let out = output_view c.args.out.now in
    let normalized : normal ≡ normal_label label =
    c.as_str-label.ensures.value ∙ c.in_ok-normalize_label.ensures ∙ ap (λ (s : List ℕ). normal_label (content_codes s)) c.as_bytes.ensures.value in
    let found : first_match label footnotes ≡ c.find_normal.result =
    ap (λ (n : List ℕ). place_of n (map normal_label footnotes)) (sym normalized) ∙ sym (c.find_normal.ensures footnotes held) in
    let h : described ≡ true =
    ap (λ (s : List OpenPart). is_described (map view (reverse s))) (sym c.as_slice.ensures.value)
    ∙ sym (c.is_described.ensures meaning (place_target p.definitions.now) rows)
    ∙ c.if-is_described.true in
    on_ok_weaker c.count.result (λ (e : output_view c.count.new.self ≡ lay p.compile.now [] out (CountOf c.in-Some.place normal)).
    e ∙ counted meaning described label out c.in-Some.place normal h normalized (found ∙ c.in-Some.is))
    (c.count.ensures p.compile.now [])

pub returns-else-is_described-clause-laid : goal.returns-else-is_described-clause-laid
returns-else-is_described-clause-laid g c = λ definition footnotes rows held.
    let p = c.args.printing.now in
    let meaning = meaning_by (g.T.Tables.reference_of p.tables.now) p definition footnotes in
    let view = opened_view meaning (place_target p.definitions.now) rows in
    let described = is_described (map view (reverse c.args.scratch.now.stack.items)) in
    let label = content_codes c.args.label.now in
    let normal = c.as_str-label.result.now in
    let out = output_view c.args.out.now in
    let normalized : normal ≡ normal_label label =
    c.as_str-label.ensures.value ∙ c.in_ok-normalize_label.ensures ∙ ap (λ (s : List ℕ). normal_label (content_codes s)) c.as_bytes.ensures.value in
    let found : first_match label footnotes ≡ c.find_normal.result =
    ap (λ (n : List ℕ). place_of n (map normal_label footnotes)) (sym normalized) ∙ sym (c.find_normal.ensures footnotes held) in
    let h : described ≡ false =
    ap (λ (s : List OpenPart). is_described (map view (reverse s))) (sym c.as_slice.ensures.value)
    ∙ sym (c.is_described.ensures meaning (place_target p.definitions.now) rows)
    ∙ c.if-is_described.false in
    on_ok_weaker c.call.result (λ (e : output_view c.call.new.self ≡ lay p.compile.now [] out (CallOf c.in-Some.place normal)).
    e ∙ called meaning described label out c.in-Some.place normal h normalized (found ∙ c.in-Some.is))
    (c.call.ensures [])
