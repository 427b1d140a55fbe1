use Rattle.std.proofs.Common.{◌≡◌, sym, ap, ◌∙◌, codes, subst}
use Rattle.compile_raw.proofs.Prelude.{attribute_bytes, child, ending_bytes, flat_map, info_attributes, info_of, LayoutState, OnOk, page_view, with_bytes}
use Rattle.engine_events.specs.declared.event.Name.TheVariants as n
use Rattle.compile_raw.proofs.FencedLaid.{tags_laid}
use Rattle.compile_raw.proofs.code_fenced.push_code_tags.Goals as goal

pub returns-clause-printed : goal.returns-clause-printed
returns-clause-printed g c = λ ns are e.
    let page = c.args.page.now in
    let info = info_of (g.T.Tables.reference_of c.args.tables.now) c.args.bytes.now (child n.CodeFencedFenceInfo ns) in
    let attributes = flat_map attribute_bytes (info_attributes info) in
    subst (λ (x : LayoutState). OnOk c.say.result (page_view c.say.new.self ≡ x))
    (ap (with_bytes (codes ">")) (c.in_ok-push_info.ensures.printed ns are e ∙ ap (with_bytes attributes) c.in_ok-fresh_tag.ensures.printed)
    ∙ tags_laid (ending_bytes page.default_ending) info (page_view page))
    c.say.ensures.printed
