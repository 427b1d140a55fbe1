use Rattle.std.proofs.Common.{◌≡◌, ◌++◌, ℕ, List, [], Option, Some, sym, ap, ◌∙◌, subst}
use Rattle.compile_raw.proofs.Prelude.{append-nil, attribute_bytes, flat_map, info_attributes, info_of, kids_of, Node, OnOk, page_view, with_bytes}
use Rattle.engine_events.specs.declared.event.Name.TheVariants as n
use Rattle.event_meaning.specs.Strings.{string_of}
use Rattle.compile_written.specs.Within.{AreWithin}
use Rattle.compile_raw.proofs.Pieces.{inside_read}
use Rattle.compile_raw.proofs.Sound.{child_sound}
use Rattle.compile_raw.proofs.code_fenced.push_info.Goals as goal

pub returns-in_ok-push_string-in-Some-clause-printed : goal.returns-in_ok-push_string-in-Some-clause-printed
returns-in_ok-push_string-in-Some-clause-printed g c = λ ns are e.
    let page = page_view c.args.page.now in
    let names = g.T.Tables.reference_of c.args.tables.now in
    let bytes = c.args.bytes.now in
    let f = c.in-Some.ensures.nodes ns are.nodes e in
    let kids = kids_of f.node in
    let sound = child_sound bytes n.CodeFencedFenceInfo ns f.node f.named are in
    let within : AreWithin kids c.in-Some.info.node.inside.now =
    record { nodes = sound.nodes; back = []; ends = tt; events_are = inside_read c.in-Some.info.node f.node f.reads ∙ sym (append-nil _) } in
    let text : c.as_str.result.now ≡ string_of names bytes kids =
    c.as_str.ensures.value
    ∙ c.in_ok-push_string-in-Some.ensures.spelled kids within sound.texts
    ∙ ap (λ (x : List ℕ). x ++ string_of names bytes kids) c.clear.ensures.bytes in
    let prints = λ (o : Option (List ℕ)). with_bytes (flat_map attribute_bytes (info_attributes o)) page in
    subst (λ (o : Option Node). OnOk c.push_class.result (page_view c.push_class.new.page ≡ prints (info_of names bytes o))) (sym f.named)
    (subst (λ (x : List ℕ). OnOk c.push_class.result (page_view c.push_class.new.page ≡ prints (Some x))) text c.push_class.ensures.printed)
