use Rattle.std.proofs.Common.{◌++◌, ◌∷◌, [], sym, ap, ◌∙◌, subst, take}
use Rattle.block_targets.proofs.Prelude.{alone, content_codes, definition_at, HasDefinitions, map, read_on, take_all}
use Rattle.std.proofs.lemmas.List.{map_more}
use Rattle.block_targets.proofs.definitions.document_definitions.Goals as goal

pub loop-text-preserved : goal.loop-text-preserved
loop-text-preserved g c =
    let items = c.deref-text-items.result.now in
    let i = c.loop-text.text-index in
    let so_far = map read_on (take i items) in
    subst (HasDefinitions c.read.new.self)
    (ap (λ x. so_far ++ alone (definition_at (content_codes x)) ∷ []) c.as_str.ensures.value
    ∙ ap (λ x. so_far ++ read_on x ∷ []) c.text-item.is
    ∙ sym (map_more read_on items i c.text-item.result c.loop-text-test.true))
    (c.in_ok-read.ensures so_far c.loop-text.invariant)

pub returns : goal.returns
returns g c = λ ds h.
    subst (HasDefinitions c.loop-text.found)
    (ap (map read_on) (take_all c.loop-text.text-index c.deref-text-items.result.now c.loop-text-test.false ∙ c.deref-text-items.ensures.value) ∙ h.each)
    c.loop-text.invariant
