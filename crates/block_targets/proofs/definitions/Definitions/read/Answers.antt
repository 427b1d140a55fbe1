use Rattle.std.proofs.Common.{◌≡◌, ◌++◌, ◌∷◌, [], sym, ap, ap₂, ◌∙◌, arith, length, subst}
use Rattle.block_targets.proofs.Prelude.{alone, content_codes, Definition, definition_at, map}
use Rattle.std.proofs.lemmas.List.{length-map, map-append}
use Rattle.definition_inline.specs.Targets.{labels_of}
use Rattle.inline_labels.specs.Table.{HasLabels}
use Rattle.inline_links.specs.View.{link_texts_view}
use Rattle.block_targets.specs.Read.{leads, read_of}
use Rattle.block_targets.proofs.definitions.Definitions.read.Goals as goal

pub returns : goal.returns
returns g c = λ ds h.
    let d : Definition = alone (definition_at (content_codes c.args.content.now)) in
    let is : read_of c.read_definition-definition.result ≡ d = c.read_definition-definition.ensures in
    let links = c.args.self.now.links.items in
    let size : length links ≡ length (labels_of ds) =
    sym (length-map links link_texts_view) ∙ ap length h.each ∙ length-map ds leads ∙ sym (length-map ds (λ (d : Definition). d.label)) in
    record {
      has_labels =
          subst (HasLabels c.insert.new.self)
          (ap (λ (x : Definition). labels_of ds ++ x.label ∷ []) is ∙ sym (map-append (λ (d : Definition). d.label) ds (d ∷ [])))
          (c.in_ok-insert.ensures.added (labels_of ds) h.has_labels (omega (arith, c.len.ensures, c.args.self.now.links.ok.0, size)));
      each =
          ap (map link_texts_view) c.in_ok-push.ensures.items
          ∙ map-append link_texts_view links _
          ∙ ap₂ (λ xs x. xs ++ leads x ∷ []) h.each is
          ∙ sym (map-append leads ds (d ∷ []));
    }
