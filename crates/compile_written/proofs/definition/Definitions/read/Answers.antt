use Rattle.std.proofs.Common.{◌≡◌, ◌++◌, ◌∷◌, [], ℕ, List, sym, ap, ap₂, ◌∙◌, arith, length, subst}
use Rattle.compile_written.proofs.Prelude.{content_codes, Definition, definition_after, Event, HasLabels, label_string, map, map-append, target_view}
use Rattle.std.proofs.lemmas.List.{length-map}
use Rattle.definition_inline.specs.Inline.{LinkTexts}
use Rattle.definition_inline.specs.Targets.{labels_of}
use Rattle.event_references.specs.Views.{text_first, text_at}
use Rattle.compile_written.specs.Definition.{leads}
use Rattle.compile_written.proofs.definition.Definitions.read.Goals as goal

pub returns : goal.returns
returns g c = λ ds h.
    let names = g.T.Tables.reference_of c.args.tables.now in
    let bytes = c.args.bytes.now in
    let events = c.args.events.now in
    let d : Definition = definition_after names bytes events in
    let targets = c.args.self.now.targets.items in
    let label_is : c.deref.result.now ≡ text_first bytes (label_string events) =
    c.deref.ensures.value
    ∙ c.in_ok-push_text_at.ensures
    ∙ ap (λ (x : List ℕ). x ++ text_at bytes c.label_string.result.now 0) c.clear.ensures.items
    ∙ ap (λ (z : List Event). text_first bytes z) c.label_string.ensures in
    let size : length targets ≡ length (labels_of ds) =
    sym (length-map targets target_view) ∙ ap length h.each ∙ length-map ds leads ∙ sym (length-map ds (λ (d : Definition). d.label)) in
    record {
      has_labels =
          subst (HasLabels c.insert.new.self)
          (ap (λ (x : List ℕ). labels_of ds ++ content_codes x ∷ []) label_is ∙ sym (map-append (λ (d : Definition). d.label) ds (d ∷ [])))
          (c.in_ok-insert.ensures.added (labels_of ds) h.has_labels (omega (arith, c.len.ensures, c.args.self.now.targets.ok.0, size)));
      each =
          ap (map target_view) c.in_ok-push.ensures.items
          ∙ map-append target_view targets _
          ∙ ap₂ (λ (xs : List LinkTexts) (x : LinkTexts). xs ++ x ∷ []) h.each c.in_ok-target.ensures
          ∙ sym (map-append leads ds (d ∷ []));
    }
