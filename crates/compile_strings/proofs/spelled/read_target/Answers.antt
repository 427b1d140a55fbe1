use Rattle.std.proofs.Common.{◌∙◌, sym, subst, string_bytes}
use Rattle.std.specs.Prelude.{IfOk}
use Rattle.compile_strings.proofs.Prelude.{IsTarget, label_place, labels_of, leads_to, linked_at, linked_by, Spelled, spelled_by, SpelledTarget}
use Rattle.compile_strings.proofs.SpelledLaw.{label_text, call_made, resource_made, reference_target}
use Rattle.compile_strings.proofs.spelled.read_target.Goals as goal

pub returns-then-is_call : goal.returns-then-is_call
returns-then-is_call g c = λ ds at inside labels fits held.
    let names = g.T.Tables.reference_of c.args.texts.now.tables.now in
    let bytes = c.args.texts.now.bytes.now in
    let events = c.args.events.now in
    subst
    (λ (z : Spelled). IfOk c.read_call.result
    (λ (target : SpelledTarget). IsTarget (linked_at ds) (string_bytes c.args.text.now) (string_bytes c.read_call.new.text) target z))
    (sym (call_made bytes events inside c.args.held held names ds c.args.name (sym c.is_call.ensures ∙ c.if-is_call.true)))
    (c.read_call.ensures (linked_at ds) (label_text bytes events at (label_place c.args.held) fits))

pub returns-then-held : goal.returns-then-held
returns-then-held g c = λ ds at inside labels fits held.
    let names = g.T.Tables.reference_of c.args.texts.now.tables.now in
    let bytes = c.args.texts.now.bytes.now in
    let events = c.args.events.now in
    subst
    (λ (z : Spelled). IfOk c.read_resource.result
    (λ (target : SpelledTarget). IsTarget (linked_at ds) (string_bytes c.args.text.now) (string_bytes c.read_resource.new.text) target z))
    (sym (resource_made bytes events inside c.args.held held names ds c.args.name (sym c.is_call.ensures ∙ c.if-is_call.false) c.if-held.true))
    (c.read_resource.ensures (linked_at ds) inside held)

pub returns : goal.returns
returns g c = λ ds at inside labels fits held.
    let names = g.T.Tables.reference_of c.args.texts.now.tables.now in
    let bytes = c.args.texts.now.bytes.now in
    let events = c.args.events.now in
    let text = string_bytes c.args.text.now in
    subst (λ (z : SpelledTarget). IsTarget (linked_at ds) text text z (spelled_by names bytes (leads_to (linked_by ds)) c.args.name inside))
    (sym (c.in_ok-target.ensures (labels_of ds) labels))
    (reference_target bytes events inside c.args.held held names ds c.args.name text (sym c.is_call.ensures ∙ c.if-is_call.false) c.if-held.false)
