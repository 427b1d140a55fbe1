use Rattle.std.proofs.Common.{◌≡◌, ◌∙◌, Bool, false, List, [], sym, ap, subst}
use Rattle.definition_inline.specs.Definition.{Definition}
use Rattle.definition_inline.specs.Targets.{leads_to, linked_at, linked_by}
use Rattle.engine_events.specs.declared.event.Event.{Event}
use Rattle.event_grammar.specs.InGrammar.{PlacesFit}
use Rattle.event_meaning.specs.Texts.{inlines_of}
use Rattle.inline_rows.specs.InlineRows.{inline_rows}
use Rattle.inline_rows.specs.View.{rows_view}
use Rattle.markdown_outline.proofs.said.push_said.Goals as goal

pub returns-clause-said : goal.returns-clause-said
returns-clause-said g c = λ kids linked labels sound events.
    let names = g.T.Tables.reference_of c.args.texts.now.tables.now in
    let bytes = c.args.texts.now.bytes.now in
    let none : List Definition = [] in
    let leads = leads_to (linked_by none) in
    let at = linked_at none in
    let spot = sound.places.0 in
    let places = subst (λ (es : List Event). PlacesFit bytes spot es) (sym events) sound.places.1 in
    let spelled = c.in_ok-strings.ensures.spelled none spot labels places in
    let rows : rows_view at c.deref.result.now ≡ inline_rows leads (inlines_of names bytes false kids) =
    ap (rows_view at) c.deref.ensures.value
    ∙ c.in_ok-rows.ensures.structure leads at kids events sound.nodes sound.texts sound.endings spelled
    ∙ ap (λ (in_link : Bool). inline_rows leads (inlines_of names bytes in_link kids)) linked in
    c.push_heading_lines.ensures at leads (inlines_of names bytes false kids) rows
