use Rattle.std.proofs.Common.{ap, ◌∙◌}
use Rattle.html_contents.proofs.Prelude.{content_view, context_of, document, found_rows, inlines, inlines_from, linked_at, linked_by, place_target, reading_of}
use Rattle.html_contents.proofs.Prelude.{rows_view, text_tables}
use Rattle.inline_rows.specs.InlineRows.{inline_rows}
use Rattle.definition_inline.specs.Targets.{leads_to}
use Rattle.html_contents.proofs.Places.{same_place, same_rows}
use Rattle.html_contents.proofs.texts.Texts.count_content.Goals as goal

pub returns : goal.returns
returns g c = λ ds known default.
    let texts = c.args.self.now in
    let is_punctuation = g.T.Tables.punctuation_of texts.tables.now in
    let d = document texts.options.now (text_tables (g.T.Tables.reference_of texts.tables.now) is_punctuation) ds in
    c.count_rows.ensures (linked_by ds.definitions) ds.footnotes default (inlines (context_of (reading_of d)) (content_view is_punctuation c.args.content))
    known.has_labels.noted
    (ap (rows_view (place_target texts.links.now)) c.as_slice.ensures
    ∙ same_rows (place_target texts.links.now) (linked_at ds.definitions) (same_place texts.links.now ds.definitions known.leads)
    (found_rows c.in_ok-found.found)
    ∙ c.in_ok-found.ensures ds known.has_labels
    ∙ ap (λ v. inline_rows (leads_to (linked_by ds.definitions)) (inlines_from (context_of (reading_of d)) v)) (c.content_start.ensures.view is_punctuation))
