use Rattle.std.proofs.Common.{◌≡◌, OnOk, ◌++◌, ap, subst, ◌∙◌}
use Rattle.html_contents.proofs.Prelude.{content_view, context_of, document, fold, found_rows, inlines, inlines_from, lay, linked_at, linked_by, output_view}
use Rattle.html_contents.proofs.Prelude.{place_target, reading_of, rows_view, structure_pieces, text_tables}
use Rattle.definition_inline.specs.Targets.{leads_to}
use Rattle.definition_page.specs.HeadingText.{heading_text}
use Rattle.definition_page.specs.Tags.{bare_tag}
use Rattle.html_bytes.specs.Pieces.{Named}
use Rattle.inline_rows.specs.InlineRows.{inline_rows}
use Rattle.html_contents.proofs.Places.{same_place, same_rows}
use Rattle.html_contents.proofs.texts.Texts.push_named.Goals as goal

pub returns : goal.returns
returns g c = λ ds known default.
    let texts = c.args.self.now in
    let is_punctuation = g.T.Tables.punctuation_of texts.tables.now in
    let d = document texts.options.now (text_tables (g.T.Tables.reference_of texts.tables.now) is_punctuation) ds in
    let structure = inlines (context_of (reading_of d)) (content_view is_punctuation c.args.content) in
    let at = place_target texts.links.now in
    let found =
    same_rows at (linked_at ds.definitions) (same_place texts.links.now ds.definitions known.leads) (found_rows c.in_ok-found.found)
    ∙ c.in_ok-found.ensures ds known.has_labels
    ∙ ap (λ v. inline_rows (leads_to (linked_by ds.definitions)) (inlines_from (context_of (reading_of d)) v)) (c.content_start.ensures.view is_punctuation) in
    let says : c.as_str.result.now ≡ heading_text structure =
    c.as_str.ensures.value
    ∙ c.in_ok-push_heading_text.ensures at (leads_to (linked_by ds.definitions)) structure (ap (rows_view at) c.as_slice.ensures ∙ found)
    ∙ ap (λ s. s ++ heading_text structure) c.clear.ensures.bytes in
    let tag = bare_tag c.args.name.now in
    let started =
    c.in_ok-start_heading.ensures default
    ∙ ap (λ t. lay texts.options.now.compile default (output_view c.args.out.now) (Named tag t)) says in
    subst (λ l. OnOk c.push_rows.result (output_view c.push_rows.new.out ≡ fold (lay texts.options.now.compile default) l (structure_pieces d structure)))
    started
    (c.push_rows.ensures (linked_by ds.definitions) ds.footnotes default structure known.has_labels.noted
    (ap (rows_view at) c.as_slice-2.ensures ∙ found))
