use Rattle.std.proofs.Common.{sym, ap, ◌∙◌}
use Rattle.html_contents.proofs.Prelude.{context_of, document, found_rows, inlines_from, linked_at, linked_by, place_target, reading_of, rows_view}
use Rattle.html_contents.proofs.Prelude.{text_tables, view_at}
use Rattle.html_contents.proofs.Places.{same_place, same_rows}
use Rattle.html_contents.proofs.texts.Texts.push_from.Goals as goal

pub returns-in-Alone : goal.returns-in-Alone
returns-in-Alone g c = λ ds known default.
    let texts = c.args.self.now in
    let is_punctuation = g.T.Tables.punctuation_of texts.tables.now in
    let d = document texts.options.now (text_tables (g.T.Tables.reference_of texts.tables.now) is_punctuation) ds in
    let at = place_target texts.links.now in
    c.push_alone.ensures (linked_by ds.definitions) ds.footnotes default (inlines_from (context_of (reading_of d)) (view_at is_punctuation c.args.content c.args.start.now))
    known.has_labels.noted
    (ap (rows_view at) (ap found_rows (sym c.in-Alone.is))
    ∙ same_rows at (linked_at ds.definitions) (same_place texts.links.now ds.definitions known.leads) (found_rows c.in_ok-found.found)
    ∙ c.in_ok-found.ensures ds known.has_labels)

pub returns : goal.returns
returns g c = λ ds known default.
    let texts = c.args.self.now in
    let is_punctuation = g.T.Tables.punctuation_of texts.tables.now in
    let d = document texts.options.now (text_tables (g.T.Tables.reference_of texts.tables.now) is_punctuation) ds in
    let at = place_target texts.links.now in
    c.push_rows.ensures (linked_by ds.definitions) ds.footnotes default (inlines_from (context_of (reading_of d)) (view_at is_punctuation c.args.content c.args.start.now))
    known.has_labels.noted
    (ap (rows_view at) c.as_slice.ensures
    ∙ same_rows at (linked_at ds.definitions) (same_place texts.links.now ds.definitions known.leads) (found_rows c.in_ok-found.found)
    ∙ c.in_ok-found.ensures ds known.has_labels)
