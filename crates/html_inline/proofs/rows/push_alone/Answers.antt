use Rattle.std.proofs.Common.{[], ◌∷◌, sym, ap, ◌∙◌}
use Rattle.html_inline.proofs.Prelude.{append-nil, data_rows, InlineRow, lines_rows, meaning_by, place_target, rows_view}
use Rattle.html_inline.proofs.rows.push_alone.Goals as goal

pub returns-in-Text : goal.returns-in-Text
returns-in-Text g c = λ definition footnotes default is held same.
    let p = c.args.printing.now in
    let meaning = meaning_by (g.T.Tables.reference_of p.tables.now) p definition footnotes in
    c.push_plain.ensures meaning default p.cell is
    (sym (append-nil (data_rows c.in-Text.text.now))
    ∙ ap (λ (r : InlineRow). rows_view (place_target p.definitions.now) (r ∷ [])) (sym c.in-Text.is) ∙ same)

pub returns-in-Verbatim : goal.returns-in-Verbatim
returns-in-Verbatim g c = λ definition footnotes default is held same.
    let p = c.args.printing.now in
    let meaning = meaning_by (g.T.Tables.reference_of p.tables.now) p definition footnotes in
    c.push_verbatim.ensures meaning default p.cell is
    (sym (append-nil (lines_rows c.in-Verbatim.verbatim.text.now))
    ∙ ap (λ (r : InlineRow). rows_view (place_target p.definitions.now) (r ∷ [])) (sym c.in-Verbatim.is) ∙ same)
