use Rattle.std.proofs.Common.{◌≡◌, ◌∙◌, ◌∷◌, [], ℕ, Bool, false, List, sym, ap, subst}
use Rattle.compile_blocks.proofs.Prelude.{AreTexts, ending_bytes, fold, HasLabels, HaveEndings, in_bytes, inline_pieces, inline_rows, inlines_of}
use Rattle.compile_blocks.proofs.Prelude.{lay, leads_to, linked_at, linked_by, Meaning, meaning_by, OnOk, output_view, parts_in_cell, place_target, rows_view}
use Rattle.compile_blocks.proofs.TextLaid.{places_law, meaning_law}
use Rattle.compile_blocks.proofs.text.TextPrinter.text.Goals as goal

pub returns-in-Some-clause-printed : goal.returns-in-Some-clause-printed
returns-in-Some-clause-printed g c = λ m ds kids meant events sound.
    let source = c.args.source.now in
    let names = g.T.Tables.reference_of source.tables.now in
    let bytes = source.checked.bytes.now in
    let page = c.args.page.now in
    let default = ending_bytes page.default_ending in
    let is = inlines_of names bytes false kids in
    let same = sym c.bytes.ensures in
    let definition = linked_by ds in
    let rows : rows_view (place_target c.printing.result.definitions.now) (c.in-Some.row ∷ []) ≡ inline_rows (leads_to definition) is =
    ap (λ at. rows_view at (c.in-Some.row ∷ [])) (ap place_target c.printing.ensures.definitions ∙ places_law source.links.now ds meant.links)
    ∙ c.in-Some.ensures.structure names (leads_to definition) (linked_at ds) false kids events sound.nodes
    (subst (λ (bs : List ℕ). AreTexts bs kids) same sound.texts) (subst (λ (bs : List ℕ). HaveEndings bs kids) same sound.endings)
    ∙ ap (λ (bs : List ℕ). inline_rows (leads_to definition) (inlines_of names bs false kids)) (sym same) in
    let footnotes = subst (λ table. HasLabels table m.footnotes) (sym c.printing.ensures.footnotes) meant.footnotes in
    let told = g.T.Tables.reference_of c.printing.result.tables.now in
    let law =
    meaning_law names source ds m c.printing.result told meant c.printing.ensures.on c.printing.ensures.compile
    (ap g.T.Tables.reference_of c.printing.ensures.tables) in
    let P : Meaning → Bool → Type 0 =
    λ x cell. OnOk c.push_alone.result (output_view c.push_alone.new.out
    ≡ fold (lay x.compile default) (output_view page.out) (in_bytes (inline_pieces x (parts_in_cell cell is)))) in
    subst (λ x. P x c.args.cell) law
    (subst (P (meaning_by told c.printing.result definition m.footnotes)) c.printing.ensures.cell
    (c.push_alone.ensures definition m.footnotes default is footnotes rows))
