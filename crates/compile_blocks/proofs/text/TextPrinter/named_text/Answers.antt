use Rattle.std.proofs.Common.{◌≡◌, ◌∙◌, ◌∷◌, ℕ, Bool, false, List, sym, ap, subst}
use Rattle.compile_blocks.proofs.Prelude.{AreCounted, AreTexts, ending_bytes, Event, fold, HasLabels, HaveEndings, in_bytes, inline_pieces, inline_rows}
use Rattle.compile_blocks.proofs.Prelude.{inlines_of, labels_of, lay, leads_to, linked_at, linked_by, Meaning, meaning_by, Names, OnOk, output_view}
use Rattle.compile_blocks.proofs.Prelude.{bare_tag, parts_in_cell, Piece, place_target, PlacesFit, rows_view}
use Rattle.definition_page.specs.BlockPieces.{heading_name}
use Rattle.definition_page.specs.HeadingText.{heading_text}
use Rattle.definition_page.specs.Pieces.{Named}
use Rattle.compile_blocks.proofs.TextLaid.{places_law, meaning_law}
use Rattle.compile_blocks.proofs.text.TextPrinter.named_text.Goals as goal

pub read-requires : goal.read-requires
read-requires g c = subst (λ (bs : List ℕ). AreCounted bs c.args.columns.now) (sym c.texts-texts.ensures.bytes) c.requires.counted

pub returns-in_err-strings-clause-counted : goal.returns-in_err-strings-clause-counted
returns-in_err-strings-clause-counted g c = subst (λ (bs : List ℕ). AreCounted bs c.read.new.columns) c.texts-texts.ensures.bytes c.read.ensures.counted

pub returns-in_err-clone-2-clause-counted : goal.returns-in_err-clone-2-clause-counted
returns-in_err-clone-2-clause-counted g c = subst (λ (bs : List ℕ). AreCounted bs c.read.new.columns) c.texts-texts.ensures.bytes c.read.ensures.counted

pub returns-in_err-rows-clause-counted : goal.returns-in_err-rows-clause-counted
returns-in_err-rows-clause-counted g c = subst (λ (bs : List ℕ). AreCounted bs c.read.new.columns) c.texts-texts.ensures.bytes c.read.ensures.counted

pub returns-clause-counted : goal.returns-clause-counted
returns-clause-counted g c = subst (λ (bs : List ℕ). AreCounted bs c.read.new.columns) c.texts-texts.ensures.bytes c.read.ensures.counted

pub returns-clause-printed : goal.returns-clause-printed
returns-clause-printed g c = λ m ds kids meant events sound.
    let source = c.args.source.now in
    let names = g.T.Tables.reference_of source.tables.now in
    let bytes = source.checked.bytes.now in
    let page = c.args.page.now in
    let default = ending_bytes page.default_ending in
    let is = inlines_of names bytes false kids in
    let start : Piece = Named (bare_tag (heading_name c.args.rank)) (heading_text is) in
    let texts = c.texts-texts.result in
    let same = sym c.texts-texts.ensures.bytes in
    let definition = linked_by ds in
    let labels = subst (λ table. HasLabels table (labels_of ds)) (sym c.texts-texts.ensures.definitions) meant.labels in
    let at = sound.places.0 in
    let places =
    subst (λ (bs : List ℕ). PlacesFit bs at c.args.events.now) same (subst (λ (es : List Event). PlacesFit bytes at es) (sym events) sound.places.1) in
    let spelled = c.in_ok-strings.ensures.spelled ds at labels places in
    let read : inlines_of (g.T.Tables.reference_of texts.tables.now) texts.bytes.now texts.linked kids ≡ is =
    ap (λ (n : Names). inlines_of n texts.bytes.now texts.linked kids) (ap g.T.Tables.reference_of c.texts-texts.ensures.tables)
    ∙ ap (λ (bs : List ℕ). inlines_of names bs texts.linked kids) c.texts-texts.ensures.bytes
    ∙ ap (λ (linked : Bool). inlines_of names bytes linked kids) c.texts-texts.ensures.linked in
    let rows : rows_view (place_target c.printing.result.definitions.now) c.deref.result.now ≡ inline_rows (leads_to definition) is =
    ap (λ at. rows_view at c.deref.result.now) (ap place_target c.printing.ensures.definitions ∙ places_law source.links.now ds meant.links)
    ∙ ap (rows_view (linked_at ds)) c.deref.ensures.value
    ∙ c.in_ok-rows.ensures.structure (leads_to definition) (linked_at ds) kids events sound.nodes
    (subst (λ (bs : List ℕ). AreTexts bs kids) same sound.texts) (subst (λ (bs : List ℕ). HaveEndings bs kids) same sound.endings) spelled
    ∙ ap (inline_rows (leads_to definition)) read in
    let footnotes = subst (λ table. HasLabels table m.footnotes) (sym c.printing.ensures.footnotes) meant.footnotes in
    let told = g.T.Tables.reference_of c.printing.result.tables.now in
    let law =
    meaning_law names source ds m c.printing.result told meant c.printing.ensures.on c.printing.ensures.compile
    (ap g.T.Tables.reference_of c.printing.ensures.tables) in
    let P : Meaning → Bool → Type 0 =
    λ x cell. OnOk c.push_named_rows.result (output_view c.push_named_rows.new.page.out
    ≡ fold (lay x.compile default) (output_view page.out) (in_bytes (start ∷ inline_pieces x (parts_in_cell cell is)))) in
    subst (λ x. P x false) law
    (subst (P (meaning_by told c.printing.result definition m.footnotes)) c.printing.ensures.cell
    (c.push_named_rows.ensures.printed definition m.footnotes is footnotes rows))
