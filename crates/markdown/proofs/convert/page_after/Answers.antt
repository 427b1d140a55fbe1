use Rattle.std.proofs.Common.{◌≡◌, List, [], ap, sym, ◌∙◌, refl, subst, ℕ, ◌<◌, get_or, arith}
use Rattle.std.proofs.lemmas.Result.{IfOk-weaker}
use Rattle.markdown_options.specs.declared.line_ending.LineEnding.{LineEnding}
use Rattle.markdown_options.specs.LineEndings.{ending_bytes}
use Rattle.markdown_compile_options.specs.declared.configuration.Options.{Options}
use Rattle.block_rows.specs.declared.row.Row.{Row}
use Rattle.text_pieces.specs.declared.piece.Piece.{Piece}
use Rattle.html_bytes.specs.Document.{document}
use Rattle.html_bytes.specs.Layout.{page_layout}
use Rattle.html_bytes.specs.Html.{document_bytes, blocks_html}
use Rattle.definition_block.specs.Definitions.{document_targets}
use Rattle.markdown_options.specs.declared.beside.Kind.{Kind}
use Rattle.markdown_options.specs.declared.configuration.Constructs.{Constructs}
use Rattle.definition_block.specs.Tree.{Blocks, blocks}
use Rattle.block_rows.specs.Rows.{RowsValue, rows_value, value_with, rows_of}
use Rattle.text_pieces.specs.Pieces.{piece_lines}
use Rattle.std.specs.Prelude.{map, string_bytes}
use Rattle.inline_links.specs.View.{link_texts_view}
use Rattle.inline_links.specs.declared.text.LinkTexts.{LinkTexts}
use Rattle.markdown_definition.specs.TextTables.{TextTables, text_tables}
use Rattle.html_contents.specs.Texts.{KnowsTargets}
use Rattle.html_looseness.specs.Printable.{ArePrintable}
use Rattle.html_rows.proofs.RowsOf.{printable_rows_of}
use Rattle.html_rows.proofs.Printable.{blocks_printable}
use Rattle.laws_endings.proofs.NoFootnotes.{no_footnotes}
use Rattle.markdown.proofs.FootnoteLabels.{bare_rows}
use Rattle.markdown.proofs.convert.page_after.Goals as goal

-- rows and pieces that were lent are those that were read
read_again : (on : Constructs) (before : Kind) (text : List ℕ) (rows : List Row) (pieces : List Piece)
    → rows_value rows (piece_lines pieces) ≡ value_with (rows_of (blocks on before text)) [] → (lent : List Row) (lent_pieces : List Piece)
    → lent ≡ rows → lent_pieces ≡ pieces → (rows_value lent (piece_lines lent_pieces)).rows ≡ rows_of (blocks on before text)
read_again on before text rows pieces is lent lent_pieces same same_pieces =
    ap (λ (s : RowsValue). s.rows)
    (ap (λ (rs : List Row). rows_value rs (piece_lines lent_pieces)) same ∙ ap (λ (ps : List Piece). rows_value rows (piece_lines ps)) same_pieces ∙ is)

pub print_rows-requires-clause-printable : goal.print_rows-requires-clause-printable
print_rows-requires-clause-printable g c =
    let on = c.args.options.now.parse.constructs in
    let before = c.args.before in
    let text = c.args.text.now in
    let bytes : (k : ℕ) → get_or text k 0 < 256 = λ k. omega (arith, c.type_inv.text k) in
    let rows = ap (λ (s : RowsValue). s.rows) c.in_ok-blocks.ensures.rows in
    subst ArePrintable (sym rows) (printable_rows_of (blocks on before text) (blocks_printable on before text bytes))

-- the page of blocks, by an ending that is another's
page_of_blocks : (tables : TextTables) (options : Options) (ending other : LineEnding) (bs : Blocks) (page : List ℕ) → ending ≡ other
    → page ≡ page_layout options.compile (ending_bytes ending) (document_bytes (document options tables (document_targets bs)) bs)
    → page ≡ blocks_html tables options other bs
page_of_blocks tables options ending other bs page is printed =
    printed
    ∙ ap (λ (e : LineEnding). page_layout options.compile (ending_bytes e) (document_bytes (document options tables (document_targets bs)) bs)) is

pub returns : goal.returns
returns g c =
    let options = c.args.options.now in
    let on = options.parse.constructs in
    let before = c.args.before in
    let text = c.args.text.now in
    let bytes : (k : ℕ) → get_or text k 0 < 256 = λ k. omega (arith, c.type_inv.text k) in
    let tables = text_tables (g.T.Tables.reference_of c.args.tables.now) (g.T.Tables.punctuation_of c.args.tables.now) in
    let bs = blocks on before text in
    let ds = document_targets bs in
    let ending = c.default_ending-ending.ensures options refl in
    let printable = blocks_printable on before text bytes in
    let read = read_again on before text c.in_ok-blocks.blocks.rows.items c.in_ok-blocks.blocks.pieces.items c.in_ok-blocks.ensures.rows in
    let links = read c.deref.result.now c.deref-2.result.now c.deref.ensures.value c.deref-2.ensures.value in
    let notes = read c.deref-3.result.now c.deref-4.result.now c.deref-3.ensures.value c.deref-4.ensures.value in
    let rows = ap (λ (s : RowsValue). s.rows) c.in_ok-blocks.ensures.rows in
    let contents = c.in_ok-contents.ensures bs links in
    let noted = c.in_ok-footnotes.ensures bs notes (bare_rows (rows_of bs) (printable_rows_of bs printable)) (no_footnotes on before text) in
    let knows : KnowsTargets _ ds = record {
      has_labels = record { defined = (c.in_ok-definitions.ensures ds.definitions contents).has_labels; noted = noted.ended.has_labels };
      leads = ap (λ (ls : List LinkTexts). map link_texts_view ls) c.deref-5.ensures.value ∙ (c.in_ok-definitions.ensures ds.definitions contents).each;
    } in
    IfOk-weaker c.print_rows.result _ _
    (λ page printed. page_of_blocks tables options _ _ bs (string_bytes page) ending printed)
    (c.print_rows.ensures ds knows bs rows printable)
