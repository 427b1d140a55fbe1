use Rattle.std.proofs.Common.{arith, ℕ, ◌<◌, ◌+◌, ◌≤◌, ◌∙◌, ap, get_or, take, length, sym, subst, refl, List, true, false}
use Rattle.std.specs.List.{take-map}
use Rattle.std.proofs.lemmas.List.{length-map}
use Rattle.definition_text.specs.Columns.{bytes_of}
use Rattle.html_page.proofs.Prelude.{BlockLine, document_by, piece_line, piece_lines}
use Rattle.definition_text.specs.BlockLines.{own_lines}
use Rattle.definition_block.specs.Tree.{Paragraph, Heading, IndentedCode, Html, Table}
use Rattle.text_pieces.specs.ParagraphLines.{AreLines}
use Rattle.definition_page.specs.Read.{on_page}
use Rattle.html_bytes.specs.Html.{leaf_bytes}
use Rattle.text_pieces.specs.Pieces.{whole_lines}
use Rattle.html_looseness.specs.Levels.{standing_of, standing_first}
use Rattle.html_looseness.specs.Printable.{AreHeadingLines, AreClear, IsTable}
use Rattle.html_rows.proofs.Lines.{first_codes_of, first_line, with_ending, clear_with_ending, own_length}
use Rattle.html_leaves.proofs.Owed.{bytes_owed}
use Rattle.text_pieces.proofs.Pieces.{no_piece}
use Rattle.html_rows.proofs.CodeFencedLemmas.{HasInfo, clear_info, code_pieces, whole_code_pieces}
use Rattle.html_rows.proofs.RowPieces.{row_enough, row_printable, row_laid}
use Rattle.html_page.proofs.leaf_block.print_leaf_block.Goals as goal

pub returns-in-Paragraph-clause-printed : goal.returns-in-Paragraph-clause-printed
returns-in-Paragraph-clause-printed g c = λ ds has.
    let d = document_by g.T.Tables c.args.texts.now ds in
    let lines = c.args.lines.now in
    let front = take-map piece_line c.in-Paragraph.count lines in
    let clean : AreLines (piece_lines (take c.in-Paragraph.count lines)) =
    with_ending _ (subst (λ (ls : List BlockLine). AreLines (own_lines ls)) front (row_printable lines c.in-Paragraph.is c.requires.printable)) in
    row_laid lines c.in-Paragraph.is c.paragraph.result d c.args.leaves.now.page c.paragraph.new.self.page c.args.level
    (ap (λ (ls : List BlockLine). leaf_bytes d (standing_first c.args.level.first) c.args.level.tight (Paragraph (own_lines ls))) (sym front))
    (c.paragraph.ensures.printed ds has clean)

pub returns-in-WholeParagraph-clause-printed : goal.returns-in-WholeParagraph-clause-printed
returns-in-WholeParagraph-clause-printed g c = λ ds has.
    let d = document_by g.T.Tables c.args.texts.now ds in
    let lines = c.args.lines.now in
    let piece = get_or lines 0 no_piece in
    let some : 1 ≤ length lines = row_enough lines c.in-WholeParagraph.is c.requires.enough in
    let bytes : (k : ℕ) → get_or piece.text.now k 0 < 256 = c.whole_paragraph.ensures.bytes in
    row_laid lines c.in-WholeParagraph.is c.whole_paragraph.result d c.args.leaves.now.page c.whole_paragraph.new.self.page c.args.level
    (ap (λ (text : List ℕ). leaf_bytes d (standing_first c.args.level.first) c.args.level.tight (Paragraph (own_lines (whole_lines text))))
    (sym (ap bytes_of (first_codes_of lines no_piece some) ∙ bytes_owed piece.owed piece.text.now bytes)))
    (c.whole_paragraph.ensures.printed ds has)

pub returns-in-Heading-clause-printed : goal.returns-in-Heading-clause-printed
returns-in-Heading-clause-printed g c = λ ds has.
    let d = document_by g.T.Tables c.args.texts.now ds in
    let lines = c.args.lines.now in
    let fits : ((1 ≤ c.in-Heading.rank) × (c.in-Heading.rank ≤ 6)) × AreHeadingLines (own_lines (take 1 (piece_lines lines))) =
    row_printable lines c.in-Heading.is c.requires.printable in
    let front = first_line lines no_piece (row_enough lines c.in-Heading.is c.requires.enough) in
    row_laid lines c.in-Heading.is c.heading_atx.result d c.args.leaves.now.page c.heading_atx.new.self.page c.args.level
    (ap (λ (ls : List BlockLine). leaf_bytes d on_page false (Heading c.in-Heading.rank (own_lines ls))) (sym front))
    (c.heading_atx.ensures.printed ds has (subst (λ (ls : List BlockLine). AreHeadingLines (own_lines ls)) front fits.1))

pub returns-in-SetextHeading-clause-printed : goal.returns-in-SetextHeading-clause-printed
returns-in-SetextHeading-clause-printed g c = λ ds has.
    let d = document_by g.T.Tables c.args.texts.now ds in
    let lines = c.args.lines.now in
    let rank = c.in-SetextHeading.rank in
    let front = take-map piece_line c.in-SetextHeading.count lines in
    let fits : ((1 ≤ rank) × (rank ≤ 6)) × AreHeadingLines (own_lines (take c.in-SetextHeading.count (piece_lines lines))) =
    row_printable lines c.in-SetextHeading.is c.requires.printable in
    row_laid lines c.in-SetextHeading.is c.heading_setext.result d c.args.leaves.now.page c.heading_setext.new.self.page c.args.level
    (ap (λ (ls : List BlockLine). leaf_bytes d on_page false (Heading rank (own_lines ls))) (sym front))
    (c.heading_setext.ensures.printed ds has (subst (λ (ls : List BlockLine). AreHeadingLines (own_lines ls)) front fits.1))

pub returns-in-Break-clause-printed : goal.returns-in-Break-clause-printed
returns-in-Break-clause-printed g c = λ ds has.
    let d = document_by g.T.Tables c.args.texts.now ds in
    let lines = c.args.lines.now in
    row_laid lines c.in-Break.is c.thematic_break.result d c.args.leaves.now.page c.thematic_break.new.self c.args.level
    refl
    (c.thematic_break.ensures.printed d)

pub returns-in-Html-clause-printed : goal.returns-in-Html-clause-printed
returns-in-Html-clause-printed g c = λ ds has.
    let d = document_by g.T.Tables c.args.texts.now ds in
    let lines = c.args.lines.now in
    row_laid lines c.in-Html.is c.html_block.result d c.args.leaves.now.page c.html_block.new.self c.args.level
    (ap (λ (ls : List BlockLine). leaf_bytes d on_page false (Html (own_lines ls))) (sym (take-map piece_line c.in-Html.count lines)))
    (c.html_block.ensures.printed d refl)

pub table-requires : goal.table-requires
table-requires g c =
    let lines = c.args.lines.now in
    let count = c.in-Table.count in
    let fits : IsTable (own_lines (take count (piece_lines lines))) = row_printable lines c.in-Table.is c.requires.printable in
    omega (arith, fits.0, own_length (take count (piece_lines lines)), ap length (take-map piece_line count lines), length-map (take count lines) piece_line)

pub returns-in-Table-clause-printed : goal.returns-in-Table-clause-printed
returns-in-Table-clause-printed g c = λ ds has.
    let d = document_by g.T.Tables c.args.texts.now ds in
    let lines = c.args.lines.now in
    let front = take-map piece_line c.in-Table.count lines in
    let fits : IsTable (own_lines (take c.in-Table.count (piece_lines lines))) = row_printable lines c.in-Table.is c.requires.printable in
    let clean = clear_with_ending (piece_lines (take c.in-Table.count lines)) (subst (λ (ls : List BlockLine). AreClear (own_lines ls)) front fits.1) in
    row_laid lines c.in-Table.is c.table.result d c.args.leaves.now.page c.table.new.page c.args.level
    (ap (λ (ls : List BlockLine). leaf_bytes d on_page false (Table (own_lines ls))) (sym front))
    (c.table.ensures.printed ds has clean)

pub returns-in-IndentedCode-clause-printed : goal.returns-in-IndentedCode-clause-printed
returns-in-IndentedCode-clause-printed g c = λ ds has.
    let d = document_by g.T.Tables c.args.texts.now ds in
    let lines = c.args.lines.now in
    row_laid lines c.in-IndentedCode.is c.indented_code.result d c.args.leaves.now.page c.indented_code.new.self c.args.level
    (ap (λ (ls : List BlockLine). leaf_bytes d on_page false (IndentedCode (own_lines ls)))
    (sym (take-map piece_line c.in-IndentedCode.count lines)))
    (c.indented_code.ensures.printed d)

pub returns-in-FencedCode-clause-printed : goal.returns-in-FencedCode-clause-printed
returns-in-FencedCode-clause-printed g c = λ ds has.
    let d = document_by g.T.Tables c.args.texts.now ds in
    let lines = c.args.lines.now in
    let l = c.args.level in
    let count = c.in-FencedCode.count in
    let enough : 1 + count ≤ length lines = row_enough lines c.in-FencedCode.is c.requires.enough in
    let some : 0 < length lines = omega (arith, enough) in
    let info : HasInfo lines = row_printable lines c.in-FencedCode.is c.requires.printable in
    row_laid lines c.in-FencedCode.is c.fenced_code.result d c.args.leaves.now.page c.fenced_code.new.self.page c.args.level
    (code_pieces d c.is_document-top.result (standing_of l) l.tight true count lines c.is_document-top.ensures some info)
    (c.fenced_code.ensures.printed ds (clear_info lines some info))

pub returns-in-UnclosedCode-clause-printed : goal.returns-in-UnclosedCode-clause-printed
returns-in-UnclosedCode-clause-printed g c = λ ds has.
    let d = document_by g.T.Tables c.args.texts.now ds in
    let lines = c.args.lines.now in
    let l = c.args.level in
    let count = c.in-UnclosedCode.count in
    let enough : 1 + count ≤ length lines = row_enough lines c.in-UnclosedCode.is c.requires.enough in
    let some : 0 < length lines = omega (arith, enough) in
    let info : HasInfo lines = row_printable lines c.in-UnclosedCode.is c.requires.printable in
    row_laid lines c.in-UnclosedCode.is c.fenced_code-in-UnclosedCode.result d c.args.leaves.now.page c.fenced_code-in-UnclosedCode.new.self.page c.args.level
    (code_pieces d c.is_document-top.result (standing_of l) l.tight false count lines c.is_document-top.ensures some info)
    (c.fenced_code-in-UnclosedCode.ensures.printed ds (clear_info lines some info))

pub returns-in-WholeCode-clause-printed : goal.returns-in-WholeCode-clause-printed
returns-in-WholeCode-clause-printed g c = λ ds has.
    let d = document_by g.T.Tables c.args.texts.now ds in
    let lines = c.args.lines.now in
    let l = c.args.level in
    let enough : 2 ≤ length lines = row_enough lines c.in-WholeCode.is c.requires.enough in
    let info : HasInfo lines = row_printable lines c.in-WholeCode.is c.requires.printable in
    row_laid lines c.in-WholeCode.is c.whole_code.result d c.args.leaves.now.page c.whole_code.new.self.page c.args.level
    (whole_code_pieces d (standing_of l) l.tight lines enough info c.whole_code.ensures.bytes)
    (c.whole_code.ensures.printed ds (standing_of l).top (clear_info lines (omega (arith, enough)) info))

pub returns-in-Ending-clause-printed : goal.returns-in-Ending-clause-printed
returns-in-Ending-clause-printed g c = λ ds has.
    let d = document_by g.T.Tables c.args.texts.now ds in
    let lines = c.args.lines.now in
    row_laid lines c.in-Ending.is c.line_ending.result d c.args.leaves.now.page c.line_ending.new.self.page c.args.level
    refl
    (c.line_ending.ensures.printed d)
