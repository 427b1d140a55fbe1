-- The page that is printed in bytes is the page of the definition.
use Rattle.std.proofs.Common.{◌≡◌, ℕ, Bool, true, false, not, List, [], ◌++◌, None, refl, ap, ◌∙◌}
use Rattle.markdown_compile_options.specs.declared.configuration.CompileOptions.{CompileOptions}
use Rattle.markdown_compile_options.specs.declared.configuration.Options.{Options}
use Rattle.definition_text.specs.Lines.{without_mark, kind_before_text}
use Rattle.definition_block.specs.Lists.{group_items}
use Rattle.definition_block.specs.Tree.{blocks}
use Rattle.definition_page.specs.TextTables.{TextTables}
use Rattle.definition_block.specs.Definitions.{document_targets}
use Rattle.definition_page.specs.Pieces.{Piece}
use Rattle.definition_page.specs.Layout.{page_layout}
use Rattle.definition_page.specs.BlockPieces.{at_top, children_pieces, fresh_unless}
use Rattle.definition_page.specs.DocumentPieces.{default_ending}
use Rattle.definition_page.specs.Read.{on_page, read_blocks, ends_blank}
use Rattle.definition_page.specs.HeadingIds.{with_ids}
use Rattle.definition_page.specs.PrintedPage.{printed_page}
use Rattle.html_bytes.specs.Document.{document}
use Rattle.html_bytes.specs.Pieces as bytes
use Rattle.html_bytes.specs.Layout as bytes_layout
use Rattle.html_bytes.specs.Layout.{nothing_laid, with_footnotes}
use Rattle.html_bytes.proofs.LayoutSteps.{steps_same}
use Rattle.html_bytes.specs.Html as old
use Rattle.html_bytes.proofs.SameLayout.{Same, joined}
use Rattle.html_bytes.proofs.SameBlocks.{m, r, document_same}

-- what is printed at the end
last_same : (options : CompileOptions) (default : List ℕ) (blank : Bool) → Same options default (fresh_unless (not blank)) (old.last_piece blank)
last_same options default true l = refl
last_same options default false l = refl

-- pieces that lay out the same make the same page, where headings get their ids
pub page_same : (options : CompileOptions) (default : List ℕ) (ps : List Piece) (bs : List bytes.Piece) → Same options default ps bs
    → page_layout options default (with_ids options [] ps) ≡ bytes_layout.page_layout options default bs
page_same options default ps bs same =
    steps_same options default ps ∙ ap (with_footnotes options default) (same nothing_laid)

-- the HTML of a text, by the definition and in bytes
pub html_is : (tables : TextTables) (text : List ℕ) (options : Options)
    → printed_page tables text options ≡ old.marked_html tables (kind_before_text text) (without_mark text) options
html_is tables text options =
    let default = default_ending options (without_mark text) in
    let bs = blocks options.parse.constructs (kind_before_text text) (without_mark text) in
    let ds = document_targets bs in
    let blank = ends_blank false bs in
    let kids = children_pieces (m default options tables ds) at_top None (read_blocks (r default options tables ds) on_page (group_items bs)) in
    let shown = old.children_bytes (document options tables ds) on_page false false (group_items bs) in
    page_same options.compile default (kids ++ fresh_unless (not blank)) (shown ++ old.last_piece blank)
    (joined options.compile default kids (fresh_unless (not blank)) shown (old.last_piece blank)
    (document_same default options tables ds (group_items bs)) (last_same options.compile default blank))
