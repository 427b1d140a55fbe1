-- The cells of a table.
use Rattle.std.specs.Prelude.{ℕ, List, codes}
use Rattle.markdown_options.specs.declared.align_kind.AlignKind.{AlignKind}
use Rattle.definition_inline.specs.Inline.{Inlines}
use Rattle.definition_page.specs.GfmTable.{cell_pieces}
use Rattle.html_bytes.specs.Document.{Document, document_meaning}
use Rattle.html_bytes.specs.Pieces.{Piece, in_bytes}
use Rattle.html_leaves.specs.declared.gfm_table.CellKind.{CellKind}
use Rattle.html_leaves.specs.declared.gfm_table.CellKind.TheVariants.{Head, Body}

-- the name of a cell's element
abbrev pub cell_name : CellKind → List ℕ
cell_name Head = codes "th"
cell_name Body = codes "td"

-- what a cell of this structure prints
abbrev pub cell_bytes : Document → List ℕ → AlignKind → Inlines → List Piece
cell_bytes d name align is = in_bytes (cell_pieces (document_meaning d) name align is)
