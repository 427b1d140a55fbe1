-- What inline structure prints, in bytes: what the definition's pieces of it are (CommonMark 6).
use Rattle.std.specs.Prelude.{ℕ, List}
use Rattle.std.specs.List.{flat_map}
use Rattle.markdown_compile_options.specs.declared.configuration.CompileOptions.{CompileOptions}
use Rattle.definition_inline.specs.Inline.{InlineLeaf, Inline, Inlines}
use Rattle.definition_page.specs.Tags.{PrintedPart, said_bytes}
use Rattle.definition_page.specs.InlinePieces.{Meaning, leaf_says, leaf_pieces, part_pieces, inline_pieces}
use Rattle.html_bytes.specs.Pieces.{pieces_html}

-- what parts of a text say
abbrev pub say_bytes : List PrintedPart → List ℕ
say_bytes parts = flat_map said_bytes parts

-- what a leaf says in the description of an image (CommonMark 6.4)
abbrev pub leaf_description : CompileOptions → InlineLeaf → List ℕ
leaf_description options part = say_bytes (leaf_says options part)

-- the HTML of a leaf
abbrev pub leaf_html : CompileOptions → InlineLeaf → List ℕ
leaf_html options part = pieces_html (leaf_pieces options part)

-- the HTML of parts without calls of footnotes, which print a number
abbrev pub part_html : Meaning → Inline → List ℕ
part_html m i = pieces_html (part_pieces m i)

abbrev pub inline_html : Meaning → Inlines → List ℕ
inline_html m is = pieces_html (inline_pieces m is)
