-- Tables: their cells, rows of delimiters, and pages, which the definition computes.
use Rattle.std.specs.Prelude.{◌≡◌, true, false, Bool, [], ◌∷◌, ◌++◌, None, Some, codes}
use Rattle.std.proofs.Common.{refl}
use Rattle.markdown_options.specs.declared.beside.Kind.TheVariants.{Whitespace, Punctuation}
use Rattle.markdown_options.specs.declared.align_kind.AlignKind.TheVariants as align
use Rattle.definition_block.specs.GfmTable.{cell, cells, delimiters}
use Rattle.markdown_compile_options.specs.declared.configuration.Options.{Options}
use Rattle.markdown_options.specs.Defaults.{default_constructs, default_parse_options}
use Rattle.markdown_compile_options.specs.Defaults.{default_options}
use Rattle.markdown_definition.specs.Html.{html}
use Rattle.examples_block.proofs.SmallTables.{small}

cells_0 : cells Whitespace (codes "| a | b |") ≡ cell (codes " a ") Punctuation Punctuation ∷ cell (codes " b ") Punctuation Punctuation ∷ []
cells_0 = refl

cells_1 : cells Whitespace (codes "a|b") ≡ cell (codes "a") Whitespace Punctuation ∷ cell (codes "b") Punctuation Whitespace ∷ []
cells_1 = refl

cells_2 : cells Whitespace (codes "a\\|b|c") ≡ cell (codes "a\\|b") Whitespace Punctuation ∷ cell (codes "c") Punctuation Whitespace ∷ []
cells_2 = refl

cells_3 : cells Whitespace (codes "a\\\\|b") ≡ cell (codes "a\\\\") Whitespace Punctuation ∷ cell (codes "b") Punctuation Whitespace ∷ []
cells_3 = refl

cells_4 : cells Whitespace (codes "||") ≡ cell [] Punctuation Punctuation ∷ []
cells_4 = refl

cells_5 : cells Whitespace (codes " |") ≡ []
cells_5 = refl

delimiters_0 : delimiters (codes "| - | :- | -: | :-: |") ≡ Some (align.None ∷ align.Left ∷ align.Right ∷ align.Center ∷ [])
delimiters_0 = refl

delimiters_1 : delimiters (codes ":-") ≡ Some (align.Left ∷ [])
delimiters_1 = refl

delimiters_2 : delimiters (codes "-") ≡ None
delimiters_2 = refl

delimiters_3 : delimiters (codes "|") ≡ None
delimiters_3 = refl

delimiters_4 : delimiters (codes "|-|a|") ≡ None
delimiters_4 = refl

-- ---- pages

abbrev with_tables : Bool → Options
with_tables on = record default_options { parse = record default_parse_options { constructs = record default_constructs { gfm_table = on } } }

page_0 : html small (codes "a" ++ (10 ∷ []) ++ codes "|-|") (with_tables true)
    ≡ codes "<table>" ++ (10 ∷ []) ++ codes "<thead>" ++ (10 ∷ []) ++ codes "<tr>" ++ (10 ∷ []) ++ codes "<th>a</th>" ++ (10 ∷ []) ++ codes "</tr>" ++ (10 ∷ [])
    ++ codes "</thead>" ++ (10 ∷ []) ++ codes "</table>"
page_0 = refl

page_1 : html small (codes "a" ++ (10 ∷ []) ++ codes "|-|") (with_tables false) ≡ codes "<p>a" ++ (10 ∷ []) ++ codes "|-|</p>"
page_1 = refl

page_2 : html small (codes "|a|b|" ++ (10 ∷ []) ++ codes "|:-|-|" ++ (10 ∷ []) ++ codes "|c|") (with_tables true)
    ≡ codes "<table>" ++ (10 ∷ []) ++ codes "<thead>" ++ (10 ∷ []) ++ codes "<tr>" ++ (10 ∷ []) ++ codes "<th align=\"left\">a</th>" ++ (10 ∷ [])
    ++ codes "<th>b</th>" ++ (10 ∷ []) ++ codes "</tr>" ++ (10 ∷ []) ++ codes "</thead>" ++ (10 ∷ []) ++ codes "<tbody>" ++ (10 ∷ []) ++ codes "<tr>"
    ++ (10 ∷ []) ++ codes "<td align=\"left\">c</td>" ++ (10 ∷ []) ++ codes "<td></td>" ++ (10 ∷ []) ++ codes "</tr>" ++ (10 ∷ []) ++ codes "</tbody>"
    ++ (10 ∷ []) ++ codes "</table>"
page_2 = refl

page_3 : html small (codes "a" ++ (10 ∷ []) ++ codes "|-|" ++ (10 ∷ []) ++ codes "b|c" ++ (10 ∷ []) ++ (10 ∷ []) ++ codes "d") (with_tables true)
    ≡ codes "<table>" ++ (10 ∷ []) ++ codes "<thead>" ++ (10 ∷ []) ++ codes "<tr>" ++ (10 ∷ []) ++ codes "<th>a</th>" ++ (10 ∷ []) ++ codes "</tr>" ++ (10 ∷ [])
    ++ codes "</thead>" ++ (10 ∷ []) ++ codes "<tbody>" ++ (10 ∷ []) ++ codes "<tr>" ++ (10 ∷ []) ++ codes "<td>b</td>" ++ (10 ∷ []) ++ codes "</tr>"
    ++ (10 ∷ []) ++ codes "</tbody>" ++ (10 ∷ []) ++ codes "</table>" ++ (10 ∷ []) ++ codes "<p>d</p>"
page_3 = refl

page_4 : html small (codes "> a" ++ (10 ∷ []) ++ codes "> |-|" ++ (10 ∷ []) ++ codes "b") (with_tables true)
    ≡ codes "<blockquote>" ++ (10 ∷ []) ++ codes "<table>" ++ (10 ∷ []) ++ codes "<thead>" ++ (10 ∷ []) ++ codes "<tr>" ++ (10 ∷ []) ++ codes "<th>a</th>"
    ++ (10 ∷ []) ++ codes "</tr>" ++ (10 ∷ []) ++ codes "</thead>" ++ (10 ∷ []) ++ codes "</table>" ++ (10 ∷ []) ++ codes "</blockquote>" ++ (10 ∷ [])
    ++ codes "<p>b</p>"
page_4 = refl

page_5 : html small (codes "`\\|`" ++ (10 ∷ []) ++ codes "|-|") (with_tables true)
    ≡ codes "<table>" ++ (10 ∷ []) ++ codes "<thead>" ++ (10 ∷ []) ++ codes "<tr>" ++ (10 ∷ []) ++ codes "<th><code>|</code></th>" ++ (10 ∷ []) ++ codes "</tr>"
    ++ (10 ∷ []) ++ codes "</thead>" ++ (10 ∷ []) ++ codes "</table>"
page_5 = refl
