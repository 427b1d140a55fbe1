-- Headings with ids, which the definition computes.
use Rattle.std.specs.Prelude.{◌≡◌, true, List, ℕ, codes}
use Rattle.std.specs.Char.{encode_utf8}
use Rattle.std.specs.Fmt.{digits}
use Rattle.std.specs.Str.{chars, is_utf8}
use Rattle.std.specs.Str.Lossy.{utf8_valid_len, utf8_lossy}
use Rattle.std.proofs.Common.{refl}
use Rattle.std.proofs.UnicodeAscii.{unicode_tables}
use Rattle.caseless.proofs.Computing.{caseless}
use Rattle.ucd_perl.proofs.Computing.{ucd_perl}
use Rattle.ucd_props.proofs.Computing.{ucd_props}
use Rattle.markdown_compile_options.specs.declared.configuration.Options.{Options}
use Rattle.markdown_compile_options.specs.Defaults.{default_compile_options, default_options, gfm_options}
use Rattle.markdown_definition.specs.Html.{html}
use Rattle.definition_page.specs.Urls.{href_protocols, src_protocols}
use Rattle.examples_block.proofs.SmallTables.{small}

-- `unfolding page_ids` lets `refl` compute a page with ids
unfoldable page_ids : Unit {0}
unfolding digits encode_utf8 chars is_utf8 utf8_valid_len utf8_lossy caseless href_protocols src_protocols unicode_tables ucd_perl ucd_props
page_ids = tt

abbrev with_ids : Options
with_ids = record default_options { compile = record default_compile_options { heading_ids = true } }

abbrev page : List ℕ → List ℕ
page text = html small text with_ids

numbered : page (codes "# a\n# A\n# a!") ≡ codes "<h1 id=\"a\">a</h1>\n<h1 id=\"a-1\">A</h1>\n<h1 id=\"a-2\">a!</h1>"
unfolding page_ids
numbered = refl

number_taken : page (codes "# a-1\n# a\n# a") ≡ codes "<h1 id=\"a-1\">a-1</h1>\n<h1 id=\"a\">a</h1>\n<h1 id=\"a-2\">a</h1>"
unfolding page_ids
number_taken = refl

of_any_rank : page (codes "# a\n## a") ≡ codes "<h1 id=\"a\">a</h1>\n<h2 id=\"a-1\">a</h2>"
unfolding page_ids
of_any_rank = refl

-- an empty slug is no id, but the next one has a number
empty_headings : page (codes "#\n# ?\n# !") ≡ codes "<h1></h1>\n<h1 id=\"-1\">?</h1>\n<h1 id=\"-2\">!</h1>"
unfolding page_ids
empty_headings = refl

over_two_lines : page (codes "a\nb\n===") ≡ codes "<h1 id=\"ab\">a\nb</h1>"
unfolding page_ids
over_two_lines = refl

in_order_of_the_text : page (codes "> # a\n\n# a") ≡ codes "<blockquote>\n<h1 id=\"a\">a</h1>\n</blockquote>\n<h1 id=\"a-1\">a</h1>"
unfolding page_ids
in_order_of_the_text = refl

-- a heading has no id that a footnote may have, whether or not there are any
ids_of_footnotes : page (codes "# Footnote label\n# user-content-fn-1\n# fn-1")
    ≡ codes "<h1>Footnote label</h1>\n<h1>user-content-fn-1</h1>\n<h1 id=\"fn-1\">fn-1</h1>"
unfolding page_ids
ids_of_footnotes = refl

-- a footnote that isn't called: its heading takes a slug
uncalled_footnote : html small (codes "[^1]:\n    # b\n\n# b") (record gfm_options { compile = with_ids.compile })
    ≡ codes "<h1 id=\"b-1\">b</h1>"
unfolding page_ids
uncalled_footnote = refl
