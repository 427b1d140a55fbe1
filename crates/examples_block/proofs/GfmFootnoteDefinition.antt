-- Footnotes: their calls, their numbers and the section at the page's end, which the definition computes.
use Rattle.std.specs.Prelude.{◌≡◌, ℕ, true, false, Bool, List, [], ◌∷◌, ◌++◌, codes}
use Rattle.std.specs.Char.{encode_utf8}
use Rattle.std.specs.Fmt.{digits}
use Rattle.std.specs.Str.{chars, is_utf8}
use Rattle.std.specs.Str.Lossy.{utf8_valid_len, utf8_lossy}
use Rattle.std.proofs.Common.{refl}
use Rattle.caseless.proofs.Computing.{caseless}
use Rattle.markdown_compile_options.specs.declared.configuration.Options.{Options}
use Rattle.markdown_options.specs.Defaults.{default_constructs, default_parse_options}
use Rattle.markdown_compile_options.specs.Defaults.{default_options}
use Rattle.markdown_definition.specs.Html.{html}
use Rattle.definition_page.specs.Urls.{href_protocols, src_protocols}
use Rattle.examples_block.proofs.SmallTables.{small}

-- `unfolding pages` lets `refl` compute a page with labels
unfoldable pages : Unit {0}
unfolding digits encode_utf8 chars is_utf8 utf8_valid_len utf8_lossy caseless href_protocols src_protocols
pages = tt

-- definitions of footnotes are on or off, and so are calls
abbrev with_footnotes : Bool → Bool → Options
with_footnotes definitions calls = record default_options {
  parse = record default_parse_options {
    constructs = record default_constructs { gfm_footnote_definition = definitions; gfm_label_start_footnote = calls };
  };
}

abbrev page : List ℕ → List ℕ
page text = html small text (with_footnotes true true)

-- ---- what stands on each such page

-- a call of a footnote: the end of the footnote's id, that of the call's, and the number
abbrev call : List ℕ → List ℕ → List ℕ → List ℕ
call note id number =
    codes "<sup><a href=\"#user-content-fn-" ++ note ++ codes "\" id=\"user-content-fnref-" ++ id
    ++ codes "\" data-footnote-ref=\"\" aria-describedby=\"footnote-label\">" ++ number ++ codes "</a></sup>"

-- a way back to the call of this id, after an arrow the text
abbrev back : List ℕ → List ℕ → List ℕ
back id text =
    codes "<a href=\"#user-content-fnref-" ++ id
    ++ codes "\" data-footnote-backref=\"\" aria-label=\"Back to content\" class=\"data-footnote-backref\">" ++ (226 ∷ 134 ∷ 169 ∷ []) ++ text ++ codes "</a>"

-- a footnote in the section
abbrev note : List ℕ → List ℕ → List ℕ
note id content = codes "<li id=\"user-content-fn-" ++ id ++ codes "\">\n" ++ content ++ codes "\n</li>\n"

abbrev section : List ℕ → List ℕ
section notes =
    codes "<section data-footnotes=\"\" class=\"footnotes\"><h2 id=\"footnote-label\" class=\"sr-only\">Footnotes</h2>\n<ol>\n"
    ++ notes ++ codes "</ol>\n</section>\n"

-- ---- one footnote

-- a call, and the section
one_call : page (codes "[^a]\n\n[^a]: b")
    ≡ codes "<p><sup><a href=\"#user-content-fn-a\" id=\"user-content-fnref-a\" data-footnote-ref=\"\" aria-describedby=\"footnote-label\">1</a></sup></p>\n"
    ++ codes "<section data-footnotes=\"\" class=\"footnotes\"><h2 id=\"footnote-label\" class=\"sr-only\">Footnotes</h2>\n<ol>\n"
    ++ codes "<li id=\"user-content-fn-a\">\n<p>b <a href=\"#user-content-fnref-a\""
    ++ codes " data-footnote-backref=\"\" aria-label=\"Back to content\" class=\"data-footnote-backref\">"
    ++ (226 ∷ 134 ∷ 169 ∷ []) ++ codes "</a></p>\n</li>\n</ol>\n</section>\n"
unfolding pages
one_call = refl

-- the second call of a footnote has an id of its own, and a way back
two_calls : page (codes "[^a][^a]\n\n[^a]: b")
    ≡ codes "<p>" ++ call (codes "a") (codes "a") (codes "1") ++ call (codes "a") (codes "a-2") (codes "1") ++ codes "</p>\n"
    ++ section (note (codes "a") (codes "<p>b " ++ back (codes "a") [] ++ codes " " ++ back (codes "a-2") (codes "<sup>2</sup>") ++ codes "</p>"))
unfolding pages
two_calls = refl

-- a footnote that is never called isn't printed
no_call : page (codes "a\n\n[^b]: c") ≡ codes "<p>a</p>\n"
unfolding pages
no_call = refl

-- a call of a footnote that isn't there is text
no_definition : page (codes "[^a]") ≡ codes "<p>[^a]</p>"
unfolding pages
no_definition = refl

-- a call in the description of an image isn't printed, but counts
in_description : page (codes "![[^a]](/b)\n\n[^a]: c")
    ≡ codes "<p><img src=\"/b\" alt=\"\" /></p>\n" ++ section (note (codes "a") (codes "<p>c " ++ back (codes "a") [] ++ codes "</p>"))
unfolding pages
in_description = refl

-- labels are compared as those of links are
any_case : page (codes "[^A]\n\n[^a]: b")
    ≡ codes "<p>" ++ call (codes "a") (codes "a") (codes "1") ++ codes "</p>\n"
    ++ section (note (codes "a") (codes "<p>b " ++ back (codes "a") [] ++ codes "</p>"))
unfolding pages
any_case = refl

-- where no paragraph comes last the way back stands on a line of its own
after_heading : page (codes "[^a]\n\n[^a]: # b")
    ≡ codes "<p>" ++ call (codes "a") (codes "a") (codes "1") ++ codes "</p>\n"
    ++ section (note (codes "a") (codes "<h1>b</h1>\n" ++ back (codes "a") []))
unfolding pages
after_heading = refl

-- ---- more than one

-- the first that is called has the number 1
by_calls : page (codes "[^b][^a]\n\n[^a]: c\n\n[^b]: d")
    ≡ codes "<p>" ++ call (codes "b") (codes "b") (codes "1") ++ call (codes "a") (codes "a") (codes "2") ++ codes "</p>\n"
    ++ section (note (codes "b") (codes "<p>d " ++ back (codes "b") [] ++ codes "</p>")
    ++ note (codes "a") (codes "<p>c " ++ back (codes "a") [] ++ codes "</p>"))
unfolding pages
by_calls = refl

-- a definition inside another
inside_another : page (codes "[^a][^c]\n\n[^a]: b\n\n    [^c]: d")
    ≡ codes "<p>" ++ call (codes "a") (codes "a") (codes "1") ++ call (codes "c") (codes "c") (codes "2") ++ codes "</p>\n"
    ++ section (note (codes "a") (codes "<p>b " ++ back (codes "a") [] ++ codes "</p>")
    ++ note (codes "c") (codes "<p>d " ++ back (codes "c") [] ++ codes "</p>"))
unfolding pages
inside_another = refl

-- a call in a footnote counts, though that isn't called
from_another : page (codes "a\n\n[^b]: [^c]\n\n[^c]: d")
    ≡ codes "<p>a</p>\n" ++ section (note (codes "c") (codes "<p>d " ++ back (codes "c") [] ++ codes "</p>"))
unfolding pages
from_another = refl

-- of equal labels the first to end counts: one ends after those in it
first_to_end : page (codes "[^a]\n\n[^a]: b\n\n    [^a]: c")
    ≡ codes "<p>" ++ call (codes "a") (codes "a") (codes "1") ++ codes "</p>\n"
    ++ section (note (codes "a") (codes "<p>c " ++ back (codes "a") [] ++ codes "</p>"))
unfolding pages
first_to_end = refl

-- ---- beside links, and off

-- what follows a call doesn't belong to it
before_resource : page (codes "[^a](b)\n\n[^a]: c")
    ≡ codes "<p>" ++ call (codes "a") (codes "a") (codes "1") ++ codes "(b)</p>\n"
    ++ section (note (codes "a") (codes "<p>c " ++ back (codes "a") [] ++ codes "</p>"))
unfolding pages
before_resource = refl

-- where no footnote has this label it is a link
is_link : page (codes "[^a](/b)") ≡ codes "<p><a href=\"/b\">^a</a></p>"
unfolding pages
is_link = refl

calls_off : html small (codes "[^a]\n\n[^a]: b") (with_footnotes true false) ≡ codes "<p>[^a]</p>\n"
unfolding pages
calls_off = refl

definitions_off : html small (codes "[^a]\n\n[^a]: b c") (with_footnotes false true) ≡ codes "<p>[^a]</p>\n<p>[^a]: b c</p>"
unfolding pages
definitions_off = refl
