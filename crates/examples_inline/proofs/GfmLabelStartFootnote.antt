-- Calls of footnotes (in neither standard; as GitHub prints them).
use Rattle.std.specs.Prelude.{◌≡◌, ℕ, List, [], ◌∷◌, ◌++◌, codes}
use Rattle.std.proofs.Common.{refl}
use Rattle.examples_inline.proofs.Computing.{pages}
use Rattle.examples_inline.specs.Pages.{page, page_with, with_footnotes}

-- a call of the footnote with this label, the id of the call, and its number
abbrev call : List ℕ → List ℕ → List ℕ → List ℕ
call label id number =
    codes "<sup><a href=\"#user-content-fn-" ++ label ++ codes "\" id=\"user-content-fnref-" ++ id
    ++ codes "\" data-footnote-ref=\"\" aria-describedby=\"footnote-label\">" ++ number ++ codes "</a></sup>"

-- a way back to the call with this id, and which one it is
abbrev back : List ℕ → List ℕ → List ℕ
back id count =
    codes "<a href=\"#user-content-fnref-" ++ id
    ++ codes "\" data-footnote-backref=\"\" aria-label=\"Back to content\" class=\"data-footnote-backref\">" ++ (226 ∷ 134 ∷ 169 ∷ []) ++ count ++ codes "</a>"

-- a footnote with this label
abbrev note : List ℕ → List ℕ → List ℕ
note label html = codes "<li id=\"user-content-fn-" ++ label ++ codes "\">\n" ++ html ++ codes "</li>\n"

-- the section of footnotes
abbrev section : List ℕ → List ℕ
section notes =
    codes "<section data-footnotes=\"\" class=\"footnotes\"><h2 id=\"footnote-label\" class=\"sr-only\">Footnotes</h2>\n<ol>\n" ++ notes
    ++ codes "</ol>\n</section>\n"

row_0 : page_with with_footnotes (codes "[^a]\n\n[^a]: b") ≡ codes "<p>" ++ call (codes "a") (codes "a") (codes "1") ++ codes "</p>\n"
    ++ section (note (codes "a") (codes "<p>b " ++ back (codes "a") (codes "") ++ codes "</p>\n"))
unfolding pages
row_0 = refl

row_1 : page_with with_footnotes (codes "[^a] [^a]\n\n[^a]: b") ≡ codes "<p>" ++ call (codes "a") (codes "a") (codes "1") ++ codes " "
    ++ call (codes "a") (codes "a-2") (codes "1") ++ codes "</p>\n" ++ section
    (note (codes "a") (codes "<p>b " ++ back (codes "a") (codes "") ++ codes " " ++ back (codes "a-2") (codes "<sup>2</sup>") ++ codes "</p>\n"))
unfolding pages
row_1 = refl

row_2 : page_with with_footnotes (codes "[^a] [^b]\n\n[^b]: c\n\n[^a]: d")
    ≡ codes "<p>" ++ call (codes "a") (codes "a") (codes "1") ++ codes " " ++ call (codes "b") (codes "b") (codes "2") ++ codes "</p>\n"
    ++ section (note (codes "a") (codes "<p>d " ++ back (codes "a") (codes "") ++ codes "</p>\n")
    ++ note (codes "b") (codes "<p>c " ++ back (codes "b") (codes "") ++ codes "</p>\n"))
unfolding pages
row_2 = refl

row_3 : page_with with_footnotes (codes "[^a]") ≡ codes "<p>[^a]</p>"
unfolding pages
row_3 = refl

row_4 : page_with with_footnotes (codes "[^A]\n\n[^a]: b") ≡ codes "<p>" ++ call (codes "a") (codes "a") (codes "1") ++ codes "</p>\n"
    ++ section (note (codes "a") (codes "<p>b " ++ back (codes "a") (codes "") ++ codes "</p>\n"))
unfolding pages
row_4 = refl

row_5 : page_with with_footnotes (codes "[^ a ]\n\n[^a]: b") ≡ codes "<p>" ++ call (codes "a") (codes "a") (codes "1") ++ codes "</p>\n"
    ++ section (note (codes "a") (codes "<p>b " ++ back (codes "a") (codes "") ++ codes "</p>\n"))
unfolding pages
row_5 = refl

row_6 : page_with with_footnotes (codes "[^a b]\n\n[^a]: c") ≡ codes "<p>[^a b]</p>\n"
unfolding pages
row_6 = refl

row_7 : page_with with_footnotes (codes "[^]\n\n[^]: b") ≡ codes "<p><a href=\"b\">^</a></p>\n"
unfolding pages
row_7 = refl

row_8 : page_with with_footnotes (codes "![^a]\n\n[^a]: b") ≡ codes "<p>!" ++ call (codes "a") (codes "a") (codes "1") ++ codes "</p>\n"
    ++ section (note (codes "a") (codes "<p>b " ++ back (codes "a") (codes "") ++ codes "</p>\n"))
unfolding pages
row_8 = refl

row_9 : page_with with_footnotes (codes "![b [^a]](c)\n\n[^a]: d") ≡ codes "<p><img src=\"c\" alt=\"b \" /></p>\n"
    ++ section (note (codes "a") (codes "<p>d " ++ back (codes "a") (codes "") ++ codes "</p>\n"))
unfolding pages
row_9 = refl

row_10 : page_with with_footnotes (codes "![b [^a]](c) [^a]\n\n[^a]: d") ≡ codes "<p><img src=\"c\" alt=\"b \" /> "
    ++ call (codes "a") (codes "a-2") (codes "1") ++ codes "</p>\n" ++ section
    (note (codes "a") (codes "<p>d " ++ back (codes "a") (codes "") ++ codes " " ++ back (codes "a-2") (codes "<sup>2</sup>") ++ codes "</p>\n"))
unfolding pages
row_10 = refl

row_11 : page_with with_footnotes (codes "[b [^a]](c)\n\n[^a]: d") ≡ codes "<p>[b " ++ call (codes "a") (codes "a") (codes "1") ++ codes "](c)</p>\n"
    ++ section (note (codes "a") (codes "<p>d " ++ back (codes "a") (codes "") ++ codes "</p>\n"))
unfolding pages
row_11 = refl

row_12 : page_with with_footnotes (codes "[x][^a]\n\n[x]: y\n\n[^a]: b") ≡ codes "<p>[x]" ++ call (codes "a") (codes "a") (codes "1") ++ codes "</p>\n"
    ++ section (note (codes "a") (codes "<p>b " ++ back (codes "a") (codes "") ++ codes "</p>\n"))
unfolding pages
row_12 = refl

row_13 : page_with with_footnotes (codes "[^a][x]\n\n[x]: y\n\n[^a]: b") ≡ codes "<p>" ++ call (codes "a") (codes "a") (codes "1")
    ++ codes "<a href=\"y\">x</a></p>\n" ++ section (note (codes "a") (codes "<p>b " ++ back (codes "a") (codes "") ++ codes "</p>\n"))
unfolding pages
row_13 = refl

row_14 : page_with with_footnotes (codes "[^a](b)") ≡ codes "<p><a href=\"b\">^a</a></p>"
unfolding pages
row_14 = refl

row_15 : page_with with_footnotes (codes "[^a](b)\n\n[^a]: c") ≡ codes "<p>" ++ call (codes "a") (codes "a") (codes "1") ++ codes "(b)</p>\n"
    ++ section (note (codes "a") (codes "<p>c " ++ back (codes "a") (codes "") ++ codes "</p>\n"))
unfolding pages
row_15 = refl

row_16 : page_with with_footnotes (codes "*[^a]*\n\n[^a]: b") ≡ codes "<p><em>" ++ call (codes "a") (codes "a") (codes "1") ++ codes "</em></p>\n"
    ++ section (note (codes "a") (codes "<p>b " ++ back (codes "a") (codes "") ++ codes "</p>\n"))
unfolding pages
row_16 = refl

row_17 : page_with with_footnotes (codes "\\[^a]\n\n[^a]: b") ≡ codes "<p>[^a]</p>\n"
unfolding pages
row_17 = refl

row_18 : page_with with_footnotes (codes "`[^a]`\n\n[^a]: b") ≡ codes "<p><code>[^a]</code></p>\n"
unfolding pages
row_18 = refl

row_19 : page_with with_footnotes (codes "| [^a] |\n| - |\n| b | [^c] |\n\n[^a]: d\n\n[^c]: e")
    ≡ codes "<table>\n<thead>\n<tr>\n<th>" ++ call (codes "a") (codes "a") (codes "1")
    ++ codes "</th>\n</tr>\n</thead>\n<tbody>\n<tr>\n<td>b</td>\n</tr>\n</tbody>\n</table>\n"
    ++ section (note (codes "a") (codes "<p>d " ++ back (codes "a") (codes "") ++ codes "</p>\n")
    ++ note (codes "c") (codes "<p>e " ++ back (codes "c") (codes "") ++ codes "</p>\n"))
unfolding pages
row_19 = refl

row_20 : page_with with_footnotes (codes "[^a&b]\n\n[^a&b]: c") ≡ codes "<p>" ++ call (codes "a&amp;b") (codes "a&amp;b") (codes "1") ++ codes "</p>\n"
    ++ section (note (codes "a&amp;b") (codes "<p>c " ++ back (codes "a&amp;b") (codes "") ++ codes "</p>\n"))
unfolding pages
row_20 = refl

row_21 : page_with with_footnotes (codes "[^" ++ (195 ∷ 169 ∷ []) ++ codes "]\n\n[^" ++ (195 ∷ 169 ∷ []) ++ codes "]: b")
    ≡ codes "<p>" ++ call (codes "%C3%A9") (codes "%C3%A9") (codes "1") ++ codes "</p>\n"
    ++ section (note (codes "%C3%A9") (codes "<p>b " ++ back (codes "%C3%A9") (codes "") ++ codes "</p>\n"))
unfolding pages
row_21 = refl

row_22 : page_with with_footnotes (codes "[^a]\n\n[^a]: [b]\n\n[b]: c") ≡ codes "<p>" ++ call (codes "a") (codes "a") (codes "1") ++ codes "</p>\n"
    ++ section (note (codes "a") (codes "<p><a href=\"c\">b</a> " ++ back (codes "a") (codes "") ++ codes "</p>\n"))
unfolding pages
row_22 = refl

row_23 : page (codes "[^a]\n\n[^a]: b") ≡ codes "<p><a href=\"b\">^a</a></p>\n"
unfolding pages
row_23 = refl

row_24 : page (codes "[^a]") ≡ codes "<p>[^a]</p>"
unfolding pages
row_24 = refl
