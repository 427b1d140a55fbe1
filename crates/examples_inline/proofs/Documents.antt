-- Texts in which blocks and inline structure meet: lists, code, HTML blocks and headings with definitions beside them.
use Rattle.std.specs.Prelude.{◌≡◌, [], ◌∷◌, ◌++◌, codes}
use Rattle.std.proofs.Common.{refl}
use Rattle.examples_inline.proofs.Computing.{pages}
use Rattle.examples_inline.specs.Pages.{dangerous, page, page_with}

row_0 : page (codes "``` foo\\+bar\nfoo\n```") ≡ codes "<pre><code class=\"language-foo+bar\">foo\n</code></pre>"
unfolding pages
row_0 = refl

row_1 : page (codes "``` f&ouml;&ouml;\nfoo\n```") ≡ codes "<pre><code class=\"language-f" ++ (195 ∷ 182 ∷ 195 ∷ 182 ∷ []) ++ codes "\">foo\n</code></pre>"
unfolding pages
row_1 = refl

row_2 : page (codes "&#42; foo\n\n* foo") ≡ codes "<p>* foo</p>\n<ul>\n<li>foo</li>\n</ul>"
unfolding pages
row_2 = refl

row_3 : page (codes "- `one\n- two`") ≡ codes "<ul>\n<li>`one</li>\n<li>two`</li>\n</ul>"
unfolding pages
row_3 = refl

row_4 : page (codes "- a\n- b\n\n  [ref]: /url\n- d") ≡ codes "<ul>\n<li>\n<p>a</p>\n</li>\n<li>\n<p>b</p>\n</li>\n<li>\n<p>d</p>\n</li>\n</ul>"
unfolding pages
row_4 = refl

row_5 : page (codes "`Foo\n----\n`\n\n<a title=\"a lot\n---\nof dashes\"/>")
    ≡ codes "<h2>`Foo</h2>\n<p>`</p>\n<h2>&lt;a title=&quot;a lot</h2>\n<p>of dashes&quot;/&gt;</p>"
unfolding pages
row_5 = refl

row_6 : page (codes "[" ++ (206 ∷ 145 ∷ 206 ∷ 147 ∷ 206 ∷ 169 ∷ []) ++ codes "]: /" ++ (207 ∷ 134 ∷ 206 ∷ 191 ∷ 207 ∷ 133 ∷ []) ++ codes "\n\n["
    ++ (206 ∷ 177 ∷ 206 ∷ 179 ∷ 207 ∷ 137 ∷ []) ++ codes "]") ≡ codes "<p><a href=\"/%CF%86%CE%BF%CF%85\">" ++ (206 ∷ 177 ∷ 206 ∷ 179 ∷ 207 ∷ 137 ∷ [])
    ++ codes "</a></p>"
unfolding pages
row_6 = refl

row_7 : page (codes "[" ++ (225 ∷ 186 ∷ 158 ∷ []) ++ codes "]\n\n[SS]: /url") ≡ codes "<p><a href=\"/url\">" ++ (225 ∷ 186 ∷ 158 ∷ []) ++ codes "</a></p>\n"
unfolding pages
row_7 = refl

row_8 : page (codes "\\> foo\n------") ≡ codes "<h2>&gt; foo</h2>"
unfolding pages
row_8 = refl

row_9 : page_with dangerous (codes "<div>\n*foo*\n\n*bar*") ≡ codes "<div>\n*foo*\n<p><em>bar</em></p>"
unfolding pages
row_9 = refl

row_10 : page_with dangerous (codes "<del>\n\n*foo*\n\n</del>") ≡ codes "<del>\n<p><em>foo</em></p>\n</del>"
unfolding pages
row_10 = refl

row_11 : page_with dangerous (codes "<del>*foo*</del>") ≡ codes "<p><del><em>foo</em></del></p>"
unfolding pages
row_11 = refl

row_12 : page_with dangerous (codes "[foo]: <bar>(baz)\n\n[foo]") ≡ codes "<p>[foo]: <bar>(baz)</p>\n<p>[foo]</p>"
unfolding pages
row_12 = refl

row_13 : page (codes "# [Foo]\n[foo]: /url\n> bar") ≡ codes "<h1><a href=\"/url\">Foo</a></h1>\n<blockquote>\n<p>bar</p>\n</blockquote>"
unfolding pages
row_13 = refl

row_14 : page (codes "[foo]: /url\nbar\n===\n[foo]") ≡ codes "<h1>bar</h1>\n<p><a href=\"/url\">foo</a></p>"
unfolding pages
row_14 = refl

row_15 : page (codes "[foo]: /url\n===\n[foo]") ≡ codes "<p>===\n<a href=\"/url\">foo</a></p>"
unfolding pages
row_15 = refl

row_16 : page (codes "```\n[foo]: /url\n```\n\n[foo]") ≡ codes "<pre><code>[foo]: /url\n</code></pre>\n<p>[foo]</p>"
unfolding pages
row_16 = refl

row_17 : page (codes "    [foo]: /url \"title\"\n\n[foo]") ≡ codes "<pre><code>[foo]: /url &quot;title&quot;\n</code></pre>\n<p>[foo]</p>"
unfolding pages
row_17 = refl

row_18 : page (codes "[foo]: /url \"title\" ok") ≡ codes "<p>[foo]: /url &quot;title&quot; ok</p>"
unfolding pages
row_18 = refl

row_19 : page (codes "* a *\n\n* foo *bar\n  baz*") ≡ codes "<ul>\n<li>\n<p>a *</p>\n</li>\n<li>\n<p>foo <em>bar\nbaz</em></p>\n</li>\n</ul>"
unfolding pages
row_19 = refl

row_20 : page (codes "- *a\n- b*") ≡ codes "<ul>\n<li>*a</li>\n<li>b*</li>\n</ul>"
unfolding pages
row_20 = refl

row_21 : page (codes "- a  \n  b\n- c\\\n  d") ≡ codes "<ul>\n<li>a<br />\nb</li>\n<li>c<br />\nd</li>\n</ul>"
unfolding pages
row_21 = refl

row_22 : page (codes "> *a\n> b*\n\n- > `c\n  > d`")
    ≡ codes "<blockquote>\n<p><em>a\nb</em></p>\n</blockquote>\n<ul>\n<li>\n<blockquote>\n<p><code>c d</code></p>\n</blockquote>\n</li>\n</ul>"
unfolding pages
row_22 = refl

row_23 : page (codes "1. ![a *b*]\n\n   [c][A *B*]\n\n> - [a *b*]: d.png \"e & f\"")
    ≡ codes "<ol>\n<li>\n<p><img src=\"d.png\" alt=\"a b\" title=\"e &amp; f\" /></p>\n<p><a href=\"d.png\" title=\"e &amp; f\">c</a></p>\n</li>\n</ol>\n"
    ++ codes "<blockquote>\n<ul>\n<li></li>\n</ul>\n</blockquote>"
unfolding pages
row_23 = refl

row_24 : page (codes "# *a* [b]\n\n> [B]: /c 'd'\n\n~~~ e\\*f\n~~~")
    ≡ codes "<h1><em>a</em> <a href=\"/c\" title=\"d\">b</a></h1>\n<blockquote>\n</blockquote>\n<pre><code class=\"language-e*f\"></code></pre>"
unfolding pages
row_24 = refl

row_25 : page (codes "~~~ a\\*b `c`\nd\n~~~\n***\n*e*") ≡ codes "<pre><code class=\"language-a*b\">d\n</code></pre>\n<hr />\n<p><em>e</em></p>"
unfolding pages
row_25 = refl

row_26 : page (codes "a" ++ (13 ∷ []) ++ codes "\n- *b*" ++ (13 ∷ []) ++ codes "\n" ++ (13 ∷ []) ++ codes "\n  c" ++ (13 ∷ []) ++ codes "\nd")
    ≡ codes "<p>a</p>" ++ (13 ∷ []) ++ codes "\n<ul>" ++ (13 ∷ []) ++ codes "\n<li>" ++ (13 ∷ []) ++ codes "\n<p><em>b</em></p>" ++ (13 ∷ []) ++ codes "\n<p>c"
    ++ (13 ∷ []) ++ codes "\nd</p>" ++ (13 ∷ []) ++ codes "\n</li>" ++ (13 ∷ []) ++ codes "\n</ul>"
unfolding pages
row_26 = refl
