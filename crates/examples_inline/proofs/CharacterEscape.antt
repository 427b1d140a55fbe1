-- Backslash escapes (CommonMark 2.4).
use Rattle.std.specs.Prelude.{◌≡◌, [], ◌∷◌, ◌++◌, codes}
use Rattle.std.proofs.Common.{refl}
use Rattle.examples_inline.proofs.Computing.{pages}
use Rattle.examples_inline.specs.Pages.{page}

row_0 : page (codes "\\!\\\"\\#\\$\\%\\&\\'\\(\\)\\*\\+\\,\\-\\.\\/\\:\\;\\<\\=\\>\\?\\@\\[\\\\\\]\\^\\_\\`\\{\\|\\}\\~")
    ≡ codes "<p>!&quot;#$%&amp;'()*+,-./:;&lt;=&gt;?@[\\]^_`{|}~</p>"
unfolding pages
row_0 = refl

row_1 : page (codes "\\" ++ (9 ∷ []) ++ codes "\\A\\a\\ \\3\\" ++ (207 ∷ 134 ∷ []) ++ codes "\\" ++ (194 ∷ 171 ∷ []))
    ≡ codes "<p>\\" ++ (9 ∷ []) ++ codes "\\A\\a\\ \\3\\" ++ (207 ∷ 134 ∷ []) ++ codes "\\" ++ (194 ∷ 171 ∷ []) ++ codes "</p>"
unfolding pages
row_1 = refl

row_2 : page
    (codes "\\*not emphasized*\n\\<br/> not a tag\n\\[not a link](/foo)\n\\`not code`\n1\\. not a list\n\\* not a list\n"
    ++ codes "\\# not a heading\n\\[foo]: /url \"not a reference\"\n\\&ouml; not a character entity")
    ≡ codes "<p>*not emphasized*\n&lt;br/&gt; not a tag\n[not a link](/foo)\n`not code`\n1. not a list\n* not a list\n"
    ++ codes "# not a heading\n[foo]: /url &quot;not a reference&quot;\n&amp;ouml; not a character entity</p>"
unfolding pages
row_2 = refl

row_3 : page (codes "\\\\*emphasis*") ≡ codes "<p>\\<em>emphasis</em></p>"
unfolding pages
row_3 = refl

row_4 : page (codes "foo\\\nbar") ≡ codes "<p>foo<br />\nbar</p>"
unfolding pages
row_4 = refl

row_5 : page (codes "`` \\[\\` ``") ≡ codes "<p><code>\\[\\`</code></p>"
unfolding pages
row_5 = refl

row_6 : page (codes "<https://example.com?find=\\*>") ≡ codes "<p><a href=\"https://example.com?find=%5C*\">https://example.com?find=\\*</a></p>"
unfolding pages
row_6 = refl

row_7 : page (codes "[foo](/bar\\* \"ti\\*tle\")") ≡ codes "<p><a href=\"/bar*\" title=\"ti*tle\">foo</a></p>"
unfolding pages
row_7 = refl

row_8 : page (codes "[foo]\n\n[foo]: /bar\\* \"ti\\*tle\"") ≡ codes "<p><a href=\"/bar*\" title=\"ti*tle\">foo</a></p>\n"
unfolding pages
row_8 = refl
