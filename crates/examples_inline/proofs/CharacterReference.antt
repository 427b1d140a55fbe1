-- Character references (CommonMark 2.5).
use Rattle.std.specs.Prelude.{◌≡◌, [], ◌∷◌, ◌++◌, codes}
use Rattle.std.proofs.Common.{refl}
use Rattle.examples_inline.proofs.Computing.{pages}
use Rattle.examples_inline.specs.Pages.{page}

row_0 : page (codes "&nbsp; &amp; &copy; &AElig; &Dcaron;\n&frac34; &HilbertSpace; &DifferentialD;\n&ClockwiseContourIntegral; &ngE;")
    ≡ codes "<p>" ++ (194 ∷ 160 ∷ []) ++ codes " &amp; " ++ (194 ∷ 169 ∷ []) ++ codes " " ++ (195 ∷ 134 ∷ []) ++ codes " " ++ (196 ∷ 142 ∷ []) ++ codes "\n"
    ++ (194 ∷ 190 ∷ []) ++ codes " " ++ (226 ∷ 132 ∷ 139 ∷ []) ++ codes " " ++ (226 ∷ 133 ∷ 134 ∷ []) ++ codes "\n" ++ (226 ∷ 136 ∷ 178 ∷ []) ++ codes " "
    ++ (226 ∷ 137 ∷ 167 ∷ 204 ∷ 184 ∷ []) ++ codes "</p>"
unfolding pages
row_0 = refl

row_1 : page (codes "&#35; &#1234; &#992; &#0;") ≡ codes "<p># " ++ (211 ∷ 146 ∷ []) ++ codes " " ++ (207 ∷ 160 ∷ []) ++ codes " " ++ (239 ∷ 191 ∷ 189 ∷ [])
    ++ codes "</p>"
unfolding pages
row_1 = refl

row_2 : page (codes "&#X22; &#XD06; &#xcab;") ≡ codes "<p>&quot; " ++ (224 ∷ 180 ∷ 134 ∷ []) ++ codes " " ++ (224 ∷ 178 ∷ 171 ∷ []) ++ codes "</p>"
unfolding pages
row_2 = refl

row_3 : page (codes "&nbsp &x; &#; &#x;\n&#87654321;\n&#abcdef0;\n&ThisIsNotDefined; &hi?;")
    ≡ codes "<p>&amp;nbsp &amp;x; &amp;#; &amp;#x;\n&amp;#87654321;\n&amp;#abcdef0;\n&amp;ThisIsNotDefined; &amp;hi?;</p>"
unfolding pages
row_3 = refl

row_4 : page (codes "&copy") ≡ codes "<p>&amp;copy</p>"
unfolding pages
row_4 = refl

row_5 : page (codes "&MadeUpEntity;") ≡ codes "<p>&amp;MadeUpEntity;</p>"
unfolding pages
row_5 = refl

row_6 : page (codes "[foo](/f&ouml;&ouml; \"f&ouml;&ouml;\")") ≡ codes "<p><a href=\"/f%C3%B6%C3%B6\" title=\"f" ++ (195 ∷ 182 ∷ 195 ∷ 182 ∷ [])
    ++ codes "\">foo</a></p>"
unfolding pages
row_6 = refl

row_7 : page (codes "[foo]\n\n[foo]: /f&ouml;&ouml; \"f&ouml;&ouml;\"") ≡ codes "<p><a href=\"/f%C3%B6%C3%B6\" title=\"f" ++ (195 ∷ 182 ∷ 195 ∷ 182 ∷ [])
    ++ codes "\">foo</a></p>\n"
unfolding pages
row_7 = refl

row_8 : page (codes "`f&ouml;&ouml;`") ≡ codes "<p><code>f&amp;ouml;&amp;ouml;</code></p>"
unfolding pages
row_8 = refl

row_9 : page (codes "&#42;foo&#42;\n*foo*") ≡ codes "<p>*foo*\n<em>foo</em></p>"
unfolding pages
row_9 = refl

row_10 : page (codes "foo&#10;&#10;bar") ≡ codes "<p>foo\n\nbar</p>"
unfolding pages
row_10 = refl

row_11 : page (codes "&#9;foo") ≡ codes "<p>" ++ (9 ∷ []) ++ codes "foo</p>"
unfolding pages
row_11 = refl

row_12 : page (codes "[a](url &quot;tit&quot;)") ≡ codes "<p>[a](url &quot;tit&quot;)</p>"
unfolding pages
row_12 = refl
