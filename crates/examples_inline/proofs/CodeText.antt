-- Code spans (CommonMark 6.1).
use Rattle.std.specs.Prelude.{◌≡◌, [], ◌∷◌, ◌++◌, codes}
use Rattle.std.proofs.Common.{refl}
use Rattle.examples_inline.proofs.Computing.{pages}
use Rattle.examples_inline.specs.Pages.{page}

row_0 : page (codes "`hi`lo`") ≡ codes "<p><code>hi</code>lo`</p>"
unfolding pages
row_0 = refl

row_1 : page (codes "`foo`") ≡ codes "<p><code>foo</code></p>"
unfolding pages
row_1 = refl

row_2 : page (codes "`` foo ` bar ``") ≡ codes "<p><code>foo ` bar</code></p>"
unfolding pages
row_2 = refl

row_3 : page (codes "` `` `") ≡ codes "<p><code>``</code></p>"
unfolding pages
row_3 = refl

row_4 : page (codes "`  ``  `") ≡ codes "<p><code> `` </code></p>"
unfolding pages
row_4 = refl

row_5 : page (codes "` a`") ≡ codes "<p><code> a</code></p>"
unfolding pages
row_5 = refl

row_6 : page (codes "`" ++ (194 ∷ 160 ∷ []) ++ codes "b" ++ (194 ∷ 160 ∷ []) ++ codes "`")
    ≡ codes "<p><code>" ++ (194 ∷ 160 ∷ []) ++ codes "b" ++ (194 ∷ 160 ∷ []) ++ codes "</code></p>"
unfolding pages
row_6 = refl

row_7 : page (codes "`" ++ (194 ∷ 160 ∷ []) ++ codes "`\n`  `") ≡ codes "<p><code>" ++ (194 ∷ 160 ∷ []) ++ codes "</code>\n<code>  </code></p>"
unfolding pages
row_7 = refl

row_8 : page (codes "``\nfoo\nbar  \nbaz\n``") ≡ codes "<p><code>foo bar   baz</code></p>"
unfolding pages
row_8 = refl

row_9 : page (codes "``\nfoo \n``") ≡ codes "<p><code>foo </code></p>"
unfolding pages
row_9 = refl

row_10 : page (codes "`foo   bar \nbaz`") ≡ codes "<p><code>foo   bar  baz</code></p>"
unfolding pages
row_10 = refl

row_11 : page (codes "`foo\\`bar`") ≡ codes "<p><code>foo\\</code>bar`</p>"
unfolding pages
row_11 = refl

row_12 : page (codes "``foo`bar``") ≡ codes "<p><code>foo`bar</code></p>"
unfolding pages
row_12 = refl

row_13 : page (codes "` foo `` bar `") ≡ codes "<p><code>foo `` bar</code></p>"
unfolding pages
row_13 = refl

row_14 : page (codes "*foo`*`") ≡ codes "<p>*foo<code>*</code></p>"
unfolding pages
row_14 = refl

row_15 : page (codes "[not a `link](/foo`)") ≡ codes "<p>[not a <code>link](/foo</code>)</p>"
unfolding pages
row_15 = refl

row_16 : page (codes "`<a href=\"`\">`") ≡ codes "<p><code>&lt;a href=&quot;</code>&quot;&gt;`</p>"
unfolding pages
row_16 = refl

row_17 : page (codes "<a href=\"`\">`") ≡ codes "<p>&lt;a href=&quot;`&quot;&gt;`</p>"
unfolding pages
row_17 = refl

row_18 : page (codes "`<https://foo.bar.`baz>`") ≡ codes "<p><code>&lt;https://foo.bar.</code>baz&gt;`</p>"
unfolding pages
row_18 = refl

row_19 : page (codes "<https://foo.bar.`baz>`") ≡ codes "<p><a href=\"https://foo.bar.%60baz\">https://foo.bar.`baz</a>`</p>"
unfolding pages
row_19 = refl

row_20 : page (codes "```foo``") ≡ codes "<p>```foo``</p>"
unfolding pages
row_20 = refl

row_21 : page (codes "`foo") ≡ codes "<p>`foo</p>"
unfolding pages
row_21 = refl

row_22 : page (codes "`foo``bar``") ≡ codes "<p>`foo<code>bar</code></p>"
unfolding pages
row_22 = refl
