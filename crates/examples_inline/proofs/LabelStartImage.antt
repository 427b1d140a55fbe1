-- Images (CommonMark 6.4).
use Rattle.std.specs.Prelude.{◌≡◌, codes}
use Rattle.std.proofs.Common.{refl}
use Rattle.examples_inline.proofs.Computing.{pages}
use Rattle.examples_inline.specs.Pages.{page}

row_0 : page (codes "![foo](/url \"title\")") ≡ codes "<p><img src=\"/url\" alt=\"foo\" title=\"title\" /></p>"
unfolding pages
row_0 = refl

row_1 : page (codes "![foo *bar*]\n\n[foo *bar*]: train.jpg \"train & tracks\"")
    ≡ codes "<p><img src=\"train.jpg\" alt=\"foo bar\" title=\"train &amp; tracks\" /></p>\n"
unfolding pages
row_1 = refl

row_2 : page (codes "![foo ![bar](/url)](/url2)") ≡ codes "<p><img src=\"/url2\" alt=\"foo bar\" /></p>"
unfolding pages
row_2 = refl

row_3 : page (codes "![foo [bar](/url)](/url2)") ≡ codes "<p><img src=\"/url2\" alt=\"foo bar\" /></p>"
unfolding pages
row_3 = refl

row_4 : page (codes "![foo *bar*][]\n\n[foo *bar*]: train.jpg \"train & tracks\"")
    ≡ codes "<p><img src=\"train.jpg\" alt=\"foo bar\" title=\"train &amp; tracks\" /></p>\n"
unfolding pages
row_4 = refl

row_5 : page (codes "![foo *bar*][foobar]\n\n[FOOBAR]: train.jpg \"train & tracks\"")
    ≡ codes "<p><img src=\"train.jpg\" alt=\"foo bar\" title=\"train &amp; tracks\" /></p>\n"
unfolding pages
row_5 = refl

row_6 : page (codes "![foo](train.jpg)") ≡ codes "<p><img src=\"train.jpg\" alt=\"foo\" /></p>"
unfolding pages
row_6 = refl

row_7 : page (codes "My ![foo bar](/path/to/train.jpg  \"title\"   )") ≡ codes "<p>My <img src=\"/path/to/train.jpg\" alt=\"foo bar\" title=\"title\" /></p>"
unfolding pages
row_7 = refl

row_8 : page (codes "![foo](<url>)") ≡ codes "<p><img src=\"url\" alt=\"foo\" /></p>"
unfolding pages
row_8 = refl

row_9 : page (codes "![](/url)") ≡ codes "<p><img src=\"/url\" alt=\"\" /></p>"
unfolding pages
row_9 = refl

row_10 : page (codes "![foo][bar]\n\n[bar]: /url") ≡ codes "<p><img src=\"/url\" alt=\"foo\" /></p>\n"
unfolding pages
row_10 = refl

row_11 : page (codes "![foo][bar]\n\n[BAR]: /url") ≡ codes "<p><img src=\"/url\" alt=\"foo\" /></p>\n"
unfolding pages
row_11 = refl

row_12 : page (codes "![foo][]\n\n[foo]: /url \"title\"") ≡ codes "<p><img src=\"/url\" alt=\"foo\" title=\"title\" /></p>\n"
unfolding pages
row_12 = refl

row_13 : page (codes "![*foo* bar][]\n\n[*foo* bar]: /url \"title\"") ≡ codes "<p><img src=\"/url\" alt=\"foo bar\" title=\"title\" /></p>\n"
unfolding pages
row_13 = refl

row_14 : page (codes "![Foo][]\n\n[foo]: /url \"title\"") ≡ codes "<p><img src=\"/url\" alt=\"Foo\" title=\"title\" /></p>\n"
unfolding pages
row_14 = refl

row_15 : page (codes "![foo] \n[]\n\n[foo]: /url \"title\"") ≡ codes "<p><img src=\"/url\" alt=\"foo\" title=\"title\" />\n[]</p>\n"
unfolding pages
row_15 = refl

row_16 : page (codes "![foo]\n\n[foo]: /url \"title\"") ≡ codes "<p><img src=\"/url\" alt=\"foo\" title=\"title\" /></p>\n"
unfolding pages
row_16 = refl

row_17 : page (codes "![*foo* bar]\n\n[*foo* bar]: /url \"title\"") ≡ codes "<p><img src=\"/url\" alt=\"foo bar\" title=\"title\" /></p>\n"
unfolding pages
row_17 = refl

row_18 : page (codes "![Foo]\n\n[foo]: /url \"title\"") ≡ codes "<p><img src=\"/url\" alt=\"Foo\" title=\"title\" /></p>\n"
unfolding pages
row_18 = refl

row_19 : page (codes "!\\[foo]\n\n[foo]: /url \"title\"") ≡ codes "<p>![foo]</p>\n"
unfolding pages
row_19 = refl

row_20 : page (codes "\\![foo]\n\n[foo]: /url \"title\"") ≡ codes "<p>!<a href=\"/url\" title=\"title\">foo</a></p>\n"
unfolding pages
row_20 = refl

row_21 : page (codes "![[foo]]\n\n[[foo]]: /url \"title\"") ≡ codes "<p>![[foo]]</p>\n<p>[[foo]]: /url &quot;title&quot;</p>"
unfolding pages
row_21 = refl
