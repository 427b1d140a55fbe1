-- Autolinks (CommonMark 6.5).
use Rattle.std.specs.Prelude.{◌≡◌, codes}
use Rattle.std.proofs.Common.{refl}
use Rattle.examples_inline.proofs.Computing.{pages}
use Rattle.examples_inline.specs.Pages.{page}

row_0 : page (codes "<http://foo.bar.baz>") ≡ codes "<p><a href=\"http://foo.bar.baz\">http://foo.bar.baz</a></p>"
unfolding pages
row_0 = refl

row_1 : page (codes "<https://foo.bar.baz/test?q=hello&id=22&boolean>")
    ≡ codes "<p><a href=\"https://foo.bar.baz/test?q=hello&amp;id=22&amp;boolean\">https://foo.bar.baz/test?q=hello&amp;id=22&amp;boolean</a></p>"
unfolding pages
row_1 = refl

row_2 : page (codes "<irc://foo.bar:2233/baz>") ≡ codes "<p><a href=\"irc://foo.bar:2233/baz\">irc://foo.bar:2233/baz</a></p>"
unfolding pages
row_2 = refl

row_3 : page (codes "<MAILTO:FOO@BAR.BAZ>") ≡ codes "<p><a href=\"MAILTO:FOO@BAR.BAZ\">MAILTO:FOO@BAR.BAZ</a></p>"
unfolding pages
row_3 = refl

row_4 : page (codes "<a+b+c:d>") ≡ codes "<p><a href=\"\">a+b+c:d</a></p>"
unfolding pages
row_4 = refl

row_5 : page (codes "<made-up-scheme://foo,bar>") ≡ codes "<p><a href=\"\">made-up-scheme://foo,bar</a></p>"
unfolding pages
row_5 = refl

row_6 : page (codes "<https://../>") ≡ codes "<p><a href=\"https://../\">https://../</a></p>"
unfolding pages
row_6 = refl

row_7 : page (codes "<localhost:5001/foo>") ≡ codes "<p><a href=\"\">localhost:5001/foo</a></p>"
unfolding pages
row_7 = refl

row_8 : page (codes "<https://foo.bar/baz bim>") ≡ codes "<p>&lt;https://foo.bar/baz bim&gt;</p>"
unfolding pages
row_8 = refl

row_9 : page (codes "<https://example.com/\\[\\>") ≡ codes "<p><a href=\"https://example.com/%5C%5B%5C\">https://example.com/\\[\\</a></p>"
unfolding pages
row_9 = refl

row_10 : page (codes "<foo@bar.example.com>") ≡ codes "<p><a href=\"mailto:foo@bar.example.com\">foo@bar.example.com</a></p>"
unfolding pages
row_10 = refl

row_11 : page (codes "<foo+special@Bar.baz-bar0.com>") ≡ codes "<p><a href=\"mailto:foo+special@Bar.baz-bar0.com\">foo+special@Bar.baz-bar0.com</a></p>"
unfolding pages
row_11 = refl

row_12 : page (codes "<foo\\+@bar.example.com>") ≡ codes "<p>&lt;foo+@bar.example.com&gt;</p>"
unfolding pages
row_12 = refl

row_13 : page (codes "<>") ≡ codes "<p>&lt;&gt;</p>"
unfolding pages
row_13 = refl

row_14 : page (codes "< https://foo.bar >") ≡ codes "<p>&lt; https://foo.bar &gt;</p>"
unfolding pages
row_14 = refl

row_15 : page (codes "<m:abc>") ≡ codes "<p>&lt;m:abc&gt;</p>"
unfolding pages
row_15 = refl

row_16 : page (codes "<foo.bar.baz>") ≡ codes "<p>&lt;foo.bar.baz&gt;</p>"
unfolding pages
row_16 = refl

row_17 : page (codes "https://example.com") ≡ codes "<p>https://example.com</p>"
unfolding pages
row_17 = refl

row_18 : page (codes "foo@bar.example.com") ≡ codes "<p>foo@bar.example.com</p>"
unfolding pages
row_18 = refl
