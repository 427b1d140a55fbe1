-- Hard line breaks by a backslash (CommonMark 6.7).
use Rattle.std.specs.Prelude.{◌≡◌, codes}
use Rattle.std.proofs.Common.{refl}
use Rattle.examples_inline.proofs.Computing.{pages}
use Rattle.examples_inline.specs.Pages.{page}

row_0 : page (codes "foo\\\nbaz") ≡ codes "<p>foo<br />\nbaz</p>"
unfolding pages
row_0 = refl

row_1 : page (codes "foo\\\n     bar") ≡ codes "<p>foo<br />\nbar</p>"
unfolding pages
row_1 = refl

row_2 : page (codes "*foo\\\nbar*") ≡ codes "<p><em>foo<br />\nbar</em></p>"
unfolding pages
row_2 = refl

row_3 : page (codes "`code\\\nspan`") ≡ codes "<p><code>code\\ span</code></p>"
unfolding pages
row_3 = refl

row_4 : page (codes "foo\\") ≡ codes "<p>foo\\</p>"
unfolding pages
row_4 = refl

row_5 : page (codes "### foo\\") ≡ codes "<h3>foo\\</h3>"
unfolding pages
row_5 = refl
