-- Strikethrough (GFM 6.5).
use Rattle.std.specs.Prelude.{◌≡◌, true, false, codes}
use Rattle.std.proofs.Common.{refl}
use Rattle.examples_inline.proofs.Computing.{pages}
use Rattle.examples_inline.specs.Pages.{page, page_with, with_strikethrough}

row_0 : page (codes "~~a~~") ≡ codes "<p>~~a~~</p>"
unfolding pages
row_0 = refl

row_1 : page_with (with_strikethrough true) (codes "~~Hi~~ Hello, ~there~ world!") ≡ codes "<p><del>Hi</del> Hello, <del>there</del> world!</p>"
unfolding pages
row_1 = refl

row_2 : page_with (with_strikethrough true) (codes "This will ~~~not~~~ strike.") ≡ codes "<p>This will ~~~not~~~ strike.</p>"
unfolding pages
row_2 = refl

row_3 : page_with (with_strikethrough true) (codes "~a~~") ≡ codes "<p>~a~~</p>"
unfolding pages
row_3 = refl

row_4 : page_with (with_strikethrough false) (codes "~a~") ≡ codes "<p>~a~</p>"
unfolding pages
row_4 = refl

row_5 : page_with (with_strikethrough false) (codes "~~a~~") ≡ codes "<p><del>a</del></p>"
unfolding pages
row_5 = refl

row_6 : page_with (with_strikethrough true) (codes "~~a *b~~ c*") ≡ codes "<p><del>a *b</del> c*</p>"
unfolding pages
row_6 = refl

row_7 : page_with (with_strikethrough true) (codes "*a ~~b* c~~") ≡ codes "<p><em>a ~~b</em> c~~</p>"
unfolding pages
row_7 = refl

row_8 : page_with (with_strikethrough true) (codes "~~**a**~~") ≡ codes "<p><del><strong>a</strong></del></p>"
unfolding pages
row_8 = refl
