-- Math in a text (in neither standard).
use Rattle.std.specs.Prelude.{◌≡◌, true, false, codes}
use Rattle.std.proofs.Common.{refl}
use Rattle.examples_inline.proofs.Computing.{pages}
use Rattle.examples_inline.specs.Pages.{page, page_with, with_math}

row_0 : page (codes "$a$") ≡ codes "<p>$a$</p>"
unfolding pages
row_0 = refl

row_1 : page_with (with_math true) (codes "$a$") ≡ codes "<p><code class=\"language-math math-inline\">a</code></p>"
unfolding pages
row_1 = refl

row_2 : page_with (with_math true) (codes "$$a$$") ≡ codes "<p><code class=\"language-math math-inline\">a</code></p>"
unfolding pages
row_2 = refl

row_3 : page_with (with_math true) (codes "$$a$") ≡ codes "<p>$$a$</p>"
unfolding pages
row_3 = refl

row_4 : page_with (with_math false) (codes "$a$") ≡ codes "<p>$a$</p>"
unfolding pages
row_4 = refl

row_5 : page_with (with_math false) (codes "$$a$$") ≡ codes "<p><code class=\"language-math math-inline\">a</code></p>"
unfolding pages
row_5 = refl

row_6 : page_with (with_math true) (codes "$`a$`") ≡ codes "<p><code class=\"language-math math-inline\">`a</code>`</p>"
unfolding pages
row_6 = refl

row_7 : page_with (with_math true) (codes "\\$a$") ≡ codes "<p>$a$</p>"
unfolding pages
row_7 = refl

row_8 : page_with (with_math true) (codes "![$a$](b)") ≡ codes "<p><img src=\"b\" alt=\"a\" /></p>"
unfolding pages
row_8 = refl
