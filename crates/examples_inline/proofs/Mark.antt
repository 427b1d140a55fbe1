-- Marked text: an extension, in neither CommonMark nor GFM.
use Rattle.std.specs.Prelude.{◌≡◌, codes}
use Rattle.std.proofs.Common.{refl}
use Rattle.examples_inline.proofs.Computing.{pages}
use Rattle.examples_inline.specs.Pages.{page, page_with, with_mark}

row_0 : page (codes "==a==") ≡ codes "<p>==a==</p>"
unfolding pages
row_0 = refl

row_1 : page (codes "==a\n==") ≡ codes "<h1>==a</h1>"
unfolding pages
row_1 = refl

row_2 : page_with with_mark (codes "a ==b== c") ≡ codes "<p>a <mark>b</mark> c</p>"
unfolding pages
row_2 = refl

row_3 : page_with with_mark (codes "===a===") ≡ codes "<p>===a===</p>"
unfolding pages
row_3 = refl

row_4 : page_with with_mark (codes "=a=") ≡ codes "<p>=a=</p>"
unfolding pages
row_4 = refl

row_5 : page_with with_mark (codes "==a *b== c*") ≡ codes "<p><mark>a *b</mark> c*</p>"
unfolding pages
row_5 = refl

row_6 : page_with with_mark (codes "*a ==b* c==") ≡ codes "<p><em>a ==b</em> c==</p>"
unfolding pages
row_6 = refl

row_7 : page_with with_mark (codes "![==a==](b)") ≡ codes "<p><img src=\"b\" alt=\"a\" /></p>"
unfolding pages
row_7 = refl

row_8 : page_with with_mark (codes "\\==a==") ≡ codes "<p>==a==</p>"
unfolding pages
row_8 = refl

row_9 : page_with with_mark (codes "a\n==") ≡ codes "<h1>a</h1>"
unfolding pages
row_9 = refl

row_10 : page_with with_mark (codes "a\n==b==") ≡ codes "<p>a\n<mark>b</mark></p>"
unfolding pages
row_10 = refl

row_11 : page_with with_mark (codes "==a==b==") ≡ codes "<p><mark>a</mark>b==</p>"
unfolding pages
row_11 = refl

row_12 : page_with with_mark (codes "a==b==c") ≡ codes "<p>a<mark>b</mark>c</p>"
unfolding pages
row_12 = refl

row_13 : page_with with_mark (codes "== a==") ≡ codes "<p>== a==</p>"
unfolding pages
row_13 = refl

row_14 : page_with with_mark (codes "[==a](b)==") ≡ codes "<p><a href=\"b\">==a</a>==</p>"
unfolding pages
row_14 = refl

row_15 : page_with with_mark (codes "==**a**==") ≡ codes "<p><mark><strong>a</strong></mark></p>"
unfolding pages
row_15 = refl

row_16 : page_with with_mark (codes "==a==\n---") ≡ codes "<h2><mark>a</mark></h2>"
unfolding pages
row_16 = refl

row_17 : page_with with_mark (codes "==`==`") ≡ codes "<p>==<code>==</code></p>"
unfolding pages
row_17 = refl

row_18 : page_with with_mark (codes "==a===") ≡ codes "<p>==a===</p>"
unfolding pages
row_18 = refl
