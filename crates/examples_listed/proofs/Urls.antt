-- Attributes with a URL.
use Rattle.std.specs.Prelude.{◌≡◌, codes}
use Rattle.std.proofs.Common.{refl}
use Rattle.examples_listed.proofs.Computing.{lists}
use Rattle.examples_listed.specs.Kept.{kept}

row_0 : kept (codes "<a href=\"https://x/?a=1&amp;b=2 c\">d</a>") ≡ codes "<a href=\"https://x/?a=1&amp;b=2%20c\">d</a>"
unfolding lists
row_0 = refl

row_1 : kept (codes "<a href=\"javascript:a\">b</a>") ≡ codes "<a href=\"\">b</a>"
unfolding lists
row_1 = refl

row_2 : kept (codes "<a href=\"java&#10;script:a\">b</a>") ≡ codes "<a href=\"\">b</a>"
unfolding lists
row_2 = refl

row_3 : kept (codes "<a href=\"a\n b\">") ≡ codes "<a href=\"a%20b\"></a>"
unfolding lists
row_3 = refl

row_4 : kept (codes "<b href=x src=y>") ≡ codes "<b></b>"
unfolding lists
row_4 = refl

row_5 : kept (codes "<img src=data:a>") ≡ codes "<img src=\"\" />"
unfolding lists
row_5 = refl

row_6 : kept (codes "<a href=x/>b") ≡ codes "<a href=\"x/\">b</a>"
unfolding lists
row_6 = refl

row_7 : kept (codes "<a href=x />b") ≡ codes "<a href=\"x\"></a>b"
unfolding lists
row_7 = refl

row_8 : kept (codes "<a href=mailto:a>") ≡ codes "<a href=\"mailto:a\"></a>"
unfolding lists
row_8 = refl
