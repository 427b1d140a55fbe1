-- Tags of the list: start tags, void tags, end tags.
use Rattle.std.specs.Prelude.{◌≡◌, codes}
use Rattle.std.proofs.Common.{refl}
use Rattle.examples_listed.proofs.Computing.{lists}
use Rattle.examples_listed.specs.Kept.{kept}

row_0 : kept (codes "<b>a</b>") ≡ codes "<b>a</b>"
unfolding lists
row_0 = refl

row_1 : kept (codes "<B>a</B>") ≡ codes "<b>a</b>"
unfolding lists
row_1 = refl

row_2 : kept (codes "a<br>b") ≡ codes "a<br />b"
unfolding lists
row_2 = refl

row_3 : kept (codes "<hr/>") ≡ codes "<hr />"
unfolding lists
row_3 = refl

row_4 : kept (codes "<b/>a") ≡ codes "<b></b>a"
unfolding lists
row_4 = refl

row_5 : kept (codes "<b>a") ≡ codes "<b>a</b>"
unfolding lists
row_5 = refl

row_6 : kept (codes "a</b>") ≡ codes "a"
unfolding lists
row_6 = refl

row_7 : kept (codes "a</br>b") ≡ codes "ab"
unfolding lists
row_7 = refl

row_8 : kept (codes "<b>\n</b\n>") ≡ codes "<b>\n</b>"
unfolding lists
row_8 = refl
