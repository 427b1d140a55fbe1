-- Attributes of the list, and their values.
use Rattle.std.specs.Prelude.{◌≡◌, codes}
use Rattle.std.proofs.Common.{refl}
use Rattle.examples_listed.proofs.Computing.{lists}
use Rattle.examples_listed.specs.Kept.{kept}

row_0 : kept (codes "<b title=\"a&quot;b\">c</b>") ≡ codes "<b title=\"a&quot;b\">c</b>"
unfolding lists
row_0 = refl

row_1 : kept (codes "<b TITLE='&lt;' title=x>c</b>") ≡ codes "<b title=\"&lt;\">c</b>"
unfolding lists
row_1 = refl

row_2 : kept (codes "<b class=a id=b style=c onclick=d>e</b>") ≡ codes "<b>e</b>"
unfolding lists
row_2 = refl

row_3 : kept (codes "<details open>") ≡ codes "<details open=\"\"></details>"
unfolding lists
row_3 = refl

row_4 : kept (codes "<p align=center dir=\"ltr\">") ≡ codes "<p align=\"center\" dir=\"ltr\"></p>"
unfolding lists
row_4 = refl

row_5 : kept (codes "<b\n  title=\"a\nb\">") ≡ codes "<b title=\"a\nb\"></b>"
unfolding lists
row_5 = refl

row_6 : kept (codes "<i title='a\"b&lt;&x'>") ≡ codes "<i title=\"a&quot;b&lt;&amp;x\"></i>"
unfolding lists
row_6 = refl

row_7 : kept (codes "<img src=a.png width=10 height=\"20\" onerror=x>") ≡ codes "<img src=\"a.png\" width=\"10\" height=\"20\" />"
unfolding lists
row_7 = refl

row_8 : kept (codes "<td colspan=2>") ≡ codes ""
unfolding lists
row_8 = refl

row_9 : kept (codes "<b title>") ≡ codes "<b title=\"\"></b>"
unfolding lists
row_9 = refl

row_10 : kept (codes "<b title = a >") ≡ codes "<b title=\"a\"></b>"
unfolding lists
row_10 = refl
