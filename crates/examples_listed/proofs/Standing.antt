-- Elements that end others, and tags that print nothing.
use Rattle.std.specs.Prelude.{◌≡◌, codes}
use Rattle.std.proofs.Common.{refl}
use Rattle.examples_listed.proofs.Computing.{lists}
use Rattle.examples_listed.specs.Kept.{kept}

row_0 : kept (codes "<li>a</li>") ≡ codes "a"
unfolding lists
row_0 = refl

row_1 : kept (codes "<ul><li>a<li>b</ul>") ≡ codes "<ul><li>a</li><li>b</li></ul>"
unfolding lists
row_1 = refl

row_2 : kept (codes "<td>a</td>") ≡ codes "a"
unfolding lists
row_2 = refl

row_3 : kept (codes "<table><tr><td>a<td>b</table>") ≡ codes "<table><tr><td>a</td><td>b</td></tr></table>"
unfolding lists
row_3 = refl

row_4 : kept (codes "<table><b>a</b></table>") ≡ codes "<table></table><b>a</b>"
unfolding lists
row_4 = refl

row_5 : kept (codes "<table><table>") ≡ codes "<table></table><table></table>"
unfolding lists
row_5 = refl

row_6 : kept (codes "<dl><dt>a<dd>b</dl>") ≡ codes "<dl><dt>a</dt><dd>b</dd></dl>"
unfolding lists
row_6 = refl

row_7 : kept (codes "<ruby>a<rt>b</ruby>") ≡ codes "<ruby>a<rt>b</rt></ruby>"
unfolding lists
row_7 = refl

row_8 : kept (codes "<h1>a<h2>b</h2></h1>") ≡ codes "<h1>a</h1><h2>b</h2>"
unfolding lists
row_8 = refl

row_9 : kept (codes "<h1><div><h2><h3>a</h3></h2></div></h1>") ≡ codes "<h1><div></div></h1><h2></h2><h3>a</h3>"
unfolding lists
row_9 = refl

row_10 : kept (codes "<ul><li><div><li></li></div></li></ul>") ≡ codes "<ul><li><div></div></li><li></li></ul>"
unfolding lists
row_10 = refl

row_11 : kept (codes "<b><i>a</b>b</i>") ≡ codes "<b><i>a</i></b>b"
unfolding lists
row_11 = refl

row_12 : kept (codes "<table><thead><tr><th>a</table>") ≡ codes "<table><thead><tr><th>a</th></tr></thead></table>"
unfolding lists
row_12 = refl

row_13 : kept (codes "<table><hr></table>") ≡ codes "<table></table><hr />"
unfolding lists
row_13 = refl

row_14 : kept (codes "<tr><td>a") ≡ codes "a"
unfolding lists
row_14 = refl

row_15 : kept (codes "<ul><ol></ul></li>") ≡ codes "<ul><ol></ol></ul>"
unfolding lists
row_15 = refl
