-- Checks of task list items (GFM 5.3).
use Rattle.std.specs.Prelude.{◌≡◌, true, false, codes}
use Rattle.std.proofs.Common.{refl}
use Rattle.examples_inline.proofs.Computing.{pages}
use Rattle.examples_inline.specs.Pages.{page, page_with, with_tasks}

row_0 : page (codes "- [x] a") ≡ codes "<ul>\n<li>[x] a</li>\n</ul>"
unfolding pages
row_0 = refl

row_1 : page_with (with_tasks false) (codes "- [x] a") ≡ codes "<ul>\n<li><input type=\"checkbox\" disabled=\"\" checked=\"\" /> a</li>\n</ul>"
unfolding pages
row_1 = refl

row_2 : page_with (with_tasks true) (codes "- [ ] a") ≡ codes "<ul>\n<li><input type=\"checkbox\" /> a</li>\n</ul>"
unfolding pages
row_2 = refl

row_3 : page_with (with_tasks false) (codes "- [ ]  ") ≡ codes "<ul>\n<li>[ ]</li>\n</ul>"
unfolding pages
row_3 = refl

row_4 : page_with (with_tasks false) (codes "- a\n\n  [x] b") ≡ codes "<ul>\n<li>\n<p>a</p>\n<p>[x] b</p>\n</li>\n</ul>"
unfolding pages
row_4 = refl
