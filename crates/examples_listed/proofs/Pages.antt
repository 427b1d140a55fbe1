-- Pages of Markdown with raw HTML as text in elements without a name.
use Rattle.std.specs.Prelude.{◌≡◌, codes}
use Rattle.std.proofs.Common.{refl}
use Rattle.examples_listed.proofs.Computing.{lists}
use Rattle.examples_listed.specs.Kept.{page_of}

row_0 : page_of (codes "<p><em>a <>&lt;b&gt;</>b<>&lt;/b&gt;</></em></p>")
    ≡ codes "<p><em>a <b>b</b></em></p>"
unfolding lists
row_0 = refl

row_1 : page_of (codes "<p><a href=\"u\"><>&lt;b&gt;</>a<>&lt;/b&gt;</></a></p>")
    ≡ codes "<p><a href=\"u\"><b>a</b></a></p>"
unfolding lists
row_1 = refl

row_2 : page_of (codes "<p><em><>&lt;b&gt;</>a</em><>&lt;/b&gt;</></p>")
    ≡ codes "<p><em><b>a</b></em></p>"
unfolding lists
row_2 = refl

row_3 : page_of (codes "<p><>&lt;b&gt;</>a</p>\n<p>b<>&lt;/b&gt;</></p>")
    ≡ codes "<p><b>a</b></p>\n<p>b</p>"
unfolding lists
row_3 = refl

row_4 : page_of (codes "<>&lt;div&gt;</>\n<p>a</p>\n")
    ≡ codes "<div>\n<p>a</p>\n</div>"
unfolding lists
row_4 = refl

row_5 : page_of (codes "<blockquote>\n<>&lt;div&gt;</>\n</blockquote>\n<p>a<>&lt;/div&gt;</></p>\n")
    ≡ codes "<blockquote>\n<div>\n</div></blockquote>\n<p>a</p>\n"
unfolding lists
row_5 = refl

row_6 : page_of (codes "<ul>\n<li><>&lt;b&gt;</>a</li>\n<li>b<>&lt;/b&gt;</></li>\n</ul>\n")
    ≡ codes "<ul>\n<li><b>a</b></li>\n<li>b</li>\n</ul>\n"
unfolding lists
row_6 = refl

row_7 : page_of (codes "<ul>\n<li>\n<>&lt;li&gt;a</>\n</li>\n</ul>\n")
    ≡ codes "<ul>\n<li>\na\n</li>\n</ul>\n"
unfolding lists
row_7 = refl

row_8 : page_of (codes "<>&lt;table&gt;</>\n<p>a</p>\n<>&lt;tr&gt;&lt;td&gt;b&lt;/table&gt;</>\n")
    ≡ codes "<table>\n</table><p>a</p>\nb\n"
unfolding lists
row_8 = refl

row_9 : page_of (codes "<>&lt;h1&gt;</>\n<h1>a</h1>\n")
    ≡ codes "<h1>\n</h1><h1>a</h1>\n"
unfolding lists
row_9 = refl

row_10 : page_of (codes "<h1><>&lt;h2&gt;</>a<>&lt;/h2&gt;</></h1>\n")
    ≡ codes "<h1>a</h1>\n"
unfolding lists
row_10 = refl

row_11 : page_of (codes "<>&lt;div</>\n<>  title=&quot;a&quot;&gt;b&lt;/div&gt;</>\n")
    ≡ codes "<div title=\"a\">b</div>\n"
unfolding lists
row_11 = refl

row_12 : page_of (codes "<p>a<>&lt;br&gt;</>b<br />\nc</p>")
    ≡ codes "<p>a<br />b<br />\nc</p>"
unfolding lists
row_12 = refl

row_13 : page_of (codes "<>&lt;div align=center&gt;</>\n<h1>a</h1>\n<>&lt;/div&gt;</>\n")
    ≡ codes "<div align=\"center\">\n<h1>a</h1>\n</div>\n"
unfolding lists
row_13 = refl

row_14 : page_of (codes "<p>a &amp; b</p>\n<hr />\n")
    ≡ codes "<p>a &amp; b</p>\n<hr />\n"
unfolding lists
row_14 = refl

row_15 : page_of (codes "<p><>&lt;b&gt;</p>")
    ≡ codes "<p><b></b>"
unfolding lists
row_15 = refl

row_16 : page_of (codes "<p>a</p></p><>&lt;b&gt;")
    ≡ codes "<p>a</p></p><b></b>"
unfolding lists
row_16 = refl

row_17 : page_of (codes "<>a\"</>b")
    ≡ codes "b"
unfolding lists
row_17 = refl

row_18 : page_of (codes "<h2><em><>&lt;h1&gt;a&lt;/h1&gt;</></em></h2><>&lt;h1&gt;b&lt;/h1&gt;</>")
    ≡ codes "<h2><em>a</em></h2><h1>b</h1>"
unfolding lists
row_18 = refl
