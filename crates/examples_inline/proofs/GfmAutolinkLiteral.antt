-- Links with no brackets (GFM 6.9).
use Rattle.std.specs.Prelude.{◌≡◌, [], ◌∷◌, ◌++◌, codes}
use Rattle.std.proofs.Common.{refl}
use Rattle.examples_inline.proofs.Computing.{pages}
use Rattle.examples_inline.specs.Pages.{page, page_with, with_literals}

row_0 : page (codes "www.a.b") ≡ codes "<p>www.a.b</p>"
unfolding pages
row_0 = refl

row_1 : page_with with_literals (codes "www.a.b") ≡ codes "<p><a href=\"http://www.a.b\">www.a.b</a></p>"
unfolding pages
row_1 = refl

row_2 : page_with with_literals (codes "www.commonmark.org") ≡ codes "<p><a href=\"http://www.commonmark.org\">www.commonmark.org</a></p>"
unfolding pages
row_2 = refl

row_3 : page_with with_literals (codes "Visit www.commonmark.org/help for more information.")
    ≡ codes "<p>Visit <a href=\"http://www.commonmark.org/help\">www.commonmark.org/help</a> for more information.</p>"
unfolding pages
row_3 = refl

row_4 : page_with with_literals (codes "Visit www.commonmark.org.\n\nVisit www.commonmark.org/a.b.")
    ≡ codes "<p>Visit <a href=\"http://www.commonmark.org\">www.commonmark.org</a>.</p>\n"
    ++ codes "<p>Visit <a href=\"http://www.commonmark.org/a.b\">www.commonmark.org/a.b</a>.</p>"
unfolding pages
row_4 = refl

row_5 : page_with with_literals
    (codes "www.google.com/search?q=Markup+(business)\n\nwww.google.com/search?q=Markup+(business)))\n\n"
    ++ codes "(www.google.com/search?q=Markup+(business))\n\n(www.google.com/search?q=Markup+(business)")
    ≡ codes "<p><a href=\"http://www.google.com/search?q=Markup+(business)\">www.google.com/search?q=Markup+(business)</a></p>\n"
    ++ codes "<p><a href=\"http://www.google.com/search?q=Markup+(business)\">www.google.com/search?q=Markup+(business)</a>))</p>\n"
    ++ codes "<p>(<a href=\"http://www.google.com/search?q=Markup+(business)\">www.google.com/search?q=Markup+(business)</a>)</p>\n"
    ++ codes "<p>(<a href=\"http://www.google.com/search?q=Markup+(business)\">www.google.com/search?q=Markup+(business)</a></p>"
unfolding pages
row_5 = refl

row_6 : page_with with_literals (codes "www.google.com/search?q=(business))+ok")
    ≡ codes "<p><a href=\"http://www.google.com/search?q=(business))+ok\">www.google.com/search?q=(business))+ok</a></p>"
unfolding pages
row_6 = refl

row_7 : page_with with_literals (codes "www.google.com/search?q=commonmark&hl=en\n\nwww.google.com/search?q=commonmark&hl;")
    ≡ codes "<p><a href=\"http://www.google.com/search?q=commonmark&amp;hl=en\">www.google.com/search?q=commonmark&amp;hl=en</a></p>\n"
    ++ codes "<p><a href=\"http://www.google.com/search?q=commonmark\">www.google.com/search?q=commonmark</a>&amp;hl;</p>"
unfolding pages
row_7 = refl

row_8 : page_with with_literals (codes "www.commonmark.org/he<lp") ≡ codes "<p><a href=\"http://www.commonmark.org/he\">www.commonmark.org/he</a>&lt;lp</p>"
unfolding pages
row_8 = refl

row_9 : page_with with_literals (codes "http://commonmark.org\n\n(Visit https://encrypted.google.com/search?q=Markup+(business))")
    ≡ codes "<p><a href=\"http://commonmark.org\">http://commonmark.org</a></p>\n"
    ++ codes "<p>(Visit <a href=\"https://encrypted.google.com/search?q=Markup+(business)\">https://encrypted.google.com/search?q=Markup+(business)</a>)</p>"
unfolding pages
row_9 = refl

row_10 : page_with with_literals (codes "*www.a.b* hwww.a ahttp://b 1http://b")
    ≡ codes "<p><em><a href=\"http://www.a.b\">www.a.b</a></em> hwww.a ahttp://b 1<a href=\"http://b\">http://b</a></p>"
unfolding pages
row_10 = refl

row_11 : page_with with_literals (codes "www.a_b.c www.a.b_c www.a_b.c.d") ≡ codes "<p>www.a_b.c www.a.b_c <a href=\"http://www.a_b.c.d\">www.a_b.c.d</a></p>"
unfolding pages
row_11 = refl

row_12 : page_with with_literals (codes "`www.a` \\www.a <b@c.d> ww. http:/a")
    ≡ codes "<p><code>www.a</code> \\www.a <a href=\"mailto:b@c.d\">b@c.d</a> ww. http:/a</p>"
unfolding pages
row_12 = refl

row_13 : page_with with_literals (codes "a@b.c") ≡ codes "<p><a href=\"mailto:a@b.c\">a@b.c</a></p>"
unfolding pages
row_13 = refl

row_14 : page_with with_literals (codes "a@b") ≡ codes "<p>a@b</p>"
unfolding pages
row_14 = refl

row_15 : page_with with_literals (codes "a@b.c1") ≡ codes "<p>a@b.c1</p>"
unfolding pages
row_15 = refl

row_16 : page_with with_literals (codes "a@b.c-") ≡ codes "<p>a@b.c-</p>"
unfolding pages
row_16 = refl

row_17 : page_with with_literals (codes "a@b.c_") ≡ codes "<p>a@b.c_</p>"
unfolding pages
row_17 = refl

row_18 : page_with with_literals (codes "a@b-c.d_e") ≡ codes "<p><a href=\"mailto:a@b-c.d_e\">a@b-c.d_e</a></p>"
unfolding pages
row_18 = refl

row_19 : page_with with_literals (codes "a.b-c_d@a.b") ≡ codes "<p><a href=\"mailto:a.b-c_d@a.b\">a.b-c_d@a.b</a></p>"
unfolding pages
row_19 = refl

row_20 : page_with with_literals (codes "a.b-c_d@a.b.") ≡ codes "<p><a href=\"mailto:a.b-c_d@a.b\">a.b-c_d@a.b</a>.</p>"
unfolding pages
row_20 = refl

row_21 : page_with with_literals (codes "a.b-c_d@a.b-") ≡ codes "<p>a.b-c_d@a.b-</p>"
unfolding pages
row_21 = refl

row_22 : page_with with_literals (codes "a.b-c_d@a.b_") ≡ codes "<p>a.b-c_d@a.b_</p>"
unfolding pages
row_22 = refl

row_23 : page_with with_literals (codes "+a@b.c") ≡ codes "<p><a href=\"mailto:+a@b.c\">+a@b.c</a></p>"
unfolding pages
row_23 = refl

row_24 : page_with with_literals (codes ".a@b.c") ≡ codes "<p><a href=\"mailto:.a@b.c\">.a@b.c</a></p>"
unfolding pages
row_24 = refl

row_25 : page_with with_literals (codes "-@b.c") ≡ codes "<p><a href=\"mailto:-@b.c\">-@b.c</a></p>"
unfolding pages
row_25 = refl

row_26 : page_with with_literals (codes "@b.c") ≡ codes "<p>@b.c</p>"
unfolding pages
row_26 = refl

row_27 : page_with with_literals (codes "a@") ≡ codes "<p>a@</p>"
unfolding pages
row_27 = refl

row_28 : page_with with_literals (codes "a@@b.c") ≡ codes "<p>a@@b.c</p>"
unfolding pages
row_28 = refl

row_29 : page_with with_literals (codes "a@b@c.d") ≡ codes "<p>a@<a href=\"mailto:b@c.d\">b@c.d</a></p>"
unfolding pages
row_29 = refl

row_30 : page_with with_literals (codes "a@b.c@d.e") ≡ codes "<p><a href=\"mailto:a@b.c\">a@b.c</a>@d.e</p>"
unfolding pages
row_30 = refl

row_31 : page_with with_literals (codes "a@b..c") ≡ codes "<p>a@b..c</p>"
unfolding pages
row_31 = refl

row_32 : page_with with_literals (codes "a@b.c..") ≡ codes "<p><a href=\"mailto:a@b.c\">a@b.c</a>..</p>"
unfolding pages
row_32 = refl

row_33 : page_with with_literals (codes "a@.b") ≡ codes "<p><a href=\"mailto:a@.b\">a@.b</a></p>"
unfolding pages
row_33 = refl

row_34 : page_with with_literals (codes "/a@b.c") ≡ codes "<p>/a@b.c</p>"
unfolding pages
row_34 = refl

row_35 : page_with with_literals (codes "\\/a@b.c") ≡ codes "<p>/<a href=\"mailto:a@b.c\">a@b.c</a></p>"
unfolding pages
row_35 = refl

row_36 : page_with with_literals (codes "a/b@c.d") ≡ codes "<p>a/b@c.d</p>"
unfolding pages
row_36 = refl

row_37 : page_with with_literals (codes "a@b.c/d") ≡ codes "<p><a href=\"mailto:a@b.c\">a@b.c</a>/d</p>"
unfolding pages
row_37 = refl

row_38 : page_with with_literals (codes "mailto:a@b.c") ≡ codes "<p><a href=\"mailto:a@b.c\">mailto:a@b.c</a></p>"
unfolding pages
row_38 = refl

row_39 : page_with with_literals (codes "MAILTO:a@b.c") ≡ codes "<p>MAILTO:<a href=\"mailto:a@b.c\">a@b.c</a></p>"
unfolding pages
row_39 = refl

row_40 : page_with with_literals (codes "amailto:a@b.c") ≡ codes "<p>amailto:<a href=\"mailto:a@b.c\">a@b.c</a></p>"
unfolding pages
row_40 = refl

row_41 : page_with with_literals (codes "mailto:mailto:a@b.c") ≡ codes "<p>mailto:<a href=\"mailto:a@b.c\">mailto:a@b.c</a></p>"
unfolding pages
row_41 = refl

row_42 : page_with with_literals (codes "mailto:/a@b.c") ≡ codes "<p>mailto:/a@b.c</p>"
unfolding pages
row_42 = refl

row_43 : page_with with_literals (codes "xmpp:a@b.c") ≡ codes "<p><a href=\"xmpp:a@b.c\">xmpp:a@b.c</a></p>"
unfolding pages
row_43 = refl

row_44 : page_with with_literals (codes "xmpp:a@b.c/d") ≡ codes "<p><a href=\"xmpp:a@b.c/d\">xmpp:a@b.c/d</a></p>"
unfolding pages
row_44 = refl

row_45 : page_with with_literals (codes "xmpp:a@b.c/d/e") ≡ codes "<p><a href=\"xmpp:a@b.c/d/e\">xmpp:a@b.c/d/e</a></p>"
unfolding pages
row_45 = refl

row_46 : page_with with_literals (codes "xmpp:a@b.c/") ≡ codes "<p>xmpp:a@b.c/</p>"
unfolding pages
row_46 = refl

row_47 : page_with with_literals (codes "XMPP:a@b.c/d") ≡ codes "<p>XMPP:<a href=\"mailto:a@b.c\">a@b.c</a>/d</p>"
unfolding pages
row_47 = refl

row_48 : page_with with_literals (codes "mailto:a@b.c/d") ≡ codes "<p><a href=\"mailto:a@b.c\">mailto:a@b.c</a>/d</p>"
unfolding pages
row_48 = refl

row_49 : page_with with_literals (codes "*a@b.c*") ≡ codes "<p><em><a href=\"mailto:a@b.c\">a@b.c</a></em></p>"
unfolding pages
row_49 = refl

row_50 : page_with with_literals (codes "*a@b.c") ≡ codes "<p>*<a href=\"mailto:a@b.c\">a@b.c</a></p>"
unfolding pages
row_50 = refl

row_51 : page_with with_literals (codes "a*b@c.d*") ≡ codes "<p>a<em><a href=\"mailto:b@c.d\">b@c.d</a></em></p>"
unfolding pages
row_51 = refl

row_52 : page_with with_literals (codes "**a**@b.c") ≡ codes "<p><strong>a</strong>@b.c</p>"
unfolding pages
row_52 = refl

row_53 : page_with with_literals (codes "a&amp;@b.c") ≡ codes "<p>a&amp;@b.c</p>"
unfolding pages
row_53 = refl

row_54 : page_with with_literals (codes "a\\@b.c") ≡ codes "<p>a@b.c</p>"
unfolding pages
row_54 = refl

row_55 : page_with with_literals (codes "[a@b.c](d)") ≡ codes "<p><a href=\"d\">a@b.c</a></p>"
unfolding pages
row_55 = refl

row_56 : page_with with_literals (codes "[*a@b.c*](d)") ≡ codes "<p><a href=\"d\"><em>a@b.c</em></a></p>"
unfolding pages
row_56 = refl

row_57 : page_with with_literals (codes "![a@b.c](d)") ≡ codes "<p><img src=\"d\" alt=\"a@b.c\" /></p>"
unfolding pages
row_57 = refl

row_58 : page_with with_literals (codes "![[a@b.c](d)](e)") ≡ codes "<p><img src=\"e\" alt=\"a@b.c\" /></p>"
unfolding pages
row_58 = refl

row_59 : page_with with_literals (codes "a[b@c.d") ≡ codes "<p>a[<a href=\"mailto:b@c.d\">b@c.d</a></p>"
unfolding pages
row_59 = refl

row_60 : page_with with_literals (codes "[a@b.c]") ≡ codes "<p>[<a href=\"mailto:a@b.c\">a@b.c</a>]</p>"
unfolding pages
row_60 = refl

row_61 : page_with with_literals (codes "<a@b.c>") ≡ codes "<p><a href=\"mailto:a@b.c\">a@b.c</a></p>"
unfolding pages
row_61 = refl

row_62 : page_with with_literals (codes "`a@b.c`") ≡ codes "<p><code>a@b.c</code></p>"
unfolding pages
row_62 = refl

row_63 : page_with with_literals (codes "a@b.c\nd@e.f") ≡ codes "<p><a href=\"mailto:a@b.c\">a@b.c</a>\n<a href=\"mailto:d@e.f\">d@e.f</a></p>"
unfolding pages
row_63 = refl

row_64 : page_with with_literals (codes "a@b.\nc") ≡ codes "<p>a@b.\nc</p>"
unfolding pages
row_64 = refl

row_65 : page_with with_literals ((195 ∷ 169 ∷ []) ++ codes "@b.c") ≡ codes "<p>" ++ (195 ∷ 169 ∷ []) ++ codes "@b.c</p>"
unfolding pages
row_65 = refl

row_66 : page_with with_literals (codes "a@" ++ (195 ∷ 169 ∷ []) ++ codes ".c") ≡ codes "<p>a@" ++ (195 ∷ 169 ∷ []) ++ codes ".c</p>"
unfolding pages
row_66 = refl
