-- Places where more than one reading is thinkable, and others that no example of the standard shows.
use Rattle.std.specs.Prelude.{◌≡◌, [], ◌∷◌, ◌++◌, codes}
use Rattle.std.proofs.Common.{refl}
use Rattle.examples_inline.proofs.Computing.{pages}
use Rattle.examples_inline.specs.Pages.{dangerous, filtered, page, page_with}

row_0 : page (codes "## Hi, *Saturn*! " ++ (240 ∷ 159 ∷ 170 ∷ 144 ∷ [])) ≡ codes "<h2>Hi, <em>Saturn</em>! " ++ (240 ∷ 159 ∷ 170 ∷ 144 ∷ []) ++ codes "</h2>"
unfolding pages
row_0 = refl

row_1 : page (codes "[foo]: /url\n===\n[foo]") ≡ codes "<p>===\n<a href=\"/url\">foo</a></p>"
unfolding pages
row_1 = refl

row_2 : page (codes "[a b]: x\n\n> [a\n> b]") ≡ codes "<blockquote>\n<p><a href=\"x\">a\nb</a></p>\n</blockquote>"
unfolding pages
row_2 = refl

row_3 : page (codes "[a](javascript&#58;x)") ≡ codes "<p><a href=\"\">a</a></p>"
unfolding pages
row_3 = refl

row_4 : page (codes "[a]: javascript:x\n\n![a]") ≡ codes "<p><img src=\"\" alt=\"a\" /></p>"
unfolding pages
row_4 = refl

row_5 : page (codes "a\\*b\\<c") ≡ codes "<p>a*b&lt;c</p>"
unfolding pages
row_5 = refl

row_6 : page (codes "[a]: x\n[a]: y\n\n[a]") ≡ codes "<p><a href=\"x\">a</a></p>"
unfolding pages
row_6 = refl

row_7 : page (codes "<https://a" ++ (240 ∷ 159 ∷ 145 ∷ 141 ∷ []) ++ codes "b%>")
    ≡ codes "<p><a href=\"https://a%F0%9F%91%8Db%25\">https://a" ++ (240 ∷ 159 ∷ 145 ∷ 141 ∷ []) ++ codes "b%</a></p>"
unfolding pages
row_7 = refl

row_8 : page (codes "a [b [c](#) d](#) e") ≡ codes "<p>a [b <a href=\"#\">c</a> d](#) e</p>"
unfolding pages
row_8 = refl

row_9 : page (codes "*foo**bar**baz*") ≡ codes "<p><em>foo<strong>bar</strong>baz</em></p>"
unfolding pages
row_9 = refl

row_10 : page (codes "a_b_ _c_") ≡ codes "<p>a_b_ <em>c</em></p>"
unfolding pages
row_10 = refl

row_11 : page (codes "[a][b]\n\n[b]: <x y> 't'") ≡ codes "<p><a href=\"x%20y\" title=\"t\">a</a></p>\n"
unfolding pages
row_11 = refl

row_12 : page (codes "[ a ](b)") ≡ codes "<p><a href=\"b\"> a </a></p>"
unfolding pages
row_12 = refl

row_13 : page (codes "> `a\n>" ++ (9 ∷ []) ++ codes "b`") ≡ codes "<blockquote>\n<p><code>a   b</code></p>\n</blockquote>"
unfolding pages
row_13 = refl

row_14 : page (codes "> <a\n>" ++ (9 ∷ []) ++ codes "b>") ≡ codes "<blockquote>\n<p>&lt;a\nb&gt;</p>\n</blockquote>"
unfolding pages
row_14 = refl

row_15 : page (codes "`a\n " ++ (9 ∷ []) ++ codes " b`") ≡ codes "<p><code>a  " ++ (9 ∷ []) ++ codes " b</code></p>"
unfolding pages
row_15 = refl

row_16 : page (codes "[a][ ]\n\n[a]: b") ≡ codes "<p><a href=\"b\">a</a>[ ]</p>\n"
unfolding pages
row_16 = refl

row_17 : page (codes "***a*** b**") ≡ codes "<p><em><strong>a</strong></em> b**</p>"
unfolding pages
row_17 = refl

row_18 : page (codes "a***b* c*") ≡ codes "<p>a**<em>b</em> c*</p>"
unfolding pages
row_18 = refl

row_19 : page (codes "****a*b**") ≡ codes "<p>*<strong><em>a</em>b</strong></p>"
unfolding pages
row_19 = refl

row_20 : page (codes "**a *b [c* d](e) f* g**") ≡ codes "<p><strong>a <em>b <a href=\"e\">c* d</a> f</em> g</strong></p>"
unfolding pages
row_20 = refl

row_21 : page (codes "[a](b" ++ (0 ∷ []) ++ codes "c)") ≡ codes "<p><a href=\"b%EF%BF%BDc\">a</a></p>"
unfolding pages
row_21 = refl

row_22 : page (codes "a" ++ (9 ∷ []) ++ codes "  \nb") ≡ codes "<p>a\nb</p>"
unfolding pages
row_22 = refl

row_23 : page (codes "a" ++ (0 ∷ []) ++ codes "b") ≡ codes "<p>a" ++ (239 ∷ 191 ∷ 189 ∷ []) ++ codes "b</p>"
unfolding pages
row_23 = refl

row_24 : page (codes "[a](b 'c" ++ (0 ∷ []) ++ codes "d')") ≡ codes "<p><a href=\"b\" title=\"c" ++ (239 ∷ 191 ∷ 189 ∷ []) ++ codes "d\">a</a></p>"
unfolding pages
row_24 = refl

row_25 : page (codes "\\" ++ (0 ∷ [])) ≡ codes "<p>\\" ++ (239 ∷ 191 ∷ 189 ∷ []) ++ codes "</p>"
unfolding pages
row_25 = refl

row_26 : page (codes "`a" ++ (0 ∷ []) ++ codes "`") ≡ codes "<p><code>a" ++ (239 ∷ 191 ∷ 189 ∷ []) ++ codes "</code></p>"
unfolding pages
row_26 = refl

row_27 : page (codes "[a](b 'c  \n   d')") ≡ codes "<p><a href=\"b\" title=\"c\nd\">a</a></p>"
unfolding pages
row_27 = refl

row_28 : page (codes "[a](b\n'c'\n)") ≡ codes "<p><a href=\"b\" title=\"c\">a</a></p>"
unfolding pages
row_28 = refl

row_29 : page (codes "[a](b 'c'd)") ≡ codes "<p>[a](b 'c'd)</p>"
unfolding pages
row_29 = refl

row_30 : page (codes "![a\n  b](c)") ≡ codes "<p><img src=\"c\" alt=\"a\nb\" /></p>"
unfolding pages
row_30 = refl

row_31 : page (codes "![a  \nb](c)") ≡ codes "<p><img src=\"c\" alt=\"a\nb\" /></p>"
unfolding pages
row_31 = refl

row_32 : page (codes "![a\\\nb](c)") ≡ codes "<p><img src=\"c\" alt=\"a\nb\" /></p>"
unfolding pages
row_32 = refl

row_33 : page (codes "[a\\]b](c)") ≡ codes "<p><a href=\"c\">a]b</a></p>"
unfolding pages
row_33 = refl

row_34 : page (codes "[a](b\\)c)") ≡ codes "<p><a href=\"b)c\">a</a></p>"
unfolding pages
row_34 = refl

row_35 : page (codes "*a&#32;*") ≡ codes "<p><em>a </em></p>"
unfolding pages
row_35 = refl

row_36 : page (codes "&#32;a") ≡ codes "<p> a</p>"
unfolding pages
row_36 = refl

row_37 : page (codes "a&#32;  \nb") ≡ codes "<p>a <br />\nb</p>"
unfolding pages
row_37 = refl

row_38 : page (codes "`a``") ≡ codes "<p>`a``</p>"
unfolding pages
row_38 = refl

row_39 : page (codes "``a`") ≡ codes "<p>``a`</p>"
unfolding pages
row_39 = refl

row_40 : page (codes "[`]`](a)") ≡ codes "<p><a href=\"a\"><code>]</code></a></p>"
unfolding pages
row_40 = refl

row_41 : page (codes "[<a href=\"](x)\">](y)") ≡ codes "<p><a href=\"y\">&lt;a href=&quot;](x)&quot;&gt;</a></p>"
unfolding pages
row_41 = refl

row_42 : page (codes "[![a](b)](c)") ≡ codes "<p><a href=\"c\"><img src=\"b\" alt=\"a\" /></a></p>"
unfolding pages
row_42 = refl

row_43 : page (codes "[![[a](b)](c)](d)") ≡ codes "<p>[<img src=\"c\" alt=\"a\" />](d)</p>"
unfolding pages
row_43 = refl

row_44 : page (codes "![[a](b)](c)") ≡ codes "<p><img src=\"c\" alt=\"a\" /></p>"
unfolding pages
row_44 = refl

row_45 : page (codes "![![a](b)](c)") ≡ codes "<p><img src=\"c\" alt=\"a\" /></p>"
unfolding pages
row_45 = refl

row_46 : page (codes "[a] [b]\n\n[a]: x\n[b]: y") ≡ codes "<p><a href=\"x\">a</a> <a href=\"y\">b</a></p>\n"
unfolding pages
row_46 = refl

row_47 : page (codes "[a]" ++ (13 ∷ []) ++ codes "[b]" ++ (13 ∷ 13 ∷ []) ++ codes "[a]: x" ++ (13 ∷ []) ++ codes "[b]: y")
    ≡ codes "<p><a href=\"x\">a</a>" ++ (13 ∷ []) ++ codes "<a href=\"y\">b</a></p>" ++ (13 ∷ [])
unfolding pages
row_47 = refl

row_48 : page (codes "a  " ++ (13 ∷ []) ++ codes "\nb\\" ++ (13 ∷ []) ++ codes "c")
    ≡ codes "<p>a<br />" ++ (13 ∷ []) ++ codes "\nb<br />" ++ (13 ∷ []) ++ codes "c</p>"
unfolding pages
row_48 = refl

row_49 : page (codes "[a][b" ++ (13 ∷ []) ++ codes "\n  c]" ++ (13 ∷ []) ++ codes "\n" ++ (13 ∷ []) ++ codes "\n[b c]: x")
    ≡ codes "<p><a href=\"x\">a</a></p>" ++ (13 ∷ []) ++ codes "\n"
unfolding pages
row_49 = refl

row_50 : page (codes "`a" ++ (13 ∷ []) ++ codes "\nb`") ≡ codes "<p><code>a b</code></p>"
unfolding pages
row_50 = refl

row_51 : page (codes "![a](b)!") ≡ codes "<p><img src=\"b\" alt=\"a\" />!</p>"
unfolding pages
row_51 = refl

row_52 : page (codes "!a") ≡ codes "<p>!a</p>"
unfolding pages
row_52 = refl

row_53 : page (codes "]") ≡ codes "<p>]</p>"
unfolding pages
row_53 = refl

row_54 : page (codes "[") ≡ codes "<p>[</p>"
unfolding pages
row_54 = refl

row_55 : page (codes "[]") ≡ codes "<p>[]</p>"
unfolding pages
row_55 = refl

row_56 : page (codes "![]") ≡ codes "<p>![]</p>"
unfolding pages
row_56 = refl

row_57 : page (codes "[a") ≡ codes "<p>[a</p>"
unfolding pages
row_57 = refl

row_58 : page (codes "![a") ≡ codes "<p>![a</p>"
unfolding pages
row_58 = refl

row_59 : page (codes "[a](((((((((((((((((((((((((((((((((b)))))))))))))))))))))))))))))))))")
    ≡ codes "<p><a href=\"((((((((((((((((((((((((((((((((b))))))))))))))))))))))))))))))))\">a</a></p>"
unfolding pages
row_59 = refl

row_60 : page (codes "[a]((((((((((((((((((((((((((((((((b))))))))))))))))))))))))))))))))")
    ≡ codes "<p><a href=\"(((((((((((((((((((((((((((((((b)))))))))))))))))))))))))))))))\">a</a></p>"
unfolding pages
row_60 = refl

row_61 : page (codes "<a@b>") ≡ codes "<p><a href=\"mailto:a@b\">a@b</a></p>"
unfolding pages
row_61 = refl

row_62 : page (codes "<a@b.c-d>") ≡ codes "<p><a href=\"mailto:a@b.c-d\">a@b.c-d</a></p>"
unfolding pages
row_62 = refl

row_63 : page (codes "<a@-b>") ≡ codes "<p>&lt;a@-b&gt;</p>"
unfolding pages
row_63 = refl

row_64 : page (codes "<a@b->") ≡ codes "<p>&lt;a@b-&gt;</p>"
unfolding pages
row_64 = refl

row_65 : page (codes "<a@b..c>") ≡ codes "<p>&lt;a@b..c&gt;</p>"
unfolding pages
row_65 = refl

row_66 : page (codes "<aa:>") ≡ codes "<p><a href=\"\">aa:</a></p>"
unfolding pages
row_66 = refl

row_67 : page (codes "<a:b>") ≡ codes "<p>&lt;a:b&gt;</p>"
unfolding pages
row_67 = refl

row_68 : page (codes "<a.:b>") ≡ codes "<p><a href=\"\">a.:b</a></p>"
unfolding pages
row_68 = refl

row_69 : page (codes "<aaaaaaaaaaaaaaaaaaaaaaaaaaaaaaaaa:b>") ≡ codes "<p>&lt;aaaaaaaaaaaaaaaaaaaaaaaaaaaaaaaaa:b&gt;</p>"
unfolding pages
row_69 = refl

row_70 : page (codes "<aaaaaaaaaaaaaaaaaaaaaaaaaaaaaaaa:b>") ≡ codes "<p><a href=\"\">aaaaaaaaaaaaaaaaaaaaaaaaaaaaaaaa:b</a></p>"
unfolding pages
row_70 = refl

row_71 : page (codes "<http:a\\*b>") ≡ codes "<p><a href=\"http:a%5C*b\">http:a\\*b</a></p>"
unfolding pages
row_71 = refl

row_72 : page (codes "b <!a>") ≡ codes "<p>b &lt;!a&gt;</p>"
unfolding pages
row_72 = refl

row_73 : page (codes "b <!-- a -- b -->") ≡ codes "<p>b &lt;!-- a -- b --&gt;</p>"
unfolding pages
row_73 = refl

row_74 : page (codes "b <!---->") ≡ codes "<p>b &lt;!----&gt;</p>"
unfolding pages
row_74 = refl

row_75 : page (codes "b <!--->a") ≡ codes "<p>b &lt;!---&gt;a</p>"
unfolding pages
row_75 = refl

row_76 : page (codes "b <?>a") ≡ codes "<p>b &lt;?&gt;a</p>"
unfolding pages
row_76 = refl

row_77 : page (codes "b <?a?>") ≡ codes "<p>b &lt;?a?&gt;</p>"
unfolding pages
row_77 = refl

row_78 : page (codes "b <![CDATA[]]>") ≡ codes "<p>b &lt;![CDATA[]]&gt;</p>"
unfolding pages
row_78 = refl

row_79 : page (codes "b </a b>") ≡ codes "<p>b &lt;/a b&gt;</p>"
unfolding pages
row_79 = refl

row_80 : page (codes "b <a b= c>") ≡ codes "<p>b &lt;a b= c&gt;</p>"
unfolding pages
row_80 = refl

row_81 : page (codes "b <a b='c'd='e'>") ≡ codes "<p>b &lt;a b='c'd='e'&gt;</p>"
unfolding pages
row_81 = refl

row_82 : page (codes "b <a/b>") ≡ codes "<p>b &lt;a/b&gt;</p>"
unfolding pages
row_82 = refl

row_83 : page (codes "b <a / >") ≡ codes "<p>b &lt;a / &gt;</p>"
unfolding pages
row_83 = refl

row_84 : page (codes "b <a\n\nb>") ≡ codes "<p>b &lt;a</p>\n<p>b&gt;</p>"
unfolding pages
row_84 = refl

row_85 : page_with dangerous (codes "![<b>`c` <x:yy> d  \ne](f)") ≡ codes "<p><img src=\"f\" alt=\"<b>c &lt;x:yy&gt; d\ne\" /></p>"
unfolding pages
row_85 = refl

row_86 : page_with dangerous (codes "a <b\n  c>") ≡ codes "<p>a <b\nc></p>"
unfolding pages
row_86 = refl

row_87 : page_with dangerous (codes "a <title>") ≡ codes "<p>a <title></p>"
unfolding pages
row_87 = refl

row_88 : page_with dangerous (codes "a<!-- b\n   c -->") ≡ codes "<p>a<!-- b\nc --></p>"
unfolding pages
row_88 = refl

row_89 : page_with filtered (codes "a <title> <titles> </title >") ≡ codes "<p>a &lt;title> <titles> &lt;/title ></p>"
unfolding pages
row_89 = refl

row_90 : page_with filtered (codes "a <b><XMP\na></b>") ≡ codes "<p>a <b>&lt;XMP\na></b></p>"
unfolding pages
row_90 = refl

row_91 : page_with filtered (codes "![<script>](a)") ≡ codes "<p><img src=\"a\" alt=\"&lt;script>\" /></p>"
unfolding pages
row_91 = refl

row_92 : page (codes "*a [b*](c)* `d`") ≡ codes "<p><em>a <a href=\"c\">b*</a></em> <code>d</code></p>"
unfolding pages
row_92 = refl
