-- Links (CommonMark 6.3).
use Rattle.std.specs.Prelude.{◌≡◌, [], ◌∷◌, ◌++◌, codes}
use Rattle.std.proofs.Common.{refl}
use Rattle.examples_inline.proofs.Computing.{pages}
use Rattle.examples_inline.specs.Pages.{page}

row_0 : page (codes "[link](/uri \"title\")") ≡ codes "<p><a href=\"/uri\" title=\"title\">link</a></p>"
unfolding pages
row_0 = refl

row_1 : page (codes "[link](/uri)") ≡ codes "<p><a href=\"/uri\">link</a></p>"
unfolding pages
row_1 = refl

row_2 : page (codes "[](./target.md)") ≡ codes "<p><a href=\"./target.md\"></a></p>"
unfolding pages
row_2 = refl

row_3 : page (codes "[link]()") ≡ codes "<p><a href=\"\">link</a></p>"
unfolding pages
row_3 = refl

row_4 : page (codes "[link](<>)") ≡ codes "<p><a href=\"\">link</a></p>"
unfolding pages
row_4 = refl

row_5 : page (codes "[]()") ≡ codes "<p><a href=\"\"></a></p>"
unfolding pages
row_5 = refl

row_6 : page (codes "[link](/my uri)") ≡ codes "<p>[link](/my uri)</p>"
unfolding pages
row_6 = refl

row_7 : page (codes "[link](</my uri>)") ≡ codes "<p><a href=\"/my%20uri\">link</a></p>"
unfolding pages
row_7 = refl

row_8 : page (codes "[link](foo\nbar)") ≡ codes "<p>[link](foo\nbar)</p>"
unfolding pages
row_8 = refl

row_9 : page (codes "[link](<foo\nbar>)") ≡ codes "<p>[link](&lt;foo\nbar&gt;)</p>"
unfolding pages
row_9 = refl

row_10 : page (codes "[a](<b)c>)") ≡ codes "<p><a href=\"b)c\">a</a></p>"
unfolding pages
row_10 = refl

row_11 : page (codes "[link](<foo\\>)") ≡ codes "<p>[link](&lt;foo&gt;)</p>"
unfolding pages
row_11 = refl

row_12 : page (codes "[a](<b)c\n[a](<b)c>\n[a](<b>c)") ≡ codes "<p>[a](&lt;b)c\n[a](&lt;b)c&gt;\n[a](&lt;b&gt;c)</p>"
unfolding pages
row_12 = refl

row_13 : page (codes "[link](\\(foo\\))") ≡ codes "<p><a href=\"(foo)\">link</a></p>"
unfolding pages
row_13 = refl

row_14 : page (codes "[link](foo(and(bar)))") ≡ codes "<p><a href=\"foo(and(bar))\">link</a></p>"
unfolding pages
row_14 = refl

row_15 : page (codes "[link](foo(and(bar))") ≡ codes "<p>[link](foo(and(bar))</p>"
unfolding pages
row_15 = refl

row_16 : page (codes "[link](foo\\(and\\(bar\\))") ≡ codes "<p><a href=\"foo(and(bar)\">link</a></p>"
unfolding pages
row_16 = refl

row_17 : page (codes "[link](<foo(and(bar)>)") ≡ codes "<p><a href=\"foo(and(bar)\">link</a></p>"
unfolding pages
row_17 = refl

row_18 : page (codes "[link](foo\\)\\:)") ≡ codes "<p><a href=\"\">link</a></p>"
unfolding pages
row_18 = refl

row_19 : page (codes "[link](foo\\bar)") ≡ codes "<p><a href=\"foo%5Cbar\">link</a></p>"
unfolding pages
row_19 = refl

row_20 : page (codes "[link](foo%20b&auml;)") ≡ codes "<p><a href=\"foo%20b%C3%A4\">link</a></p>"
unfolding pages
row_20 = refl

row_21 : page (codes "[link](\"title\")") ≡ codes "<p><a href=\"%22title%22\">link</a></p>"
unfolding pages
row_21 = refl

row_22 : page (codes "[link](/url \"title\")\n[link](/url 'title')\n[link](/url (title))")
    ≡ codes "<p><a href=\"/url\" title=\"title\">link</a>\n<a href=\"/url\" title=\"title\">link</a>\n<a href=\"/url\" title=\"title\">link</a></p>"
unfolding pages
row_22 = refl

row_23 : page (codes "[link](/url \"title \\\"&quot;\")") ≡ codes "<p><a href=\"/url\" title=\"title &quot;&quot;\">link</a></p>"
unfolding pages
row_23 = refl

row_24 : page (codes "[link](/url" ++ (194 ∷ 160 ∷ []) ++ codes "\"title\")") ≡ codes "<p><a href=\"/url%C2%A0%22title%22\">link</a></p>"
unfolding pages
row_24 = refl

row_25 : page (codes "[link](/url \"title \"and\" title\")") ≡ codes "<p>[link](/url &quot;title &quot;and&quot; title&quot;)</p>"
unfolding pages
row_25 = refl

row_26 : page (codes "[link](/url 'title \"and\" title')") ≡ codes "<p><a href=\"/url\" title=\"title &quot;and&quot; title\">link</a></p>"
unfolding pages
row_26 = refl

row_27 : page (codes "[link](   /uri\n  \"title\"  )") ≡ codes "<p><a href=\"/uri\" title=\"title\">link</a></p>"
unfolding pages
row_27 = refl

row_28 : page (codes "[link] (/uri)") ≡ codes "<p>[link] (/uri)</p>"
unfolding pages
row_28 = refl

row_29 : page (codes "[link [foo [bar]]](/uri)") ≡ codes "<p><a href=\"/uri\">link [foo [bar]]</a></p>"
unfolding pages
row_29 = refl

row_30 : page (codes "[link] bar](/uri)") ≡ codes "<p>[link] bar](/uri)</p>"
unfolding pages
row_30 = refl

row_31 : page (codes "[link [bar](/uri)") ≡ codes "<p>[link <a href=\"/uri\">bar</a></p>"
unfolding pages
row_31 = refl

row_32 : page (codes "[link \\[bar](/uri)") ≡ codes "<p><a href=\"/uri\">link [bar</a></p>"
unfolding pages
row_32 = refl

row_33 : page (codes "[link *foo **bar** `#`*](/uri)") ≡ codes "<p><a href=\"/uri\">link <em>foo <strong>bar</strong> <code>#</code></em></a></p>"
unfolding pages
row_33 = refl

row_34 : page (codes "[![moon](moon.jpg)](/uri)") ≡ codes "<p><a href=\"/uri\"><img src=\"moon.jpg\" alt=\"moon\" /></a></p>"
unfolding pages
row_34 = refl

row_35 : page (codes "[foo [bar](/uri)](/uri)") ≡ codes "<p>[foo <a href=\"/uri\">bar</a>](/uri)</p>"
unfolding pages
row_35 = refl

row_36 : page (codes "[foo *[bar [baz](/uri)](/uri)*](/uri)") ≡ codes "<p>[foo <em>[bar <a href=\"/uri\">baz</a>](/uri)</em>](/uri)</p>"
unfolding pages
row_36 = refl

row_37 : page (codes "![[[foo](uri1)](uri2)](uri3)") ≡ codes "<p><img src=\"uri3\" alt=\"[foo](uri2)\" /></p>"
unfolding pages
row_37 = refl

row_38 : page (codes "*[foo*](/uri)") ≡ codes "<p>*<a href=\"/uri\">foo*</a></p>"
unfolding pages
row_38 = refl

row_39 : page (codes "[foo *bar](baz*)") ≡ codes "<p><a href=\"baz*\">foo *bar</a></p>"
unfolding pages
row_39 = refl

row_40 : page (codes "*foo [bar* baz]") ≡ codes "<p><em>foo [bar</em> baz]</p>"
unfolding pages
row_40 = refl

row_41 : page (codes "[foo <bar attr=\"](baz)\">") ≡ codes "<p>[foo &lt;bar attr=&quot;](baz)&quot;&gt;</p>"
unfolding pages
row_41 = refl

row_42 : page (codes "[foo`](/uri)`") ≡ codes "<p>[foo<code>](/uri)</code></p>"
unfolding pages
row_42 = refl

row_43 : page (codes "[foo<https://example.com/?search=](uri)>")
    ≡ codes "<p>[foo<a href=\"https://example.com/?search=%5D(uri)\">https://example.com/?search=](uri)</a></p>"
unfolding pages
row_43 = refl

row_44 : page (codes "[foo][bar]\n\n[bar]: /url \"title\"") ≡ codes "<p><a href=\"/url\" title=\"title\">foo</a></p>\n"
unfolding pages
row_44 = refl

row_45 : page (codes "[link [foo [bar]]][ref]\n\n[ref]: /uri") ≡ codes "<p><a href=\"/uri\">link [foo [bar]]</a></p>\n"
unfolding pages
row_45 = refl

row_46 : page (codes "[link \\[bar][ref]\n\n[ref]: /uri") ≡ codes "<p><a href=\"/uri\">link [bar</a></p>\n"
unfolding pages
row_46 = refl

row_47 : page (codes "[link *foo **bar** `#`*][ref]\n\n[ref]: /uri")
    ≡ codes "<p><a href=\"/uri\">link <em>foo <strong>bar</strong> <code>#</code></em></a></p>\n"
unfolding pages
row_47 = refl

row_48 : page (codes "[![moon](moon.jpg)][ref]\n\n[ref]: /uri") ≡ codes "<p><a href=\"/uri\"><img src=\"moon.jpg\" alt=\"moon\" /></a></p>\n"
unfolding pages
row_48 = refl

row_49 : page (codes "[foo [bar](/uri)][ref]\n\n[ref]: /uri") ≡ codes "<p>[foo <a href=\"/uri\">bar</a>]<a href=\"/uri\">ref</a></p>\n"
unfolding pages
row_49 = refl

row_50 : page (codes "[foo *bar [baz][ref]*][ref]\n\n[ref]: /uri") ≡ codes "<p>[foo <em>bar <a href=\"/uri\">baz</a></em>]<a href=\"/uri\">ref</a></p>\n"
unfolding pages
row_50 = refl

row_51 : page (codes "*[foo*][ref]\n\n[ref]: /uri") ≡ codes "<p>*<a href=\"/uri\">foo*</a></p>\n"
unfolding pages
row_51 = refl

row_52 : page (codes "[foo *bar][ref]*\n\n[ref]: /uri") ≡ codes "<p><a href=\"/uri\">foo *bar</a>*</p>\n"
unfolding pages
row_52 = refl

row_53 : page (codes "[foo <bar attr=\"][ref]\">\n\n[ref]: /uri") ≡ codes "<p>[foo &lt;bar attr=&quot;][ref]&quot;&gt;</p>\n"
unfolding pages
row_53 = refl

row_54 : page (codes "[foo`][ref]`\n\n[ref]: /uri") ≡ codes "<p>[foo<code>][ref]</code></p>\n"
unfolding pages
row_54 = refl

row_55 : page (codes "[foo<https://example.com/?search=][ref]>\n\n[ref]: /uri")
    ≡ codes "<p>[foo<a href=\"https://example.com/?search=%5D%5Bref%5D\">https://example.com/?search=][ref]</a></p>\n"
unfolding pages
row_55 = refl

row_56 : page (codes "[foo][BaR]\n\n[bar]: /url \"title\"") ≡ codes "<p><a href=\"/url\" title=\"title\">foo</a></p>\n"
unfolding pages
row_56 = refl

row_57 : page (codes "[Baz][Foo bar]\n\n[Foo\n  bar]: /url") ≡ codes "<p><a href=\"/url\">Baz</a></p>\n"
unfolding pages
row_57 = refl

row_58 : page (codes "[foo] [bar]\n\n[bar]: /url \"title\"") ≡ codes "<p>[foo] <a href=\"/url\" title=\"title\">bar</a></p>\n"
unfolding pages
row_58 = refl

row_59 : page (codes "[foo]\n[bar]\n\n[bar]: /url \"title\"") ≡ codes "<p>[foo]\n<a href=\"/url\" title=\"title\">bar</a></p>\n"
unfolding pages
row_59 = refl

row_60 : page (codes "[bar][foo\\!]\n\n[foo!]: /url") ≡ codes "<p>[bar][foo!]</p>\n"
unfolding pages
row_60 = refl

row_61 : page (codes "[foo][ref[]\n\n[ref\\[]: /uri") ≡ codes "<p>[foo][ref[]</p>\n"
unfolding pages
row_61 = refl

row_62 : page (codes "[foo][ref\\[]\n\n[ref\\[]: /uri") ≡ codes "<p><a href=\"/uri\">foo</a></p>\n"
unfolding pages
row_62 = refl

row_63 : page (codes "[foo][]\n\n[foo]: /url \"title\"") ≡ codes "<p><a href=\"/url\" title=\"title\">foo</a></p>\n"
unfolding pages
row_63 = refl

row_64 : page (codes "[*foo* bar][]\n\n[*foo* bar]: /url \"title\"") ≡ codes "<p><a href=\"/url\" title=\"title\"><em>foo</em> bar</a></p>\n"
unfolding pages
row_64 = refl

row_65 : page (codes "[Foo][]\n\n[foo]: /url \"title\"") ≡ codes "<p><a href=\"/url\" title=\"title\">Foo</a></p>\n"
unfolding pages
row_65 = refl

row_66 : page (codes "[foo] \n[]\n\n[foo]: /url \"title\"") ≡ codes "<p><a href=\"/url\" title=\"title\">foo</a>\n[]</p>\n"
unfolding pages
row_66 = refl

row_67 : page (codes "[foo]\n\n[foo]: /url \"title\"") ≡ codes "<p><a href=\"/url\" title=\"title\">foo</a></p>\n"
unfolding pages
row_67 = refl

row_68 : page (codes "[*foo* bar]\n\n[*foo* bar]: /url \"title\"") ≡ codes "<p><a href=\"/url\" title=\"title\"><em>foo</em> bar</a></p>\n"
unfolding pages
row_68 = refl

row_69 : page (codes "[[*foo* bar]]\n\n[*foo* bar]: /url \"title\"") ≡ codes "<p>[<a href=\"/url\" title=\"title\"><em>foo</em> bar</a>]</p>\n"
unfolding pages
row_69 = refl

row_70 : page (codes "[[bar [foo]\n\n[foo]: /url") ≡ codes "<p>[[bar <a href=\"/url\">foo</a></p>\n"
unfolding pages
row_70 = refl

row_71 : page (codes "[Foo]\n\n[foo]: /url \"title\"") ≡ codes "<p><a href=\"/url\" title=\"title\">Foo</a></p>\n"
unfolding pages
row_71 = refl

row_72 : page (codes "[foo] bar\n\n[foo]: /url") ≡ codes "<p><a href=\"/url\">foo</a> bar</p>\n"
unfolding pages
row_72 = refl

row_73 : page (codes "\\[foo]\n\n[foo]: /url \"title\"") ≡ codes "<p>[foo]</p>\n"
unfolding pages
row_73 = refl

row_74 : page (codes "*[foo*]\n\n[foo*]: /url") ≡ codes "<p>*<a href=\"/url\">foo*</a></p>\n"
unfolding pages
row_74 = refl

row_75 : page (codes "[foo][bar]\n\n[foo]: /url1\n[bar]: /url2") ≡ codes "<p><a href=\"/url2\">foo</a></p>\n"
unfolding pages
row_75 = refl

row_76 : page (codes "[foo][]\n\n[foo]: /url1") ≡ codes "<p><a href=\"/url1\">foo</a></p>\n"
unfolding pages
row_76 = refl

row_77 : page (codes "[foo]()\n\n[foo]: /url1") ≡ codes "<p><a href=\"\">foo</a></p>\n"
unfolding pages
row_77 = refl

row_78 : page (codes "[foo](not a link)\n\n[foo]: /url1") ≡ codes "<p><a href=\"/url1\">foo</a>(not a link)</p>\n"
unfolding pages
row_78 = refl

row_79 : page (codes "[foo][bar][baz]\n\n[baz]: /url") ≡ codes "<p>[foo]<a href=\"/url\">bar</a></p>\n"
unfolding pages
row_79 = refl

row_80 : page (codes "[foo][bar][baz]\n\n[baz]: /url1\n[bar]: /url2") ≡ codes "<p><a href=\"/url2\">foo</a><a href=\"/url1\">baz</a></p>\n"
unfolding pages
row_80 = refl

row_81 : page (codes "[foo][bar][baz]\n\n[baz]: /url1\n[foo]: /url2") ≡ codes "<p>[foo]<a href=\"/url1\">bar</a></p>\n"
unfolding pages
row_81 = refl

row_82 : page (codes "[foo]: /url1\n\n[foo]: /url2\n\n[bar][foo]") ≡ codes "<p><a href=\"/url1\">bar</a></p>"
unfolding pages
row_82 = refl

row_83 : page (codes "[]\n\n[]: /uri") ≡ codes "<p>[]</p>\n<p>[]: /uri</p>"
unfolding pages
row_83 = refl

row_84 : page (codes "[\n ]\n\n[\n ]: /uri") ≡ codes "<p>[\n]</p>\n<p>[\n]: /uri</p>"
unfolding pages
row_84 = refl

row_85 : page (codes "[foo]: /url \"title\"\n\n[foo]") ≡ codes "<p><a href=\"/url\" title=\"title\">foo</a></p>"
unfolding pages
row_85 = refl
