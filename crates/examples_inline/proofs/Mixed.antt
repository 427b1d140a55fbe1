-- Texts in which constructs meet at random.
use Rattle.std.specs.Prelude.{◌≡◌, [], ◌∷◌, ◌++◌, codes}
use Rattle.std.proofs.Common.{refl}
use Rattle.examples_inline.proofs.Computing.{pages}
use Rattle.examples_inline.specs.Pages.{page}

row_0 : page (codes "amp;<?a?>]$&#10;.__<[^&mailto:\"") ≡ codes "<p>amp;&lt;?a?&gt;]$\n.__&lt;[^&amp;mailto:&quot;</p>"
unfolding pages
row_0 = refl

row_1 : page (codes "&amp;)" ++ (0 ∷ []) ++ codes ".(/u 't')__@$[^a]") ≡ codes "<p>&amp;)" ++ (239 ∷ 191 ∷ 189 ∷ []) ++ codes ".(/u 't')__@$[^a]</p>"
unfolding pages
row_1 = refl

row_2 : page (codes "&#10;<xx:y>![a@b.c[^") ≡ codes "<p>\n<a href=\"\">xx:y</a>![a@b.c[^</p>"
unfolding pages
row_2 = refl

row_3 : page (codes "(/u 't')==)" ++ (0 ∷ []) ++ codes "(.xmpp:\n\n[^a]: b\n\n") ≡ codes "<p>(/u 't')==)" ++ (239 ∷ 191 ∷ 189 ∷ []) ++ codes "(.xmpp:</p>\n"
unfolding pages
row_3 = refl

row_4 : page (codes "x____") ≡ codes "<p>x____</p>"
unfolding pages
row_4 = refl

row_5 : page (codes "mailto:\\ ") ≡ codes "<p>mailto:\\</p>"
unfolding pages
row_5 = refl

row_6 : page ((194 ∷ 160 ∷ []) ++ codes "a@b.c[].\n\n[a]: /u\n\n$$") ≡ codes "<p>" ++ (194 ∷ 160 ∷ []) ++ codes "a@b.c[].</p>\n<p>$$</p>"
unfolding pages
row_6 = refl

row_7 : page (codes "]<title>](~~![~<& ``\n\n[a]: /u\n\nb&amp;*") ≡ codes "<p>]&lt;title&gt;](~~![~&lt;&amp; ``</p>\n<p>b&amp;*</p>"
unfolding pages
row_7 = refl

row_8 : page (codes "<a b='c'&/>^(>](x)\"") ≡ codes "<p>&lt;a b='c'&amp;/&gt;^(&gt;](x)&quot;</p>"
unfolding pages
row_8 = refl

row_9 : page (codes "\\\nmailto:![\n\n[^a]: b\n\n") ≡ codes "<p><br />\nmailto:![</p>\n"
unfolding pages
row_9 = refl

row_10 : page (codes "&a_**=``==") ≡ codes "<p>&amp;a_**=``==</p>"
unfolding pages
row_10 = refl

row_11 : page (codes "  \n] !title") ≡ codes "<p>] !title</p>"
unfolding pages
row_11 = refl

row_12 : page (codes "&amp;]</>" ++ (226 ∷ 128 ∷ 166 ∷ []) ++ codes "</a>a@<?a?>mailto:>")
    ≡ codes "<p>&amp;]&lt;/&gt;" ++ (226 ∷ 128 ∷ 166 ∷ []) ++ codes "&lt;/a&gt;a@&lt;?a?&gt;mailto:&gt;</p>"
unfolding pages
row_12 = refl

row_13 : page (codes "[^/>=aamp;***" ++ (194 ∷ 160 ∷ []) ++ codes "<?a?>a@b.c" ++ (0 ∷ []) ++ codes "$" ++ (195 ∷ 169 ∷ 239 ∷ 187 ∷ 191 ∷ []))
    ≡ codes "<p>[^/&gt;=aamp;***" ++ (194 ∷ 160 ∷ []) ++ codes "&lt;?a?&gt;a@b.c" ++ (239 ∷ 191 ∷ 189 ∷ []) ++ codes "$" ++ (195 ∷ 169 ∷ 239 ∷ 187 ∷ 191 ∷ [])
    ++ codes "</p>"
unfolding pages
row_13 = refl

row_14 : page (codes "\n(javascript:__^$www.<a b='c'[a])mailto:[a]b") ≡ codes "<p>(javascript:__^$www.&lt;a b='c'[a])mailto:[a]b</p>"
unfolding pages
row_14 = refl

row_15 : page (codes "_'``[^a]") ≡ codes "<p>_'``[^a]</p>"
unfolding pages
row_15 = refl

row_16 : page (codes "``<***[__\n\n[^a]: b\n\n") ≡ codes "<p>``&lt;***[__</p>\n"
unfolding pages
row_16 = refl

row_17 : page (codes "  \n***" ++ (195 ∷ 169 ∷ []) ++ codes "]x``" ++ (0 ∷ []) ++ codes "*[]")
    ≡ codes "<p>**<em>" ++ (195 ∷ 169 ∷ []) ++ codes "]x``" ++ (239 ∷ 191 ∷ 189 ∷ []) ++ codes "</em>[]</p>"
unfolding pages
row_17 = refl

row_18 : page (codes "(<?a?>\na[([]<a>[__\\\n") ≡ codes "<p>(&lt;?a?&gt;\na[([]&lt;a&gt;[__\\</p>\n"
unfolding pages
row_18 = refl

row_19 : page (codes "&amp;!](!") ≡ codes "<p>&amp;!](!</p>"
unfolding pages
row_19 = refl

row_20 : page (codes ")" ++ (194 ∷ 160 ∷ []) ++ codes "$(/u 't')a@b.c[^a]\n\n[^a]: b\n\n'](&==`\n\n[a]: /u\n\n==")
    ≡ codes "<p>)" ++ (194 ∷ 160 ∷ []) ++ codes "$(/u 't')a@b.c<a href=\"b\">^a</a></p>\n<p>'](&amp;==`</p>\n<p>==</p>"
unfolding pages
row_20 = refl

row_21 : page (codes "$" ++ (194 ∷ 160 ∷ []) ++ codes "[a][\n)<[a]\" ~") ≡ codes "<p>$" ++ (194 ∷ 160 ∷ []) ++ codes "[a][\n)&lt;[a]&quot; ~</p>"
unfolding pages
row_21 = refl

row_22 : page (codes "&amp;@x<a>") ≡ codes "<p>&amp;@x&lt;a&gt;</p>"
unfolding pages
row_22 = refl

row_23 : page (codes "~==~~`.www.<a=&#10;") ≡ codes "<p>~==~~`.www.&lt;a=\n</p>"
unfolding pages
row_23 = refl

row_24 : page (codes "](x)xa@b.c") ≡ codes "<p>](x)xa@b.c</p>"
unfolding pages
row_24 = refl

row_25 : page ((226 ∷ 128 ∷ 166 ∷ []) ++ codes " b=(>[^a]``&#10;<title>[~~xmpp:")
    ≡ codes "<p>" ++ (226 ∷ 128 ∷ 166 ∷ []) ++ codes " b=(&gt;[^a]``\n&lt;title&gt;[~~xmpp:</p>"
unfolding pages
row_25 = refl

row_26 : page (codes "[^a]_'\n\n[a]: /u\n\nb") ≡ codes "<p>[^a]_'</p>\n<p>b</p>"
unfolding pages
row_26 = refl

row_27 : page (codes "mailto:` mailto:]~") ≡ codes "<p>mailto:` mailto:]~</p>"
unfolding pages
row_27 = refl

row_28 : page (codes "\n\n[^a]: b\n\n.\na<a b='c'http://\n\n[a]: /u\n\n" ++ (239 ∷ 187 ∷ 191 ∷ []) ++ codes "$a")
    ≡ codes "<p>.\na&lt;a b='c'http://</p>\n<p>" ++ (239 ∷ 187 ∷ 191 ∷ []) ++ codes "$a</p>"
unfolding pages
row_28 = refl

row_29 : page (codes "(/u 't')~(/u 't')~~\"(/u 't')\n") ≡ codes "<p>(/u 't')~(/u 't')~~&quot;(/u 't')</p>\n"
unfolding pages
row_29 = refl

row_30 : page (codes "b_\n***" ++ (195 ∷ 169 ∷ []) ++ codes "a " ++ (195 ∷ 169 ∷ []))
    ≡ codes "<p>b_\n***" ++ (195 ∷ 169 ∷ []) ++ codes "a " ++ (195 ∷ 169 ∷ []) ++ codes "</p>"
unfolding pages
row_30 = refl

row_31 : page (codes "__***\\\n_" ++ (194 ∷ 160 ∷ []) ++ codes "_b**") ≡ codes "<p>__*<strong><br />\n_" ++ (194 ∷ 160 ∷ []) ++ codes "_b</strong></p>"
unfolding pages
row_31 = refl

row_32 : page (codes "_.\\_*__" ++ (226 ∷ 128 ∷ 166 ∷ 195 ∷ 169 ∷ 226 ∷ 128 ∷ 166 ∷ []) ++ codes "bb__**")
    ≡ codes "<p>_._*<strong>" ++ (226 ∷ 128 ∷ 166 ∷ 195 ∷ 169 ∷ 226 ∷ 128 ∷ 166 ∷ []) ++ codes "bb</strong>**</p>"
unfolding pages
row_32 = refl

row_33 : page (codes "_* \\*a____._" ++ (194 ∷ 160 ∷ [])) ≡ codes "<p><em>* *a</em>___._" ++ (194 ∷ 160 ∷ []) ++ codes "</p>"
unfolding pages
row_33 = refl

row_34 : page (codes ".__b\\ " ++ (195 ∷ 169 ∷ []) ++ codes "* " ++ (195 ∷ 169 ∷ []) ++ codes ".*__")
    ≡ codes "<p>.<strong>b\\ " ++ (195 ∷ 169 ∷ []) ++ codes "* " ++ (195 ∷ 169 ∷ []) ++ codes ".*</strong></p>"
unfolding pages
row_34 = refl

row_35 : page ((194 ∷ 160 ∷ []) ++ codes "****") ≡ codes "<p>" ++ (194 ∷ 160 ∷ []) ++ codes "****</p>"
unfolding pages
row_35 = refl

row_36 : page ((226 ∷ 128 ∷ 166 ∷ []) ++ codes "_.__**_a") ≡ codes "<p>" ++ (226 ∷ 128 ∷ 166 ∷ []) ++ codes "_.__**_a</p>"
unfolding pages
row_36 = refl

row_37 : page (codes "a*." ++ (195 ∷ 169 ∷ []) ++ codes "." ++ (195 ∷ 169 ∷ []) ++ codes "_\n\\" ++ (194 ∷ 160 ∷ []) ++ codes ".\\")
    ≡ codes "<p>a*." ++ (195 ∷ 169 ∷ []) ++ codes "." ++ (195 ∷ 169 ∷ []) ++ codes "_\n\\" ++ (194 ∷ 160 ∷ []) ++ codes ".\\</p>"
unfolding pages
row_37 = refl

row_38 : page (codes "\n" ++ (194 ∷ 160 ∷ []) ++ codes ".a\n*_") ≡ codes "<p>" ++ (194 ∷ 160 ∷ []) ++ codes ".a\n*_</p>"
unfolding pages
row_38 = refl

row_39 : page (codes "__***" ++ (194 ∷ 160 ∷ []) ++ codes "**" ++ (194 ∷ 160 ∷ []) ++ codes "****a_ \\*")
    ≡ codes "<p>_<em>***" ++ (194 ∷ 160 ∷ []) ++ codes "**" ++ (194 ∷ 160 ∷ []) ++ codes "****a</em> *</p>"
unfolding pages
row_39 = refl

row_40 : page (codes "***" ++ (195 ∷ 169 ∷ []) ++ codes " " ++ (194 ∷ 160 ∷ []) ++ codes "**b__")
    ≡ codes "<p>***" ++ (195 ∷ 169 ∷ []) ++ codes " " ++ (194 ∷ 160 ∷ []) ++ codes "**b__</p>"
unfolding pages
row_40 = refl

row_41 : page ((195 ∷ 169 ∷ []) ++ codes "\\.___***\n") ≡ codes "<p>" ++ (195 ∷ 169 ∷ []) ++ codes ".___***</p>\n"
unfolding pages
row_41 = refl

row_42 : page (codes "\n_***a_. *.***_" ++ (226 ∷ 128 ∷ 166 ∷ 226 ∷ 128 ∷ 166 ∷ []))
    ≡ codes "<p><em>***a</em>. <em>.</em>**_" ++ (226 ∷ 128 ∷ 166 ∷ 226 ∷ 128 ∷ 166 ∷ []) ++ codes "</p>"
unfolding pages
row_42 = refl

row_43 : page (codes "****" ++ (194 ∷ 160 ∷ []) ++ codes "***___**.***\n_")
    ≡ codes "<p>****" ++ (194 ∷ 160 ∷ []) ++ codes "<em><strong>___</strong>.</em>**\n_</p>"
unfolding pages
row_43 = refl

row_44 : page (codes "*aa\\.***" ++ (226 ∷ 128 ∷ 166 ∷ []) ++ codes "\n" ++ (226 ∷ 128 ∷ 166 ∷ []) ++ codes ".b")
    ≡ codes "<p><em>aa.</em>**" ++ (226 ∷ 128 ∷ 166 ∷ []) ++ codes "\n" ++ (226 ∷ 128 ∷ 166 ∷ []) ++ codes ".b</p>"
unfolding pages
row_44 = refl

row_45 : page (codes "*a*" ++ (226 ∷ 128 ∷ 166 ∷ []) ++ codes "***" ++ (226 ∷ 128 ∷ 166 ∷ []) ++ codes "__")
    ≡ codes "<p><em>a</em>" ++ (226 ∷ 128 ∷ 166 ∷ []) ++ codes "***" ++ (226 ∷ 128 ∷ 166 ∷ []) ++ codes "__</p>"
unfolding pages
row_45 = refl

row_46 : page (codes "*****.b") ≡ codes "<p>*****.b</p>"
unfolding pages
row_46 = refl

row_47 : page (codes "\n__*" ++ (226 ∷ 128 ∷ 166 ∷ []) ++ codes "*****a" ++ (194 ∷ 160 ∷ []) ++ codes "__\n." ++ (195 ∷ 169 ∷ []))
    ≡ codes "<p>__*" ++ (226 ∷ 128 ∷ 166 ∷ []) ++ codes "*****a" ++ (194 ∷ 160 ∷ []) ++ codes "__\n." ++ (195 ∷ 169 ∷ []) ++ codes "</p>"
unfolding pages
row_47 = refl

row_48 : page (codes "\\__***" ++ (226 ∷ 128 ∷ 166 ∷ []) ++ codes "*a*\n_._*")
    ≡ codes "<p>__**<em>" ++ (226 ∷ 128 ∷ 166 ∷ []) ++ codes "<em>a</em>\n<em>.</em></em></p>"
unfolding pages
row_48 = refl

row_49 : page ((226 ∷ 128 ∷ 166 ∷ []) ++ codes "\\**" ++ (194 ∷ 160 ∷ []) ++ codes "***_a\n" ++ (195 ∷ 169 ∷ []) ++ codes "\n" ++ (194 ∷ 160 ∷ [])
    ++ codes "****") ≡ codes "<p>" ++ (226 ∷ 128 ∷ 166 ∷ []) ++ codes "**" ++ (194 ∷ 160 ∷ []) ++ codes "***_a\n" ++ (195 ∷ 169 ∷ []) ++ codes "\n"
    ++ (194 ∷ 160 ∷ []) ++ codes "****</p>"
unfolding pages
row_49 = refl

row_50 : page (codes "**_*\n*_b**") ≡ codes "<p><em><em>_</em>\n<em>_b</em></em></p>"
unfolding pages
row_50 = refl

row_51 : page (codes "____\\*******a") ≡ codes "<p>____*******a</p>"
unfolding pages
row_51 = refl

row_52 : page ((226 ∷ 128 ∷ 166 ∷ []) ++ codes "_" ++ (194 ∷ 160 ∷ []) ++ codes "____" ++ (194 ∷ 160 ∷ []) ++ codes " b" ++ (194 ∷ 160 ∷ []) ++ codes "a")
    ≡ codes "<p>" ++ (226 ∷ 128 ∷ 166 ∷ []) ++ codes "_" ++ (194 ∷ 160 ∷ []) ++ codes "____" ++ (194 ∷ 160 ∷ []) ++ codes " b" ++ (194 ∷ 160 ∷ [])
    ++ codes "a</p>"
unfolding pages
row_52 = refl

row_53 : page (codes "_a*_**\\a") ≡ codes "<p><em>a*</em>**\\a</p>"
unfolding pages
row_53 = refl

row_54 : page (codes "*..\\a_* ") ≡ codes "<p><em>..\\a_</em></p>"
unfolding pages
row_54 = refl

row_55 : page (codes "**a" ++ (194 ∷ 160 ∷ []) ++ codes "****b\\**_*") ≡ codes "<p>**a" ++ (194 ∷ 160 ∷ []) ++ codes "**<em><em>b*</em>_</em></p>"
unfolding pages
row_55 = refl

row_56 : page (codes "***a" ++ (195 ∷ 169 ∷ []) ++ codes "_*" ++ (226 ∷ 128 ∷ 166 ∷ []))
    ≡ codes "<p>**<em>a" ++ (195 ∷ 169 ∷ []) ++ codes "_</em>" ++ (226 ∷ 128 ∷ 166 ∷ []) ++ codes "</p>"
unfolding pages
row_56 = refl

row_57 : page (codes "___\\" ++ (194 ∷ 160 ∷ []) ++ codes "_.***** _____") ≡ codes "<p>___\\" ++ (194 ∷ 160 ∷ []) ++ codes "_.***** _____</p>"
unfolding pages
row_57 = refl

row_58 : page (codes "*_**" ++ (194 ∷ 160 ∷ []) ++ codes " \\_ " ++ (194 ∷ 160 ∷ 194 ∷ 160 ∷ 194 ∷ 160 ∷ []))
    ≡ codes "<p><em>_</em>*" ++ (194 ∷ 160 ∷ []) ++ codes " _ " ++ (194 ∷ 160 ∷ 194 ∷ 160 ∷ 194 ∷ 160 ∷ []) ++ codes "</p>"
unfolding pages
row_58 = refl

row_59 : page (codes "\n***___" ++ (226 ∷ 128 ∷ 166 ∷ []) ++ codes "***") ≡ codes "<p><em><strong>___" ++ (226 ∷ 128 ∷ 166 ∷ []) ++ codes "</strong></em></p>"
unfolding pages
row_59 = refl

row_60 : page (codes "__ \"(*[c](d)") ≡ codes "<p>__ &quot;(*<a href=\"d\">c</a></p>"
unfolding pages
row_60 = refl

row_61 : page (codes "\n_\\*](x)") ≡ codes "<p>_*](x)</p>"
unfolding pages
row_61 = refl

row_62 : page (codes "!['[b]\n\n[a]: /u 't'\n\na``\n!>[]") ≡ codes "<p>!['[b]</p>\n<p>a``\n!&gt;[]</p>"
unfolding pages
row_62 = refl

row_63 : page (codes "\n](](`[b][x y][c](d)\n\n[a]: /u 't'\n\n<[]a") ≡ codes "<p>](](`[b][x y]<a href=\"d\">c</a></p>\n<p>&lt;[]a</p>"
unfolding pages
row_63 = refl

row_64 : page (codes "<(<a b>)[b]](]&amp;") ≡ codes "<p>&lt;(&lt;a b&gt;)[b]](]&amp;</p>"
unfolding pages
row_64 = refl

row_65 : page (codes "[]]((<a b>)\\b[!\n") ≡ codes "<p>[]]((&lt;a b&gt;)\\b[!</p>\n"
unfolding pages
row_65 = refl

row_66 : page (codes "[a]\n[>") ≡ codes "<p>[a]\n[&gt;</p>"
unfolding pages
row_66 = refl

row_67 : page (codes "](x)&amp;\n\n[a]: /u 't'\n\n[x y]b'`&amp;\"") ≡ codes "<p>](x)&amp;</p>\n<p>[x y]b'`&amp;&quot;</p>"
unfolding pages
row_67 = refl

row_68 : page (codes "'[a]: /u\n[][x y]([]") ≡ codes "<p>'[a]: /u\n[][x y]([]</p>"
unfolding pages
row_68 = refl

row_69 : page (codes "\n[]]") ≡ codes "<p>[]]</p>"
unfolding pages
row_69 = refl

row_70 : page (codes "[][c](d)&amp;") ≡ codes "<p>[]<a href=\"d\">c</a>&amp;</p>"
unfolding pages
row_70 = refl

row_71 : page (codes "[b][a]: /u\n([]](x)_\n))b![!") ≡ codes "<p>[b][a]: /u\n([]](x)_\n))b![!</p>"
unfolding pages
row_71 = refl

row_72 : page (codes "\\\\<![(\n\n_[a]: /u\n") ≡ codes "<p>\\&lt;![(</p>\n<p>_[a]: /u</p>\n"
unfolding pages
row_72 = refl

row_73 : page (codes "\n[a]`![") ≡ codes "<p>[a]`![</p>"
unfolding pages
row_73 = refl

row_74 : page (codes " &amp;[![[(<a b>)_![[a]a[a]") ≡ codes "<p>&amp;[![[(&lt;a b&gt;)_![[a]a[a]</p>"
unfolding pages
row_74 = refl

row_75 : page (codes "b](x)[![\n<[x y]>>'[](x)]\"") ≡ codes "<p>b](x)[![\n&lt;[x y]&gt;&gt;'<a href=\"x\"></a>]&quot;</p>"
unfolding pages
row_75 = refl

row_76 : page (codes ")[c](d)b[") ≡ codes "<p>)<a href=\"d\">c</a>b[</p>"
unfolding pages
row_76 = refl

row_77 : page (codes "(<a b>)!\n[b]") ≡ codes "<p>(&lt;a b&gt;)!\n[b]</p>"
unfolding pages
row_77 = refl

row_78 : page (codes "[a][x y][>'(>[[ ]](x)[\n\n[a]: /u 't'\n\n`\"") ≡ codes "<p>[a][x y][&gt;'(&gt;<a href=\"x\">[ ]</a>[</p>\n<p>`&quot;</p>"
unfolding pages
row_78 = refl

row_79 : page (codes "]([a]](x))_&amp;][ ][b]") ≡ codes "<p>]([a]](x))_&amp;][ ][b]</p>"
unfolding pages
row_79 = refl

row_80 : page (codes "\\ 'b*][ ][]_<>") ≡ codes "<p>\\ 'b*][ ][]_&lt;&gt;</p>"
unfolding pages
row_80 = refl

row_81 : page (codes "'](![][ ]>[a]*") ≡ codes "<p>'](![][ ]&gt;[a]*</p>"
unfolding pages
row_81 = refl

row_82 : page (codes "\n\n[a]: /u 't'\n\n)[a][a]'[c](d)b [ ]<b") ≡ codes "<p>)<a href=\"/u\" title=\"t\">a</a>'<a href=\"d\">c</a>b [ ]&lt;b</p>"
unfolding pages
row_82 = refl

row_83 : page (codes "<[x y][]](!&amp;") ≡ codes "<p>&lt;[x y][]](!&amp;</p>"
unfolding pages
row_83 = refl

row_84 : page (codes "\n\n[a]: /u 't'\n\n]\n[a]: /u\n\n") ≡ codes "<p>]\n<a href=\"/u\" title=\"t\">a</a>: /u</p>\n"
unfolding pages
row_84 = refl

row_85 : page (codes "[a]: /u\n[x y](<a b>)![ &amp;a![a") ≡ codes "<p><a href=\"a%20b\">x y</a>![ &amp;a![a</p>"
unfolding pages
row_85 = refl

row_86 : page (codes "]__[a]: /u\n\n\n[a]: /u 't'\n\n[b]\\(]([b]&amp;](") ≡ codes "<p>]__<a href=\"/u\" title=\"t\">a</a>: /u</p>\n<p>[b](]([b]&amp;](</p>"
unfolding pages
row_86 = refl

row_87 : page (codes "](_*") ≡ codes "<p>](_*</p>"
unfolding pages
row_87 = refl

row_88 : page (codes "[b]b[ ]b[x y]&amp;`[a]([\"") ≡ codes "<p>[b]b[ ]b[x y]&amp;`[a]([&quot;</p>"
unfolding pages
row_88 = refl

row_89 : page (codes "](a&amp;") ≡ codes "<p>](a&amp;</p>"
unfolding pages
row_89 = refl

row_90 : page (codes "/></>") ≡ codes "<p>/&gt;&lt;/&gt;</p>"
unfolding pages
row_90 = refl

row_91 : page (codes "<!=<!A''<?<?") ≡ codes "<p>&lt;!=&lt;!A''&lt;?&lt;?</p>"
unfolding pages
row_91 = refl

row_92 : page (codes "b\"<title><!--") ≡ codes "<p>b&quot;&lt;title&gt;&lt;!--</p>"
unfolding pages
row_92 = refl

row_93 : page (codes "a='b'</->/>->:<![CDATA[-->-->") ≡ codes "<p>a='b'&lt;/-&gt;/&gt;-&gt;:&lt;![CDATA[--&gt;--&gt;</p>"
unfolding pages
row_93 = refl

row_94 : page (codes "a='b'`<!--") ≡ codes "<p>a='b'`&lt;!--</p>"
unfolding pages
row_94 = refl

row_95 : page (codes "</.<?<![CDATA[") ≡ codes "<p>&lt;/.&lt;?&lt;![CDATA[</p>"
unfolding pages
row_95 = refl

row_96 : page (codes "</<!Aa='b']]>:") ≡ codes "<p>&lt;/&lt;!Aa='b']]&gt;:</p>"
unfolding pages
row_96 = refl

row_97 : page (codes "@'<title> <title>@->-'") ≡ codes "<p>@'&lt;title&gt; &lt;title&gt;@-&gt;-'</p>"
unfolding pages
row_97 = refl

row_98 : page (codes "/><!--<!---->?>/><title>?>>") ≡ codes "<p>/&gt;&lt;!--&lt;!----&gt;?&gt;/&gt;&lt;title&gt;?&gt;&gt;</p>"
unfolding pages
row_98 = refl

row_99 : page (codes "=xx:<a->'--><title>") ≡ codes "<p>=xx:&lt;a-&gt;'--&gt;&lt;title&gt;</p>"
unfolding pages
row_99 = refl

row_100 : page (codes "@</->:a?><!A<![CDATA[<!--</a='b'</:<title>") ≡ codes "<p>@&lt;/-&gt;:a?&gt;&lt;!A&lt;![CDATA[&lt;!--&lt;/a='b'&lt;/:&lt;title&gt;</p>"
unfolding pages
row_100 = refl

row_101 : page (codes "->/\"<![CDATA[-xx::") ≡ codes "<p>-&gt;/&quot;&lt;![CDATA[-xx::</p>"
unfolding pages
row_101 = refl

row_102 : page (codes "=. >") ≡ codes "<p>=. &gt;</p>"
unfolding pages
row_102 = refl

row_103 : page (codes "axx:b<//*a</`") ≡ codes "<p>axx:b&lt;//*a&lt;/`</p>"
unfolding pages
row_103 = refl

row_104 : page (codes "-->=-->/>/><!--*") ≡ codes "<p>--&gt;=--&gt;/&gt;/&gt;&lt;!--*</p>"
unfolding pages
row_104 = refl

row_105 : page (codes ":--a<!--b*") ≡ codes "<p>:--a&lt;!--b*</p>"
unfolding pages
row_105 = refl

row_106 : page (codes "->]]><?\n]]>a='b'`'<!A=<") ≡ codes "<p>-&gt;]]&gt;&lt;?\n]]&gt;a='b'`'&lt;!A=&lt;</p>"
unfolding pages
row_106 = refl

row_107 : page (codes "a='b'.<!A") ≡ codes "<p>a='b'.&lt;!A</p>"
unfolding pages
row_107 = refl

row_108 : page (codes "-><!--`/<![CDATA[`@xx:") ≡ codes "<p>-&gt;&lt;!--<code>/&lt;![CDATA[</code>@xx:</p>"
unfolding pages
row_108 = refl

row_109 : page (codes "/><//>?><!A<!--/</<!--/<!--<") ≡ codes "<p>/&gt;&lt;//&gt;?&gt;&lt;!A&lt;!--/&lt;/&lt;!--/&lt;!--&lt;</p>"
unfolding pages
row_109 = refl

row_110 : page (codes "]]>-]]>:=<b?>>-->a") ≡ codes "<p>]]&gt;-]]&gt;:=&lt;b?&gt;&gt;--&gt;a</p>"
unfolding pages
row_110 = refl

row_111 : page (codes "<<title>`\"`") ≡ codes "<p>&lt;&lt;title&gt;<code>&quot;</code></p>"
unfolding pages
row_111 = refl

row_112 : page (codes "\n@a='b'") ≡ codes "<p>@a='b'</p>"
unfolding pages
row_112 = refl

row_113 : page (codes "/>-->* ") ≡ codes "<p>/&gt;--&gt;*</p>"
unfolding pages
row_113 = refl

row_114 : page (codes "a='b'':\nb<title>*--*b ]]>") ≡ codes "<p>a='b'':\nb&lt;title&gt;*--*b ]]&gt;</p>"
unfolding pages
row_114 = refl

row_115 : page (codes "@<!--->=") ≡ codes "<p>@&lt;!---&gt;=</p>"
unfolding pages
row_115 = refl

row_116 : page (codes "-->'</><?--=/<?<?<!]]>\"") ≡ codes "<p>--&gt;'&lt;/&gt;&lt;?--=/&lt;?&lt;?&lt;!]]&gt;&quot;</p>"
unfolding pages
row_116 = refl

row_117 : page (codes "`xx:->\"@<![CDATA[<?\" ") ≡ codes "<p>`xx:-&gt;&quot;@&lt;![CDATA[&lt;?&quot;</p>"
unfolding pages
row_117 = refl

row_118 : page (codes "*a]]>-\n`>?>\n=-->?>") ≡ codes "<p>*a]]&gt;-\n`&gt;?&gt;\n=--&gt;?&gt;</p>"
unfolding pages
row_118 = refl

row_119 : page (codes "\na='b'--<<![CDATA[->\"/>") ≡ codes "<p>a='b'--&lt;&lt;![CDATA[-&gt;&quot;/&gt;</p>"
unfolding pages
row_119 = refl

row_120 : page (codes "*<a>&#32; [a](b)" ++ (13 ∷ []) ++ codes "\n<a> " ++ (13 ∷ []) ++ codes "\n  &#32;a" ++ (13 ∷ []) ++ codes "\n\n")
    ≡ codes "<p>*&lt;a&gt;  <a href=\"b\">a</a>" ++ (13 ∷ []) ++ codes "\n&lt;a&gt;" ++ (13 ∷ []) ++ codes "\n a</p>" ++ (13 ∷ []) ++ codes "\n"
unfolding pages
row_120 = refl

row_121 : page (codes "\\\n    a\\") ≡ codes "<p><br />\na\\</p>"
unfolding pages
row_121 = refl

row_122 : page (codes "b  \n<a>" ++ (194 ∷ 160 ∷ 13 ∷ []) ++ codes "\n`<a>" ++ (13 ∷ []) ++ codes "\n")
    ≡ codes "<p>b<br />\n&lt;a&gt;" ++ (194 ∷ 160 ∷ 13 ∷ []) ++ codes "\n`&lt;a&gt;</p>" ++ (13 ∷ []) ++ codes "\n"
unfolding pages
row_122 = refl

row_123 : page (codes "\n[a](b)\\\n  \n<a>`\\  \n") ≡ codes "<p><a href=\"b\">a</a>\\</p>\n<p>&lt;a&gt;`\\</p>\n"
unfolding pages
row_123 = refl

row_124 : page (codes "   \nb<a>`") ≡ codes "<p>b&lt;a&gt;`</p>"
unfolding pages
row_124 = refl

row_125 : page (codes "`*\n") ≡ codes "<p>`*</p>\n"
unfolding pages
row_125 = refl

row_126 : page (codes "&#32;[a](b)" ++ (13 ∷ []) ++ codes "\n[a](b)  \n\\\nb" ++ (9 ∷ []) ++ codes "  " ++ (13 ∷ 9 ∷ 13 ∷ []) ++ codes "\n\n\n")
    ≡ codes "<p> <a href=\"b\">a</a>" ++ (13 ∷ []) ++ codes "\n<a href=\"b\">a</a><br />\n<br />\nb</p>" ++ (13 ∷ [])
unfolding pages
row_126 = refl

row_127 : page (codes "a" ++ (13 ∷ []) ++ codes "\n" ++ (9 ∷ []) ++ codes "\n  \n" ++ (13 ∷ []) ++ codes " b&#32;\n*")
    ≡ codes "<p>a</p>" ++ (13 ∷ []) ++ codes "\n<p>b \n*</p>"
unfolding pages
row_127 = refl

row_128 : page (codes "   \\\n<a>" ++ (9 ∷ []) ++ codes "`" ++ (194 ∷ 160 ∷ []) ++ codes "\n\\\n\\\nab" ++ (13 ∷ []) ++ codes "*")
    ≡ codes "<p><br />\n&lt;a&gt;" ++ (9 ∷ []) ++ codes "`" ++ (194 ∷ 160 ∷ []) ++ codes "\n<br />\n<br />\nab" ++ (13 ∷ []) ++ codes "*</p>"
unfolding pages
row_128 = refl

row_129 : page (codes "\\\\\n`" ++ (194 ∷ 160 ∷ []) ++ codes "\\" ++ (9 ∷ 13 ∷ []) ++ codes "\n\\  " ++ (194 ∷ 160 ∷ []) ++ codes "  \n")
    ≡ codes "<p>\\\n`" ++ (194 ∷ 160 ∷ []) ++ codes "\\" ++ (13 ∷ []) ++ codes "\n\\  " ++ (194 ∷ 160 ∷ []) ++ codes "</p>\n"
unfolding pages
row_129 = refl

row_130 : page ((194 ∷ 160 ∷ []) ++ codes "\n" ++ (194 ∷ 160 ∷ []) ++ codes "\\\n`[a](b)&#32;" ++ (13 ∷ 13 ∷ []) ++ codes "  ")
    ≡ codes "<p>" ++ (194 ∷ 160 ∷ []) ++ codes "\n" ++ (194 ∷ 160 ∷ []) ++ codes "<br />\n`<a href=\"b\">a</a> </p>" ++ (13 ∷ [])
unfolding pages
row_130 = refl

row_131 : page ((13 ∷ 194 ∷ 160 ∷ []) ++ codes "\n\\*" ++ (13 ∷ [])) ≡ codes "<p>" ++ (194 ∷ 160 ∷ []) ++ codes "\n*</p>" ++ (13 ∷ [])
unfolding pages
row_131 = refl

row_132 : page ((13 ∷ []) ++ codes "b  \n" ++ (13 ∷ []) ++ codes "\n\n\\<a>\\\n" ++ (9 ∷ [])) ≡ codes "<p>b</p>\n<p>&lt;a&gt;\\</p>\n"
unfolding pages
row_132 = refl

row_133 : page (codes "  " ++ (194 ∷ 160 ∷ []) ++ codes "  \na\\\\a b" ++ (194 ∷ 160 ∷ []))
    ≡ codes "<p>" ++ (194 ∷ 160 ∷ []) ++ codes "<br />\na\\a b" ++ (194 ∷ 160 ∷ []) ++ codes "</p>"
unfolding pages
row_133 = refl

row_134 : page (codes "  \n  \\\n<a>\\\n&#32;\\\nb") ≡ codes "<p><br />\n&lt;a&gt;<br />\n <br />\nb</p>"
unfolding pages
row_134 = refl

row_135 : page (codes "\\   \n\n`[a](b)  *" ++ (194 ∷ 160 ∷ []) ++ codes "\n  ")
    ≡ codes "<p>\\</p>\n<p>`<a href=\"b\">a</a>  *" ++ (194 ∷ 160 ∷ []) ++ codes "</p>\n"
unfolding pages
row_135 = refl

row_136 : page ((194 ∷ 160 ∷ []) ++ codes "&#32;  <a>\\\n&#32;\\\n\n` \n*[a](b)")
    ≡ codes "<p>" ++ (194 ∷ 160 ∷ []) ++ codes "   &lt;a&gt;<br />\n \\</p>\n<p>`\n*<a href=\"b\">a</a></p>"
unfolding pages
row_136 = refl

row_137 : page (codes "[a](b)&#32;b[a](b)`&#32;[a](b)<a>\n&#32;") ≡ codes "<p><a href=\"b\">a</a> b<a href=\"b\">a</a>` <a href=\"b\">a</a>&lt;a&gt;\n </p>"
unfolding pages
row_137 = refl

row_138 : page (codes "ab\\" ++ (13 ∷ []) ++ codes "\n   `") ≡ codes "<p>ab<br />" ++ (13 ∷ []) ++ codes "\n`</p>"
unfolding pages
row_138 = refl

row_139 : page (codes "  \na`\\[a](b)") ≡ codes "<p>a`[a](b)</p>"
unfolding pages
row_139 = refl

row_140 : page (codes "\\\n\\\n" ++ (13 ∷ []) ++ codes "  \n" ++ (194 ∷ 160 ∷ []) ++ codes "\\\n" ++ (13 ∷ 9 ∷ []) ++ codes "\n\\\n")
    ≡ codes "<p><br />\n\\</p>\n<p>" ++ (194 ∷ 160 ∷ []) ++ codes "\\</p>\n<p>\\</p>\n"
unfolding pages
row_140 = refl

row_141 : page (codes "<a>\\\n" ++ (9 ∷ [])) ≡ codes "<p>&lt;a&gt;\\</p>\n"
unfolding pages
row_141 = refl

row_142 : page (codes " " ++ (194 ∷ 160 ∷ []) ++ codes "<a>") ≡ codes "<p>" ++ (194 ∷ 160 ∷ []) ++ codes "&lt;a&gt;</p>"
unfolding pages
row_142 = refl

row_143 : page (codes "  \n\\<a>a    \na  b<a>\n") ≡ codes "<p>&lt;a&gt;a<br />\na  b&lt;a&gt;</p>\n"
unfolding pages
row_143 = refl

row_144 : page ((9 ∷ []) ++ codes "  \n\\") ≡ codes "<p>\\</p>"
unfolding pages
row_144 = refl

row_145 : page (codes "<a>\\\n  <a>   ") ≡ codes "<p>&lt;a&gt;<br />\n&lt;a&gt;</p>"
unfolding pages
row_145 = refl

row_146 : page ((13 ∷ 13 ∷ []) ++ codes "\nb[a](b)\n  \n[a](b)   \n" ++ (194 ∷ 160 ∷ []) ++ codes "  \n" ++ (13 ∷ []))
    ≡ codes "<p>b<a href=\"b\">a</a></p>\n<p><a href=\"b\">a</a><br />\n" ++ (194 ∷ 160 ∷ []) ++ codes "</p>\n"
unfolding pages
row_146 = refl

row_147 : page (codes "b  \n" ++ (194 ∷ 160 ∷ 194 ∷ 160 ∷ []) ++ codes "\n" ++ (13 ∷ []))
    ≡ codes "<p>b<br />\n" ++ (194 ∷ 160 ∷ 194 ∷ 160 ∷ []) ++ codes "</p>\n"
unfolding pages
row_147 = refl

row_148 : page ((194 ∷ 160 ∷ []) ++ codes "<a>\\\n\n \\\n") ≡ codes "<p>" ++ (194 ∷ 160 ∷ []) ++ codes "&lt;a&gt;\\</p>\n<p>\\</p>\n"
unfolding pages
row_148 = refl

row_149 : page (codes "&#32;<a>\\  " ++ (194 ∷ 160 ∷ 13 ∷ []) ++ codes "\n" ++ (9 ∷ 194 ∷ 160 ∷ []) ++ codes "[a](b)``")
    ≡ codes "<p> &lt;a&gt;\\  " ++ (194 ∷ 160 ∷ 13 ∷ []) ++ codes "\n" ++ (194 ∷ 160 ∷ []) ++ codes "<a href=\"b\">a</a>``</p>"
unfolding pages
row_149 = refl

row_150 : page (codes "D800D800&#X22;&copy;`&;&#; \\#copy") ≡ codes "<p>D800D800&quot;" ++ (194 ∷ 169 ∷ []) ++ codes "`&amp;;&amp;#; #copy</p>"
unfolding pages
row_150 = refl

row_151 : page (codes "D800&#X\\`X&#0;copy\\") ≡ codes "<p>D800&amp;#X`X" ++ (239 ∷ 191 ∷ 189 ∷ []) ++ codes "copy\\</p>"
unfolding pages
row_151 = refl

row_152 : page (codes "FFFEX#&#X22;X#0&#0;;#") ≡ codes "<p>FFFEX#&quot;X#0" ++ (239 ∷ 191 ∷ 189 ∷ []) ++ codes ";#</p>"
unfolding pages
row_152 = refl

row_153 : page (codes "12&#x1234567X&#0;xA") ≡ codes "<p>12&amp;#x1234567X" ++ (239 ∷ 191 ∷ 189 ∷ []) ++ codes "xA</p>"
unfolding pages
row_153 = refl

row_154 : page (codes "copy &#x``a&#X22;") ≡ codes "<p>copy &amp;#x``a&quot;</p>"
unfolding pages
row_154 = refl

row_155 : page (codes "1234567ampD800copyX1234567x`  `;") ≡ codes "<p>1234567ampD800copyX1234567x<code>  </code>;</p>"
unfolding pages
row_155 = refl

row_156 : page (codes "copy&#xFFFE&*") ≡ codes "<p>copy&amp;#xFFFE&amp;*</p>"
unfolding pages
row_156 = refl

row_157 : page (codes "XxD800FFFE") ≡ codes "<p>XxD800FFFE</p>"
unfolding pages
row_157 = refl

row_158 : page (codes "&amp;FFFE10D800`&#x`1234567 ") ≡ codes "<p>&amp;FFFE10D800<code>&amp;#x</code>1234567</p>"
unfolding pages
row_158 = refl

row_159 : page (codes "xX1234567FFFE*A&#D800A*&#0;aX&#") ≡ codes "<p>xX1234567FFFE<em>A&amp;#D800A</em>" ++ (239 ∷ 191 ∷ 189 ∷ []) ++ codes "aX&amp;#</p>"
unfolding pages
row_159 = refl

row_160 : page (codes "ampamp0a*acopy&copy;") ≡ codes "<p>ampamp0a*acopy" ++ (194 ∷ 169 ∷ []) ++ codes "</p>"
unfolding pages
row_160 = refl

row_161 : page (codes "0&#x&#0;00copy*D800A`;X&copy;") ≡ codes "<p>0&amp;#x" ++ (239 ∷ 191 ∷ 189 ∷ []) ++ codes "00copy*D800A`;X" ++ (194 ∷ 169 ∷ [])
    ++ codes "</p>"
unfolding pages
row_161 = refl

row_162 : page (codes "&10copyAXcopy1234567A;`&&#x1234567") ≡ codes "<p>&amp;10copyAXcopy1234567A;`&amp;&amp;#x1234567</p>"
unfolding pages
row_162 = refl

row_163 : page (codes "amp&amp;1234567*10&12") ≡ codes "<p>amp&amp;1234567*10&amp;12</p>"
unfolding pages
row_163 = refl

row_164 : page (codes "x&copy;X&#amp1#aD800X12345670&#X22;1234567") ≡ codes "<p>x" ++ (194 ∷ 169 ∷ []) ++ codes "X&amp;#amp1#aD800X12345670&quot;1234567</p>"
unfolding pages
row_164 = refl

row_165 : page (codes "#xD800\\&#&&copy; &#x;&copy;") ≡ codes "<p>#xD800&amp;#&amp;" ++ (194 ∷ 169 ∷ []) ++ codes " &amp;#x;" ++ (194 ∷ 169 ∷ [])
    ++ codes "</p>"
unfolding pages
row_165 = refl

row_166 : page (codes "a&copy;&#a1234567&#\\") ≡ codes "<p>a" ++ (194 ∷ 169 ∷ []) ++ codes "&amp;#a1234567&amp;#\\</p>"
unfolding pages
row_166 = refl

row_167 : page (codes "&#X22;12copy") ≡ codes "<p>&quot;12copy</p>"
unfolding pages
row_167 = refl

row_168 : page (codes " a&copy;XA\\D800*&amp;&#0;#*1&#X22;") ≡ codes "<p>a" ++ (194 ∷ 169 ∷ []) ++ codes "XA\\D800*&amp;" ++ (239 ∷ 191 ∷ 189 ∷ [])
    ++ codes "#*1&quot;</p>"
unfolding pages
row_168 = refl

row_169 : page (codes " &#X22;`0amp") ≡ codes "<p>&quot;`0amp</p>"
unfolding pages
row_169 = refl

row_170 : page (codes "&#X22;\\1") ≡ codes "<p>&quot;\\1</p>"
unfolding pages
row_170 = refl

row_171 : page (codes "a&#x1234567") ≡ codes "<p>a&amp;#x1234567</p>"
unfolding pages
row_171 = refl

row_172 : page (codes "&copy;&copy;`amp*D800A1234567ampcopy0") ≡ codes "<p>" ++ (194 ∷ 169 ∷ 194 ∷ 169 ∷ []) ++ codes "`amp*D800A1234567ampcopy0</p>"
unfolding pages
row_172 = refl

row_173 : page (codes ";amp``12a&amp;&copy;&#0;121234567D800") ≡ codes "<p>;amp``12a&amp;" ++ (194 ∷ 169 ∷ 239 ∷ 191 ∷ 189 ∷ []) ++ codes "121234567D800</p>"
unfolding pages
row_173 = refl

row_174 : page (codes "&copy;amp&#0;x*&1234567 ") ≡ codes "<p>" ++ (194 ∷ 169 ∷ []) ++ codes "amp" ++ (239 ∷ 191 ∷ 189 ∷ []) ++ codes "x*&amp;1234567</p>"
unfolding pages
row_174 = refl

row_175 : page (codes "&#x&&#xD80011 &copy;\\a") ≡ codes "<p>&amp;#x&amp;&amp;#xD80011 " ++ (194 ∷ 169 ∷ []) ++ codes "\\a</p>"
unfolding pages
row_175 = refl

row_176 : page (codes "&#xxx1234567`FFFE#copy1*") ≡ codes "<p>&amp;#xxx1234567`FFFE#copy1*</p>"
unfolding pages
row_176 = refl

row_177 : page (codes "\\*D800#&#0;& \\#aD8000;") ≡ codes "<p>*D800#" ++ (239 ∷ 191 ∷ 189 ∷ []) ++ codes "&amp; #aD8000;</p>"
unfolding pages
row_177 = refl

row_178 : page (codes "#&\\aX&amp;*x1a`&#X22;&#xD800") ≡ codes "<p>#&amp;\\aX&amp;*x1a`&quot;&amp;#xD800</p>"
unfolding pages
row_178 = refl

row_179 : page (codes "&#0;`&") ≡ codes "<p>" ++ (239 ∷ 191 ∷ 189 ∷ []) ++ codes "`&amp;</p>"
unfolding pages
row_179 = refl

row_180 : page (codes " [<a>") ≡ codes "<p>[&lt;a&gt;</p>"
unfolding pages
row_180 = refl

row_181 : page (codes "``<a>(b)  \n  *") ≡ codes "<p>``&lt;a&gt;(b)<br />\n*</p>"
unfolding pages
row_181 = refl

row_182 : page (codes "b\\\n```  ```(b)``") ≡ codes "<p>b<br />\n<code>  </code>(b)``</p>"
unfolding pages
row_182 = refl

row_183 : page (codes "`]a**\n*(b) <a>``") ≡ codes "<p>`]a**\n*(b) &lt;a&gt;``</p>"
unfolding pages
row_183 = refl

row_184 : page (codes "``b]*(b)[`````]") ≡ codes "<p>``b]*(b)[`````]</p>"
unfolding pages
row_184 = refl

row_185 : page (codes "\\(b)**") ≡ codes "<p>(b)**</p>"
unfolding pages
row_185 = refl

row_186 : page (codes "`[[*` `") ≡ codes "<p><code>[[*</code> `</p>"
unfolding pages
row_186 = refl

row_187 : page (codes "\n\\<a>`a") ≡ codes "<p>&lt;a&gt;`a</p>"
unfolding pages
row_187 = refl

row_188 : page (codes " (b)``\n  *") ≡ codes "<p>(b)``\n*</p>"
unfolding pages
row_188 = refl

row_189 : page (codes " b*\n(b)[*[]`` \n") ≡ codes "<p>b*\n(b)[*[]``</p>\n"
unfolding pages
row_189 = refl

row_190 : page (codes "[`````*``a") ≡ codes "<p>[`````*``a</p>"
unfolding pages
row_190 = refl

row_191 : page (codes "```a]`]`]<a>b\\]") ≡ codes "<p>```a]<code>]</code>]&lt;a&gt;b]</p>"
unfolding pages
row_191 = refl

row_192 : page (codes "ab(b) [[a(b)```") ≡ codes "<p>ab(b) [[a(b)```</p>"
unfolding pages
row_192 = refl

row_193 : page (codes "(b)][(b)\n`\n<a>") ≡ codes "<p>(b)][(b)\n`\n&lt;a&gt;</p>"
unfolding pages
row_193 = refl

row_194 : page (codes "``\\  (b)`<a>\n\n") ≡ codes "<p>``\\  (b)`&lt;a&gt;</p>\n"
unfolding pages
row_194 = refl

row_195 : page (codes "*](b)```[") ≡ codes "<p>*](b)```[</p>"
unfolding pages
row_195 = refl

row_196 : page (codes "``\n(b)a") ≡ codes "<p>``\n(b)a</p>"
unfolding pages
row_196 = refl

row_197 : page (codes "]``` b  <a>*```]") ≡ codes "<p>]<code> b  &lt;a&gt;*</code>]</p>"
unfolding pages
row_197 = refl

row_198 : page (codes "\n b") ≡ codes "<p>b</p>"
unfolding pages
row_198 = refl

row_199 : page (codes "`b[<a>\\  `[[b ]````") ≡ codes "<p><code>b[&lt;a&gt;\\  </code>[[b ]````</p>"
unfolding pages
row_199 = refl

row_200 : page (codes "  *(b)") ≡ codes "<p>*(b)</p>"
unfolding pages
row_200 = refl

row_201 : page (codes "]\\[\n<a>") ≡ codes "<p>][\n&lt;a&gt;</p>"
unfolding pages
row_201 = refl

row_202 : page (codes "](b)(b) ba\n<a>b\n`[ a") ≡ codes "<p>](b)(b) ba\n&lt;a&gt;b\n`[ a</p>"
unfolding pages
row_202 = refl

row_203 : page (codes "\nbb(b)``````<a>b\\ ") ≡ codes "<p>bb(b)``````&lt;a&gt;b\\</p>"
unfolding pages
row_203 = refl

row_204 : page (codes "[ (b)\\]\\(b)") ≡ codes "<p>[ (b)](b)</p>"
unfolding pages
row_204 = refl

row_205 : page (codes "\\a<a>```b]\n`````]```") ≡ codes "<p>\\a&lt;a&gt;<code>b] `````]</code></p>"
unfolding pages
row_205 = refl

row_206 : page (codes "]<a>  []*  ") ≡ codes "<p>]&lt;a&gt;  []*</p>"
unfolding pages
row_206 = refl

row_207 : page (codes "ba <a>\n(b)\\*aab````") ≡ codes "<p>ba &lt;a&gt;\n(b)*aab````</p>"
unfolding pages
row_207 = refl

row_208 : page (codes "`````<a>[]b``````(b)]`[") ≡ codes "<p>`````&lt;a&gt;[]b``````(b)]`[</p>"
unfolding pages
row_208 = refl

row_209 : page (codes "(b)[[ <a>") ≡ codes "<p>(b)[[ &lt;a&gt;</p>"
unfolding pages
row_209 = refl
