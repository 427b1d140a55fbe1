-- Texts with character references, and what the definition decodes them to.
use Rattle.std.specs.Prelude.{◌≡◌, [], ◌∷◌, ◌++◌, codes, length}
use Rattle.std.specs.Char.{encode_utf8}
use Rattle.std.proofs.Common.{refl}
use Rattle.definition_inline.specs.BuiltinReferences.{builtin_text, builtin_rows, builtin_names}
use Rattle.definition_inline.specs.Decoded.{decode}

size : length builtin_rows ≡ 296
unfolding builtin_rows builtin_text
size = refl

row_0 : decode builtin_names (codes "&ngE;&#0;") ≡ encode_utf8 0x2267 ++ encode_utf8 0x338 ++ encode_utf8 0xFFFD
unfolding builtin_rows builtin_text encode_utf8
row_0 = refl

row_1 : decode builtin_names (codes "a&amp;b&x;") ≡ codes "a&b&x;"
unfolding builtin_rows builtin_text encode_utf8
row_1 = refl

row_2 : decode builtin_names (codes "&nbsp; &amp; &copy; &AElig; &Dcaron;")
    ≡ encode_utf8 0xA0 ++ codes " & " ++ encode_utf8 0xA9 ++ codes " " ++ encode_utf8 0xC6 ++ codes " " ++ encode_utf8 0x10E
unfolding builtin_rows builtin_text encode_utf8
row_2 = refl

row_3 : decode builtin_names (codes "&frac34; &HilbertSpace; &DifferentialD;")
    ≡ encode_utf8 0xBE ++ codes " " ++ encode_utf8 0x210B ++ codes " " ++ encode_utf8 0x2146
unfolding builtin_rows builtin_text encode_utf8
row_3 = refl

row_4 : decode builtin_names (codes "&ClockwiseContourIntegral; &ngE;") ≡ encode_utf8 0x2232 ++ codes " " ++ encode_utf8 0x2267 ++ encode_utf8 0x338
unfolding builtin_rows builtin_text encode_utf8
row_4 = refl

row_5 : decode builtin_names (codes "&#35; &#1234; &#992; &#0;") ≡ codes "# " ++ encode_utf8 0x4D2 ++ codes " " ++ encode_utf8 0x3E0 ++ codes " "
    ++ encode_utf8 0xFFFD
unfolding builtin_rows builtin_text encode_utf8
row_5 = refl

row_6 : decode builtin_names (codes "&#X22; &#XD06; &#xcab;") ≡ codes "\" " ++ encode_utf8 0xD06 ++ codes " " ++ encode_utf8 0xCAB
unfolding builtin_rows builtin_text encode_utf8
row_6 = refl

row_7 : decode builtin_names (codes "&nbsp &x; &#; &#x;") ≡ codes "&nbsp &x; &#; &#x;"
unfolding builtin_rows builtin_text encode_utf8
row_7 = refl

row_8 : decode builtin_names (codes "&#87654321; &#abcdef0;") ≡ codes "&#87654321; &#abcdef0;"
unfolding builtin_rows builtin_text encode_utf8
row_8 = refl

row_9 : decode builtin_names (codes "&ThisIsNotDefined; &hi?; &copy") ≡ codes "&ThisIsNotDefined; &hi?; &copy"
unfolding builtin_rows builtin_text encode_utf8
row_9 = refl

row_10 : decode builtin_names (codes "&MadeUpEntity; &Amp;") ≡ codes "&MadeUpEntity; &Amp;"
unfolding builtin_rows builtin_text encode_utf8
row_10 = refl

row_11 : decode builtin_names (codes "&amp;amp; &#38;lt; &&lt;") ≡ codes "&amp; &lt; &<"
unfolding builtin_rows builtin_text encode_utf8
row_11 = refl

row_12 : decode builtin_names (codes "&#9;&#10;&#12;&#13;") ≡ 9 ∷ 10 ∷ 12 ∷ 13 ∷ []
unfolding builtin_rows builtin_text encode_utf8
row_12 = refl

row_13 : decode builtin_names (codes "&#8;&#11;&#14;&#31;") ≡ encode_utf8 0xFFFD ++ encode_utf8 0xFFFD ++ encode_utf8 0xFFFD ++ encode_utf8 0xFFFD
unfolding builtin_rows builtin_text encode_utf8
row_13 = refl

row_14 : decode builtin_names (codes "&#126;&#127;&#159;&#160;") ≡ codes "~" ++ encode_utf8 0xFFFD ++ encode_utf8 0xFFFD ++ encode_utf8 0xA0
unfolding builtin_rows builtin_text encode_utf8
row_14 = refl

row_15 : decode builtin_names (codes "&#xD7FF;&#xD800;&#xDFFF;&#xE000;") ≡ encode_utf8 0xD7FF ++ encode_utf8 0xFFFD ++ encode_utf8 0xFFFD ++ encode_utf8 0xE000
unfolding builtin_rows builtin_text encode_utf8
row_15 = refl

row_16 : decode builtin_names (codes "&#xFDCF;&#xFDD0;&#xFDEF;&#xFDF0;") ≡ encode_utf8 0xFDCF ++ encode_utf8 0xFFFD ++ encode_utf8 0xFFFD ++ encode_utf8 0xFDF0
unfolding builtin_rows builtin_text encode_utf8
row_16 = refl

row_17 : decode builtin_names (codes "&#xFFFD;&#xFFFE;&#x1FFFF;&#x10FFFD;")
    ≡ encode_utf8 0xFFFD ++ encode_utf8 0xFFFD ++ encode_utf8 0xFFFD ++ encode_utf8 0x10FFFD
unfolding builtin_rows builtin_text encode_utf8
row_17 = refl

row_18 : decode builtin_names (codes "&#x110000;&#9999999;&#xFFFFFF;") ≡ encode_utf8 0xFFFD ++ encode_utf8 0xFFFD ++ encode_utf8 0xFFFD
unfolding builtin_rows builtin_text encode_utf8
row_18 = refl

row_19 : decode builtin_names (codes "&#0000065;&#00000065;&#x000041;&#x0000041;") ≡ codes "A&#00000065;A&#x0000041;"
unfolding builtin_rows builtin_text encode_utf8
row_19 = refl

row_20 : decode builtin_names ([]) ≡ []
unfolding builtin_rows builtin_text encode_utf8
row_20 = refl
