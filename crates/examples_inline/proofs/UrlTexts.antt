-- URLs, and what the definition prints for them.
use Rattle.std.specs.Prelude.{◌≡◌, [], ◌∷◌, ◌++◌, codes}
use Rattle.std.proofs.Common.{refl}
use Rattle.definition_page.specs.GfmTagfilter.{filtered_names, filter_tags}
use Rattle.definition_page.specs.Urls.{sanitize, sanitized_with, href_protocols, src_protocols}

row_0 : sanitize (codes "javascript:alert(1)") ≡ codes "javascript:alert(1)"
row_0 = refl

-- U+1F44D after `a`, and a last `%`
row_1 : sanitize (codes "https://a" ++ (240 ∷ 159 ∷ 145 ∷ 141 ∷ []) ++ codes "b.c/%20/%") ≡ codes "https://a%F0%9F%91%8Db.c/%20/%25"
row_1 = refl

row_2 : sanitize (codes "a&b\"c<d>e`f{|}g\\h[i]j^k l") ≡ codes "a&amp;b%22c%3Cd%3Ee%60f%7B%7C%7Dg%5Ch%5Bi%5Dj%5Ek%20l"
row_2 = refl

row_3 : sanitize (codes "%zz%4%%41%-1!#$'()*+,-./:;=?@_~") ≡ codes "%zz%254%25%41%25-1!#$'()*+,-./:;=?@_~"
row_3 = refl

row_4 : sanitize (0 ∷ 127 ∷ 195 ∷ 164 ∷ []) ≡ codes "%00%7F%C3%A4"
row_4 = refl

row_5 : sanitized_with src_protocols (codes "javascript:alert(1)") ≡ []
unfolding src_protocols
row_5 = refl

row_6 : sanitized_with src_protocols (codes "hTTps://a b") ≡ codes "hTTps://a%20b"
unfolding src_protocols
row_6 = refl

row_7 : sanitized_with href_protocols (codes "/a:b?c:d") ≡ codes "/a:b?c:d"
row_7 = refl

row_8 : sanitized_with href_protocols (codes "#a:b") ≡ codes "#a:b"
row_8 = refl

row_9 : sanitized_with href_protocols (codes ":a") ≡ []
unfolding href_protocols
row_9 = refl

row_10 : sanitized_with src_protocols (codes "mailto:a@b") ≡ []
unfolding src_protocols
row_10 = refl

row_11 : sanitized_with href_protocols (codes "MAILTO:a@b") ≡ codes "MAILTO:a@b"
unfolding href_protocols
row_11 = refl

row_12 : filter_tags (codes "<iframe> </XMP><titles> <script") ≡ codes "&lt;iframe> &lt;/XMP><titles> &lt;script"
unfolding filtered_names
row_12 = refl
