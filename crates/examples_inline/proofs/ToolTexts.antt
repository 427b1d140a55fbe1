-- What tools make of texts, and pages by the names of a caller, by the definition.
use Rattle.std.specs.Prelude.{◌≡◌, ℕ, List, Option, [], ◌∷◌, ◌++◌, codes}
use Rattle.std.specs.Char.{encode_utf8, is_ascii_punctuation}
use Rattle.std.proofs.Common.{refl}
use Rattle.markdown_compile_options.specs.Defaults.{default_options}
use Rattle.definition_text.specs.Encode.{encode, plain}
use Rattle.definition_inline.specs.Decoded.{decode}
use Rattle.definition_page.specs.TextTables.{TextTables}
use Rattle.definition_page.specs.GfmTagfilter.{filtered_names, filter_tags}
use Rattle.definition_page.specs.Urls.{sanitize, sanitized_with}
use Rattle.markdown_definition.specs.Html.{html}
use Rattle.examples_inline.proofs.Computing.{pages}
use Rattle.examples_inline.specs.Pages.{find_text, names_text}

-- U+1F980
abbrev crab : List ℕ
crab = 240 ∷ 159 ∷ 166 ∷ 128 ∷ []

-- U+1F44D
abbrev thumb : List ℕ
thumb = 240 ∷ 159 ∷ 145 ∷ 141 ∷ []

-- é
abbrev acute : List ℕ
acute = 195 ∷ 169 ∷ []

-- U+FFFD
abbrev replacement : List ℕ
replacement = 239 ∷ 191 ∷ 189 ∷ []

-- ---- HTML

encoded : encode (codes "I <3 \"" ++ crab ++ codes "\" & " ++ acute ++ codes ">" ++ (0 ∷ []))
    ≡ codes "I &lt;3 &quot;" ++ crab ++ codes "&quot; &amp; " ++ acute ++ codes "&gt;" ++ replacement
encoded = refl

without_nul : plain (codes "I <3 \"" ++ crab ++ codes "\" & " ++ acute ++ codes ">" ++ (0 ∷ []))
    ≡ codes "I <3 \"" ++ crab ++ codes "\" & " ++ acute ++ codes ">" ++ replacement
without_nul = refl

filtered : filter_tags (codes "<iframe></XMP ><plaintexts>") ≡ codes "&lt;iframe>&lt;/XMP ><plaintexts>"
unfolding filtered_names
filtered = refl

filtered_over_lines : filter_tags (acute ++ codes "</XMP\n><titles><b><script") ≡ acute ++ codes "&lt;/XMP\n><titles><b>&lt;script"
unfolding filtered_names
filtered_over_lines = refl

-- ---- URLs

ampersand : sanitize (codes "a&b") ≡ codes "a&amp;b"
ampersand = refl

query : sanitize (acute ++ codes "?a=1&b=\"2\"") ≡ codes "%C3%A9?a=1&amp;b=%222%22"
query = refl

abbrev web : List (List ℕ)
web = codes "http" ∷ codes "https" ∷ []

no_script : sanitized_with web (codes "javascript:alert(1)") ≡ []
no_script = refl

in_the_web : sanitized_with web (codes "https://example.com") ≡ codes "https://example.com"
in_the_web = refl

in_any_case : sanitized_with web (codes "hTTps://a" ++ thumb ++ codes "b.c/%20/%") ≡ codes "hTTps://a%F0%9F%91%8Db.c/%20/%25"
in_any_case = refl

no_protocol : sanitized_with web (codes "/a:b") ≡ codes "/a:b"
no_protocol = refl

-- ---- names of a caller: `and`, `q` and `j`

abbrev callers : List ℕ → Option (List ℕ)
callers name =
    find_text name (names_text (codes "and") (codes "&") ∷ names_text (codes "q") (codes "\"") ∷ names_text (codes "j") (codes "ja") ∷ [])

decoded : decode callers (codes "a&and;b&x;") ≡ codes "a&b&x;"
unfolding encode_utf8
decoded = refl

decoded_once : decode callers (codes "&and;and; &#38;lt; &&#x22;") ≡ codes "&and; &lt; &\""
unfolding encode_utf8
decoded_once = refl

decoded_numbers : decode callers (codes "&#0000065;&#00000065;&#xD800;&") ≡ codes "A&#00000065;" ++ replacement ++ codes "&"
unfolding encode_utf8
decoded_numbers = refl

decoded_beside : decode callers (acute ++ codes "&and;" ++ acute) ≡ acute ++ codes "&" ++ acute
unfolding encode_utf8
decoded_beside = refl

abbrev of_caller : TextTables
of_caller = record { names = callers; is_punctuation = is_ascii_punctuation }

title : html of_caller (codes "[a](b \"&q;\")") default_options ≡ codes "<p><a href=\"b\" title=\"&quot;\">a</a></p>"
unfolding pages
title = refl

protocol : html of_caller (codes "[a](&j;vascript:x)") default_options ≡ codes "<p><a href=\"\">a</a></p>"
unfolding pages
protocol = refl

other_names : html of_caller (codes "&amp;&q;") default_options ≡ codes "<p>&amp;amp;&quot;</p>"
unfolding pages
other_names = refl
