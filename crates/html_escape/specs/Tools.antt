-- What each tool prints for a byte, given those after it.
use Rattle.std.specs.Prelude.{ℕ, Bool, not, if◌then◌else◌, ◌==◌, ◌&&◌, List, [], ◌∷◌, codes}
use Rattle.definition_text.specs.Ascii.{ampersand, less_than}
use Rattle.definition_text.specs.Encode.{encode, encoded_byte, plain, plain_byte, replacement_character}
use Rattle.definition_page.specs.GfmTagfilter.{is_filtered, filter_tags}
use Rattle.definition_page.specs.Urls.{is_url_byte, percent_byte}

-- a byte of a text, whose four bytes of HTML are references or not
abbrev pub text_byte : Bool → ℕ → List ℕ → List ℕ
text_byte html b after = if html then encoded_byte b else plain_byte b

abbrev pub encoded_if : Bool → List ℕ → List ℕ
encoded_if html text = if html then encode text else plain text

-- a byte of raw HTML, where tags are filtered (GFM 6.11)
abbrev pub filtered_byte : ℕ → List ℕ → List ℕ
filtered_byte b after = if (b == less_than) && is_filtered after then codes "&lt;" else b ∷ []

abbrev pub filtered_if : Bool → List ℕ → List ℕ
filtered_if filters html = if filters then filter_tags html else html

-- a byte of raw HTML as it is printed: NUL as U+FFFD, too
abbrev pub raw_byte : Bool → ℕ → List ℕ → List ℕ
raw_byte filters b after =
    if b == 0 then replacement_character else (if filters && ((b == less_than) && is_filtered after) then codes "&lt;" else b ∷ [])

-- a byte of a URL
abbrev pub url_byte : ℕ → List ℕ → List ℕ
url_byte b after = encode (percent_byte b after)

-- a byte of a URL that is printed as it is, whatever follows it
abbrev pub is_plain_byte : ℕ → Bool
is_plain_byte b = is_url_byte b && not (b == ampersand)
