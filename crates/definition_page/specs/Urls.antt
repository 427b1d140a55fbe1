-- URLs as they are printed in attributes: percent encoded, as text, and only with protocols that are permitted.
use Rattle.std.specs.Prelude.{ℕ, ◌/◌, ◌%◌, Bool, true, false, not, if◌then◌else◌, ◌==◌, ◌&&◌, ◌||◌, List, [], ◌∷◌, ◌++◌, Option, None, Some, codes}
use Rattle.std.specs.Char.{is_ascii_alphanumeric}
use Rattle.std.specs.Fmt.{digit_glyph}
use Rattle.std.specs.Int.{is_in_range}
use Rattle.std.specs.List.{list_any, take_while}
use Rattle.std.specs.Str.{bytes_eq}
use Rattle.definition_text.specs.Ascii.{exclamation_mark, number_sign, dollar, percent_sign, ampersand, slash, colon, semicolon, equals, question_mark, at_sign}
use Rattle.definition_text.specs.Ascii.{underscore, tilde}
use Rattle.definition_text.specs.Encode.{encode}
use Rattle.definition_text.specs.Bytes.{after_all, lower}

-- a byte that a URL keeps: a letter, a digit, or one of ! # $ & ' ( ) * + , - . / : ; = ? @ _ ~
abbrev pub is_url_byte : ℕ → Bool
is_url_byte b =
    is_ascii_alphanumeric b || (b == exclamation_mark) || is_in_range number_sign dollar b || is_in_range ampersand slash b || is_in_range colon semicolon b
    || (b == equals) || is_in_range question_mark at_sign b || (b == underscore) || (b == tilde)

-- what makes a `%` before it an escape: two letters or digits
abbrev pub ends_escape : List ℕ → Bool
ends_escape [] = false
ends_escape (a ∷ []) = false
ends_escape (a ∷ b ∷ bs) = is_ascii_alphanumeric a && is_ascii_alphanumeric b

-- `%` and the two upper case hexadecimal digits of a byte
abbrev pub escape : ℕ → List ℕ
escape b = percent_sign ∷ digit_glyph true (b / 16) ∷ digit_glyph true (b % 16) ∷ []

-- a byte that stays, given those after it
abbrev pub is_kept : ℕ → List ℕ → Bool
is_kept b after = is_url_byte b || ((b == percent_sign) && ends_escape after)

abbrev pub percent_byte : ℕ → List ℕ → List ℕ
percent_byte b after = if is_kept b after then b ∷ [] else escape b

-- a URL in which each byte that isn't kept is an escape
abbrev pub percent : List ℕ → List ℕ
percent [] = []
percent (b ∷ bs) = percent_byte b bs ++ percent bs

-- a URL as it is printed
abbrev pub sanitize : List ℕ → List ℕ
sanitize url = encode (percent url)

-- what ends a protocol: `:`, and `?`, `#` and `/`, after which there is none
abbrev pub ends_protocol : ℕ → Bool
ends_protocol b = (b == colon) || (b == question_mark) || (b == number_sign) || (b == slash)

abbrev pub in_protocol : ℕ → Bool
in_protocol b = not (ends_protocol b)

abbrev pub begins_with_colon : List ℕ → Bool
begins_with_colon [] = false
begins_with_colon (b ∷ bs) = b == colon

-- what stands before the first `:` of a URL, if no `?`, `#` or `/` stands before it
abbrev pub protocol : List ℕ → Option (List ℕ)
protocol url = if begins_with_colon (after_all in_protocol url) then Some (take_while in_protocol url) else None

-- no protocol, or one of these, in whatever case
abbrev pub is_permitted : List (List ℕ) → Option (List ℕ) → Bool
is_permitted protocols None = true
is_permitted protocols (Some name) = list_any (λ p. bytes_eq p (lower name)) protocols

-- whether these protocols permit a URL
abbrev pub permits : List (List ℕ) → List ℕ → Bool
permits protocols url = is_permitted protocols (protocol url)

-- a URL as it is printed where only these protocols are permitted: nothing with another one
abbrev pub sanitized_with : List (List ℕ) → List ℕ → List ℕ
sanitized_with protocols url = if permits protocols (sanitize url) then sanitize url else []

-- the protocols that are permitted for links
unfoldable pub href_protocols : List (List ℕ)
href_protocols = codes "http" ∷ codes "https" ∷ codes "irc" ∷ codes "ircs" ∷ codes "mailto" ∷ codes "xmpp" ∷ []

-- and for images
unfoldable pub src_protocols : List (List ℕ)
src_protocols = codes "http" ∷ codes "https" ∷ []
