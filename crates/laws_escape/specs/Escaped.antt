-- Texts in which everything that might mean something is escaped (CommonMark 2.4).
use Rattle.std.specs.Prelude.{◌≡◌, ℕ, Bool, true, false, not, if◌then◌else◌, ◌==◌, ◌&&◌, ◌||◌, nat_lt, List, [], ◌∷◌, Option}
use Rattle.std.specs.List.{flat_map, list_all}
use Rattle.std.specs.Char.{is_ascii_punctuation}
use Rattle.markdown_options.specs.declared.configuration.Constructs.{Constructs}
use Rattle.definition_text.specs.Ascii.{tab, space, backslash}
use Rattle.definition_text.specs.Columns.{is_white}
use Rattle.definition_text.specs.Content.{content_codes, is_eol}
use Rattle.definition_text.specs.Encode.{encode}
use Rattle.definition_text.specs.InlineCode.{InlineCode, codes_of}
use Rattle.definition_inline.specs.Scan.{InlineContext, inlines}
use Rattle.definition_page.specs.InlinePieces.{Meaning}
use Rattle.html_bytes.specs.InlineHtml.{inline_html}
use Rattle.definition_inline.specs.Strings.{begins_with_eol, string_text}
use Rattle.definition_block.specs.ContainerLine.{begins_with_white}

-- a byte, with a backslash before ASCII punctuation
abbrev pub escaped_byte : ℕ → List ℕ
escaped_byte b = if is_ascii_punctuation b then backslash ∷ b ∷ [] else b ∷ []

-- a text with a backslash before each ASCII punctuation byte
abbrev pub with_backslashes : List ℕ → List ℕ
with_backslashes text = flat_map escaped_byte text

-- a byte that is no tab and ends no line
abbrev pub is_line_byte : ℕ → Bool
is_line_byte b = nat_lt b 256 && not ((b == tab) || is_eol b)

-- a space comes first
abbrev pub begins_with_space : List ℕ → Bool
begins_with_space [] = false
begins_with_space (b ∷ bs) = b == space

-- a space comes last
abbrev pub ends_with_space : List ℕ → Bool
ends_with_space [] = false
ends_with_space (b ∷ []) = b == space
ends_with_space (b ∷ next ∷ bs) = ends_with_space (next ∷ bs)

-- the bytes of a line without tabs and without a space at either end
abbrev pub IsTrimmedLine : List ℕ → Type 0
IsTrimmedLine text = (list_all is_line_byte text ≡ true) × (begins_with_space text ≡ false) × (ends_with_space text ≡ false)

-- a line without tabs and without a space at either end, escaped, prints itself as text, whatever stands beside it and whatever is on besides escapes
abbrev pub EscapeLaw : Type 0
EscapeLaw =
    (context : InlineContext) (meaning : Meaning) (content : List InlineCode) (text : List ℕ)
    → context.options.constructs.character_escape ≡ true → IsTrimmedLine text → codes_of content ≡ with_backslashes text
    → inline_html meaning (inlines context content) ≡ encode text

-- a byte
abbrev pub is_octet : ℕ → Bool
is_octet b = nat_lt b 256

-- no space or tab stands beside a line ending
abbrev pub has_bare_endings : List ℕ → Bool
has_bare_endings [] = true
has_bare_endings (b ∷ bs) = not (is_white b && begins_with_eol bs) && (not (is_eol b && begins_with_white bs) && has_bare_endings bs)

-- a text in which no space or tab stands beside a line ending, escaped, gives itself back as a string, whatever is on besides escapes
abbrev pub StringEscapeLaw : Type 0
StringEscapeLaw =
    (on : Constructs) (names : List ℕ → Option (List ℕ)) (text : List ℕ) → on.character_escape ≡ true → list_all is_octet text ≡ true
    → has_bare_endings text ≡ true → string_text on names (content_codes (with_backslashes text)) ≡ text
