-- The content of a block as codes with their neighbours (CommonMark 6.2).
use Rattle.std.specs.Prelude.{Option, None, Some, ℕ, ◌+◌, ◌-◌, ◌*◌, Bool, if◌then◌else◌, ◌&&◌, nat_lt, nat_le, List, [], ◌∷◌, map, slice_index}
use Rattle.std.specs.List.{flat_map}
use Rattle.std.specs.Char.{is_whitespace}
use Rattle.markdown_options.specs.declared.beside.Kind.{Kind}
use Rattle.markdown_options.specs.declared.beside.Kind.TheVariants.{Whitespace, Punctuation, Other}
use Rattle.definition_text.specs.Columns.{Code, code_byte}
use Rattle.definition_text.specs.BlockLines.{BlockLine}
use Rattle.definition_text.specs.Content.{is_eol, line_codes}

-- a code of a content, the code before it in its line, and the kinds of the characters before and after it in the text
pub record InlineCode : Type 0 where
  pub code : Code
  pub previous : Option Code
  pub before : Kind
  pub after : Kind

abbrev pub inline_code : Code → Option Code → Kind → Kind → InlineCode
inline_code code previous before after = record { code = code; previous = previous; before = before; after = after }

-- the codes alone
abbrev pub codes_of : List InlineCode → List Code
codes_of content = map (λ (c : InlineCode). c.code) content

-- six bits of a byte after a character's first, the one at this place (UTF-8)
abbrev pub bits_at : List Code → ℕ → ℕ
bits_at bytes place = slice_index bytes place - 128

-- the number of the character that bytes begin with (UTF-8)
abbrev pub first_character : List Code → ℕ
first_character bytes =
    let first = slice_index bytes 0 in
    if nat_lt first 128 then first
    else (if nat_lt first 224 then (first - 192) * 64 + bits_at bytes 1
    else (if nat_lt first 240 then ((first - 224) * 64 + bits_at bytes 1) * 64 + bits_at bytes 2
    else (((first - 240) * 64 + bits_at bytes 1) * 64 + bits_at bytes 2) * 64 + bits_at bytes 3))

-- a byte of a character after its first (UTF-8)
abbrev pub is_continuation : Code → Bool
is_continuation code = nat_le 128 code && nat_lt code 192

-- the kind of a character, where it is known which are punctuation (CommonMark 2.1)
abbrev pub character_kind : (ℕ → Bool) → ℕ → Kind
character_kind is_punctuation character =
    if is_whitespace character then Whitespace
    else (if is_punctuation character then Punctuation else Other)

-- the kind of the character that codes begin with; at their end this one
abbrev pub first_kind : (ℕ → Bool) → Kind → List Code → Kind
first_kind is_punctuation end [] = end
first_kind is_punctuation end (c ∷ cs) =
    if is_eol c then Whitespace else character_kind is_punctuation (first_character (c ∷ cs))

-- the kind of the character before the next code: of a character of several bytes all after the first keep it
abbrev pub next_kind : (ℕ → Bool) → Kind → List Code → Kind
next_kind is_punctuation before [] = before
next_kind is_punctuation before (c ∷ cs) = if is_continuation c then before else first_kind is_punctuation before (c ∷ cs)

-- codes with their neighbours, of which those of the first and the last code are given
abbrev pub with_kinds : (ℕ → Bool) → Option Code → Kind → Kind → List Code → List InlineCode
with_kinds is_punctuation previous before after [] = []
with_kinds is_punctuation previous before after (c ∷ cs) =
    inline_code c previous before (first_kind is_punctuation after cs)
    ∷ with_kinds is_punctuation (Some c) (next_kind is_punctuation before (c ∷ cs)) after cs

-- the codes of a line with its ending, in which a remaining column of a tab is a space; the kind of the character after the content is given
abbrev pub line_content : (ℕ → Bool) → Kind → BlockLine → List InlineCode
line_content is_punctuation after line = with_kinds is_punctuation None line.before after (map code_byte (line_codes line))

-- the content of lines, before a character of this kind in the text
abbrev pub inline_content : (ℕ → Bool) → Kind → List BlockLine → List InlineCode
inline_content is_punctuation after ls = flat_map (line_content is_punctuation after) ls
