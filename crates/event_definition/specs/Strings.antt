-- Strings: destinations, titles, infos and labels, which hold escapes and character references alone (CommonMark 2.4 and 2.5).
use Rattle.std.specs.Prelude.{ℕ, suc, zero, ◌-◌, if◌then◌else◌, ◌&&◌, nat_le, List, [], ◌∷◌, Option, None, Some, take}
use Rattle.markdown_options.specs.declared.configuration.Constructs.{Constructs}
use Rattle.definition_text.specs.Columns.{Code, bare, indent}
use Rattle.definition_inline.specs.CharacterEscape.{escape_at}
use Rattle.definition_inline.specs.CharacterReference.{Names, reference_at}
use Rattle.definition_inline.specs.Inline.{Found}
use Rattle.definition_inline.specs.Strings.{begins_with_eol}
use Rattle.engine_events.specs.declared.event.Name.{Name}
use Rattle.engine_events.specs.declared.event.Name.TheVariants as n
use Rattle.event_definition.specs.Pieces.{Pieces, Nil, around, join, token}
use Rattle.event_definition.specs.Written.{white_ahead}
use Rattle.event_definition.specs.Sized.{Sized, sized}
use Rattle.event_definition.specs.LineEnding.{eol_pieces}
use Rattle.event_definition.specs.CharacterEscape.{escape_pieces}
use Rattle.event_definition.specs.CharacterReference.{reference_pieces}

-- a line ending, white space before one, or a byte of data
abbrev pub plain_pieces : List Code → Sized
plain_pieces content =
    if begins_with_eol content then eol_pieces content
    else (if nat_le 1 (indent content) && begins_with_eol (bare content) then sized (white_ahead content) (indent content)
    else sized (token n.Data (take 1 content)) 1)

abbrev pub reference_or_plain : List Code → Option Found → Sized
reference_or_plain content None = plain_pieces content
reference_or_plain content (Some found) = reference_pieces found.size content

abbrev pub escape_or : List Code → Option Found → Sized → Sized
escape_or content None other = other
escape_or content (Some found) other = escape_pieces content

-- what a string begins with
abbrev pub string_part : Constructs → Names → List Code → Sized
string_part on names content = escape_or content (escape_at on content) (reference_or_plain content (reference_at on names content))

-- the pieces of a string after as many codes as the part before takes
abbrev pub string_from : Constructs → Names → ℕ → List Code → Pieces
string_from on names k [] = Nil
string_from on names zero (c ∷ cs) = let s = string_part on names (c ∷ cs) in join s.pieces (string_from on names (s.size - 1) cs)
string_from on names (suc k) (c ∷ cs) = string_from on names k cs

-- the pieces of a string
abbrev pub string_pieces : Constructs → Names → List Code → Pieces
string_pieces on names text = string_from on names 0 text

-- a string inside a name; nothing if it is empty
abbrev pub named_string : Constructs → Names → Name → List Code → Pieces
named_string on names name [] = Nil
named_string on names name (c ∷ cs) = around name (string_pieces on names (c ∷ cs))
