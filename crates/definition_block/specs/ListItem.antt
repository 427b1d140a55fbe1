-- List items (CommonMark 5.2).
use Rattle.std.specs.Prelude.{ℕ, ◌+◌, ◌-◌, ◌*◌, Bool, true, not, if◌then◌else◌, ◌==◌, ◌&&◌, ◌||◌, leb, List, [], ◌∷◌, Option, None, Some, take, drop}
use Rattle.std.specs.Char.{is_ascii_digit}
use Rattle.std.specs.List.{prefix_len, fold}
use Rattle.markdown_options.specs.declared.configuration.Constructs.{Constructs}
use Rattle.definition_text.specs.Ascii.{right_parenthesis, asterisk, plus, hyphen, dot}
use Rattle.markdown_options.specs.declared.beside.Kind.TheVariants.{Whitespace}
use Rattle.definition_block.specs.Container.{Item as ItemContainer}
use Rattle.definition_text.specs.Columns.{Code, Rest, bare, indent, is_blank}
use Rattle.definition_text.specs.Indents.{small_indent}
use Rattle.definition_block.specs.ThematicBreak.{is_break}
use Rattle.definition_block.specs.ContainerLine.{ContainerLine, container_line}
use Rattle.definition_block.specs.ContainerStart.{ContainerStart, container_start}

-- a marker: its last byte, its number, its bytes, and the rest after it
pub record Marker : Type 0 where
  pub byte : ℕ
  pub number : Option ℕ
  pub size : ℕ
  pub rest : Rest

abbrev pub marker_of : ℕ → Option ℕ → ℕ → Rest → Marker
marker_of byte number size rest = record { byte = byte; number = number; size = size; rest = rest }

abbrev pub is_digit : Code → Bool
is_digit code = is_ascii_digit code

-- the number that digits stand for
abbrev pub number_of : List Code → ℕ
number_of digits = fold (λ number digit. number * 10 + (digit - 48)) 0 digits

-- the marker of a bullet: `-`, `+` or `*`
abbrev pub bullet : Rest → Option Marker
bullet [] = None
bullet (code ∷ codes) = if (code == hyphen) || (code == plus) || (code == asterisk) then Some (marker_of code None 1 codes) else None

-- the `.` or `)` after the digits of an ordered marker
abbrev pub after_number : ℕ → ℕ → Rest → Option Marker
after_number number digits [] = None
after_number number digits (code ∷ codes) =
    if (code == dot) || (code == right_parenthesis) then Some (marker_of code (Some number) (digits + 1) codes) else None

-- 1 to 9 digits and a delimiter
abbrev pub ordered_marker : ℕ → Rest → Option Marker
ordered_marker digits rest = if leb digits 9 then after_number (number_of (take digits rest)) digits (drop digits rest) else None

-- the marker that a rest begins with
abbrev pub marker : Rest → Option Marker
marker rest = let digits = prefix_len is_digit rest in if digits == 0 then bullet rest else ordered_marker digits rest

-- the columns between a marker and the content: 1 to 4, and 1 where there are more, or nothing else
abbrev pub gap : Rest → ℕ
gap after = if is_blank after || leb 5 (indent after) then 1 else indent after

-- no number, or the number 1
abbrev pub is_first : Option ℕ → Bool
is_first None = true
is_first (Some number) = number == 1

-- white space follows a marker; an item that interrupts a paragraph isn't empty and has no number but 1
abbrev pub is_item : Bool → Marker → Bool
is_item interrupts m =
    if is_blank m.rest then not interrupts
    else leb 1 (indent m.rest) && (not interrupts || is_first m.number)

-- the item of a marker after so many columns; of an empty rest no column can be taken
abbrev pub item : ℕ → Marker → ContainerStart
item columns m =
    container_start (ItemContainer (record { marker = m.byte; number = m.number; size = columns + m.size + gap m.rest })) (drop (gap m.rest) m.rest) Whitespace

abbrev pub item_after : ℕ → Bool → Option Marker → Option ContainerStart
item_after columns interrupts None = None
item_after columns interrupts (Some m) = if is_item interrupts m then Some (item columns m) else None

-- the item that starts here, where the line is no break; `interrupts` where it would interrupt a paragraph (CommonMark 5.2)
abbrev pub item_start : Constructs → Bool → Rest → Option ContainerStart
item_start on interrupts rest =
    if on.list_item && small_indent on rest && not (is_break on rest) then item_after (indent rest) interrupts (marker (bare rest)) else None

-- a blank rest goes on unless the item began blank on the line before, any other where it is indented as far as the content
abbrev pub is_inside : ℕ → Bool → Rest → Bool
is_inside size began_blank rest = if is_blank rest then not began_blank else leb size (indent rest)

-- what is left after an item's columns, of which a blank rest may have fewer (CommonMark 5.2)
abbrev pub item_continues : ℕ → Bool → Rest → Option ContainerLine
item_continues size began_blank rest = if is_inside size began_blank rest then Some (container_line (drop size rest) Whitespace) else None
