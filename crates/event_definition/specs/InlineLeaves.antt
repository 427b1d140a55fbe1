-- The parts of a content that hold no other (CommonMark 6): one line for each.
use Rattle.std.specs.Prelude.{◌+◌, ℕ, ◌==◌, List, length, take}
use Rattle.std.specs.List.{position_or_len}
use Rattle.definition_text.specs.Ascii.{semicolon}
use Rattle.definition_text.specs.Columns.{Code}
use Rattle.definition_inline.specs.Inline as i
use Rattle.engine_events.specs.declared.event.Name.TheVariants as n
use Rattle.event_definition.specs.Pieces.{token}
use Rattle.event_definition.specs.Sized.{Sized, sized}
use Rattle.event_definition.specs.LineEnding.{line_end_pieces}
use Rattle.event_definition.specs.CharacterEscape.{escape_pieces}
use Rattle.event_definition.specs.CharacterReference.{reference_pieces}
use Rattle.event_definition.specs.CodeText.{code_text_pieces, math_text_pieces}
use Rattle.event_definition.specs.HtmlText.{html_text_pieces}
use Rattle.event_definition.specs.Autolink.{autolink_pieces}
use Rattle.event_definition.specs.GfmAutolinkLiteral.{literal_pieces}
use Rattle.event_definition.specs.HardBreak.{escaped_break_pieces, trailing_break_pieces}
use Rattle.event_definition.specs.GfmTaskListItem.{check_pieces}

abbrev pub size_to_semicolon : List Code → ℕ
size_to_semicolon content = 1 + position_or_len (λ c. c == semicolon) content

-- a leaf at the front of a content
abbrev pub leaf_pieces : i.InlineLeaf → List Code → Sized
leaf_pieces (i.Data b) content = sized (token n.Data (take 1 content)) 1
leaf_pieces (i.Escape b) content = escape_pieces content
leaf_pieces (i.Character text) content = reference_pieces (size_to_semicolon content) content
leaf_pieces (i.Code text) content = code_text_pieces content
leaf_pieces (i.Math text) content = math_text_pieces content
leaf_pieces (i.Autolink email text) content = autolink_pieces email (length text) content
leaf_pieces (i.Literal kind text) content = literal_pieces kind text
leaf_pieces (i.Html text) content = html_text_pieces (take (length text) content)
leaf_pieces i.EscapedBreak content = escaped_break_pieces content
leaf_pieces i.TrailingBreak content = trailing_break_pieces content
leaf_pieces (i.LineEnd code) content = line_end_pieces content
leaf_pieces (i.TaskCheck done) content = check_pieces done content
