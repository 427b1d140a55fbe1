-- The rows of events that hold no text with rows of its own, by the events from their enter on.
use Rattle.std.specs.Prelude.{ℕ, ◌+◌, ◌-◌, Bool, true, false, ◌==◌, ◌||◌, if◌then◌else◌, List, [], ◌∷◌, ◌++◌, map, drop, Option, None, Some, unwrap_or}
use Rattle.engine_events.specs.Names.{same_name}
use Rattle.engine_events.specs.declared.event.Event.{Event}
use Rattle.engine_events.specs.declared.event.Kind.{Kind}
use Rattle.engine_events.specs.declared.event.Kind.TheVariants.{Enter, Exit}
use Rattle.engine_events.specs.declared.event.Name.{Name}
use Rattle.engine_events.specs.declared.event.Name.TheVariants as n
use Rattle.definition_text.specs.Content.{line_ending_code}
use Rattle.definition_inline.specs.CharacterReference.{Names, number_of, numbered_text}
use Rattle.definition_inline.specs.Inline.{LiteralKind, Www, Protocol, Email, InlineLeaf, Escape, Character, Autolink, Literal, EscapedBreak}
use Rattle.definition_inline.specs.Inline.{TrailingBreak, LineEnd}
use Rattle.event_meaning.specs.Raw.{ending_of}
use Rattle.event_meaning.specs.Texts.{html_data}
use Rattle.compile_written.specs.Child.{from_child, text_first}
use Rattle.compile_written.specs.Strings.{valid, is_some_event}
use Rattle.inline_rows.specs.InlineRows.{InlineRow, Part}
use Rattle.compile_rows.specs.declared.leaf.LeafKind.{LeafKind}
use Rattle.compile_rows.specs.declared.leaf.LeafKind.TheVariants as kinds
use Rattle.inline_rows.specs.View.{data_rows}

-- how an event of this name has rows
abbrev pub leaf_of : Name → LeafKind
leaf_of name =
    if same_name name n.Data then kinds.Data
    else (if same_name name n.LineEnding then kinds.Ending
    else (if same_name name n.CharacterEscape then kinds.Escape
    else (if same_name name n.CharacterReference then kinds.Reference
    else (if same_name name n.Autolink then kinds.Autolink
    else (if same_name name n.HtmlText then kinds.Html
    else (if same_name name n.HardBreakEscape then kinds.EscapedBreak
    else (if same_name name n.HardBreakTrailing then kinds.TrailingBreak
    else kinds.Other)))))))

-- the row of a line ending
abbrev pub ending_rows : List ℕ → List InlineRow
ending_rows piece = Part (LineEnd (line_ending_code (ending_of piece))) ∷ []

abbrev pub literal_kind : Name → Option LiteralKind
literal_kind name =
    if same_name name n.GfmAutolinkLiteralWww then Some Www
    else (if same_name name n.GfmAutolinkLiteralEmail then Some Email
    else (if same_name name n.GfmAutolinkLiteralMailto || (same_name name n.GfmAutolinkLiteralProtocol || same_name name n.GfmAutolinkLiteralXmpp)
    then Some Protocol
    else None))

-- a literal; in a link it is its text alone
abbrev pub literal_rows : Bool → Option LiteralKind → List ℕ → List InlineRow
literal_rows linked None text = []
literal_rows linked (Some kind) text = if linked then data_rows text else Part (Literal kind text) ∷ []

-- a part of raw HTML
abbrev pub html_part_rows : Name → List ℕ → List InlineRow
html_part_rows name piece =
    if same_name name n.HtmlTextData then map Part (html_data (valid piece))
    else (if same_name name n.LineEnding then ending_rows piece
    else [])

abbrev pub html_next : Kind → ℕ → List InlineRow → (ℕ → List InlineRow) → List InlineRow
html_next Enter depth here others = (if depth == 0 then here else []) ++ others (depth + 1)
html_next Exit depth here others = if depth == 0 then [] else others (depth - 1)

-- whether there is a child of a name, by the events after the parent's enter
abbrev pub has : Name → List Event → Bool
has name events = is_some_event (from_child name 0 events)

module _ (bytes : List ℕ) where
  -- the bytes of the first child of a name, by the events after the parent's enter
  abbrev pub value_of : Name → List Event → List ℕ
  value_of name events = valid (text_first bytes (from_child name 0 events))

  -- an autolink, by the events after its enter
  abbrev pub autolink_by : List Event → InlineLeaf
  autolink_by events =
      if has n.AutolinkEmail events then Autolink true (value_of n.AutolinkEmail events)
      else Autolink false (value_of n.AutolinkProtocol events)

  -- raw HTML, by the events after its enter
  abbrev pub html_after : ℕ → List Event → List InlineRow
  html_after depth [] = []
  html_after depth (e ∷ es) =
      html_next e.kind depth (html_part_rows e.name (text_first bytes (e ∷ es))) (λ d. html_after d es)

module _ (names : Names) (bytes : List ℕ) where
  -- the text of a character reference, by the events after its enter
  abbrev pub reference_by : List Event → List ℕ
  reference_by events =
      let value = value_of bytes n.CharacterReferenceValue events in
      if has n.CharacterReferenceMarkerHexadecimal events then numbered_text (number_of 16 value)
      else (if has n.CharacterReferenceMarkerNumeric events then numbered_text (number_of 10 value)
      else unwrap_or (names value) [])

  abbrev pub leaf_kind_rows : LeafKind → Bool → Name → List Event → List InlineRow
  leaf_kind_rows kinds.Data linked name events = data_rows (valid (text_first bytes events))
  leaf_kind_rows kinds.Ending linked name events = ending_rows (text_first bytes events)
  leaf_kind_rows kinds.Escape linked name events = map Part (map Escape (value_of bytes n.CharacterEscapeValue (drop 1 events)))
  leaf_kind_rows kinds.Reference linked name events = Part (Character (reference_by (drop 1 events))) ∷ []
  leaf_kind_rows kinds.Autolink linked name events = Part (autolink_by bytes (drop 1 events)) ∷ []
  leaf_kind_rows kinds.Html linked name events = html_after bytes 0 (drop 1 events)
  leaf_kind_rows kinds.EscapedBreak linked name events = Part EscapedBreak ∷ []
  leaf_kind_rows kinds.TrailingBreak linked name events = Part TrailingBreak ∷ []
  leaf_kind_rows kinds.Other linked name events = literal_rows linked (literal_kind name) (valid (text_first bytes events))

  abbrev pub leaf_rows : Bool → Name → List Event → List InlineRow
  leaf_rows linked name events = leaf_kind_rows (leaf_of name) linked name events
