-- The text of a label, from the events over it, and whether it is defined.
use Rattle.std.specs.Prelude.{ℕ, zero, suc, ◌+◌, ◌-◌, ◌^◌, min, Bool, false, not, ◌&&◌, if◌then◌else◌, nat_le, nat_lt, List, [], ◌++◌, length}
use Rattle.std.specs.Prelude.{slice_get, Option, None, Some}
use Rattle.std.specs.List.{list_any}
use Rattle.std.specs.Str.{bytes_eq}
use denote.Enum.Bare.{sameb}
use Rattle.engine_events.specs.Columns.{between}
use Rattle.engine_events.specs.contracts.event.Kind.{the_type as the_kinds}
use Rattle.engine_events.specs.contracts.event.Name.{the_type as the_names}
use Rattle.engine_states.specs.contracts.label.LabelKind.{the_type as the_label_kinds}
use Rattle.engine_events.specs.declared.event.Event.{Event}
use Rattle.engine_events.specs.declared.event.Kind.TheVariants as event_kinds
use Rattle.engine_events.specs.declared.event.Name.TheVariants as names
use Rattle.engine_states.specs.declared.label.LabelKind.{LabelKind}
use Rattle.engine_states.specs.declared.label.LabelKind.TheVariants as kinds
use Rattle.engine_states.specs.declared.label.LabelStart.{LabelStart}
use Rattle.definition_text.specs.Content.{content_codes}
use Rattle.definition_inline.specs.LabelMatch.{normal_label}
use Rattle.definition_inline.specs.Label.{is_label}

-- the event is the end of a line ending
abbrev pub ends_line : Event → Bool
ends_line e = sameb the_kinds e.kind event_kinds.Exit && sameb the_names e.name names.LineEnding

-- the bytes from an event to the next; what a line begins with and isn't read is left out
abbrev pub part_between : List ℕ → Option Event → Option Event → List ℕ
part_between bytes None f = []
part_between bytes (Some e) None = []
part_between bytes (Some e) (Some f) = if not (ends_line e) && (nat_le e.index f.index && nat_le f.index (length bytes)) then between e.index f.index bytes
    else []

abbrev pub label_part : List ℕ → List Event → ℕ → List ℕ
label_part bytes es i = part_between bytes (slice_get es i) (slice_get es (i + 1))

-- the bytes of a text over which events stand, from one to another
unfoldable pub label_text : List ℕ → List Event → ℕ → ℕ → List ℕ
label_text bytes es from zero = []
label_text bytes es from (suc i) = if nat_lt i from then [] else label_text bytes es from i ++ label_part bytes es i

-- a text is a label, and one of these (CommonMark 6.3)
unfoldable pub is_among : List (List ℕ) → List ℕ → Bool
is_among labels text = is_label (content_codes text) && list_any (bytes_eq (normal_label (content_codes text))) labels

-- so many more, up to the most that a number of the program holds
abbrev pub plus : ℕ → ℕ → ℕ
plus more n = min (n + more) (2 ^ 64 - 1)

-- the event from which on the text of a label goes: a footnote's start that is no call belongs to it, but for the bracket
abbrev pub text_start : LabelStart → ℕ
text_start s = if sameb the_label_kinds s.kind kinds.GfmUndefinedFootnote then plus 3 s.start.0 else s.start.1

abbrev pub last_start : List LabelStart → Option LabelStart
last_start starts = slice_get starts (length starts - 1)

abbrev pub has_kind : LabelKind → Option LabelStart → Bool
has_kind kind None = false
has_kind kind (Some s) = sameb the_label_kinds s.kind kind

-- the text after a label start is defined
unfoldable pub is_defined : List ℕ → List (List ℕ) → List Event → ℕ → Option LabelStart → Bool
is_defined bytes labels es end None = false
is_defined bytes labels es end (Some s) = is_among labels (label_text bytes es (text_start s) end)
