-- The labels of definitions, in the form in which they match (CommonMark 6.3).
use Rattle.std.specs.Prelude.{ℕ, ◌-◌, Bool, nat_le, ◌&&◌, ◌||◌, if◌then◌else◌, List, [], ◌∷◌, ◌++◌, length, take, drop}
use denote.Enum.Bare.{sameb}
use Rattle.engine_events.specs.contracts.event.Kind.{the_type}
use Rattle.engine_events.specs.declared.event.Event.{Event}
use Rattle.engine_events.specs.declared.event.Kind.TheVariants.{Enter, Exit}
use Rattle.engine_events.specs.declared.event.Name.{Name}
use Rattle.engine_events.specs.declared.event.Name.TheVariants as names
use Rattle.engine_events.specs.Events.{point_of}
use Rattle.engine_events.specs.Names.{same_name}
use Rattle.definition_text.specs.Content.{content_codes}
use Rattle.definition_inline.specs.LabelMatch.{normal_label}
use Rattle.state_parser.specs.Events.{is_bound}

-- an event that has bytes of a label: what containers put before its lines isn't its
abbrev pub is_part : Event → Bool
is_part e = sameb the_type e.kind Enter && (same_name e.name names.Data || (same_name e.name names.LineEnding || same_name e.name names.SpaceOrTab))

-- the bytes between two places, if they are in the text
abbrev pub between : List ℕ → ℕ → ℕ → List ℕ
between bytes from to = if nat_le from to && nat_le to (length bytes) then take (to - from) (drop from bytes) else []

-- the bytes of an event up to the next, if they are of a label
abbrev pub part_bytes : List ℕ → Event → List Event → List ℕ
part_bytes bytes e [] = []
part_bytes bytes e (f ∷ fs) = if is_part e then between bytes (point_of e).index (point_of f).index else []

-- the bytes of a label, whose events follow its start, up to its end
abbrev pub label_bytes : List ℕ → Name → List Event → List ℕ
label_bytes bytes name [] = []
label_bytes bytes name (e ∷ es) = if is_bound Exit name e then [] else part_bytes bytes e es ++ label_bytes bytes name es

-- a label in the form in which it matches
abbrev pub label_of : List ℕ → Name → List Event → List ℕ
label_of bytes name events = normal_label (content_codes (label_bytes bytes name events))

-- the labels that events of a name hold, in their order
abbrev pub defined_labels : List ℕ → Name → List Event → List (List ℕ)
defined_labels bytes name [] = []
defined_labels bytes name (e ∷ es) = if is_bound Enter name e then label_of bytes name es ∷ defined_labels bytes name es else defined_labels bytes name es
