-- Character references (CommonMark 2.5).
use Rattle.std.specs.Prelude.{ℕ, ◌+◌, ◌-◌, if◌then◌else◌, ◌==◌, ◌||◌, List, [], ◌∷◌, drop, length, min, slice_index, take}
use Rattle.definition_text.specs.Ascii.{capital_x, number_sign, small_x}
use Rattle.definition_text.specs.Columns.{Code}
use Rattle.engine_events.specs.declared.event.Name.TheVariants as n
use Rattle.event_definition.specs.Pieces.{Pieces, around, join_all, token}
use Rattle.event_definition.specs.Sized.{Sized, sized}

-- how many codes mark a number after `&`: `#x`, `#X`, `#` or none
abbrev pub mark_size : List Code → ℕ
mark_size [] = 0
mark_size (c ∷ cs) = if c == number_sign then (if (slice_index cs 0 == small_x) || (slice_index cs 0 == capital_x) then 2 else 1) else 0

-- the reference of this size at the front of a content
abbrev pub reference_pieces : ℕ → List Code → Sized
reference_pieces size content =
    let marks = mark_size (drop 1 content) in
    sized
    (around n.CharacterReference (join_all (
    token n.CharacterReferenceMarker (take 1 content) ∷ token n.CharacterReferenceMarkerNumeric (take (min 1 marks) (drop 1 content))
    ∷ token n.CharacterReferenceMarkerHexadecimal (take (marks - 1) (drop 2 content))
    ∷ token n.CharacterReferenceValue (take (size - marks - 2) (drop (1 + marks) content))
    ∷ token n.CharacterReferenceMarkerSemi (take 1 (drop (size - 1) content)) ∷ []
    )))
    size
