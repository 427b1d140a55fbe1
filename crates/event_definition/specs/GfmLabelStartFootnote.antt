-- Calls of footnotes (GFM, footnotes).
use Rattle.std.specs.Prelude.{ℕ, ◌+◌, List, [], ◌∷◌, drop, take}
use Rattle.markdown_options.specs.declared.configuration.Constructs.{Constructs}
use Rattle.definition_text.specs.Columns.{Code}
use Rattle.definition_inline.specs.CharacterReference.{Names}
use Rattle.engine_events.specs.declared.event.Name.TheVariants as n
use Rattle.event_definition.specs.Pieces.{around, join, join_all, token}
use Rattle.event_definition.specs.Sized.{Sized, sized}
use Rattle.event_definition.specs.Strings.{string_pieces}
use Rattle.event_definition.specs.LabelEnd.{label_end}

-- `[^`, a label of this size, and `]`
abbrev pub call_pieces : Constructs → Names → ℕ → List Code → Sized
call_pieces on names size content =
    sized
    (around n.GfmFootnoteCall (around n.Label (join_all (
    around n.GfmFootnoteCallLabel (join (token n.LabelMarker (take 1 content)) (token n.GfmFootnoteCallMarker (take 1 (drop 1 content))))
    ∷ around n.LabelText (string_pieces on names (take size (drop 2 content))) ∷ label_end (drop (size + 2) content) ∷ []
    ))))
    (size + 3)
