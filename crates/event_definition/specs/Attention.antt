-- Emphasis, strong emphasis, strikethrough and marked text (CommonMark 6.2 and GFM 6.5).
use Rattle.std.specs.Prelude.{ℕ, ◌+◌, List, [], ◌∷◌, drop, take}
use Rattle.definition_text.specs.Ascii.{tilde}
use Rattle.definition_text.specs.Columns.{Code}
use Rattle.definition_text.specs.Runs.{run}
use Rattle.definition_inline.specs.Inline.{SpanKind, Emphasis, Strong, Strikethrough, Mark}
use Rattle.engine_events.specs.declared.event.Name.{Name}
use Rattle.engine_events.specs.declared.event.Name.TheVariants as n
use Rattle.event_definition.specs.Pieces.{around, join_all, token}
use Rattle.event_definition.specs.Sized.{Sized, sized}

-- the names of the whole, of both runs, and of the text between
pub record SpanNames : Type 0 where
  pub outer : Name
  pub sequence : Name
  pub text : Name

abbrev pub span_names : SpanKind → SpanNames
span_names Emphasis = record { outer = n.Emphasis; sequence = n.EmphasisSequence; text = n.EmphasisText }
span_names Strong = record { outer = n.Strong; sequence = n.StrongSequence; text = n.StrongText }
span_names Strikethrough = record { outer = n.GfmStrikethrough; sequence = n.GfmStrikethroughSequence; text = n.GfmStrikethroughText }
span_names Mark = record { outer = n.Mark; sequence = n.MarkSequence; text = n.MarkText }

-- how many bytes each run has; of strikethrough one or two
abbrev pub sequence_size : SpanKind → List Code → ℕ
sequence_size Emphasis content = 1
sequence_size Strong content = 2
sequence_size Strikethrough content = run tilde content
sequence_size Mark content = 2

-- a span around what it holds
abbrev pub span_pieces : SpanKind → List Code → Sized → Sized
span_pieces kind content kids =
    let names = span_names kind in
    let size = sequence_size kind content in
    sized
    (around names.outer (join_all (
    token names.sequence (take size content) ∷ around names.text kids.pieces ∷ token names.sequence (take size (drop (size + kids.size) content)) ∷ []
    )))
    (size + kids.size + size)
