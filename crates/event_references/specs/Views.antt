-- What the code holds of events, by their indices.
use Rattle.std.specs.Prelude.{ℕ, List, [], ◌∷◌, drop, map, Option, None, Some}
use Rattle.std.specs.Option.{option_map}
use Rattle.engine_events.specs.declared.event.Event.{Event}
use Rattle.engine_events.specs.declared.event.Name.{Name}
use Rattle.definition_text.specs.Content.{content_codes}
use Rattle.inline_labels.specs.Table.{HasLabels}
use Rattle.inline_labels.specs.declared.table.LabelTable.{LabelTable}
use Rattle.event_references.specs.Texts.{text_of, texts_of}
use Rattle.event_references.specs.Lost as lost
use Rattle.event_references.specs.declared.label.Walk.{Walk}
use Rattle.event_references.specs.declared.lost.Media.{Media}

-- what the events after come to, if there are any to come
abbrev pub walked : Option Walk → (ℕ → ℕ → List ℕ) → List ℕ
walked None others = []
walked (Some w) others = others w.quoted w.depth

-- the text of the first of these events
abbrev pub text_first : List ℕ → List Event → List ℕ
text_first bytes [] = []
text_first bytes (e ∷ es) = text_of bytes e es

abbrev pub text_at : List ℕ → List Event → ℕ → List ℕ
text_at bytes events index = text_first bytes (drop index events)

abbrev pub media_view : List ℕ → List Event → Media → lost.Media
media_view bytes events m = lost.media m.resource (option_map (text_at bytes events) m.reference) (option_map (text_at bytes events) m.text)

-- a table of the texts of all events of a name, if it was made
abbrev pub AreLabels : {A : Type 0} → List ℕ → List Event → Name → Option (LabelTable A) → Type 0
AreLabels bytes events name None = Unit {0}
AreLabels bytes events name (Some table) = HasLabels table (map content_codes (texts_of bytes name events))
