-- The events that decide which labels of a list need a definition: links, images and calls, the parts that tell their labels, and the labels of
-- definitions.
use Rattle.std.specs.Prelude.{ℕ, ◌+◌, Bool, ◌||◌, if◌then◌else◌, List, [], ◌∷◌, ◌++◌}
use Rattle.engine_events.specs.Names.{same_name, is_listed}
use Rattle.engine_events.specs.declared.event.Event.{Event}
use Rattle.engine_events.specs.declared.event.Name.{Name}
use Rattle.engine_events.specs.declared.event.Name.TheVariants as n
use Rattle.event_grammar.specs.References.{media_names}

-- whether an event of this name decides which label the event around it has
abbrev pub tells_label : Name → Bool
tells_label name = same_name name n.Resource || (same_name name n.ReferenceString || same_name name n.LabelText)

-- whether an event of this name is the label of a definition
abbrev pub defines_label : Name → Bool
defines_label name = same_name name n.DefinitionLabelString || same_name name n.GfmFootnoteDefinitionLabelString

abbrev pub is_marked : Name → Bool
is_marked name = is_listed media_names name || (tells_label name || defines_label name)

-- the index of an event of this name, if it is one
abbrev pub mark_of : Name → ℕ → List ℕ
mark_of name at = if is_marked name then at ∷ [] else []

-- the indices of all; so many events are before
abbrev pub marked_from : ℕ → List Event → List ℕ
marked_from at [] = []
marked_from at (e ∷ es) = mark_of e.name at ++ marked_from (at + 1) es
