-- Spaces and line endings, which stand between the children of a row, and are none of them.
use Rattle.std.specs.Prelude.{◌≡◌, Bool, true, not, ◌&&◌, List, [], ◌∷◌}
use Rattle.engine_events.specs.declared.event.Name.{Name}
use Rattle.engine_events.specs.declared.event.Name.TheVariants as n
use Rattle.event_grammar.specs.declared.slot.Child.{Child}
use Rattle.event_grammar.specs.declared.slot.Slot.{Slot}
use Rattle.event_grammar.specs.Slots.{has}
use Rattle.event_grammar.specs.SlotViews.{child_of}
use Rattle.event_faults.specs.Checks.{Open, Check}

-- whether no child of a row is one
abbrev pub space_or_ending : List Name
space_or_ending = n.SpaceOrTab ∷ n.LineEnding ∷ n.BlankLineEnding ∷ []

abbrev pub takes_none : Child → Bool
takes_none child = not (has child n.SpaceOrTab) && (not (has child n.LineEnding) && not (has child n.BlankLineEnding))

abbrev pub take_none : List Slot → Bool
take_none [] = true
take_none (slot ∷ slots) = takes_none (child_of slot) && take_none slots

-- ... of what is open
abbrev pub AllTakeNone : List Open → Type 0
AllTakeNone [] = Unit {0}
AllTakeNone (o ∷ os) = (take_none o.rest ≡ true) × AllTakeNone os

pub record TakesNone (c : Check) : Type 0 where
  pub inner : take_none c.inner.rest ≡ true
  pub outer : AllTakeNone c.outer
