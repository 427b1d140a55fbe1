-- Events that are nested and in order of place.
use Rattle.std.specs.Prelude.{◌≡◌, ℕ, ◌≤◌, List, [], ◌∷◌, length, take, Some}
use Rattle.engine_events.specs.Events.{point_of}
use Rattle.engine_events.specs.declared.event.Event.{Event}
use Rattle.engine_events.specs.declared.event.Kind.{Kind}
use Rattle.engine_events.specs.declared.event.Kind.TheVariants.{Enter, Exit}
use Rattle.engine_events.specs.declared.event.Name.{Name}
use Rattle.engine_events.specs.declared.place.Point.{Point}
use Rattle.markdown_engine.specs.declared.attempt.Attempt.{Attempt}
use Rattle.markdown_engine.specs.Reading.{Config}

-- a name is the first of others
abbrev pub IsFirst : Name → List Name → Type 0
IsFirst name names = (rest : List Name) × (names ≡ name ∷ rest)

abbrev pub outer : List Name → List Name
outer [] = []
outer (n ∷ ns) = ns

-- the names that are open after an event, the innermost first, given those open before
abbrev pub opened_by : Kind → Name → List Name → List Name
opened_by Enter name names = name ∷ names
opened_by Exit name names = outer names

abbrev pub open_after : List Name → List Event → List Name
open_after names [] = names
open_after names (e ∷ es) = open_after (opened_by e.kind e.name names) es

abbrev pub MayStand : Kind → Name → List Name → Type 0
MayStand Enter name names = Unit {0}
MayStand Exit name names = IsFirst name names

-- each exit has the name of the innermost open event
abbrev pub IsNested : List Name → List Event → Type 0
IsNested names [] = Unit {0}
IsNested names (e ∷ es) = MayStand e.kind e.name names × IsNested (opened_by e.kind e.name names) es

-- the innermost open event has this name
abbrev pub IsInnermost : Name → List Event → Type 0
IsInnermost name events = IsFirst name (open_after [] events)

-- nested, and nothing is open at the end
abbrev pub IsBalanced : List Event → Type 0
IsBalanced events = IsNested [] events × (open_after [] events ≡ [])

-- the second is the first place, or one after it
pub record Reaches (p q : Point) : Type 0 where
  pub index : p.index ≤ q.index
  pub column : p.index ≡ q.index → p.vs ≤ q.vs

-- from one place over the places of events to another, never back
abbrev pub InOrder : Point → List Event → Point → Type 0
InOrder from [] to = Reaches from to
InOrder from (e ∷ es) to = Reaches from (point_of e) × InOrder (point_of e) es to

-- where each text starts
abbrev pub text_start : Point
text_start = record { line = 1; column = 1; index = 0; vs = 0 }

-- events that are nested, in order, and none after a place
pub record AreTidy (events : List Event) (to : Point) : Type 0 where
  pub nested : IsNested [] events
  pub order : InOrder text_start events to

abbrev pub IsTidy : {M : Type 0} → Config M → Type 0
IsTidy c = AreTidy c.events c.point

-- all events of a text, that was read up to a place
abbrev pub AreWhole : List Event → Point → Type 0
AreWhole events to = IsBalanced events × InOrder text_start events to

-- no event stands before the one before it
abbrev pub AreInOrder : List Event → Type 0
AreInOrder events = (to : Point) × InOrder text_start events to

-- a byte that is at hand leads on
abbrev pub LeadsOn : {M : Type 0} → Config M → Type 0
LeadsOn c = (b : ℕ) → c.current ≡ Some b → Reaches c.point c.next

-- a stack of attempts, the innermost first: each began with a front of the events of the one in it, which were tidy, and the names that were open fit the stack
-- up to it
abbrev pub AreMarks : (List Name → List Attempt → Type 0) → List Event → List Attempt → Type 0
AreMarks fits events [] = Unit {0}
AreMarks fits events (a ∷ more) =
    let front = take a.events events in
    (a.events ≤ length events) × AreTidy front a.point × fits (open_after [] front) (a ∷ more) × AreMarks fits front more
