-- What is open, as the code has it.
use Rattle.std.specs.Prelude.{◌≡◌, ◌≤◌, ℕ, Bool, true, false, List, [], ◌∷◌, map, reverse, ◌||◌, if◌then◌else◌, Option, None, Some, Result, Ok, Err}
use Rattle.event_faults.specs.declared.fault.FaultKind.{FaultKind}
use Rattle.event_grammar.specs.declared.spot.Spot.{Spot}
use Rattle.event_faults.specs.declared.place.Known.{Known}
use Rattle.event_grammar.specs.Phases.{phase_at}
use Rattle.event_grammar.specs.Points.{spot, is_spot}
use Rattle.engine_events.specs.Names.{is_listed}
use Rattle.engine_events.specs.declared.event.Event.{Event}
use Rattle.engine_events.specs.declared.event.Name.{Name}
use Rattle.event_grammar.specs.declared.slot.Form.{Form}
use Rattle.event_grammar.specs.declared.slot.Between.TheVariants.{Nothing}
use Rattle.event_grammar.specs.Grammar.{link_names}
use Rattle.event_faults.specs.Checks.{Open, Check, check_at, opened, limit_of, step}
use Rattle.event_faults.specs.declared.check.Open as open_code
use Rattle.event_faults.specs.declared.check.Leaf as leaf_code
use Rattle.event_faults.specs.declared.check.Check as check_code

abbrev pub open_view : open_code.Open → Open
open_view o =
    record {
      name = o.name;
      form = o.form;
      sibling = o.sibling;
      start = spot o.start o.start_vs;
      rest = o.rest.now;
      around = o.around;
      linked = o.linked;
      last = o.last;
      cells = o.cells;
      above = o.above;
      limit = if o.limited then Some o.limit else None;
    }

-- an event without a row, in what holds it
abbrev pub leaf_view : leaf_code.Leaf → Open → Open
leaf_view l o =
    record {
      name = Some l.name;
      form = l.form;
      sibling = l.sibling;
      start = l.start;
      rest = [];
      around = Nothing;
      linked = o.linked || is_listed link_names l.name;
      last = None;
      cells = 0;
      above = 0;
      limit = limit_of o l.name;
    }

abbrev pub innermost : Option leaf_code.Leaf → Open → Open
innermost None o = o
innermost (Some l) o = leaf_view l o

abbrev pub around_it : Option leaf_code.Leaf → Open → List Open → List Open
around_it None o os = os
around_it (Some l) o os = o ∷ os

abbrev pub check_view : {A : Type 0} → check_code.Check A → Check
check_view c =
    check_at (innermost c.leaf (open_view c.inner)) (around_it c.leaf (open_view c.inner) (map open_view (reverse c.outer.items))) c.spot

-- an event of this name begins here, as this form, after a sibling
abbrev pub opened_after : Option Name → Open → Name → Form → Spot → Open
opened_after sibling o name form at = record (opened o name form at) { sibling = sibling }

-- what is open afterwards, if an event may stand there
abbrev pub Moves : Bool → Check → Option Check → Type 0
Moves true new answer = answer ≡ Some new
Moves false new answer = answer ≡ None

-- the same, with what is wrong otherwise
abbrev pub Steps : Option FaultKind → Check → Result Check FaultKind → Type 0
Steps None new answer = answer ≡ Ok new
Steps (Some kind) new answer = answer ≡ Err kind

-- what is open after two events, which go well
pub record Passes (names : List ℕ → Option (List ℕ)) (bytes : List ℕ) (c : Check) (enter exit : Event) (new : Check) : Type 0 where
  pub mid : Check
  pub entered : step names bytes c enter ≡ Ok mid
  pub exited : step names bytes mid exit ≡ Ok new

-- a place is in the text, and the column of an index up to it is known
pub record StandsAt (bytes : List ℕ) (at : Spot) (known : Known) : Type 0 where
  pub before : known.index ≤ at.index
  pub phase_is : known.phase ≡ phase_at bytes known.index
  pub there : is_spot bytes at ≡ true
