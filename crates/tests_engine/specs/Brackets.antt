-- A machine of balanced brackets: items, each a group in brackets or another byte. Where a group doesn't end, all from its bracket on is data.
use Rattle.std.specs.Prelude.{◌≡◌, ℕ, ◌+◌, ◌*◌, ◌≤◌, Bool, true, false, List, [], ◌∷◌, Option, Some, None, ◌==◌, if◌then◌else◌, ◌⊎◌, reverse}
use Rattle.engine_events.specs.declared.event.Name.{Name as EventName}
use Rattle.engine_events.specs.declared.event.Name.TheVariants as names
use Rattle.engine_states.specs.declared.state.Name.{Name}
use Rattle.engine_states.specs.declared.state.Name.TheVariants.{Inline}
use Rattle.engine_states.specs.declared.state.Inline.TheVariants as state_inline
use Rattle.engine_states.specs.declared.state.State.{State}
use Rattle.engine_states.specs.declared.state.State.TheVariants as states
use Rattle.markdown_engine.specs.declared.attempt.Attempt.{Attempt}
use Rattle.markdown_engine.specs.Descent.{Weighs, descent}
use Rattle.markdown_engine.specs.Laws.{IsAhead, RanksAt, remaining}
use Rattle.markdown_engine.specs.Machine.{past_byte, with_enter, with_exit, plain, tries}
use Rattle.markdown_engine.specs.Order.{AreMarks, IsTidy, LeadsOn, open_after}
use Rattle.markdown_engine.specs.Reading.{Config, Effect, Steps}
use Rattle.tests_engine.specs.declared.brackets.Brackets.{Brackets}
use Rattle.tests_engine.specs.Readings.{IsReading}
use Rattle.engine_events.specs.declared.event.Event.{Event}

-- what a state reads: items, a group, a group's end, and data
abbrev pub items_state : Name
items_state = Inline state_inline.TextStart

abbrev pub group_state : Name
group_state = Inline state_inline.LabelStart

abbrev pub close_state : Name
close_state = Inline state_inline.LabelInside

abbrev pub rest_state : Name
rest_state = Inline state_inline.DataInside

module _ {M : Type 0} where
  unfoldable pub items : Option ℕ → Config M → Effect M
  items None c = plain c states.Ok
  items (Some b) c = if b == 40 then tries (states.Next items_state) (states.Next rest_state) c (states.Retry group_state) else if b == 41
      then plain c states.Ok else plain (past_byte c) (states.Next items_state)

  unfoldable pub rest : Option ℕ → Config M → Effect M
  rest None c = plain c states.Ok
  rest (Some b) c = plain (past_byte c) (states.Next rest_state)

  unfoldable pub group : Option ℕ → Config M → Effect M
  group None c = plain c states.Nok
  group (Some b) c = if b == 40 then tries (states.Next close_state) states.Nok (past_byte (with_enter names.Label None c)) (states.Next items_state)
      else plain c states.Nok

  unfoldable pub close : Option ℕ → Config M → Effect M
  close None c = plain c states.Nok
  close (Some b) c = if b == 41 then plain (with_exit names.Label (past_byte c)) states.Ok else plain c states.Nok

-- the parts of a text; any other state reads the rest
pub data Part : Type 0 where
  Items : Part
  Group : Part
  Close : Part
  Rest : Part

unfoldable pub part : Name → Part
part (Inline state_inline.TextStart) = Items
part (Inline state_inline.LabelStart) = Group
part (Inline state_inline.LabelInside) = Close
part n = Rest

module _ {M : Type 0} where
  abbrev pub step_of : Part → Config M → Effect M
  step_of Items c = items c.current c
  step_of Group c = group c.current c
  step_of Close c = close c.current c
  step_of Rest c = rest c.current c

  unfoldable pub brackets_step : Steps M
  brackets_step c n = step_of (part n) c

-- the attempt at a group, and the one at the items in it
pub record IsGroup (a : Attempt) : Type 0 where
  pub check : a.check ≡ false
  pub ok : a.ok ≡ states.Next items_state
  pub nok : a.nok ≡ states.Next rest_state

pub record IsContent (a : Attempt) : Type 0 where
  pub check : a.check ≡ false
  pub ok : a.ok ≡ states.Next close_state
  pub nok : a.nok ≡ states.Nok

module _ (size : ℕ) where
  -- the attempts that wait, the innermost first, where so much is left; in a group at least so much was read since its attempt
  abbrev pub Level : Bool → ℕ → List Attempt → ℕ → Type 0
  Level false m [] left = Unit {0}
  Level true m [] left = ⊥
  Level true m (a ∷ more) left = IsGroup a × (left + m ≤ remaining size a.point) × Level false 0 more (remaining size a.point)
  Level false m (a ∷ more) left = IsContent a × (left ≤ remaining size a.point) × Level true 1 more (remaining size a.point)

abbrev pub in_group : Part → Bool
in_group Items = false
in_group Group = true
in_group Close = true
in_group Rest = false

abbrev pub least : Part → ℕ
least Items = 0
least Group = 0
least Close = 1
least Rest = 0

module _ {M : Type 0} (size : ℕ) where
  abbrev pub Stands : State → List Attempt → Config M → Type 0
  Stands (states.Error m) stack c = ⊥
  Stands (states.Next n) stack c = Level size (in_group (part n)) (least (part n)) stack (remaining size c.point)
  Stands (states.Retry n) stack c = Level size (in_group (part n)) (least (part n)) stack (remaining size c.point) × IsAhead size c
  Stands states.Ok stack c = Level size false 0 stack (remaining size c.point) ⊎ Level size true 1 stack (remaining size c.point)
  Stands states.Nok stack c = Level size true 0 stack (remaining size c.point)

-- what is open: a label for each attempt at the items in a group that waits, and one more where a group's end is read
abbrev pub with_label : State → List EventName → List EventName
with_label (states.Error m) open_names = open_names
with_label (states.Next n) open_names = open_names
with_label (states.Retry n) open_names = open_names
with_label states.Ok open_names = open_names
with_label states.Nok open_names = names.Label ∷ open_names

abbrev pub labels : List Attempt → List EventName
labels [] = []
labels (a ∷ more) = with_label a.nok (labels more)

abbrev pub labels_at : Part → List Attempt → List EventName
labels_at Items stack = labels stack
labels_at Group stack = labels stack
labels_at Close stack = names.Label ∷ labels stack
labels_at Rest stack = labels stack

abbrev pub Fits : List EventName → List Attempt → Type 0
Fits open_names stack = open_names ≡ labels stack

module _ {M : Type 0} where
  abbrev pub IsOpen : State → List Attempt → Config M → Type 0
  IsOpen (states.Error m) stack c = Unit {0}
  IsOpen (states.Next n) stack c = open_after [] c.events ≡ labels_at (part n) stack
  IsOpen (states.Retry n) stack c = (open_after [] c.events ≡ labels_at (part n) stack) × LeadsOn c
  IsOpen states.Ok stack c = open_after [] c.events ≡ labels stack
  IsOpen states.Nok stack c = Unit {0}

  pub record IsSound (s : State) (stack : List Attempt) (c : Config M) : Type 0 where
    pub tidy : IsTidy c
    pub marks : AreMarks Fits c.events stack
    pub open_names : IsOpen s stack c

  unfoldable pub brackets_valid : ℕ → Config M → List Attempt → State → Type 0
  brackets_valid size c stack s = Stands size s (reverse stack) c × IsSound s (reverse stack) c

-- the height of a part above what is left
abbrev pub height : Part → ℕ
height Items = 3
height Group = 2
height Close = 1
height Rest = 1

module _ {M : Type 0} where
  abbrev pub brackets_weight : ℕ → Weighs M
  brackets_weight size c (states.Error m) = 0
  brackets_weight size c (states.Next n) = 4 * remaining size c.point + height (part n)
  brackets_weight size c (states.Retry n) = 4 * remaining size c.point + height (part n)
  brackets_weight size c states.Ok = 0
  brackets_weight size c states.Nok = 0

-- after a group reading goes on in less, and after its content with its end; without a group the rest is read
abbrev pub brackets_waits : ℕ → Attempt → ℕ
brackets_waits size a = 4 * remaining size a.point + 1

abbrev pub brackets_rank : {M : Type 0} → ℕ → RanksAt M
brackets_rank size = descent 2 (brackets_weight size) (brackets_waits size)

-- these are the events of the one reading of a text
abbrev pub IsBracketsReading : List ℕ → Brackets → List Event → Type 0
IsBracketsReading = IsReading brackets_step items_state
