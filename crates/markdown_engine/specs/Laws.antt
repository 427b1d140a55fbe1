-- What a machine's steps keep.
use Rattle.std.specs.Prelude.{◌≡◌, ℕ, ◌+◌, ◌-◌, ◌*◌, ◌<◌, ◌≤◌, Bool, true, false, List, [], ◌∷◌, ◌++◌, map, length, Option, Some, ◌⊎◌}
use Rattle.std.specs.Borrow.{Bor}
use Rattle.markdown_options.specs.declared.message.Message.{Message}
use Rattle.engine_events.specs.declared.event.Event.{Event}
use Rattle.engine_events.specs.declared.place.Point.{Point}
use Rattle.engine_states.specs.declared.state.Name.{Name}
use Rattle.engine_states.specs.declared.state.State.{State}
use Rattle.engine_states.specs.declared.state.State.TheVariants as states
use Rattle.markdown_engine.specs.declared.attempt.Attempt.{Attempt}
use Rattle.markdown_engine.specs.declared.virtual_text.VirtualByte.{VirtualByte}
use Rattle.markdown_engine.specs.Context.{Context}
use Rattle.markdown_engine.specs.Order.{IsTidy, LeadsOn, Reaches, open_after}
use Rattle.markdown_engine.specs.Reading.{Config, Frame, Steps, past_byte, end_state, with_byte, mark, at_point, continuation}

-- the first list is a front of the second
abbrev pub IsFront : List Event → List Event → Type 0
IsFront a b = (more : List Event) × (b ≡ a ++ more)

-- each attempt starts with at least the events of the one around it
abbrev pub AreNested : {M : Type 0} → List Event → List (Frame M) → List Event → Type 0
AreNested before [] after = IsFront before after
AreNested before (f ∷ fs) after = IsFront before f.start.events × AreNested f.start.events fs after

-- events are only added
abbrev pub OnlyAdds : {M : Type 0} → Steps M → Type 0
OnlyAdds {M} step = (c : Config M) (n : Name) → let e = step c n in AreNested c.events e.pushed e.config.events

-- how many bytes of the virtual text are left at most, in a text of so many bytes
abbrev pub remaining : ℕ → Point → ℕ
remaining size p = 4 * (size - p.index) + (3 - p.vs)

-- a byte of the text was read: the place after it leaves less
pub record IsRead (size : ℕ) (p : Point) (v : VirtualByte) : Type 0 where
  pub within : p.index < size
  pub falls : remaining size v.next < remaining size p
  pub order : Reaches p v.next

-- reading went on to a place, and the byte there, or the end, was read
pub record IsFed (size : ℕ) (from p : Point) (v : Option VirtualByte) : Type 0 where
  pub forward : remaining size p ≤ remaining size from
  pub order : Reaches from p
  pub read : (w : VirtualByte) → v ≡ Some w → IsRead size p w

-- a byte that is at hand leads on, and leaves less
pub record IsAhead {M : Type 0} (size : ℕ) (c : Config M) : Type 0 where
  pub less : (b : ℕ) → c.current ≡ Some b → remaining size c.next < remaining size c.point
  pub leads : LeadsOn c

-- what holds of a configuration, its stack and its next state
abbrev pub HoldsAt : Type 0 → Type 1
HoldsAt M = Config M → List Attempt → State → Type 0

-- the same, given what the text is read with
abbrev pub Holds : Type 0 → Type 0 → Type 1
Holds T M = Context T → HoldsAt M

-- a state that doesn't read the byte at hand again
abbrev pub MovesOn : State → Type 0
MovesOn (states.Error m) = Unit {0}
MovesOn (states.Next n) = Unit {0}
MovesOn (states.Retry n) = ⊥
MovesOn states.Ok = Unit {0}
MovesOn states.Nok = Unit {0}

-- each move of the engine keeps it
pub record KeepsAt {M : Type 0} (size : ℕ) (valid : HoldsAt M) (step : Steps M) : Type 0 where
  pub fed : (c : Config M) (stack : List Attempt) (n : Name) (p : Point) (v : Option VirtualByte) → IsFed size c.point p v → valid c stack (states.Next n)
      → valid (with_byte c p v) stack (states.Retry n)
  -- a range may begin at a later place
  pub moved : (c : Config M) (stack : List Attempt) (s : State) (p : Point) → MovesOn s → remaining size p ≤ remaining size c.point → Reaches c.point p
      → valid c stack s → valid (at_point p c) stack s
  pub called : (c : Config M) (stack : List Attempt) (n : Name) → valid c stack (states.Retry n) → let e = step c n in
      valid e.config (stack ++ map mark e.pushed) e.state
  pub ok : (c : Config M) (stack : List Attempt) (a : Attempt) → valid c (stack ++ a ∷ []) states.Ok → valid (continuation a c true) stack a.ok
  pub nok : (c : Config M) (stack : List Attempt) (a : Attempt) → valid c (stack ++ a ∷ []) states.Nok → valid (continuation a c false) stack a.nok
  -- an error is no state: it is answered for want of memory alone
  pub no_error : (c : Config M) (stack : List Attempt) (m : Bor Message) → valid c stack (states.Error m) → ⊥

-- a number that falls with each turn
abbrev pub RanksAt : Type 0 → Type 0
RanksAt M = Config M → List Attempt → State → ℕ

abbrev pub Ranks : Type 0 → Type 0 → Type 0
Ranks T M = Context T → RanksAt M

pub record FallsAt {M : Type 0} (size : ℕ) (valid : HoldsAt M) (step : Steps M) (rank : RanksAt M) : Type 0 where
  pub fed : (c : Config M) (stack : List Attempt) (n : Name) (p : Point) (v : Option VirtualByte) → valid c stack (states.Next n) → IsFed size c.point p v
      → rank (with_byte c p v) stack (states.Retry n) ≤ rank c stack (states.Next n)
  pub called : (c : Config M) (stack : List Attempt) (n : Name) → valid c stack (states.Retry n)
      → let e = step c n in rank e.config (stack ++ map mark e.pushed) e.state < rank c stack (states.Retry n)
  pub ok : (c : Config M) (stack : List Attempt) (a : Attempt) → valid c (stack ++ a ∷ []) states.Ok
      → rank (continuation a c true) stack a.ok < rank c (stack ++ a ∷ []) states.Ok
  pub nok : (c : Config M) (stack : List Attempt) (a : Attempt) → valid c (stack ++ a ∷ []) states.Nok
      → rank (continuation a c false) stack a.nok < rank c (stack ++ a ∷ []) states.Nok

-- the place stays, with what is around it
pub record IsStill {M : Type 0} (c d : Config M) : Type 0 where
  pub point : d.point ≡ c.point
  pub next : d.next ≡ c.next
  pub line_start : d.line_start ≡ c.line_start
  pub previous : d.previous ≡ c.previous
  pub current : d.current ≡ c.current

-- there was a byte, and it was consumed once
abbrev pub HasConsumed : {M : Type 0} → Config M → Config M → Type 0
HasConsumed c d = (b : ℕ) × (c.current ≡ Some b) × IsStill (past_byte c) d

-- the same, or nothing was consumed
abbrev pub MayConsume : {M : Type 0} → Config M → Config M → Type 0
MayConsume c d = IsStill c d ⊎ HasConsumed c d

-- what is consumed by a call that answers a state
abbrev pub Consumes : {M : Type 0} → State → Config M → Config M → Type 0
Consumes (states.Error m) c d = Unit {0}
Consumes (states.Next n) c d = HasConsumed c d
Consumes (states.Retry n) c d = IsStill c d
Consumes states.Ok c d = MayConsume c d
Consumes states.Nok c d = MayConsume c d

-- each attempt of a call begins before or after the byte, and then goes on with no byte at hand
abbrev pub BeginAround : {M : Type 0} → Config M → List (Frame M) → Type 0
BeginAround c [] = Unit {0}
BeginAround c (f ∷ fs) = MayConsume c f.start × MovesOn f.ok × MovesOn f.nok × BeginAround c fs

-- next comes a byte after exactly one was consumed, and the same byte after none; a state that ends consumes at most one, and at the text's end none is
-- consumed
abbrev pub ConsumesAt : {M : Type 0} → HoldsAt M → Steps M → Type 0
ConsumesAt {M} valid step = (c : Config M) (stack : List Attempt) (n : Name) → valid c stack (states.Retry n) → let e = step c n in
    Consumes e.state c e.config × BeginAround c e.pushed

-- events are nested and in order of place
abbrev pub TidiesAt : {M : Type 0} → HoldsAt M → Type 0
TidiesAt {M} valid = (c : Config M) (stack : List Attempt) (s : State) → valid c stack s → IsTidy c

-- nothing is open at the end
abbrev pub ClosesAt : {M : Type 0} → HoldsAt M → Type 0
ClosesAt {M} valid = (c : Config M) (well : Bool) → valid c [] (end_state well) → open_after [] c.events ≡ []

-- the laws of reading
pub record LawfulAt {M : Type 0} (size : ℕ) (valid : HoldsAt M) (step : Steps M) (rank : RanksAt M) : Type 0 where
  pub adds : OnlyAdds step
  pub consumes : ConsumesAt valid step
  pub keeps : KeepsAt size valid step
  pub falls : FallsAt size valid step rank
  pub tidies : TidiesAt valid
  pub closes : ClosesAt valid

abbrev pub Lawful : {T M : Type 0} → Holds T M → (Context T → Steps M) → Ranks T M → Type 0
Lawful {T} valid step rank = (x : Context T) → LawfulAt (length x.bytes) (valid x) (step x) (rank x)
