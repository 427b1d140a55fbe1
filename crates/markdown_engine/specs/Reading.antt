-- What reading gives: an ordered choice with look ahead, by recursion, with no stack of marks.
use Rattle.std.specs.Prelude.{◌≡◌, ℕ, Bool, true, false, List, [], ◌∷◌, length, take, Option, Some, None, cond, if◌then◌else◌}
use Rattle.engine_events.specs.declared.event.Event.{Event}
use Rattle.engine_events.specs.declared.place.Point.{Point}
use Rattle.engine_states.specs.declared.state.Name.{Name}
use Rattle.engine_states.specs.declared.resolve.Name.{Name as Resolver}
use Rattle.engine_states.specs.declared.state.State.{State}
use Rattle.engine_states.specs.declared.state.State.TheVariants as states
use Rattle.markdown_engine.specs.declared.attempt.Attempt.{Attempt}
use Rattle.engine_edits.specs.Edits.{EditAt}
use Rattle.markdown_engine.specs.KeptState.{KeptState}
use Rattle.markdown_engine.specs.declared.virtual_text.VirtualByte.{VirtualByte}
use Rattle.markdown_engine.specs.VirtualText.{Text, is_feed}

-- what a state may read and write: the events so far, the place, the place after the byte there, where the line starts, the byte before, the byte, what states
-- keep for one another, the edits that are to be made, the resolvers that are to run, how the text stands among its containers, and the machine
pub record Config (M : Type 0) : Type 0 where
  pub events : List Event
  pub point : Point
  pub next : Point
  pub line_start : Point
  pub previous : Option ℕ
  pub current : Option ℕ
  pub tokenize_state : KeptState
  pub map : List EditAt
  pub resolvers : List Resolver
  pub interrupt : Bool
  pub lazy : Bool
  pub concrete : Bool
  pub pierce : Bool
  pub machine : M

-- of the machine only what is seen of it
abbrev pub seen_as : {M V : Type 0} → (M → V) → Config M → Config V
seen_as view c = record {
  events = c.events;
  point = c.point;
  next = c.next;
  line_start = c.line_start;
  previous = c.previous;
  current = c.current;
  tokenize_state = c.tokenize_state;
  map = c.map;
  resolvers = c.resolvers;
  interrupt = c.interrupt;
  lazy = c.lazy;
  concrete = c.concrete;
  pierce =
      c.pierce;
  machine = view c.machine;
}

-- an attempt that waits, with the configuration in which it was made
pub record Frame (M : Type 0) : Type 0 where
  pub check : Bool
  pub ok : State
  pub nok : State
  pub start : Config M

-- what a call does: the configuration after it, the attempts that it made, the outermost first, and the next state
pub record Effect (M : Type 0) : Type 0 where
  pub config : Config M
  pub pushed : List (Frame M)
  pub state : State

-- the machine's steps
abbrev pub Steps : Type 0 → Type 0
Steps M = Config M → Name → Effect M

abbrev pub byte_of : Option VirtualByte → Option ℕ
byte_of None = None
byte_of (Some v) = Some v.byte

abbrev pub place_after : Point → Option VirtualByte → Point
place_after p None = p
place_after p (Some v) = v.next

-- reading goes on at another place
abbrev pub at_point : {M : Type 0} → Point → Config M → Config M
at_point p c = record c { point = p }

-- the byte of a place, or the end there, is handed in
abbrev pub with_byte : {M : Type 0} → Config M → Point → Option VirtualByte → Config M
with_byte c p v = record c { point = p; current = byte_of v; next = place_after c.next v }

-- over the byte
abbrev pub past_byte : {M : Type 0} → Config M → Config M
past_byte c = record c { point = c.next; line_start = if is_feed c.current then c.next else c.line_start; previous = c.current; current = None }

-- the next byte is handed in, at the text's end none
abbrev pub feed : {M : Type 0} → Text → Config M → Config M
feed text c = with_byte c (text.start c.point) (text.byte (text.start c.point))

-- back at the start of an attempt, with what isn't restored
abbrev pub hand_on : {M : Type 0} → Config M → Config M → Config M
hand_on start c = record c {
  events = start.events;
  point = start.point;
  next = start.next;
  line_start = start.line_start;
  previous = start.previous;
  current = start.current;
}

-- a check goes back in any case
abbrev pub after_success : {M : Type 0} → Frame M → Config M → Config M
after_success f c = cond f.check (hand_on f.start c) c

-- `Runs text step c fs s c' v`: in c, with the attempts fs just made, and the state s next, reading ends in c', well or not
pub data Runs {M : Type 0} (text : Text) (step : Steps M) : Config M → List (Frame M) → State → Config M → Bool → Type 0 where
  ends-ok : {c : Config M} → Runs text step c [] states.Ok c true
  ends-nok : {c : Config M} → Runs text step c [] states.Nok c false
  next : {c d : Config M} {v : Bool} {n : Name} → Runs text step (step (feed text c) n).config (step (feed text c) n).pushed (step (feed text c) n).state d v
      → Runs text step c [] (states.Next n) d v
  retry : {c d : Config M} {v : Bool} {n : Name} → Runs text step (step c n).config (step c n).pushed (step c n).state d v
      → Runs text step c [] (states.Retry n) d v
  first : {c d e : Config M} {v : Bool} {s : State} {f : Frame M} {fs : List (Frame M)} → Runs text step c fs s d true
      → Runs text step (after_success f d) [] f.ok e v → Runs text step c (f ∷ fs) s e v
  second : {c d e : Config M} {v : Bool} {s : State} {f : Frame M} {fs : List (Frame M)} → Runs text step c fs s d false
      → Runs text step (hand_on f.start d) [] f.nok e v → Runs text step c (f ∷ fs) s e v

-- the mark that the code keeps of an attempt
abbrev pub mark : {M : Type 0} → Frame M → Attempt
mark f = record {
  check = f.check;
  ok = f.ok;
  nok = f.nok;
  events = length f.start.events;
  point = f.start.point;
  next = f.start.next;
  line_start = f.start.line_start;
  previous = f.start.previous;
  current = f.start.current;
}

-- back at a mark
abbrev pub restore : {M : Type 0} → Attempt → Config M → Config M
restore a c = record c {
  events = take a.events c.events;
  point = a.point;
  next = a.next;
  line_start = a.line_start;
  previous = a.previous;
  current = a.current;
}

abbrev pub continuation : {M : Type 0} → Attempt → Config M → Bool → Config M
continuation a c true = cond a.check (restore a c) c
continuation a c false = restore a c

abbrev pub state_after : Attempt → Bool → State
state_after a true = a.ok
state_after a false = a.nok

-- the attempts of a stack, the last of which is the innermost, go on from c and v to d and w
abbrev pub Unwinds : {M : Type 0} → Text → Steps M → List Attempt → Config M → Bool → Config M → Bool → Type 0
Unwinds text step [] c v d w = (c ≡ d) × (v ≡ w)
Unwinds {M} text step (a ∷ rest) c v d w = (e : Config M) × (x : Bool) × Unwinds text step rest c v e x
    × Runs text step (continuation a e x) [] (state_after a x) d w

-- what reading comes to, with a stack of attempts
pub record Outcome {M : Type 0} (text : Text) (step : Steps M) (stack : List Attempt) (c : Config M) (fs : List (Frame M)) (s : State) (d : Config M)
    (w : Bool) : Type 0 where
  pub mid : Config M
  pub how : Bool
  pub runs : Runs text step c fs s mid how
  pub unwinds : Unwinds text step stack mid how d w

-- the state in which an attempt ends
abbrev pub end_state : Bool → State
end_state true = states.Ok
end_state false = states.Nok
