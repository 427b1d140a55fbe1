-- Machines with one state, which goes over each byte in the same way, and makes no attempt.
use Rattle.std.specs.Prelude.{◌≡◌, ℕ, ◌+◌, ◌*◌, [], Option, Some, None}
use Rattle.engine_events.specs.declared.place.Point.{Point}
use Rattle.engine_states.specs.declared.state.Name.{Name}
use Rattle.engine_states.specs.declared.state.State.TheVariants as states
use Rattle.markdown_engine.specs.declared.virtual_text.VirtualByte.{VirtualByte}
use Rattle.markdown_engine.specs.Laws.{HoldsAt, IsFed, IsFront, IsStill, RanksAt, remaining}
use Rattle.markdown_engine.specs.Machine.{past_byte, plain}
use Rattle.markdown_engine.specs.Order.{IsTidy, LeadsOn, Reaches, open_after}
use Rattle.markdown_engine.specs.Reading.{Config, Effect, Steps, with_byte, at_point}

module _ {M : Type 0} (stop over : Config M → Config M) where
  -- a byte is gone over; the end stops
  abbrev pub at_byte : Option ℕ → Config M → Name → Effect M
  at_byte None c n = plain (stop c) states.Ok
  at_byte (Some b) c n = plain (over c) (states.Next n)

  abbrev pub each_byte : Steps M
  each_byte c n = at_byte c.current c n

module _ {M : Type 0} (between after : Config M → Type 0) where
  -- what holds between bytes, and after the last
  abbrev pub HoldsEach : HoldsAt M
  HoldsEach c stack (states.Error m) = ⊥
  HoldsEach c stack (states.Next n) = (stack ≡ []) × between c
  HoldsEach c stack (states.Retry n) = (stack ≡ []) × between c × LeadsOn c
  HoldsEach c stack states.Ok = (stack ≡ []) × after c
  HoldsEach c stack states.Nok = ⊥

  -- what going over a byte keeps
  pub record GoesOver (stop over : Config M → Config M) : Type 0 where
    pub stops : (c : Config M) → IsFront c.events (stop c).events
    pub adds : (c : Config M) → IsFront c.events (over c).events
    pub stays : (c : Config M) → IsStill c (stop c)
    pub consumes : (c : Config M) → IsStill (past_byte c) (over c)
    pub ends : (c : Config M) → between c → after (stop c)
    pub keeps : (c : Config M) → Reaches c.point c.next → between c → between (over c)
    pub fed : (size : ℕ) (c : Config M) (p : Point) (v : Option VirtualByte) → IsFed size c.point p v → between c → between (with_byte c p v)
    pub on : (c : Config M) (p : Point) → Reaches c.point p → between c → between (at_point p c)
    pub after_on : (c : Config M) (p : Point) → Reaches c.point p → after c → after (at_point p c)
    pub tidy : (c : Config M) → between c → IsTidy c
    pub after_tidy : (c : Config M) → after c → IsTidy c
    pub closed : (c : Config M) → after c → open_after [] c.events ≡ []

module _ {M : Type 0} where
  -- twice what is left, and the call at hand
  abbrev pub left_at : ℕ → Option ℕ → Config M → ℕ
  left_at size None c = 1
  left_at size (Some b) c = 2 * remaining size c.next + 3

  abbrev pub each_rank : ℕ → RanksAt M
  each_rank size c stack (states.Error m) = 0
  each_rank size c stack (states.Next n) = 2 * remaining size c.point + 2
  each_rank size c stack (states.Retry n) = left_at size c.current c
  each_rank size c stack states.Ok = 0
  each_rank size c stack states.Nok = 0
