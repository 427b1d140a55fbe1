-- What reading comes to by the states of any machine.
use Rattle.std.specs.Prelude.{◌≡◌, Bool, List, [], ◌++◌, Some}
use Rattle.engine_events.specs.declared.event.Event.{Event}
use Rattle.engine_events.specs.declared.place.Point.{Point}
use Rattle.engine_states.specs.declared.state.Name.{Name}
use Rattle.engine_states.specs.declared.state.State.{State}
use Rattle.engine_programs.specs.Bodies.{Body, step_by}
use Rattle.markdown_engine.specs.KeptState.{KeptState}
use Rattle.markdown_engine.specs.Reading.{Config, Runs, at_point, byte_of, feed}
use Rattle.markdown_engine.specs.VirtualText.{Text}
use Rattle.markdown_engine.specs.declared.virtual_text.VirtualByte.{VirtualByte}

module _ {W : Type 0} (bodies : Name → Body W) (text : Text) where
  -- with no attempt that waits, reading comes to this
  unfoldable pub ReadsBy : Config W → State → Config W → Bool → Type 0
  ReadsBy c s d w = Runs text (step_by bodies) c [] s d w

  -- reading comes to whatever it comes to from there, and to nothing else
  pub record GoesOnBy (c : Config W) (s : State) (d : Config W) (t : State) : Type 0 where
    pub there : (e : Config W) (w : Bool) → ReadsBy d t e w → ReadsBy c s e w
    pub only : (e : Config W) (w : Bool) → ReadsBy c s e w → ReadsBy d t e w

module _ {W : Type 0} where
  -- the byte of a place, or the end there, is at hand
  pub record AtHand (text : Text) (c : Config W) (p : Point) : Type 0 where
    pub point : c.point ≡ text.start p
    pub current : c.current ≡ byte_of (text.byte (text.start p))
    pub next : (v : VirtualByte) → text.byte (text.start p) ≡ Some v → c.next ≡ v.next

  -- these events were added, this is kept, and reading is at this place, whose byte is at hand; and neither edits nor resolvers were added
  pub record Leaves (text : Text) (c d : Config W) (keeps : KeptState) (added : List Event) (p : Point) : Type 0 where
    pub events : d.events ≡ c.events ++ added
    pub at : AtHand text d p
    pub kept : d.tokenize_state ≡ keeps
    pub map : d.map ≡ c.map
    pub resolvers : d.resolvers ≡ c.resolvers

  -- the byte of a place, or the end there, is handed in
  abbrev pub handed : Text → Config W → Point → Config W
  handed text c p = feed text (at_point p c)
