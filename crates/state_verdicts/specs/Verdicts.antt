-- What an attempt comes to, beside what the definition says.
use Rattle.std.specs.Prelude.{◌≡◌, ℕ, Bool, true, false, List, [], ◌++◌, drop, Option, None, Some}
use Rattle.definition_inline.specs.Inline.{Found}
use Rattle.engine_events.specs.declared.event.Event.{Event}
use Rattle.engine_events.specs.declared.place.Point.{Point}
use Rattle.engine_states.specs.declared.state.State.{State}
use Rattle.markdown_engine.specs.Context.{Context}
use Rattle.markdown_engine.specs.KeptState.{KeptState}
use Rattle.markdown_engine.specs.Reading.{Config, Runs, with_byte}
use Rattle.markdown_engine.specs.VirtualText.{Text, as_byte}
use Rattle.engine_programs.specs.Bodies.{step_by}
use Rattle.state_inline.specs.declared.inlines.Inlines.{Inlines}
use Rattle.state_inline.specs.Inlines.{bodies}
use Rattle.state_verdicts.specs.Codes.{Sees}

module _ {W : Type 0} where
  -- these events were added, this is kept, and reading is at this place; and neither edits nor resolvers were added
  pub record Leaves (c d : Config W) (keeps : KeptState) (added : List Event) (p : Point) : Type 0 where
    pub events : d.events ≡ c.events ++ added
    pub point : d.point ≡ p
    pub kept : d.tokenize_state ≡ keeps
    pub map : d.map ≡ c.map
    pub resolvers : d.resolvers ≡ c.resolvers

-- the same, where nothing else is kept than before
abbrev pub LeavesEvents : Config Inlines → Config Inlines → List Event → Point → Type 0
LeavesEvents c d added p = Leaves c d c.tokenize_state added p

module _ {T : Type 0} (texts : List ℕ → Option (List ℕ)) (is_punctuation : ℕ → Bool) (x : Context T) (text : Text) where
  -- with no attempt that waits, reading comes to this
  unfoldable pub Reads : Config Inlines → State → Config Inlines → Bool → Type 0
  Reads c s d w = Runs text (step_by (bodies texts is_punctuation x)) c [] s d w

-- a byte is at hand at a place, and the next one is after another
abbrev pub at_byte : Config Inlines → Point → ℕ → Point → Config Inlines
at_byte c p b q = with_byte c p (Some (as_byte b q))

-- what is said of the configuration that an attempt leaves, and of whether it went well
abbrev pub Comes : Type 1
Comes = Config Inlines → Bool → Type 0

-- it fails where the definition has nothing; otherwise it goes well, with these events, up to where what the leaf leaves of the codes is seen
abbrev pub Verdict : Text → Comes → Config Inlines → List ℕ → (Point → List Event) → (Point → Point) → Option Found → Type 0
Verdict text comes c codes events stands None = (d : Config Inlines) × comes d false
Verdict text comes c codes events stands (Some leaf) =
    (d : Config Inlines) × (end : Point) × comes d true × LeavesEvents c d (events end) (stands end) × Sees text end (drop leaf.size codes)
