-- What an attempt of a block state comes to, beside what the definition says.
use Rattle.std.specs.Prelude.{◌≡◌, ℕ, ◌^◌, ◌<◌, Bool, false, List, length}
use Rattle.engine_events.specs.declared.place.Point.{Point}
use Rattle.engine_states.specs.declared.state.State.{State}
use Rattle.markdown_engine.specs.Context.{Context}
use Rattle.markdown_engine.specs.Reading.{Config}
use Rattle.markdown_engine.specs.VirtualText.{Text}
pub use Rattle.state_verdicts.specs.Machines.{AtHand, Leaves, handed}
use Rattle.state_verdicts.specs.Machines.{GoesOnBy, ReadsBy}
use Rattle.state_verdicts.specs.Codes.{Sees}
use Rattle.state_flow.specs.Flows.{flows_bodies}
use Rattle.state_flow.specs.declared.flows.Flows.{Flows}
use Rattle.state_verdicts.specs.Lines.{SkipsOnce, line_of}

module _ {T : Type 0} (x : Context T) (text : Text) where
  -- with no attempt that waits, reading by the states of flow comes to this
  abbrev pub Reads : Config Flows → State → Config Flows → Bool → Type 0
  Reads c s d w = ReadsBy (flows_bodies x) text c s d w

  -- reading by them comes to whatever it comes to from there, and to nothing else
  abbrev pub GoesOn : Config Flows → State → Config Flows → State → Type 0
  GoesOn c s d t = GoesOnBy (flows_bodies x) text c s d t

-- a place in a line: what the text is read with, the text, what reading has come to, the place, and the codes from there on
pub record InLine (T : Type 0) : Type 0 where
  pub context : Context T
  pub text : Text
  pub config : Config Flows
  pub place : Point
  pub codes : List ℕ

-- this holds at each place from which these codes are seen
abbrev pub AtCodes : (T : Type 0) → (InLine T → Type 0) → Type 0
AtCodes T says = (here : InLine T) → Sees here.text here.place here.codes → says here

-- the same, in a text that skips nothing twice, where fewer than 2^62 codes of the line are left, and no string is read in parts
abbrev pub AtPlaces : (T : Type 0) → (InLine T → Type 0) → Type 0
AtPlaces T says = AtCodes T (λ here. SkipsOnce here.text → length (line_of here.codes) < 2 ^ 62 → here.config.tokenize_state.connect ≡ false → says here)

module _ {T : Type 0} (here : InLine T) where
  -- what is at the place is at hand
  abbrev pub at_hand : Config Flows
  at_hand = handed here.text here.config here.place

  -- the line from the place on
  abbrev pub line : List ℕ
  line = line_of here.codes
