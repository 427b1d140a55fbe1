-- What an attempt of a state of documents comes to, beside what the definition says.
use Rattle.std.specs.Prelude.{◌≡◌, ℕ, ◌^◌, ◌<◌, Bool, false, List, length}
use Rattle.engine_events.specs.declared.place.Point.{Point}
use Rattle.engine_states.specs.declared.state.State.{State}
use Rattle.markdown_engine.specs.Context.{Context}
use Rattle.markdown_engine.specs.Reading.{Config}
use Rattle.markdown_engine.specs.VirtualText.{Text}
use Rattle.state_document.specs.Blocks.{blocks_bodies}
use Rattle.state_document.specs.Readers.{Calls}
use Rattle.state_verdicts.specs.Codes.{Sees}
use Rattle.state_verdicts.specs.Lines.{SkipsOnce, line_of}
use Rattle.state_verdicts.specs.Machines.{GoesOnBy, ReadsBy, handed}

-- a place in a text that a machine of documents reads: what it does with its flow, what the text is read with, the text, what reading has come to, the place,
-- and the codes from there on
pub record InDocument (T V : Type 0) : Type 0 where
  pub calls : Calls T V
  pub context : Context T
  pub text : Text
  pub config : Config V
  pub place : Point
  pub codes : List ℕ

module _ {T V : Type 0} (here : InDocument T V) where
  -- what is at the place is at hand
  abbrev pub at_hand : Config V
  at_hand = handed here.text here.config here.place

  -- the line from the place on
  abbrev pub line : List ℕ
  line = line_of here.codes

  -- with no attempt that waits, reading comes to this
  abbrev pub Reads : Config V → State → Config V → Bool → Type 0
  Reads c s d w = ReadsBy (blocks_bodies here.calls here.context) here.text c s d w

  -- reading comes to whatever it comes to from there, and to nothing else
  abbrev pub GoesOn : Config V → State → Config V → State → Type 0
  GoesOn c s d t = GoesOnBy (blocks_bodies here.calls here.context) here.text c s d t

-- this holds at each place from which these codes are seen
abbrev pub AtCodes : (T V : Type 0) → (InDocument T V → Type 0) → Type 0
AtCodes T V says = (here : InDocument T V) → Sees here.text here.place here.codes → says here

-- the same, in a text that skips nothing twice, where fewer than 2^62 codes of the line are left, and no string is read in parts
abbrev pub AtPlaces : (T V : Type 0) → (InDocument T V → Type 0) → Type 0
AtPlaces T V says = AtCodes T V (λ here. SkipsOnce here.text → length (line_of here.codes) < 2 ^ 62 → here.config.tokenize_state.connect ≡ false → says here)
