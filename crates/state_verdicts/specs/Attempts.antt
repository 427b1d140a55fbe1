-- What attempts come to that are made one after another, in any machine.
use Rattle.std.specs.Prelude.{Bool, true, false, List, [], ◌∷◌}
use Rattle.engine_states.specs.declared.state.Name.{Name}
use Rattle.engine_states.specs.declared.state.State.TheVariants as states
use Rattle.engine_programs.specs.Bodies.{Body}
use Rattle.markdown_engine.specs.Reading.{Config, feed, hand_on}
use Rattle.markdown_engine.specs.VirtualText.{Text}
use Rattle.state_verdicts.specs.Machines.{ReadsBy}

-- what an attempt begins with, and what comes after one that goes well
module _ {W S : Type 0} (bodies : Name → Body W) (text : Text) (begins goes_on : S → Name) where
  -- reading comes to this by attempts at these, one after another: it goes on after the first that goes well; where none does, another state goes on at the same
  -- place
  pub data Attempts : Config W → List S → Name → Config W → Bool → Type 0 where
    went_well : {c e : Config W} {s : S} {ss : List S} {other : Name} {w : Bool} → (d : Config W) → ReadsBy bodies text c (states.Retry (begins s)) d true
        → ReadsBy bodies text d (states.Next (goes_on s)) e w → Attempts c (s ∷ ss) other e w
    failed : {c e : Config W} {s : S} {ss : List S} {other : Name} {w : Bool} → (d : Config W) → ReadsBy bodies text c (states.Retry (begins s)) d false
        → Attempts (feed text (hand_on c d)) ss other e w → Attempts c (s ∷ ss) other e w
    none_left : {c e : Config W} {other : Name} {w : Bool} → ReadsBy bodies text c (states.Retry other) e w → Attempts c [] other e w

  -- a state comes to whatever these attempts come to, and to nothing else
  pub record ChoosesAmong (c : Config W) (s : Name) (d : Config W) (starts : List S) (other : Name) : Type 0 where
    pub there : (e : Config W) (w : Bool) → Attempts d starts other e w → ReadsBy bodies text c (states.Retry s) e w
    pub only : (e : Config W) (w : Bool) → ReadsBy bodies text c (states.Retry s) e w → Attempts d starts other e w
