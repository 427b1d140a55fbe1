-- What attempts come to that are made one after another, turn by turn.
use Rattle.std.proofs.Common.{◌≡◌, Bool, List, [], ◌∷◌, inl, inr}
use Rattle.engine_states.specs.declared.state.Name.{Name}
use Rattle.engine_states.specs.declared.state.State.TheVariants as states
use Rattle.engine_programs.specs.Bodies.{Body, run}
use Rattle.markdown_engine.specs.Machine.{tries}
use Rattle.markdown_engine.specs.Reading.{Config, feed, hand_on}
use Rattle.markdown_engine.specs.VirtualText.{Text}
use Rattle.state_verdicts.specs.Attempts.{Attempts, ChoosesAmong, failed, none_left, went_well}
use Rattle.state_verdicts.specs.Machines.{GoesOnBy, ReadsBy}
use Rattle.state_verdicts.proofs.MachineTurns.{after_bad, after_good, by_attempt, feeds}

module _ {W S : Type 0} (bodies : Name → Body W) (text : Text) (begins goes_on : S → Name) where
  abbrev Chooses : Config W → Name → Config W → List S → Name → Type 0
  Chooses c s d starts other = ChoosesAmong bodies text begins goes_on c s d starts other

  -- nothing is attempted
  pub attempts_none : (c : Config W) (s : Name) → Chooses c s c [] s
  attempts_none c s = record { there = λ e w t. left e w t; only = λ e w r. none_left r }
    where
      left : (e : Config W) (w : Bool) → Attempts bodies text begins goes_on c [] s e w → ReadsBy bodies text c (states.Retry s) e w
      left e w (none_left r) = r

  -- a state goes on to one that makes these attempts
  pub attempts_from : {c d e : Config W} {s t other : Name} {starts : List S} → GoesOnBy bodies text c (states.Retry s) d (states.Retry t)
      → Chooses d t e starts other → Chooses c s e starts other
  attempts_from g h = record {
    there = λ f w a. g.there f w (h.there f w a);
    only = λ f w r. h.only f w (g.only f w r);
  }

  -- a state makes an attempt, and where that fails goes on to one that makes these attempts
  pub attempts_one : (n mid other : Name) (c at : Config W) (s : S) (starts : List S)
      → run (bodies n) c ≡ tries (states.Next (goes_on s)) (states.Next mid) at (states.Retry (begins s))
      → ((d : Config W) → Chooses d mid d starts other) → Chooses c n at (s ∷ starts) other
  attempts_one n mid other c at s starts h more = record { there = λ e w a. there e w a; only = λ e w r. only e w r }
    where
      there : (e : Config W) (w : Bool) → Attempts bodies text begins goes_on at (s ∷ starts) other e w → ReadsBy bodies text c (states.Retry n) e w
      there e w (went_well d r k) = after_good bodies text n c at d e (states.Next (goes_on s)) (states.Next mid) (states.Retry (begins s)) w h r k
      there e w (failed d r a) = after_bad bodies text n c at d e (states.Next (goes_on s)) (states.Next mid) (states.Retry (begins s)) w h r
          ((feeds bodies text mid (hand_on at d)).there e w ((more (feed text (hand_on at d))).there e w a))

      only : (e : Config W) (w : Bool) → ReadsBy bodies text c (states.Retry n) e w → Attempts bodies text begins goes_on at (s ∷ starts) other e w
      only e w r = elim (by_attempt bodies text n c at e (states.Next (goes_on s)) (states.Next mid) (states.Retry (begins s)) w h r) [
        | inl g ↦ went_well g.mid g.attempt g.on
        | inr b ↦ failed b.mid b.attempt ((more (feed text (hand_on at b.mid))).only e w ((feeds bodies text mid (hand_on at b.mid)).only e w b.on))
      ]
