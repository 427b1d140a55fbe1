-- More turns change nothing.
use Rattle.std.proofs.Common.{◌≡◌, ℕ, zero, suc, ◌+◌, List, [], ◌∷◌, Bool, true, false, Some, None, refl, arith}
use Rattle.markdown_engine.proofs.Prelude.{after_success, Config, feed, Frame, hand_on, State, Steps, Text}
use Rattle.engine_states.specs.declared.state.State.TheVariants as states
use Rattle.markdown_engine.specs.Evaluation.{Ending, after_attempt, evaluate}

module _ {M : Type 0} (text : Text) (step : Steps M) where
  stays_on : (f : Frame M) (rest more : Config M → State → Ending M) (r q : Ending M) (a : Config M × Bool)
      → ((d : Config M) (t : State) (b : Config M × Bool) → rest d t ≡ Some b → more d t ≡ Some b) → ((b : Config M × Bool) → r ≡ Some b → q ≡ Some b)
      → after_attempt f rest r ≡ Some a → after_attempt f more q ≡ Some a
  stays_on f rest more None q a h k e = absurd (let z : None ≡ Some a = e in cc)
  stays_on f rest more (Some (d, true)) q a h k e = rw (k (d, true) refl) (h (after_success f d) f.ok a e)
  stays_on f rest more (Some (d, false)) q a h k e = rw (k (d, false) refl) (h (hand_on f.start d) f.nok a e)

  one_more_turn : (n : ℕ) (c : Config M) (fs : List (Frame M)) (s : State) (a : Config M × Bool) → evaluate text step n c fs s ≡ Some a
      → evaluate text step (suc n) c fs s ≡ Some a
  unfolding evaluate
  one_more_turn zero c fs s a h = absurd (let z : None ≡ Some a = h in cc)
  one_more_turn (suc n) c [] (states.Error m) a h = h
  one_more_turn (suc n) c [] (states.Next m) a h = let e = step (feed text c) m in one_more_turn n e.config e.pushed e.state a h
  one_more_turn (suc n) c [] (states.Retry m) a h = let e = step c m in one_more_turn n e.config e.pushed e.state a h
  one_more_turn (suc n) c [] states.Ok a h = h
  one_more_turn (suc n) c [] states.Nok a h = h
  one_more_turn (suc n) c (f ∷ fs) s a h =
      stays_on f (λ d t. evaluate text step n d [] t) (λ d t. evaluate text step (suc n) d [] t) (evaluate text step n c fs s)
      (evaluate text step (suc n) c fs s) a (λ d t b k. one_more_turn n d [] t b k) (λ b k. one_more_turn n c fs s b k) h

  pub more_turns : (k n : ℕ) (c : Config M) (fs : List (Frame M)) (s : State) (a : Config M × Bool) → evaluate text step n c fs s ≡ Some a
      → evaluate text step (k + n) c fs s ≡ Some a
  more_turns zero n c fs s a h = rw (let z : 0 + n ≡ n = omega arith in z) h
  more_turns (suc k) n c fs s a h = rw (let z : suc k + n ≡ suc (k + n) = omega arith in z) (one_more_turn (k + n) c fs s a (more_turns k n c fs s a h))
