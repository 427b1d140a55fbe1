-- What reading comes to, as a function: with so many turns at most for each attempt.
use Rattle.std.specs.Prelude.{◌≡◌, ℕ, zero, suc, ◌+◌, ◌*◌, Bool, true, false, List, [], ◌∷◌, Option, Some, None}
use Rattle.engine_events.specs.declared.event.Content.{Content}
use Rattle.engine_events.specs.declared.event.Event.{Event}
use Rattle.engine_states.specs.declared.state.State.{State}
use Rattle.engine_states.specs.declared.state.State.TheVariants as states
use Rattle.engine_edits.specs.Edits.{EditAt}
use Rattle.engine_edits.specs.Replacement.{events_after}
use Rattle.engine_chunks.specs.Chunks.{chunks}
use Rattle.engine_chunks.specs.Parts.{counts, with_division}
use Rattle.markdown_engine.specs.declared.attempt.Attempt.{Attempt}
use Rattle.markdown_engine.specs.declared.tokenizer.Tokenizer.{Tokenizer}
use Rattle.markdown_engine.specs.Chains.{Chain, chain_text, chains, first_state, place_at}
use Rattle.markdown_engine.specs.Context.{Context}
use Rattle.markdown_engine.specs.Laws.{Ranks, RanksAt}
use Rattle.markdown_engine.specs.Machine.{GoesOn, OpensRange, fresh_config, read_with, view_config, source}
use Rattle.markdown_engine.specs.Reading.{Config, Frame, Steps, state_after, feed, hand_on, after_success, continuation}
use Rattle.markdown_engine.specs.Resolving.{FoundLabels, ResolverResult, Resolves, resolution, found_both, nothing_found, resolve_all}
use Rattle.markdown_engine.specs.VirtualText.{IsCut, Source, Text, text_to}

-- what reading may come to: where it ends, well or not; nothing where the turns don't do
abbrev pub Ending : Type 0 → Type 0
Ending M = Option (Config M × Bool)

module _ {M : Type 0} where
  -- how reading goes on after an attempt
  abbrev pub after_attempt : Frame M → (Config M → State → Ending M) → Ending M → Ending M
  after_attempt f rest None = None
  after_attempt f rest (Some (d, true)) = rest (after_success f d) f.ok
  after_attempt f rest (Some (d, false)) = rest (hand_on f.start d) f.nok

  module _ (text : Text) (step : Steps M) where
    unfoldable pub evaluate : ℕ → Config M → List (Frame M) → State → Ending M
    evaluate zero c fs s = None
    evaluate (suc n) c [] (states.Error m) = None
    evaluate (suc n) c [] (states.Next m) = let e = step (feed text c) m in evaluate n e.config e.pushed e.state
    evaluate (suc n) c [] (states.Retry m) = let e = step c m in evaluate n e.config e.pushed e.state
    evaluate (suc n) c [] states.Ok = Some (c, true)
    evaluate (suc n) c [] states.Nok = Some (c, false)
    evaluate (suc n) c (f ∷ fs) s = after_attempt f (λ d t. evaluate n d [] t) (evaluate n c fs s)

    -- how it goes on after an attempt of the stack
    abbrev pub after_mark : ℕ → Attempt → Ending M → Ending M
    after_mark n a None = None
    after_mark n a (Some (e, x)) = evaluate n (continuation a e x) [] (state_after a x)

    abbrev pub after_stack : ℕ → List Attempt → Ending M → Ending M
    after_stack n [] r = r
    after_stack n (a ∷ rest) r = after_mark n a (after_stack n rest r)

    -- what reading comes to, by a number that falls with each turn: twice so many turns, and one, are enough
    abbrev pub reading : RanksAt M → Config M → List Attempt → State → Ending M
    reading rank c stack s = let n = 2 * rank c stack s + 1 in after_stack n stack (evaluate n c [] s)

module _ {M V T A : Type 0} (view : M → V) (step : Context T → Steps V) (rank : Ranks T V) where
  -- what reading a text comes to from here
  abbrev pub reading_from : Text → Tokenizer M T A → State → Ending V
  reading_from text t s = let x = read_with t in reading text (step x) (rank x) (view_config view t) t.attempts.items s

  -- however a text goes on after a range, it is what it was
  abbrev pub StaysReading : ℕ × ℕ → State → Tokenizer M T A → Tokenizer M T A → State → Type 0
  StaysReading to given old new s =
      (more : Source) (limit : ℕ × ℕ) → IsCut more.bytes limit → GoesOn (source old) to false more limit
      → reading_from (text_to more limit) new s ≡ reading_from (text_to more limit) old given

  -- the same of a range that is read from its start
  abbrev pub StaysReadingFrom : ℕ × ℕ → ℕ × ℕ → State → Tokenizer M T A → Tokenizer M T A → State → Type 0
  StaysReadingFrom from to given old new s = (start : Tokenizer M T A) × OpensRange from old start × StaysReading to given start new s

  -- this is what reading comes to up to the text's end, resolved if that was asked for
  pub record IsReadingOf (resolve : Context T → Resolves V) (to : ℕ × ℕ) (all : Bool) (given : State) (old new : Tokenizer M T A)
      (found : FoundLabels) : Type 0 where
    pub read : Config V
    pub reading : reading_from (text_to (source old) to) old given ≡ Some (read, true)
    pub config : view_config view new ≡ (resolution (resolve (read_with old)) all read).config
    pub labels : found ≡ (resolution (resolve (read_with old)) all read).found

module _ {M : Type 0} (step : Steps M) (rank : RanksAt M) (resolve : Resolves M) (bytes : List ℕ) (machine : M) (events : List Event) where
  -- what reading the text of a chain comes to
  abbrev pub chain_reading : Chain → Ending M
  chain_reading c = reading (chain_text bytes events c.0) step rank (fresh_config (place_at events c.0) machine) [] (states.Next (first_state c.1))

  abbrev pub after_chain : (ResolverResult M → Option (List EditAt × FoundLabels)) → Ending M → Option (List EditAt × FoundLabels)
  after_chain rest None = None
  after_chain rest (Some (read, well)) = rest (resolve_all resolve read)

  -- the edits that put what is read of chains in place of their chunks, and what is found
  abbrev pub chain_edits : List Chain → ℕ × ℕ → List EditAt → FoundLabels → Option (List EditAt × FoundLabels)
  chain_edits [] acc edits found = Some (edits, found)
  chain_edits (c ∷ cs) acc edits found =
      after_chain (λ r. chain_edits cs (counts events (chunks events c.0) r.config.events 0 acc.0 acc.1) (with_division events c.0 r.config.events acc edits)
      (found_both found r.found)) (chain_reading c)

-- these are the events with each chain that is asked for read, and what is found
abbrev pub AreReadingOf : {T M : Type 0} → (Context T → Steps M) → Ranks T M → (Context T → Resolves M) → Context T → M → Option Content → List Event
    → List Event → FoundLabels → Type 0
AreReadingOf step rank resolve x machine filter old new found =
    (edits : List EditAt) × (chain_edits (step x) (rank x) (resolve x) x.bytes machine old (chains filter old) (0, 0) [] nothing_found ≡ Some (edits, found))
    × (new ≡ events_after edits old)
