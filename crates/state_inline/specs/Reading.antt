-- What reading by the inline states gives.
use Rattle.std.specs.Borrow.{Bor}
use Rattle.std.specs.Prelude.{◌≡◌, ℕ, Bool, true, List, [], length, Option}
use Rattle.engine_events.specs.declared.event.Event.{Event}
use Rattle.engine_states.specs.declared.state.Inline.{Inline as InlineName}
use Rattle.engine_states.specs.declared.state.Inline.TheVariants as state_inline
use Rattle.engine_states.specs.declared.state.Name.TheVariants.{Inline}
use Rattle.engine_states.specs.declared.state.State.TheVariants as states
use Rattle.markdown_engine.specs.Context.{Context}
use Rattle.markdown_engine.specs.Machine.{fresh_config}
use Rattle.markdown_engine.specs.Order.{text_start}
use Rattle.markdown_engine.specs.Reading.{Config, Runs, Steps}
use Rattle.markdown_engine.specs.Resolving.{resolve_all}
use Rattle.markdown_engine.specs.VirtualText.{Text, text_to, without_skips}
use Rattle.engine_programs.specs.Bodies.{step_by}
use Rattle.state_resolvers.specs.Resolving.{inline_resolved}
use Rattle.state_inline.specs.declared.inlines.Inlines.{Inlines}
use Rattle.state_inline.specs.Inlines.{bodies}

-- all of a text
abbrev pub text_of : List ℕ → Text
text_of bytes = text_to (without_skips bytes) (length bytes, 0)

-- by the tables' texts of names and their punctuation, and by what a text is read with
module _ {T : Type 0} (texts_of : T → List ℕ → Option (List ℕ)) (punctuation_of : T → ℕ → Bool) (x : Context T) where
  abbrev pub inline_step : Steps Inlines
  inline_step = step_by (bodies (texts_of x.tables) (punctuation_of x.tables) x)

  -- these are the events of the one reading of a text, from a state on
  pub record IsReading (first : InlineName) (machine : Inlines) (events : List Event) : Type 0 where
    pub config : Config Inlines
    pub well : Bool
    pub runs : Runs (text_of x.bytes) inline_step (fresh_config text_start machine) [] (states.Next (Inline first)) config well
    pub read : events ≡ config.events

  -- these are the events of that reading once its resolvers ran
  pub record IsResolved (first : InlineName) (machine : Inlines) (events : List Event) : Type 0 where
    pub read : Config Inlines
    pub runs : Runs (text_of x.bytes) inline_step (fresh_config text_start machine) [] (states.Next (Inline first)) read true
    pub are : events ≡ (resolve_all (inline_resolved (punctuation_of x.tables) x) read).config.events

  -- the events of a text, where contents that may begin with a check begin at the indices that are marked
  abbrev pub AreTextEvents : Bor (List Bool) → List Event → Type 0
  AreTextEvents starts events = IsReading state_inline.TextStart (record { starts = starts }) events

  -- the same, after the resolvers
  abbrev pub AreResolvedTextEvents : Bor (List Bool) → List Event → Type 0
  AreResolvedTextEvents starts events = IsResolved state_inline.TextStart (record { starts = starts }) events

  -- the events of a string
  abbrev pub AreStringEvents : List Event → Type 0
  AreStringEvents events = (machine : Inlines) × (machine.starts.now ≡ []) × IsReading state_inline.StringStart machine events

  -- the same, after the resolvers
  abbrev pub AreResolvedStringEvents : List Event → Type 0
  AreResolvedStringEvents events = (machine : Inlines) × (machine.starts.now ≡ []) × IsResolved state_inline.StringStart machine events
