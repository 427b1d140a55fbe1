-- What reading a text by a machine gives.
use Rattle.std.specs.Prelude.{◌≡◌, ℕ, Bool, List, [], MatchOption, Option}
use Rattle.engine_events.specs.declared.event.Content.{Content}
use Rattle.engine_events.specs.declared.event.Event.{Event}
use Rattle.engine_states.specs.declared.state.Name.{Name}
use Rattle.engine_states.specs.declared.state.State.TheVariants as states
use Rattle.engine_states.specs.declared.subresult.Subresult.{Subresult}
use Rattle.markdown_engine.specs.Chains.{AreReadable, SubtokenizesIn}
use Rattle.markdown_engine.specs.Context.{Context}
use Rattle.markdown_engine.specs.Machine.{fresh_config}
use Rattle.markdown_engine.specs.Order.{text_start}
use Rattle.markdown_engine.specs.Reading.{Config, Runs, Steps}
use Rattle.markdown_engine.specs.Resolving.{Resolves, found_in}
use Rattle.markdown_engine.specs.VirtualText.{whole_text}

-- these are the events of the one reading of a text, from a state on
pub record IsReading {M : Type 0} (step : Steps M) (first : Name) (bytes : List ℕ) (machine : M) (events : List Event) : Type 0 where
  pub config : Config M
  pub well : Bool
  pub runs : Runs (whole_text bytes) step (fresh_config text_start machine) [] (states.Next first) config well
  pub read : events ≡ config.events

-- the chains that are asked for were read where they can be; otherwise the events are left
abbrev pub ReadsChains : {T M A : Type 0} → (Context T → Steps M) → (Context T → Resolves M) → Context T → M → Option Content → List Event → List Event
    → Option (Subresult A) → Type 0
ReadsChains step resolve x machine filter old new found = MatchOption found
    ((AreReadable x.bytes filter old → ⊥) × (new ≡ old))
    (λ result. AreReadable x.bytes filter old × SubtokenizesIn step resolve x machine filter old new (found_in result))
