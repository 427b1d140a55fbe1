-- What the states of `attention` do.
use Rattle.std.specs.Prelude.{ℕ, refl, ◌==◌}
use Rattle.markdown_options.specs.declared.configuration.Constructs.{Constructs}
use Rattle.engine_events.specs.declared.event.Name.TheVariants as names
use Rattle.engine_states.specs.declared.resolve.Name.TheVariants as resolvers
use Rattle.engine_states.specs.declared.state.Inline.TheVariants as state_inline
use Rattle.engine_states.specs.declared.state.State.TheVariants as states
use Rattle.engine_programs.specs.Bodies.{FixedName, Body, Answer, Consume, Enter, Exit, Keep, Register, Byte, On, Test}
use Rattle.state_table.specs.Words.{next, at_marker}
use Rattle.definition_text.specs.Ascii.{asterisk, equals, underscore, tilde}

-- at the first byte of a run
abbrev pub attention_open : {M : Type 0} → ℕ → Body M
attention_open marker = Keep (λ c. record c.tokenize_state { marker = marker }) (λ c i. refl)
    (Enter (FixedName names.AttentionSequence) (Consume (Answer (next state_inline.AttentionInside))))

module _ {M : Type 0} where
  -- at a byte that may begin a run
  abbrev pub attention_start : Constructs → Body M
  attention_start constructs =
      Byte (Answer states.Nok)
      (On (λ b. b == asterisk) (Test (λ c. constructs.attention) (attention_open 42) (Answer states.Nok))
      (On (λ b. b == underscore) (Test (λ c. constructs.attention) (attention_open 95) (Answer states.Nok))
      (On (λ b. b == tilde) (Test (λ c. constructs.gfm_strikethrough) (attention_open 126) (Answer states.Nok))
      (On (λ b. b == equals) (Test (λ c. constructs.mark) (attention_open 61) (Answer states.Nok)) (Answer states.Nok)))))

  -- in a run
  abbrev pub attention_inside : Body M
  attention_inside =
      Byte (Register resolvers.Attention (Exit (FixedName names.AttentionSequence) (Answer states.Ok)))
      (Test at_marker (Consume (Answer (next state_inline.AttentionInside)))
      (Register resolvers.Attention (Exit (FixedName names.AttentionSequence) (Answer states.Ok))))
