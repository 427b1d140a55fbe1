-- Words of the inline states.
use Rattle.std.specs.Prelude.{ℕ, ◌+◌, ◌-◌, ◌^◌, min, Bool, false, refl, ◌==◌, ◌||◌}
use Rattle.engine_states.specs.declared.state.Inline.{Inline as InlineName}
use Rattle.engine_states.specs.declared.state.Name.TheVariants.{Inline}
use Rattle.engine_states.specs.declared.state.State.{State}
use Rattle.engine_states.specs.declared.state.State.TheVariants as states
use Rattle.markdown_engine.specs.Reading.{Config}
use Rattle.engine_programs.specs.Bodies.{Body, Keep, has}

-- the inline state that reads the next byte, or the same one
abbrev pub next : InlineName → State
next n = states.Next (Inline n)

abbrev pub retry : InlineName → State
retry n = states.Retry (Inline n)

-- one more, up to the most that a number of the program holds
abbrev pub more : ℕ → ℕ
more n = min (n + 1) (2 ^ 64 - 1)

-- one less, and no less than none
abbrev pub less : ℕ → ℕ
less n = n - 1

abbrev pub is_space_or_tab : ℕ → Bool
is_space_or_tab b = (b == 9) || (b == 32)

module _ {M : Type 0} where
  -- the byte at hand is the one that is looked for
  abbrev pub at_marker : Config M → Bool
  at_marker c = has (λ b. b == c.tokenize_state.marker) c.current

  -- one more is counted, and then this is done
  abbrev pub count_one : Body M → Body M
  count_one b = Keep (λ c. record c.tokenize_state { size = more c.tokenize_state.size }) (λ c i. refl) b

  -- what is counted starts at none, and then this is done
  abbrev pub count_anew : Body M → Body M
  count_anew b = Keep (λ c. record c.tokenize_state { size = 0 }) (λ c i. refl) b

  -- what is read next is joined to no chunk before, and then this is done
  abbrev pub disconnect : Body M → Body M
  disconnect b = Keep (λ c. record c.tokenize_state { connect = false }) (λ c i. refl) b
