-- The starts of labels, which may find their ends.
use Rattle.std.specs.Prelude.{ℕ, ◌-◌, false, [], ◌∷◌, ◌++◌, length, refl}
use Rattle.engine_states.specs.declared.label.LabelKind.{LabelKind}
use Rattle.engine_states.specs.declared.label.LabelStart.{LabelStart}
use Rattle.engine_states.specs.declared.resolve.Name.TheVariants as resolvers
use Rattle.engine_states.specs.declared.state.State.TheVariants as states
use Rattle.engine_programs.specs.Bodies.{Body, Answer, Keep, RegisterFirst}

-- the last events, so many of these
abbrev pub last_start : LabelKind → ℕ → ℕ → LabelStart
last_start kind size count = let start : LabelStart = record { kind = kind; start = (count - size, count - 1); inactive = false } in start

abbrev pub begin_label : {M : Type 0} → LabelKind → ℕ → Body M
begin_label kind size =
    Keep (λ c. record c.tokenize_state { label_starts = c.tokenize_state.label_starts ++ last_start kind size (length c.events) ∷ [] }) (λ c i. refl)
    (RegisterFirst resolvers.Label (Answer states.Ok))
