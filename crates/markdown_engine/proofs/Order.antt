-- What was read to the end is balanced.
use Rattle.std.proofs.Common.{◌≡◌, ℕ, Bool, true, false, List, [], subst, inl, inr, ◌⊎◌}
use Rattle.markdown_engine.proofs.Prelude.{Attempt, end_state, HasEnded, HoldsAt, IsRefused, LawfulAt, RanksAt, State, Steps, Tokenizer, view_config}
use Rattle.markdown_engine.specs.Order.{AreWhole}

module _ {M V T A : Type 0} (view : M → V) (size : ℕ) (valid : HoldsAt V) (step : Steps V) (rank : RanksAt V) (lawful : LawfulAt size valid step rank)
    (t : Tokenizer M T A) where
  whole_at : (s : State) (well : Bool) → t.attempts.items ≡ [] → s ≡ end_state well → valid (view_config view t) t.attempts.items s
      → AreWhole t.events.items t.point
  whole_at s well e f v =
      let tidy = lawful.tidies (view_config view t) t.attempts.items s v in
      let last = subst (λ (z : List Attempt). valid (view_config view t) z (end_state well)) e
      (subst (λ (z : State). valid (view_config view t) t.attempts.items z) f v) in
      ((tidy.nested, lawful.closes (view_config view t) well last), tidy.order)

  ended_whole : (s : State) → HasEnded t s → valid (view_config view t) t.attempts.items s → AreWhole t.events.items t.point
  ended_whole s h v = elim h.state [ inl e ↦ whole_at s true h.attempts e v | inr e ↦ whole_at s false h.attempts e v ]

  pub read_whole : (s : State) → IsRefused s ⊎ valid (view_config view t) t.attempts.items s → IsRefused s ⊎ HasEnded t s
      → IsRefused s ⊎ AreWhole t.events.items t.point
  read_whole s (inl r) h = inl r
  read_whole s (inr v) (inl r) = inl r
  read_whole s (inr v) (inr h) = inr (ended_whole s h v)
