-- Reading by the states of texts, turn by turn.
use Rattle.std.proofs.Common.{◌≡◌, ℕ, Bool, List, Option, sym, subst}
use Rattle.state_verdicts.proofs.Prelude.{Config, Context, Effect, Inlines, Name, run, Text, VirtualByte, with_byte}
use Rattle.engine_states.specs.declared.state.State.TheVariants as states
use Rattle.markdown_engine.specs.Reading.{Runs, next, retry}
use Rattle.engine_programs.specs.Bodies.{step_by}
use Rattle.state_inline.specs.Inlines.{bodies}
use Rattle.state_verdicts.specs.Verdicts.{Reads}

module _ {T : Type 0} (texts : List ℕ → Option (List ℕ)) (is_punctuation : ℕ → Bool) (x : Context T) (text : Text) where
  -- reading goes on from what a state did
  abbrev pub RunsOn : Effect Inlines → Config Inlines → Bool → Type 0
  RunsOn e d w = Runs text (step_by (bodies texts is_punctuation x)) e.config e.pushed e.state d w

  -- the same byte is handed to a state
  pub on_retry : (n : Name) (c d : Config Inlines) (w : Bool) (e : Effect Inlines) → run (bodies texts is_punctuation x n) c ≡ e → RunsOn e d w
      → Reads texts is_punctuation x text c (states.Retry n) d w
  unfolding Reads
  on_retry n c d w e h r = retry (subst (λ (z : Effect Inlines). RunsOn z d w) (sym h) r)

  -- the next byte is, or the text's end
  pub on_next : (n : Name) (c d : Config Inlines) (v : Option VirtualByte) (w : Bool) (e : Effect Inlines) → text.byte (text.start c.point) ≡ v
      → run (bodies texts is_punctuation x n) (with_byte c (text.start c.point) v) ≡ e → RunsOn e d w
      → Reads texts is_punctuation x text c (states.Next n) d w
  unfolding Reads
  on_next n c d v w e h k r =
      next (subst (λ (z : Option VirtualByte). RunsOn (run (bodies texts is_punctuation x n) (with_byte c (text.start c.point) z)) d w) (sym h)
      (subst (λ (z : Effect Inlines). RunsOn z d w) (sym k) r))
