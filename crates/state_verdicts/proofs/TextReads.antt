-- Before a part that begins with another byte, and at the text's end.
use Rattle.std.proofs.Common.{◌≡◌, ℕ, Bool, true, false, ◌==◌, List, [], ◌∷◌, Option, Some, None, refl}
use Rattle.state_verdicts.proofs.Prelude.{as_byte, byte_at, Config, Context, ends-ok, Inlines, list_any, or_parts, plain, Point, retry, run, Text, with_byte}
use Rattle.engine_states.specs.declared.resolve.Name.TheVariants as resolvers
use Rattle.engine_states.specs.declared.state.Inline.TheVariants as state_inline
use Rattle.engine_states.specs.declared.state.Name.TheVariants.{Inline}
use Rattle.engine_states.specs.declared.state.State.TheVariants as states
use Rattle.markdown_engine.specs.Machine.{to_run_last}
use Rattle.state_inline.specs.Inlines.{bodies}
use Rattle.state_verdicts.specs.Text.{ChoiceLaw, DataChoice, TextEndVerdict, first_bytes}
use Rattle.state_verdicts.proofs.ChoiceReads.{choice, go_on}
use Rattle.state_verdicts.proofs.Turns.{on_next}

-- a byte is none of these
Apart : ℕ → List ℕ → Type 0
Apart b [] = Unit {0}
Apart b (m ∷ ms) = ((b == m) ≡ false) × Apart b ms

apart : (b : ℕ) (ms : List ℕ) → list_any (λ m. b == m) ms ≡ false → Apart b ms
unfolding Apart
apart b [] h = tt
apart b (m ∷ ms) h = let parts = or_parts (b == m) (list_any (λ n. b == n) ms) h in (parts.0, apart b ms parts.1)

module _ {T : Type 0} (texts : List ℕ → Option (List ℕ)) (is_punctuation : ℕ → Bool) (x : Context T) (text : Text) where
  at_other : (c : Config Inlines) (b : ℕ) (q : Point) → Apart b first_bytes
      → run (bodies texts is_punctuation x (Inline state_inline.TextBefore)) (byte_at text c b q)
      ≡ plain (byte_at text c b q) (retry state_inline.TextBeforeData)
  unfolding bodies Apart
  at_other c b q (h1, (h2, (h3, (h4, (h5, (h6, (h7, (h8, (h9, (h10, (h11, (h12, (h13, (h14, (h15, (h16, _)))))))))))))))) =
      rw (h1, h2, h3, h4, h5, h6, h7, h8, h9, h10, h11, h12, h13, h14, h15, h16) refl

  at_end : (c : Config Inlines) → run (bodies texts is_punctuation x (Inline state_inline.TextBefore)) (with_byte c (text.start c.point) None)
      ≡ plain (to_run_last resolvers.Text (to_run_last resolvers.Data (with_byte c (text.start c.point) None))) states.Ok
  unfolding bodies
  at_end c = refl

pub choice_law : (T : Type 0) → ChoiceLaw T
choice_law T texts is_punctuation x text c b q s start other stands does =
    choice texts is_punctuation x text c (Some (as_byte b q)) s other (retry start) stands does

pub data_choice : (T : Type 0) → DataChoice T
data_choice T texts is_punctuation x text c b q stands other =
    go_on texts is_punctuation x text c (byte_at text c b q) state_inline.TextBefore (Some (as_byte b q)) (retry state_inline.TextBeforeData) stands
    (at_other texts is_punctuation x text c b q (apart b first_bytes other))

pub text_end : (T : Type 0) → TextEndVerdict T
text_end T texts is_punctuation x text c stands =
    on_next texts is_punctuation x text (Inline state_inline.TextBefore) c
    (to_run_last resolvers.Text (to_run_last resolvers.Data (with_byte c (text.start c.point) None))) None true
    (plain (to_run_last resolvers.Text (to_run_last resolvers.Data (with_byte c (text.start c.point) None))) states.Ok) stands
    (at_end texts is_punctuation x text c) ends-ok
