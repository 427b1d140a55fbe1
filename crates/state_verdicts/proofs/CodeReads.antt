-- Code spans and math are spans of their byte.
use Rattle.std.proofs.Common.{◌≡◌, ◌∙◌, ℕ, suc, Bool, true, false, not, ◌==◌, ◌&&◌, ◌||◌, if◌then◌else◌, ◌∷◌, List, Option, Some, None, refl, sym, ap, subst}
use Rattle.state_verdicts.proofs.Prelude.{as_byte, at_byte, begins_run, Config, Context, Inlines, next, of_span, plain, Point, raw_at, retry, run, run_length}
use Rattle.state_verdicts.proofs.Prelude.{SpanVerdict, Text, with_byte}
use Rattle.definition_inline.specs.MathText.{may_open_math}
use Rattle.engine_states.specs.declared.state.Inline.TheVariants as state_inline
use Rattle.engine_states.specs.declared.state.Name.TheVariants.{Inline}
use Rattle.engine_states.specs.declared.state.State.TheVariants as states
use Rattle.state_inline.specs.Inlines.{bodies}
use Rattle.state_verdicts.specs.CodeText.{CodeTextVerdict, code_names}
use Rattle.state_verdicts.specs.MathText.{MathTextVerdict, math_names}
use Rattle.state_verdicts.specs.Verdicts.{Reads}
use Rattle.state_verdicts.proofs.RawStates
use Rattle.state_verdicts.proofs.SpanReads.{full_run, refused, span_verdict}

always : (on : Bool) → (on && true) ≡ on
always true = refl
always false = refl

-- one dollar alone opens math only where that is asked for
alone : (on single one : Bool) → (on && not (one && not single)) ≡ (on && (single || not one))
alone false single one = refl
alone true true true = refl
alone true true false = refl
alone true false true = refl
alone true false false = refl

module _ {T : Type 0} (texts : List ℕ → Option (List ℕ)) (is_punctuation : ℕ → Bool) (x : Context T) (text : Text) where
  code_starts : (c : Config Inlines) (p q : Point) (on b : Bool) → x.options.constructs.code_text ≡ on → begins_run 96 c ≡ b
      → run (bodies texts is_punctuation x (Inline state_inline.RawTextStart)) (with_byte c p (Some (as_byte 96 q)))
      ≡ (if on then (if b then plain (RawStates.opened code_names 96 (with_byte c p (Some (as_byte 96 q)))) (next state_inline.RawTextSequenceOpen)
      else plain (with_byte c p (Some (as_byte 96 q))) states.Nok) else plain (with_byte c p (Some (as_byte 96 q))) states.Nok)
  unfolding bodies
  code_starts c p q on b h k = rw (h, k) refl

  math_starts : (c : Config Inlines) (p q : Point) (on b : Bool) → x.options.constructs.math_text ≡ on → begins_run 36 c ≡ b
      → run (bodies texts is_punctuation x (Inline state_inline.RawTextStart)) (with_byte c p (Some (as_byte 36 q)))
      ≡ (if on then (if b then plain (RawStates.opened math_names 36 (with_byte c p (Some (as_byte 36 q)))) (next state_inline.RawTextSequenceOpen)
      else plain (with_byte c p (Some (as_byte 36 q))) states.Nok) else plain (with_byte c p (Some (as_byte 36 q))) states.Nok)
  unfolding bodies
  math_starts c p q on b h k = rw (h, k) refl

  may_open : (cs : List ℕ)
      → (x.options.constructs.math_text && not (refused texts is_punctuation x text math_names 36 refl refl refl refl refl (suc (run_length 36 cs))))
      ≡ may_open_math x.options (run_length 36 (36 ∷ cs))
  may_open cs =
      alone x.options.constructs.math_text x.options.math_text_single_dollar (suc (run_length 36 cs) == 1)
      ∙ sym (ap (may_open_math x.options) (full_run 36 cs))

pub code_text : (T : Type 0) → CodeTextVerdict T
code_text T texts is_punctuation x text c p q cs few s =
    subst
    (λ (on : Bool). SpanVerdict text (Reads texts is_punctuation x text (at_byte c p 96 q) (retry state_inline.RawTextStart)) code_names 96 (at_byte c p 96 q)
    p q (96 ∷ cs) (if begins_run 96 c then of_span (raw_at 96 on (96 ∷ cs)) else None))
    (always x.options.constructs.code_text)
    (span_verdict texts is_punctuation x text code_names 96 refl refl refl refl refl c p q cs few s x.options.constructs.code_text
    (code_starts texts is_punctuation x text c p q))

pub math_text : (T : Type 0) → MathTextVerdict T
math_text T texts is_punctuation x text c p q cs few s =
    subst
    (λ (on : Bool). SpanVerdict text (Reads texts is_punctuation x text (at_byte c p 36 q) (retry state_inline.RawTextStart)) math_names 36 (at_byte c p 36 q)
    p q (36 ∷ cs) (if begins_run 36 c then of_span (raw_at 36 on (36 ∷ cs)) else None))
    (may_open texts is_punctuation x text cs)
    (span_verdict texts is_punctuation x text math_names 36 refl refl refl refl refl c p q cs few s x.options.constructs.math_text
    (math_starts texts is_punctuation x text c p q))
