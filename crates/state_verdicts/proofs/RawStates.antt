-- What the states of code and math do at each byte.
use Rattle.std.proofs.Common.{◌≡◌, ℕ, Bool, true, false, not, ◌==◌, ◌&&◌, ◌||◌, if◌then◌else◌, List, Option, Some, None, refl}
use Rattle.std.proofs.lemmas.Bool.{not-false}
use Rattle.engine_events.specs.declared.event.Name.TheVariants as names
use Rattle.engine_states.specs.declared.state.Inline.TheVariants as state_inline
use Rattle.engine_states.specs.declared.state.Name.TheVariants.{Inline}
use Rattle.engine_states.specs.declared.state.State.TheVariants as states
use Rattle.state_verdicts.proofs.Prelude.{Config, Context, has, Inlines, is_other, more, next, past_byte, plain, retry, run, SpanNames, spanning, with_enter}
use Rattle.state_verdicts.proofs.Prelude.{with_exit}
use Rattle.state_inline.specs.Inlines.{bodies}

-- over a line ending
abbrev pub line_over : Config Inlines → Config Inlines
line_over c = with_exit names.LineEnding (past_byte (with_enter names.LineEnding None c))

-- over the first byte of a run
abbrev pub run_begun : Config Inlines → Config Inlines
run_begun c = past_byte (with_enter c.tokenize_state.token_2 None (record c { tokenize_state = record c.tokenize_state { size_b = 1 } }))

-- over a further one
abbrev pub run_longer : Config Inlines → Config Inlines
run_longer c = past_byte (record c { tokenize_state = record c.tokenize_state { size_b = more c.tokenize_state.size_b } })

abbrev pub opening_longer : Config Inlines → Config Inlines
opening_longer c = past_byte (record c { tokenize_state = record c.tokenize_state { size = more c.tokenize_state.size } })

-- over the first byte of what stands between runs
abbrev pub others_begun : Config Inlines → Config Inlines
others_begun c = past_byte (with_enter c.tokenize_state.token_3 None c)

-- over the first byte of all
abbrev pub opened : SpanNames → ℕ → Config Inlines → Config Inlines
opened given m c =
    past_byte (with_enter given.sequence None (with_enter given.whole None (record c { tokenize_state = spanning given m 1 0 c.tokenize_state })))

module _ {T : Type 0} (texts : List ℕ → Option (List ℕ)) (is_punctuation : ℕ → Bool) (x : Context T) where
  pub between_ends : (c : Config Inlines) → c.current ≡ None → run (bodies texts is_punctuation x (Inline state_inline.RawTextBetween)) c ≡ plain c states.Nok
  unfolding bodies
  between_ends c h = rw h refl

  pub between_line : (c : Config Inlines) → c.current ≡ Some 10 → run (bodies texts is_punctuation x (Inline state_inline.RawTextBetween)) c
      ≡ plain (line_over c) (next state_inline.RawTextBetween)
  unfolding bodies
  between_line c h = rw h refl

  pub between_run : (b : ℕ) (c : Config Inlines) → c.current ≡ Some b → (b == 10) ≡ false → (b == c.tokenize_state.marker) ≡ true
      → run (bodies texts is_punctuation x (Inline state_inline.RawTextBetween)) c ≡ plain (run_begun c) (next state_inline.RawTextSequenceClose)
  unfolding bodies
  between_run b c h k l = rw (h, k, l) refl

  pub between_others : (b : ℕ) (c : Config Inlines) → c.current ≡ Some b → (b == 10) ≡ false → (b == c.tokenize_state.marker) ≡ false
      → run (bodies texts is_punctuation x (Inline state_inline.RawTextBetween)) c ≡ plain (others_begun c) (next state_inline.RawTextData)
  unfolding bodies
  between_others b c h k l = rw (h, k, l) refl

  pub data_longer : (b : ℕ) (c : Config Inlines) → c.current ≡ Some b → ((b == 10) || (b == c.tokenize_state.marker)) ≡ false
      → run (bodies texts is_punctuation x (Inline state_inline.RawTextData)) c ≡ plain (past_byte c) (next state_inline.RawTextData)
  unfolding bodies
  data_longer b c h k = rw (h, k) refl

  pub data_ends : (c : Config Inlines) (v : Option ℕ) → c.current ≡ v → has (is_other c.tokenize_state.marker) v ≡ false
      → run (bodies texts is_punctuation x (Inline state_inline.RawTextData)) c
      ≡ plain (with_exit c.tokenize_state.token_3 c) (retry state_inline.RawTextBetween)
  unfolding bodies
  data_ends c None h k = rw h refl
  data_ends c (Some b) h k = rw (h, not-false ((b == 10) || (b == c.tokenize_state.marker)) k) refl

  pub close_longer : (b : ℕ) (c : Config Inlines) → c.current ≡ Some b → (b == c.tokenize_state.marker) ≡ true
      → run (bodies texts is_punctuation x (Inline state_inline.RawTextSequenceClose)) c ≡ plain (run_longer c) (next state_inline.RawTextSequenceClose)
  unfolding bodies
  close_longer b c h k = rw (h, k) refl

  pub close_ends : (c : Config Inlines) (v : Option ℕ) (is : Bool) → c.current ≡ v → has (λ b. b == c.tokenize_state.marker) v ≡ false
      → (c.tokenize_state.size == c.tokenize_state.size_b) ≡ is
      → run (bodies texts is_punctuation x (Inline state_inline.RawTextSequenceClose)) c
      ≡ (if is then plain (with_exit c.tokenize_state.token_1 (with_exit c.tokenize_state.token_2 c)) states.Ok
      else plain (with_exit c.tokenize_state.token_2 c) (retry state_inline.RawTextBetween))
  unfolding bodies
  close_ends c None is h k l = rw (h, l) refl
  close_ends c (Some b) is h k l = rw (h, k, l) refl

  pub opening_goes : (b : ℕ) (c : Config Inlines) → c.current ≡ Some b → (b == c.tokenize_state.marker) ≡ true
      → run (bodies texts is_punctuation x (Inline state_inline.RawTextSequenceOpen)) c ≡ plain (opening_longer c) (next state_inline.RawTextSequenceOpen)
  unfolding bodies
  opening_goes b c h k = rw (h, k) refl

  pub opening_none : (c : Config Inlines) → c.current ≡ None → run (bodies texts is_punctuation x (Inline state_inline.RawTextSequenceOpen)) c
      ≡ plain c states.Nok
  unfolding bodies
  opening_none c h = rw h refl

  pub opening_ends : (b : ℕ) (c : Config Inlines) (refused : Bool) → c.current ≡ Some b → (b == c.tokenize_state.marker) ≡ false
      → ((c.tokenize_state.marker == 36) && (c.tokenize_state.size == 1) && not x.options.math_text_single_dollar) ≡ refused
      → run (bodies texts is_punctuation x (Inline state_inline.RawTextSequenceOpen)) c
      ≡ (if refused then plain c states.Nok else plain (with_exit c.tokenize_state.token_2 c) (retry state_inline.RawTextBetween))
  unfolding bodies
  opening_ends b c refused h k l = rw (h, k, l) refl
