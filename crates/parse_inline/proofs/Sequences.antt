-- Which bytes the sequences of spans and of raw text have (CommonMark 6.1 and 6.2, GFM 6.5).
use Rattle.std.proofs.Common.{inl, inr, ◌≡◌, ◌<◌, arith, ℕ, true, false, ◌&&◌, [], ◌∷◌, refl, ap, subst, ◌∙◌, replicate}
use Rattle.std.specs.Prelude.{◌==◌}
use Rattle.std.proofs.lemmas.Bool.{and_parts, eqb-true, or_cases, true≢false}
use Rattle.markdown_options.specs.declared.configuration.ParseOptions.{ParseOptions}
use Rattle.engine_events.specs.declared.event.Name.TheVariants as n
use Rattle.definition_inline.specs.Attention.{has_span_size, is_marker, is_whole}
use Rattle.definition_inline.proofs.Markers.{of_marker}
use Rattle.inline_runs.specs.View.{span_view}
use Rattle.inline_runs.specs.declared.pair.Span.{Span}
use Rattle.inline_runs.specs.declared.pair.Span.TheVariants as span
use Rattle.event_tokens.specs.Tokens.{is_token}
use Rattle.parse_written.specs.Written.{IsSequence}
use Rattle.parse_inline.specs.Leaving.{sequence_name}

emphasis_may : (options : ParseOptions) (marker : ℕ) → is_whole marker ≡ false → is_marker options marker ≡ true → is_token n.EmphasisSequence (marker ∷ []) ≡ true
emphasis_may options marker taken marks =
    of_marker options (λ code. is_whole code ≡ false → is_token n.EmphasisSequence (code ∷ []) ≡ true) (λ _ _. refl) (λ _ _. refl)
    (λ _ no. absurd (true≢false no)) (λ _ no. absurd (true≢false no)) marker marks taken

strong_may : (options : ParseOptions) (marker : ℕ) → is_whole marker ≡ false → is_marker options marker ≡ true
    → is_token n.StrongSequence (marker ∷ marker ∷ []) ≡ true
strong_may options marker taken marks =
    of_marker options (λ code. is_whole code ≡ false → is_token n.StrongSequence (code ∷ code ∷ []) ≡ true) (λ _ _. refl) (λ _ _. refl)
    (λ _ no. absurd (true≢false no)) (λ _ no. absurd (true≢false no)) marker marks taken

strikethrough_may : (options : ParseOptions) (size : ℕ) → has_span_size options 126 size ≡ true
    → is_token n.GfmStrikethroughSequence (replicate size 126) ≡ true
strikethrough_may options size sized = elim (or_cases (size == 2) (options.gfm_strikethrough_single_tilde && (size == 1)) sized) [
  | inl two ↦ ap (λ k. is_token n.GfmStrikethroughSequence (replicate k 126)) (eqb-true size 2 two)
  | inr one ↦
      ap (λ k. is_token n.GfmStrikethroughSequence (replicate k 126))
      (eqb-true size 1 (and_parts options.gfm_strikethrough_single_tilde (size == 1) one).1)
]

-- the sequence of a span may have its bytes
pub sequence_may : (options : ParseOptions) (s : Span) (marker size : ℕ) → IsSequence options (span_view s) marker size → is_marker options marker ≡ true
    → is_token (sequence_name s) (replicate size marker) ≡ true
sequence_may options span.Emphasis marker size is marks =
    ap (λ k. is_token n.EmphasisSequence (replicate k marker)) is.1 ∙ emphasis_may options marker is.0 marks
sequence_may options span.Strong marker size is marks =
    ap (λ k. is_token n.StrongSequence (replicate k marker)) is.1 ∙ strong_may options marker is.0 marks
sequence_may options span.Strikethrough marker size is marks =
    let tilde : marker ≡ 126 = eqb-true marker 126 is.0 in
    ap (λ m. is_token n.GfmStrikethroughSequence (replicate size m)) tilde
    ∙ strikethrough_may options size (subst (λ m. has_span_size options m size ≡ true) tilde is.1)
sequence_may options span.Mark marker size is marks =
    let equals : marker ≡ 61 = eqb-true marker 61 is.0 in
    ap (λ m. is_token n.MarkSequence (replicate size m)) equals
    ∙ ap (λ k. is_token n.MarkSequence (replicate k 61)) (eqb-true size 2 (subst (λ m. has_span_size options m size ≡ true) equals is.1))

some_tildes : (options : ParseOptions) (size : ℕ) → has_span_size options 126 size ≡ true → 0 < size
some_tildes options size sized = elim (or_cases (size == 2) (options.gfm_strikethrough_single_tilde && (size == 1)) sized) [
  | inl two ↦ omega (arith, eqb-true size 2 two)
  | inr one ↦ omega (arith, eqb-true size 1 (and_parts options.gfm_strikethrough_single_tilde (size == 1) one).1)
]

-- and it has some
pub sequence_some : (options : ParseOptions) (s : Span) (marker size : ℕ) → IsSequence options (span_view s) marker size → 0 < size
sequence_some options span.Emphasis marker size is = omega (arith, is.1)
sequence_some options span.Strong marker size is = omega (arith, is.1)
sequence_some options span.Strikethrough marker size is =
    let tilde : marker ≡ 126 = eqb-true marker 126 is.0 in some_tildes options size (subst (λ m. has_span_size options m size ≡ true) tilde is.1)
sequence_some options span.Mark marker size is =
    let equals : marker ≡ 61 = eqb-true marker 61 is.0 in
    omega (arith, eqb-true size 2 (subst (λ m. has_span_size options m size ≡ true) equals is.1))
