-- The bytes of sequences and calls.
use Rattle.std.proofs.Common.{◌≡◌, ◌<◌, ℕ, zero, suc, true, false, List, [], ◌∷◌, ◌++◌, length, take, drop, replicate, get_or, refl, sym, ap}
use Rattle.std.proofs.Common.{◌∙◌, subst, arith}
use Rattle.std.specs.Prelude.{◌==◌, slice_index, codes}
use Rattle.std.proofs.Math.Seq.{take-append_seam, drop-append_seam}
use Rattle.std.proofs.lemmas.Bool.{eqb-true, false≢true}
use Rattle.markdown_options.specs.declared.configuration.ParseOptions.{ParseOptions}
use Rattle.definition_text.specs.Content.{content_codes, is_eol}
use Rattle.definition_text.specs.InlineCode.{InlineCode}
use Rattle.definition_text.specs.Runs.{run}
use Rattle.definition_inline.specs.Attention.{has_span_size, is_whole, run_size}
use Rattle.definition_inline.proofs.Markers.{of_marker}
use Rattle.inline_leaves.proofs.Codes.{prefix_codes}
use Rattle.inline_runs.specs.View.{span_view}
use Rattle.inline_runs.specs.declared.pair.Span.{Span}
use Rattle.inline_runs.specs.declared.pair.Span.TheVariants.{Emphasis, Strong, Strikethrough, Mark}
use Rattle.parse_written.specs.Written.{AreCodes, EndNoLine, StartsSpan, call_codes}
use Rattle.parse_written.proofs.Forms.{run_of_codes}
use Rattle.parse_written.specs.Bytes.{AreBytesAt}
use Rattle.parse_written.specs.RowLaws.{SequenceLaw, CallBytesLaw}
use Rattle.parse_written.specs.Marks.{sequence_size, call_text}
use Rattle.inline_links.specs.Codes.{IsCut}
use Rattle.inline_links.proofs.Cuts.{cut_after, first_code}
use Rattle.parse_written.proofs.Bytes.{text_bytes_law}

-- ---- sequences

pub marks_inline : (size marker : ℕ) → is_eol marker ≡ false → EndNoLine (replicate size marker)
marks_inline zero marker inline = tt
marks_inline (suc n) marker inline = (inline, marks_inline n marker inline)

-- the tildes that come next
tildes : (size : ℕ) (bytes : List ℕ) (from : List InlineCode) → AreBytesAt bytes from → run_size 126 from ≡ size → size ≡ run 126 bytes
tildes size bytes from at whole =
    sym whole ∙ sym (run_of_codes 126 from) ∙ ap (run 126) at ∙ prefix_codes (λ c. c == 126) refl refl bytes

span_sized : (options : ParseOptions) (span : Span) (marker size : ℕ) (bytes : List ℕ) (from to : List InlineCode)
    → StartsSpan options (span_view span) marker size from to → AreBytesAt bytes from → size ≡ sequence_size span bytes
span_sized options Emphasis marker size bytes from to starts at = starts.sized.1
span_sized options Strong marker size bytes from to starts at = starts.sized.1
span_sized options Strikethrough marker size bytes from to starts at =
    let tilde : marker ≡ 126 = eqb-true marker 126 starts.sized.0 in
    let whole : is_whole marker ≡ true = ap is_whole tilde in
    tildes size bytes from at (ap (λ m. run_size m from) (sym tilde) ∙ starts.whole whole)
span_sized options Mark marker size bytes from to starts at =
    let equals : marker ≡ 61 = eqb-true marker 61 starts.sized.0 in
    eqb-true size 2 (ap (λ m. has_span_size options m size) (sym equals) ∙ starts.sized.1)

pub sequence_law : SequenceLaw
sequence_law context span marker size bytes from to starts at = (
  span_sized context.options span marker size bytes from to starts at,
  marks_inline size marker
      (of_marker context.options (λ code. is_eol code ≡ false) (λ _. refl) (λ _. refl) (λ _. refl) (λ _. refl) marker starts.marks),
)

-- ---- calls

-- a text and a byte after it, which is no LF
then_byte : (text : List ℕ) (b : ℕ) → (b ≡ 10 → ⊥) → (b ≡ 13 → ⊥) → content_codes (text ++ b ∷ []) ≡ content_codes text ++ b ∷ []
then_byte [] b no_feed no_return = first_code b [] (λ e f. no_return e)
then_byte (x ∷ xs) b no_feed no_return =
    let all = x ∷ (xs ++ b ∷ []) in
    let n = length xs in
    let cut : IsCut all (suc n) = cut_after n all apart in
    let front : take (suc n) all ≡ x ∷ xs = ap (λ ys. x ∷ ys) (take-append_seam xs (b ∷ [])) in
    let back : drop (suc n) all ≡ b ∷ [] = drop-append_seam xs (b ∷ []) in
    cut ∙ ap (λ ys. content_codes ys ++ content_codes (drop (suc n) all)) front ∙ ap (λ ys. content_codes (x ∷ xs) ++ content_codes ys) back
    ∙ ap (λ ys. content_codes (x ∷ xs) ++ ys) (first_code b [] (λ e f. no_return e))
  where
    at_end : (ys : List ℕ) → get_or (ys ++ b ∷ []) (length ys) 0 ≡ b
    at_end [] = refl
    at_end (y ∷ ys) = at_end ys

    apart : get_or (x ∷ (xs ++ b ∷ [])) (length xs) 0 ≡ 13 → get_or (x ∷ (xs ++ b ∷ [])) (suc (length xs)) 0 ≡ 10 → ⊥
    apart return feed = no_feed (sym (at_end xs) ∙ feed)

call_in_codes : (label : List ℕ) → content_codes (call_text label) ≡ call_codes (content_codes label)
call_in_codes label = ap (λ xs. 91 ∷ 94 ∷ xs) (then_byte label 93 (λ e. false≢true (ap (λ x. x == 10) e)) (λ e. false≢true (ap (λ x. x == 13) e)))

small_end : (label : List ℕ) → ((k : ℕ) → slice_index label k < 256) → (k : ℕ) → slice_index (label ++ 93 ∷ []) k < 256
small_end [] small zero = omega arith
small_end [] small (suc k) = small k
small_end (x ∷ xs) small zero = small 0
small_end (x ∷ xs) small (suc k) = small_end xs (λ i. small (suc i)) k

small_call : (label : List ℕ) → ((k : ℕ) → slice_index label k < 256) → (k : ℕ) → slice_index (call_text label) k < 256
small_call label small zero = omega arith
small_call label small (suc zero) = omega arith
small_call label small (suc (suc k)) = small_end label small k

pub call_bytes_law : CallBytesLaw
call_bytes_law label bytes from to small within at codes =
    text_bytes_law (call_text label) bytes from to (small_call label small) within at
    (subst (λ xs. AreCodes xs from to) (sym (call_in_codes label)) codes)
