-- Text in which an LF is a soft line break, from one line to the next (CommonMark 6.8).
use Rattle.std.proofs.Common.{inl, inr, ◌≡◌, ◌+◌, ◌<◌, ℕ, List, [], ◌∷◌, ◌++◌, drop, length, take, refl, sym, ap, subst, ◌∙◌, arith}
use Rattle.std.specs.Borrow.{Bor}
use Rattle.parse_inline.proofs.Prelude.{AreBytesAt, cases_Bool, cases_lt, cond-false, Constructs, Data, eqb-true, InlineCode, InlineContext, IsCharBoundary}
use Rattle.parse_inline.proofs.Prelude.{IsInRows, IsPartLaid, IsUtf8, IsWhole, length-take-le, LineEnd, Names, position_or_len, slice_index}
use Rattle.parse_inline.proofs.Prelude.{StandsInContent, Stop, Walk, WritesPart, ◌==◌}
use Rattle.std.proofs.lemmas.Bool.{or_cases}
use Rattle.std.proofs.lemmas.List.{drop_more}
use Rattle.std.proofs.lemmas.List.Sums.{passes_at_first}
use Rattle.std.proofs.lemmas.Str.{IsCharBoundary-after_ascii, IsCharBoundary-before_ascii, IsCharBoundary-end, IsUtf8-drop, IsUtf8-take}
use Rattle.markdown_options.specs.declared.line_ending.LineEnding.TheVariants.{LineFeed}
use Rattle.inline_leaves.specs.declared.leaf.LeafPart.TheVariants as leaf
use Rattle.inline_rows.specs.InlineRows as seen
use Rattle.inline_rows.specs.View.{data_rows, lines_rows}
use Rattle.parse_inline.specs.Rows.{PassesLines}
use Rattle.parse_inline.proofs.Calls.{DoesData}
use Rattle.parse_inline.proofs.InRows.{leaf_passes, text_passes}
use Rattle.parse_inline.proofs.Runs.{first_mark, is_mark, mark_within, other_mark}

-- ---- the bytes of a line

-- how many bytes come before the first LF
abbrev pub line_size : List ℕ → ℕ
line_size bs = position_or_len (is_mark 10) bs

-- they are data, and lines come after them
first_line : (bs : List ℕ) (rows : List seen.InlineRow)
    → lines_rows bs ++ rows ≡ data_rows (take (line_size bs) bs) ++ (lines_rows (drop (line_size bs) bs) ++ rows)
first_line [] rows = refl
first_line (b ∷ bs) rows = elim (cases_Bool (b == 10)) [
  | inl feed ↦ ap (λ k. data_rows (take k (b ∷ bs)) ++ (lines_rows (drop k (b ∷ bs)) ++ rows)) (sym (first_mark 10 b bs feed))
  | inr other ↦
      ap (λ l. seen.Part l ∷ (lines_rows bs ++ rows)) (cond-false (b == 10) (LineEnd 10) (Data b) other)
      ∙ ap (λ rs. seen.Part (Data b) ∷ rs) (first_line bs rows)
      ∙ ap (λ k. data_rows (take k (b ∷ bs)) ++ (lines_rows (drop k (b ∷ bs)) ++ rows)) (sym (other_mark 10 b bs other))
]

feed_at : (bs : List ℕ) → line_size bs < length bs → slice_index bs (line_size bs) ≡ 10
feed_at bs some = elim (or_cases (slice_index bs (line_size bs) == 10) (slice_index bs (line_size bs) == 10) (passes_at_first (is_mark 10) bs 0 some)) [
  | inl is ↦ eqb-true (slice_index bs (line_size bs)) 10 is
  | inr is ↦ eqb-true (slice_index bs (line_size bs)) 10 is
]

-- an LF comes next, unless the bytes end there
pub feed_next : (bs : List ℕ) → line_size bs < length bs → drop (line_size bs) bs ≡ 10 ∷ drop (line_size bs + 1) bs
feed_next bs some = drop_more bs (line_size bs) 0 some ∙ ap (λ b. b ∷ drop (line_size bs + 1) bs) (feed_at bs some)

-- whole characters before it, and after it
line_cut : (bs : List ℕ) → IsCharBoundary bs (line_size bs)
line_cut bs = elim (cases_lt (line_size bs) (length bs)) [
  | inl within ↦ IsCharBoundary-before_ascii bs (line_size bs) within (omega (arith, feed_at bs within))
  | inr all ↦
      let is : length bs ≡ line_size bs = omega (arith, all, mark_within 10 bs) in
      subst (IsCharBoundary bs) is (IsCharBoundary-end bs)
]

pub after_utf8 : (bs : List ℕ) → IsUtf8 bs → line_size bs < length bs → IsUtf8 (drop (line_size bs + 1) bs)
after_utf8 bs utf8 some =
    IsUtf8-drop bs (line_size bs + 1) utf8 (IsCharBoundary-after_ascii bs (line_size bs) utf8 some (omega (arith, feed_at bs some)))

-- ---- what is written

-- a text as a row has it
abbrev borrowed : List ℕ → Bor (List ℕ)
borrowed bytes = record { ref_ptr = (0, 0); now = bytes }

module _ {A : Type 0} (on : Constructs) (names : Names) (content text : List ℕ) where
  pub lines_begin : (w : Walk A) → PassesLines on names content text text w w
  lines_begin w = record { passes = λ s first rows held by st. st }

  -- the bytes of a line
  pub line_done : (bs : List ℕ) (size : ℕ) (first_walk old new : Walk A) → size ≡ line_size bs → IsUtf8 bs → DoesData size old new
      → PassesLines on names content text bs first_walk old → PassesLines on names content text (drop (line_size bs) bs) first_walk new
  line_done bs size first_walk old new sized utf8 does p = record {
    passes = λ s first rows held by st.
        text_passes s first (borrowed (take (line_size bs) bs)) size (lines_rows (drop (line_size bs) bs) ++ rows) held old new
        (sized ∙ sym (length-take-le (line_size bs) bs (mark_within 10 bs))) (IsUtf8-take bs (line_size bs) utf8 (line_cut bs)) does
        (subst (λ rs. IsInRows s first rs held old) (first_line bs rows) (p.passes s first rows held by st));
  }

  -- a soft line break
  pub break_done : (bs after : List ℕ) (first_walk old new : Walk A) → bs ≡ 10 ∷ after
      → ((context : InlineContext) (text bytes : List ℕ) (from to : List InlineCode) (stop : Stop) → bytes ≡ drop old.place content
      → IsPartLaid context (leaf.LineEnd LineFeed) from to → AreBytesAt bytes from → StandsInContent text bytes stop old → IsWhole old
      → WritesPart context.options.constructs context.names text bytes (leaf.LineEnd LineFeed) to stop old new)
      → PassesLines on names content text bs first_walk old → PassesLines on names content text after first_walk new
  break_done bs after first_walk old new next does p = record {
    passes = λ s first rows held by st.
        leaf_passes s first (leaf.LineEnd LineFeed) (lines_rows after ++ rows) held old new content by.over does
        (subst (λ xs. IsInRows s first (lines_rows xs ++ rows) held old) next (p.passes s first rows held by st));
  }
