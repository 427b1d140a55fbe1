-- Verbatim text, line by line: each LF in it is a row that is no text (CommonMark 6.8).
use Rattle.std.proofs.Common.{◌≡◌, ◌+◌, ◌<◌, ◌≤◌, ℕ, zero, suc, List, [], ◌∷◌, ◌++◌, Bool, true, false, not, ◌||◌, eqb, cond, inl, inr, refl, sym, ap, ap₂, ◌∙◌}
use Rattle.std.proofs.Common.{add-one, append_assoc, arith, drop, length, subst, take}
use Rattle.inline_addresses.proofs.Prelude.{cases_Bool, data_rows, IsCharBoundary-after_ascii, IsNext, IsUtf8, length-drop, lines_rows, linked_rows, Part}
use Rattle.inline_addresses.proofs.Prelude.{row_depth}
use Rattle.std.specs.List.{position_or_len}
use Rattle.std.specs.Str.{IsCharBoundary}
use Rattle.std.proofs.lemmas.Bool.{eqb-true}
use Rattle.std.proofs.lemmas.List.{drop_at, drop_more, drop-drop, length-append, length-take-le, take_all, take-append-drop, take-append-le}
use Rattle.definition_inline.specs.Inline.{LineEnd}
use Rattle.inline_leaves.specs.declared.leaf.LeafPart.{LeafPart}
use Rattle.inline_rows.specs.InlineRows as rows
use Rattle.inline_rows.specs.declared.row.InlineRow.TheVariants as row
use Rattle.inline_rows.proofs.LineEnding.{byte_leaf}
use Rattle.inline_addresses.specs.Addresses.{EndsLine}
use Rattle.inline_addresses.proofs.Walks.{run_longer, take_more}

-- ---- the first LF

-- an LF, which is both of a pair
abbrev is_feed : ℕ → Bool
is_feed b = eqb b 10 || eqb b 10

first_place : (b : ℕ) (bs : List ℕ) → eqb b 10 ≡ true → position_or_len is_feed (b ∷ bs) ≡ 0
first_place b bs is = ap (λ x. cond (not (x || x)) (1 + position_or_len is_feed bs) 0) is

later_place : (b : ℕ) (bs : List ℕ) → eqb b 10 ≡ false → position_or_len is_feed (b ∷ bs) ≡ suc (position_or_len is_feed bs)
later_place b bs other =
    let n = position_or_len is_feed bs in
    let next : 1 + n ≡ suc n = omega arith in
    ap (λ x. cond (not (x || x)) (1 + n) 0) other ∙ next

feed_here : (b : ℕ) (bs : List ℕ) → b ≡ 10 → EndsLine (b ∷ bs) 0
feed_here b bs is = record { within = omega arith; feed = is; rows = ap (λ c. lines_rows (c ∷ bs)) is }

feed_later : (b : ℕ) (bs : List ℕ) (at : ℕ) → eqb b 10 ≡ false → EndsLine bs at → EndsLine (b ∷ bs) (suc at)
feed_later b bs at other ends =
    let later : drop (at + 1) bs ≡ drop (suc at + 1) (b ∷ bs) =
    ap (λ n. drop n bs) (add-one at) ∙ sym (ap (λ n. drop n (b ∷ bs)) (add-one (suc at))) in
    record {
      within = omega (arith, ends.within);
      feed = ends.feed;
      rows =
          ap₂ (λ leaf others. Part leaf ∷ others) (byte_leaf b other) ends.rows
          ∙ ap (λ more. data_rows (b ∷ take at bs) ++ Part (LineEnd 10) ∷ lines_rows more) later;
    }

-- the first place that is an LF ends a line
pub feed_ends : (bytes : List ℕ) → position_or_len is_feed bytes < length bytes → EndsLine bytes (position_or_len is_feed bytes)
feed_ends [] within = absurd (omega (arith, within))
feed_ends (b ∷ bs) within =
    elim (cases_Bool (eqb b 10)) [
      | inl is ↦ subst (EndsLine (b ∷ bs)) (sym (first_place b bs is)) (feed_here b bs (eqb-true b 10 is))
      | inr other ↦
          subst (EndsLine (b ∷ bs)) (sym (later_place b bs other))
          (feed_later b bs (position_or_len is_feed bs) other (feed_ends bs (omega (arith, within, later_place b bs other))))
    ]

-- where none is an LF, all is one line
pub no_feed : (bytes : List ℕ) → length bytes ≤ position_or_len is_feed bytes → lines_rows bytes ≡ data_rows bytes
no_feed [] past = refl
no_feed (b ∷ bs) past =
    elim (cases_Bool (eqb b 10)) [
      | inl is ↦ absurd (omega (arith, past, first_place b bs is))
      | inr other ↦
          ap₂ (λ leaf others. Part leaf ∷ others) (byte_leaf b other) (no_feed bs (omega (arith, past, later_place b bs other)))
    ]

-- ---- texts and places

-- an LF comes next after the line, and then what is left
pub feed_ahead : (text rest later : List ℕ) (size at : ℕ) → EndsLine rest at → drop size text ≡ rest ++ later
    → drop (size + at) text ≡ 10 ∷ (drop (at + 1) rest ++ later)
feed_ahead text rest later size at ends same =
    let line = take at rest in
    let more = drop (at + 1) rest in
    let split : rest ≡ line ++ 10 ∷ more =
    sym (take-append-drop at rest) ∙ ap (λ l. line ++ l) (drop_more rest at 0 ends.within ∙ ap (λ b. b ∷ more) ends.feed) in
    sym (drop-drop at size text)
    ∙ ap (drop at) (same ∙ ap (λ l. l ++ later) split ∙ append_assoc line (10 ∷ more) later)
    ∙ drop_at line (10 ∷ (more ++ later)) at (length-take-le at rest (omega (arith, ends.within)))

-- what is left is within the text
pub feed_within : (text rest later : List ℕ) (size : ℕ) → size ≤ length text → drop size text ≡ rest ++ later → size + length rest ≤ length text
feed_within text rest later size within same =
    omega (arith, within, sym (length-drop size text) ∙ ap length same ∙ length-append rest later)

-- the LF comes next after the line
pub feed_next : (text rest later : List ℕ) (size at : ℕ) → size + length rest ≤ length text → EndsLine rest at → drop size text ≡ rest ++ later
    → IsNext text (size + at) (10 ∷ [])
feed_next text rest later size at within ends same = record {
  within = omega (arith, within, ends.within);
  same = ap (take 1) (feed_ahead text rest later size at ends same);
}

-- what comes after a text that comes next
pub next_split : (text : List ℕ) (size : ℕ) (next : List ℕ) → IsNext text size next → drop size text ≡ next ++ drop (length next) (drop size text)
next_split text size next is =
    sym (take-append-drop (length next) (drop size text)) ∙ ap (λ l. l ++ drop (length next) (drop size text)) is.same

-- what comes after all that is left
pub left_over : (text rest later : List ℕ) (size : ℕ) → drop size text ≡ rest ++ later → drop (size + length rest) text ≡ later
left_over text rest later size same = sym (drop-drop (length rest) size text) ∙ ap (drop (length rest)) same ∙ drop_at rest later (length rest) refl

-- an LF is the end of a character
pub feed_end : (text : List ℕ) (at : ℕ) → IsUtf8 text → EndsLine text at → IsCharBoundary text (at + 1)
feed_end text at utf8 ends = IsCharBoundary-after_ascii text at utf8 ends.within (omega (arith, ends.feed))

-- ---- rows

-- a leaf opens nothing, and closes nothing
pub leaf_depth : (n : ℕ) (p : LeafPart) → row_depth n (row.Leaf p) ≡ n
leaf_depth zero p = refl
leaf_depth (suc n) p = refl

-- the bytes that come next make the run longer
longer_run : (text rest later : List ℕ) (size at : ℕ) → at ≤ length rest → drop size text ≡ rest ++ later
    → take (size + at) text ≡ take size text ++ take at rest
longer_run text rest later size at within same =
    take_more size at text ∙ ap (λ l. take size text ++ l) (ap (take at) same ∙ take-append-le at rest later within)

module _ (n : ℕ) (text rest later : List ℕ) (size : ℕ) (same : drop size text ≡ rest ++ later) where
  -- a line and the LF after it
  pub line_walked : (at : ℕ) (end : List rows.InlineRow) → EndsLine rest at
      → linked_rows n (take (size + at) text) (Part (LineEnd 10) ∷ (lines_rows (drop (at + 1) rest) ++ end))
      ≡ linked_rows n (take size text) (lines_rows rest ++ end)
  line_walked at end ends =
      let run = take size text in
      let line = take at rest in
      let feed = Part (LineEnd 10) ∷ lines_rows (drop (at + 1) rest) in
      ap (λ l. linked_rows n l (feed ++ end)) (longer_run text rest later size at (omega (arith, ends.within)) same)
      ∙ sym (run_longer n run line (feed ++ end))
      ∙ ap (linked_rows n run) (sym (append_assoc (data_rows line) feed end))
      ∙ ap (λ l. linked_rows n run (l ++ end)) (sym ends.rows)

  -- the last line
  pub last_walked : (end : List rows.InlineRow) → lines_rows rest ≡ data_rows rest
      → linked_rows n (take (size + length rest) text) end ≡ linked_rows n (take size text) (lines_rows rest ++ end)
  last_walked end none =
      let run = take size text in
      ap (λ l. linked_rows n l end)
      (longer_run text rest later size (length rest) (omega arith) same ∙ ap (λ l. run ++ l) (take_all (length rest) rest (omega arith)))
      ∙ sym (run_longer n run rest end)
      ∙ ap (λ l. linked_rows n run (l ++ end)) (sym none)
