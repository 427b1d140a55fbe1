-- Rows that are written over others.
use Rattle.std.proofs.Common.{◌≡◌, ℕ, zero, suc, ◌+◌, ◌-◌, ◌<◌, ◌≤◌, List, [], ◌∷◌, ◌++◌, Bool, true, false, cond, map, refl, sym, ap, ap₂, ◌∙◌, length, get_or}
use Rattle.std.proofs.Common.{set, take, drop, replicate, arith, append_assoc}
use Rattle.inline_rows.proofs.Prelude.{append-nil, AreBytes, bytes_by, Closes, drop_all, drop_at, drop_more, flat_map-append, Holds, InlineRow, length-append}
use Rattle.inline_rows.proofs.Prelude.{length-drop, length-map, length-take-le, LinkTexts, Opens, pair_view, row_view, rows_needed, rows_of, rows_view}
use Rattle.inline_rows.proofs.Prelude.{RunSpans, span_of, span_row_rows, start_row, take_at, Target, text_of, told_rows, ◌==◌}
use Rattle.std.proofs.lemmas.List.{take_more, map-append, set-append_right}
use Rattle.std.proofs.lemmas.List.{take-append-drop, take-map, drop-map, take-replicate, drop-replicate}
use borrow.Rule.Slice.PartMut.{put_mid}
use Rattle.definition_inline.specs.Inline as inline
use Rattle.inline_rows.specs.InlineRows as rows
use Rattle.definition_inline.specs.GfmStrikethrough.{is_tilde}
use Rattle.definition_inline.specs.Mark.{is_equals}
use Rattle.definition_inline.proofs.DefinitionParts.{cons_nil}
use Rattle.inline_runs.specs.View.{span_by, span_view}
use Rattle.inline_runs.specs.declared.pair.Pair.{Pair}
use Rattle.inline_rows.specs.View.{data_rows}
use Rattle.inline_rows.specs.declared.row.InlineRow.TheVariants.{Text, Verbatim, Leaf, Spelled, EnterSpan, EnterLink, EnterImage, Call, Exit}

-- one more of the rows that are made of a list
pub one_more : {X Y : Type 0} (f : X → Y) (xs : List X) (old rows : List Y) (i : ℕ) (d : X) → length old ≡ length xs → i < length xs
    → rows ≡ map f (take i xs) ++ drop i old → set rows i (f (get_or xs i d)) ≡ map f (take (i + 1) xs) ++ drop (i + 1) old
one_more f xs old rows i d same lt is =
    let y = f (get_or xs i d) in
    let count : length (map f (take i xs)) ≡ i = length-map (take i xs) f ∙ length-take-le i xs (omega arith) in
    let none : i - i ≡ 0 = omega arith in
    let more : map f (take (i + 1) xs) ≡ map f (take i xs) ++ y ∷ [] = ap (map f) (take_more xs i d lt) ∙ map-append f (take i xs) (get_or xs i d ∷ []) in
    ap (λ rs. set rs i y) (is ∙ ap (λ zs. map f (take i xs) ++ zs) (drop_more old i y (omega arith)))
    ∙ set-append_right (map f (take i xs)) (get_or old i y ∷ drop (i + 1) old) i i y count (omega arith)
    ∙ ap (λ n. map f (take i xs) ++ set (get_or old i y ∷ drop (i + 1) old) n y) none
    ∙ sym (append_assoc (map f (take i xs)) (y ∷ []) (drop (i + 1) old))
    ∙ ap (λ zs. zs ++ drop (i + 1) old) (sym more)

-- ---- the rows of a run

-- a part of a list that is written over
pub over_part : {X : Type 0} (before part after more : List X) (n size : ℕ) → length before ≡ n → length part ≡ size
    → put_mid n size (before ++ (part ++ after)) more ≡ before ++ (more ++ after)
over_part before part after more n size is_n is_size =
    ap₂ (λ xs ys. xs ++ (more ++ drop size ys)) (take_at before (part ++ after) n is_n) (drop_at before (part ++ after) n is_n)
    ∙ ap (λ ys. before ++ (more ++ ys)) (drop_at part after size is_size)

pub part_size : {X : Type 0} (xs : List X) (n size : ℕ) → n + size ≤ length xs → length (take (n + size - n) (drop n xs)) ≡ size
part_size xs n size fits =
    let same : n + size - n ≡ size = omega arith in
    ap (λ m. length (take m (drop n xs))) same ∙ length-take-le size (drop n xs) (omega (arith, length-drop n xs))

pub length-over : {X : Type 0} (xs part : List X) (n size : ℕ) → n + size ≤ length xs → length part ≡ size → length (put_mid n size xs part) ≡ length xs
length-over xs part n size fits is =
    omega (
      arith,
      length-append (take n xs) (part ++ drop size (drop n xs)),
      length-append part (drop size (drop n xs)),
      length-take-le n xs (omega arith),
      length-drop size (drop n xs),
      length-drop n xs,
    )

-- the rest of a list that is written over
over_rest : {X : Type 0} (before rest more : List X) (n size : ℕ) → length before ≡ n → size ≡ length (before ++ rest) - n
    → put_mid n size (before ++ rest) more ≡ before ++ more
over_rest before rest more n size is_n is_size =
    let all : length rest ≤ size = omega (arith, length-append before rest) in
    ap₂ (λ xs ys. xs ++ (more ++ drop size ys)) (take_at before rest n is_n) (drop_at before rest n is_n)
    ∙ ap (λ ys. before ++ (more ++ ys)) (drop_all size rest all) ∙ ap (λ ys. before ++ ys) (append-nil more)

-- the first rows, the text that stays, the rows that are left over, and the last ones
pub parts_are : {X : Type 0} (old first between last : List X) (closed text opened : ℕ) → length first ≡ closed → length last ≡ opened
    → closed + text + opened ≤ length old
    → length between ≡ length old - opened - (closed + text) →
    let second = put_mid (closed + text) (length old - opened - (closed + text)) (first ++ drop closed old) between in
    put_mid (length old - opened) (length second - (length old - opened)) second last ≡ ((first ++ take text (drop closed old)) ++ between) ++ last
parts_are old first between last closed text opened is_closed is_opened fits is_between =
    let kept = take text (drop closed old) in
    let rest = drop text (drop closed old) in
    let n = length old - opened - (closed + text) in
    let front = first ++ kept in
    let count : length front ≡ closed + text =
    omega (arith, length-append first kept, length-take-le text (drop closed old) (omega (arith, length-drop closed old)), length-drop closed old) in
    let split : first ++ drop closed old ≡ front ++ rest =
    ap (λ xs. first ++ xs) (sym (take-append-drop text (drop closed old))) ∙ sym (append_assoc first kept rest) in
    let cut : rest ≡ take n rest ++ drop n rest = sym (take-append-drop n rest) in
    let there : length (take n rest) ≡ n = length-take-le n rest (omega (arith, length-drop text (drop closed old), length-drop closed old)) in
    let second : put_mid (closed + text) n (first ++ drop closed old) between ≡ (front ++ between) ++ drop n rest =
    ap (λ xs. put_mid (closed + text) n xs between) (split ∙ ap (λ xs. front ++ xs) cut)
    ∙ over_part front (take n rest) (drop n rest) between (closed + text) n count there ∙ sym (append_assoc front between (drop n rest)) in
    let place : length (front ++ between) ≡ length old - opened = omega (arith, length-append front between) in
    ap (λ xs. put_mid (length old - opened) (length xs - (length old - opened)) xs last) second
    ∙ over_rest (front ++ between) (drop n rest) last (length old - opened) (length ((front ++ between) ++ drop n rest) - (length old - opened)) place refl

-- what a pair stands for, as the definition has it
either_view : {A B : Type 0} (view : A → B) (x y z w : A) (tilde equals double : Bool) → view (cond tilde x (cond equals y (cond double z w)))
    ≡ cond tilde (view x) (cond equals (view y) (cond (bytes_by double == 2) (view z) (view w)))
either_view view x y z w true equals double = refl
either_view view x y z w false true double = refl
either_view view x y z w false false true = refl
either_view view x y z w false false false = refl

span_is : (marker : ℕ) (p : Pair) → span_view (span_by marker p.double) ≡ span_of marker (pair_view p)
span_is marker p = either_view span_view _ _ _ _ (is_tilde marker) (is_equals marker) p.double

module _ (leads : Target → LinkTexts) (at : ℕ → LinkTexts) where
  ends_view : (closed : List Pair) → rows_view at (replicate (length closed) Exit) ≡ told_rows leads (map (λ (p : Pair). Closes) closed)
  ends_view [] = refl
  ends_view (p ∷ ps) = ap (λ xs. rows.Leave ∷ xs) (ends_view ps)

  starts_view : (marker : ℕ) (opened : List Pair)
      → rows_view at (map (start_row marker) opened) ≡ told_rows leads (map (λ (p : Pair). Opens (span_of marker (pair_view p))) opened)
  starts_view marker [] = refl
  starts_view marker (p ∷ ps) = ap₂ (λ span xs. rows.EnterSpan span ∷ xs) (span_is marker p) (starts_view marker ps)

  blank_view : (blank : InlineRow) (n : ℕ) → row_view at blank ≡ [] → rows_view at (replicate n blank) ≡ []
  blank_view blank zero none = refl
  blank_view blank (suc n) none = ap (λ xs. xs ++ rows_view at (replicate n blank)) none ∙ blank_view blank n none

  byte_view : (row : InlineRow) (marker : ℕ) → text_of row ≡ marker ∷ [] → row_view at row ≡ rows.Part (inline.Data marker) ∷ []
  byte_view (Text text) marker is = ap data_rows is
  byte_view (Verbatim verbatim) marker is = absurd (cons_nil marker [] (sym is))
  byte_view (Leaf part) marker is = absurd (cons_nil marker [] (sym is))
  byte_view (Spelled leaf) marker is = absurd (cons_nil marker [] (sym is))
  byte_view (EnterSpan span) marker is = absurd (cons_nil marker [] (sym is))
  byte_view (EnterLink target) marker is = absurd (cons_nil marker [] (sym is))
  byte_view (EnterImage target) marker is = absurd (cons_nil marker [] (sym is))
  byte_view (Call label) marker is = absurd (cons_nil marker [] (sym is))
  byte_view Exit marker is = absurd (cons_nil marker [] (sym is))

  bytes_view : (kept : List InlineRow) (marker n : ℕ) → map text_of kept ≡ replicate n (marker ∷ [])
      → rows_view at kept ≡ told_rows leads (replicate n (Holds (inline.Leaf (inline.Data marker))))
  bytes_view [] marker zero is = refl
  bytes_view [] marker (suc n) is = let size = ap length is in absurd (omega arith)
  bytes_view (row ∷ kept) marker zero is = let size = ap length is in absurd (omega arith)
  bytes_view (row ∷ kept) marker (suc n) is =
      let first : text_of row ≡ marker ∷ [] = ap (λ (xs : List (List ℕ)). get_or xs 0 []) is in
      let others : map text_of kept ≡ replicate n (marker ∷ []) = ap (λ (xs : List (List ℕ)). drop 1 xs) is in
      ap₂ (λ xs ys. xs ++ ys) (byte_view row marker first) (bytes_view kept marker n others)

  -- what a run becomes
  pub told_is : (old first between last : List InlineRow) (spans : RunSpans) (blank : InlineRow) (m n marker : ℕ) → rows_needed spans ≤ length old
      → m ≡ length spans.closed.now
      → (((y : InlineRow) → y ≡ Exit → y ≡ Exit) → first ≡ replicate m Exit) → (((y : InlineRow) → y ≡ blank → y ≡ blank) → between ≡ replicate n blank)
      → last ≡ map (start_row marker) spans.opened.now
      → row_view at blank ≡ [] → AreBytes marker (length old) old
      → rows_view at (((first ++ take spans.text (drop (length spans.closed.now) old)) ++ between) ++ last) ≡ told_rows leads (rows_of marker spans)
  told_is old first between last spans blank m n marker fits is_m is_first is_between is_last none bytes =
      let closed = length spans.closed.now in
      let kept = take spans.text (drop closed old) in
      let ends = map (λ (p : Pair). Closes) spans.closed.now in
      let texts = replicate spans.text (Holds (inline.Leaf (inline.Data marker))) in
      let starts = map (λ (p : Pair). Opens (span_of marker (pair_view p))) spans.opened.now in
      let are_bytes : map text_of kept ≡ replicate spans.text (marker ∷ []) =
      sym (take-map text_of spans.text (drop closed old)) ∙ ap (take spans.text)
      (sym (drop-map text_of closed old) ∙ ap (drop closed) bytes ∙ drop-replicate closed (length old) (marker ∷ []))
      ∙ take-replicate spans.text (length old - closed) (marker ∷ []) (omega arith) in
      let front : rows_view at (first ++ kept) ≡ told_rows leads (ends ++ texts) =
      flat_map-append (row_view at) first kept
      ∙ ap₂ (λ xs ys. xs ++ ys) (ap (rows_view at) (is_first (λ y h. h) ∙ ap (λ k. replicate k Exit) is_m) ∙ ends_view spans.closed.now)
      (bytes_view kept marker spans.text are_bytes)
      ∙ sym (flat_map-append (span_row_rows leads) ends texts) in
      let nothing : rows_view at between ≡ [] = ap (rows_view at) (is_between (λ y h. h)) ∙ blank_view blank n none in
      let middle : rows_view at ((first ++ kept) ++ between) ≡ told_rows leads (ends ++ texts) =
      flat_map-append (row_view at) (first ++ kept) between ∙ ap₂ (λ xs ys. xs ++ ys) front nothing ∙ append-nil (told_rows leads (ends ++ texts)) in
      flat_map-append (row_view at) ((first ++ kept) ++ between) last
      ∙ ap₂ (λ xs ys. xs ++ ys) middle (ap (rows_view at) is_last ∙ starts_view marker spans.opened.now)
      ∙ sym (flat_map-append (span_row_rows leads) (ends ++ texts) starts)
