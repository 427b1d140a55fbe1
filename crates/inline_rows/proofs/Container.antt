-- Containers: how rows are added, and what they hold.
use Rattle.std.proofs.Common.{◌≡◌, ℕ, zero, suc, ◌+◌, ◌<◌, ◌≤◌, List, [], ◌∷◌, ◌++◌, map, refl, sym, ap, ◌∙◌, length, arith, subst, append_assoc}
use Rattle.inline_rows.proofs.Prelude.{append-nil, AreBytes, Bytes, Delimiters, flat_map, Inline, InlineRow, IsContainer, Item, length-append, length-map}
use Rattle.inline_rows.proofs.Prelude.{length-replicate, NoRows, part_rows, Parts, row_view, rows_view, Run, run_view, runs_of, runs_view, slice_index, Target}
use Rattle.inline_rows.proofs.Prelude.{text_of, Token}
use Rattle.std.specs.Prelude.{slice_index_or}
use Rattle.definition_inline.specs.Inline.{InlineLeaf}
use Rattle.definition_inline.specs.Inline as inline
use Rattle.inline_rows.specs.InlineRows as rows
use Rattle.inline_rows.specs.Container.{AreWithin}

-- ---- one row

-- the rows of leaves
leaves_are : (leads : Target → inline.LinkTexts) (parts : List InlineLeaf) → map rows.Part parts ≡ flat_map (part_rows leads) (map inline.Leaf parts)
leaves_are leads [] = refl
leaves_are leads (part ∷ others) = ap (λ xs. rows.Part part ∷ xs) (leaves_are leads others)

-- a row that stands for leaves alone
pub leaf_row : (leads : Target → inline.LinkTexts) (at : ℕ → inline.LinkTexts) (row : InlineRow) (parts : List InlineLeaf)
    → row_view at row ≡ map rows.Part parts → rows_view at (row ∷ []) ≡ flat_map (part_rows leads) (map inline.Leaf parts)
leaf_row leads at row parts is = append-nil (row_view at row) ∙ is ∙ leaves_are leads parts

-- ---- more rows

pub none : (leads : Target → inline.LinkTexts) (at : ℕ → inline.LinkTexts) (base : ℕ) → IsContainer leads at [] base [] [] []
none leads at base = NoRows base

module _ (leads : Target → inline.LinkTexts) (at : ℕ → inline.LinkTexts) where
  pub join : (rows rows2 : List InlineRow) (base : ℕ) (runs runs2 : List Run) (slots slots2 : List ℕ) (ts ts2 : List Token)
      → IsContainer leads at rows base runs slots ts → IsContainer leads at rows2 (base + length rows) runs2 slots2 ts2
      → IsContainer leads at (rows ++ rows2) base (runs ++ runs2) (slots ++ slots2) (ts ++ ts2)
  join _ rows2 _ _ runs2 _ slots2 _ ts2 (NoRows base) second =
      let same : base + length {A = InlineRow} [] ≡ base = omega arith in
      subst (λ n. IsContainer leads at rows2 n runs2 slots2 ts2) same second
  join _ rows2 _ _ runs2 _ slots2 _ ts2 (Parts more rest base runs slots items tokens view first) second =
      let place : base + length (more ++ rest) ≡ base + length more + length rest = omega (arith, length-append more rest) in
      let next = join rest rows2 (base + length more) runs runs2 slots slots2 tokens ts2 first
      (subst (λ n. IsContainer leads at rows2 n runs2 slots2 ts2) place second) in
      subst (λ rs. IsContainer leads at rs base (runs ++ runs2) (slots ++ slots2) ((map Item items ++ tokens) ++ ts2)) (sym (append_assoc more rest rows2))
      (subst (λ ks. IsContainer leads at (more ++ (rest ++ rows2)) base (runs ++ runs2) (slots ++ slots2) ks) (sym (append_assoc (map Item items) tokens ts2))
      (Parts more (rest ++ rows2) base (runs ++ runs2) (slots ++ slots2) items (tokens ++ ts2) view next))
  join _ rows2 _ _ runs2 _ slots2 _ ts2 (Bytes more rest base run runs slots tokens bytes first) second =
      let place : base + length (more ++ rest) ≡ base + length more + length rest = omega (arith, length-append more rest) in
      let next = join rest rows2 (base + length more) runs runs2 slots slots2 tokens ts2 first
      (subst (λ n. IsContainer leads at rows2 n runs2 slots2 ts2) place second) in
      subst (λ rs. IsContainer leads at rs base (run ∷ (runs ++ runs2)) (base ∷ (slots ++ slots2)) (Delimiters (run_view run) ∷ (tokens ++ ts2)))
      (sym (append_assoc more rest rows2))
      (Bytes more (rest ++ rows2) base run (runs ++ runs2) (slots ++ slots2) (tokens ++ ts2) bytes next)

  only_parts : (more : List InlineRow) (base : ℕ) (parts : List Inline) → rows_view at more ≡ flat_map (part_rows leads) parts
      → IsContainer leads at more base [] [] (map Item parts)
  only_parts more base parts view =
      subst (λ rs. IsContainer leads at rs base [] [] (map Item parts)) (append-nil more)
      (subst (IsContainer leads at (more ++ []) base [] []) (append-nil (map Item parts))
      (Parts more [] base [] [] parts [] view (NoRows (base + length more))))

  only_run : (more : List InlineRow) (base : ℕ) (r : Run) → AreBytes r.marker r.size more
      → IsContainer leads at more base (r ∷ []) (base ∷ []) (Delimiters (run_view r) ∷ [])
  only_run more base r bytes =
      subst (λ rs. IsContainer leads at rs base (r ∷ []) (base ∷ []) (Delimiters (run_view r) ∷ [])) (append-nil more)
      (Bytes more [] base r [] [] [] bytes (NoRows (base + length more)))

  pub items : (rows more : List InlineRow) (base : ℕ) (runs : List Run) (slots : List ℕ) (ts : List Token) (parts : List Inline)
      → IsContainer leads at rows base runs slots ts → rows_view at more ≡ flat_map (part_rows leads) parts
      → IsContainer leads at (rows ++ more) base runs slots (ts ++ map Item parts)
  items rows more base runs slots ts parts c view =
      subst (λ rs. IsContainer leads at (rows ++ more) base rs slots (ts ++ map Item parts)) (append-nil runs)
      (subst (λ ss. IsContainer leads at (rows ++ more) base (runs ++ []) ss (ts ++ map Item parts)) (append-nil slots)
      (join rows more base runs [] slots [] ts (map Item parts) c (only_parts more (base + length rows) parts view)))

  pub run : (rows more : List InlineRow) (base : ℕ) (runs : List Run) (slots : List ℕ) (ts : List Token) (r : Run)
      → IsContainer leads at rows base runs slots ts → AreBytes r.marker r.size more
      → IsContainer leads at (rows ++ more) base (runs ++ r ∷ []) (slots ++ (base + length rows) ∷ []) (ts ++ Delimiters (run_view r) ∷ [])
  run rows more base runs slots ts r c bytes =
      join rows more base runs (r ∷ []) slots ((base + length rows) ∷ []) ts (Delimiters (run_view r) ∷ []) c (only_run more (base + length rows) r bytes)

  -- ---- what they hold

  runs_after : (items : List Inline) (ts : List Token) → runs_of (map Item items ++ ts) ≡ runs_of ts
  runs_after [] ts = refl
  runs_after (i ∷ is) ts = runs_after is ts

  pub runs_are : (rows : List InlineRow) (base : ℕ) (runs : List Run) (slots : List ℕ) (ts : List Token) → IsContainer leads at rows base runs slots ts
      → runs_of ts ≡ runs_view runs
  runs_are _ _ _ _ _ (NoRows base) = refl
  runs_are _ _ _ _ _ (Parts more rest base runs slots items tokens view first) =
      runs_after items tokens ∙ runs_are rest (base + length more) runs slots tokens first
  runs_are _ _ _ _ _ (Bytes more rest base run runs slots tokens bytes first) =
      ap (λ rs. run_view run ∷ rs) (runs_are rest (base + length more) runs slots tokens first)

  pub slots_are : (rows : List InlineRow) (base : ℕ) (runs : List Run) (slots : List ℕ) (ts : List Token) → IsContainer leads at rows base runs slots ts
      → length slots ≡ length runs
  slots_are _ _ _ _ _ (NoRows base) = refl
  slots_are _ _ _ _ _ (Parts more rest base runs slots items tokens view first) = slots_are rest (base + length more) runs slots tokens first
  slots_are _ _ _ _ _ (Bytes more rest base run runs slots tokens bytes first) = ap suc (slots_are rest (base + length more) runs slots tokens first)

  pub bytes_count : (marker size : ℕ) (more : List InlineRow) → AreBytes marker size more → length more ≡ size
  bytes_count marker size more bytes = sym (length-map more text_of) ∙ ap length bytes ∙ length-replicate size (marker ∷ [])

  ends_are : (rows : List InlineRow) (base : ℕ) (runs : List Run) (slots : List ℕ) (ts : List Token) → IsContainer leads at rows base runs slots ts
      → (i : ℕ) (d : Run) → i < length runs → slice_index slots i + (slice_index_or runs i d).size ≤ base + length rows
  ends_are _ _ _ _ _ (NoRows base) i d lt = absurd (omega arith)
  ends_are _ _ _ _ _ (Parts more rest base runs slots items tokens view first) i d lt =
      let le = ends_are rest (base + length more) runs slots tokens first i d lt in
      omega (arith, length-append more rest)
  ends_are _ _ _ _ _ (Bytes more rest base run runs slots tokens bytes first) zero d lt =
      omega (arith, length-append more rest, bytes_count run.marker run.size more bytes)
  ends_are _ _ _ _ _ (Bytes more rest base run runs slots tokens bytes first) (suc i) d lt =
      let le = ends_are rest (base + length more) runs slots tokens first i d (omega arith) in
      omega (arith, length-append more rest)

  pub within : (rows : List InlineRow) (base : ℕ) (runs : List Run) (slots : List ℕ) (ts : List Token) → IsContainer leads at rows base runs slots ts
      → AreWithin runs slots (base + length rows)
  within rows base runs slots ts c = record { same = slots_are rows base runs slots ts c; ends = ends_are rows base runs slots ts c }
