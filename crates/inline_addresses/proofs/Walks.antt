-- A walk over rows, row by row.
use Rattle.std.proofs.Common.{◌≡◌, ◌+◌, ◌<◌, ◌≤◌, ℕ, zero, suc, List, [], ◌∷◌, ◌++◌, Option, None, Some, ◌-◌, refl, sym, ap, ap₂, ◌∙◌, map, take, drop}
use Rattle.std.proofs.Common.{length, append_assoc, get_or, add-one, drop-cons, arith, subst}
use Rattle.inline_addresses.proofs.Prelude.{append-nil, data_rows, Each, flat_map, found_parts, InlineLeaf, InlineRow, IsCharBoundary-after_ascii, IsFound}
use Rattle.inline_addresses.proofs.Prelude.{IsNext, IsUtf8, kind_view, length-drop, lines_rows, linked_rows, LinkTexts, literal_text, map-append, Part}
use Rattle.inline_addresses.proofs.Prelude.{part_text, parts_of, row_depth, row_linked, row_text, row_view, rows_text, rows_view, run_linked, text_or_end}
use Rattle.inline_addresses.proofs.Prelude.{verbatim_text, with_addresses}
use Rattle.std.specs.Str.{IsCharBoundary}
use Rattle.std.proofs.lemmas.List.{drop-take, length-append, take-append-drop, take-take}
use Rattle.std.proofs.Math.Seq.{drop-append_seam, take-append_seam}
use Rattle.std.proofs.lemmas.Grind.{flat_map-append}
use Rattle.definition_inline.specs.Inline as inline
use Rattle.inline_rows.specs.InlineRows as rows
use Rattle.inline_rows.specs.declared.row.InlineRow.TheVariants as row
use Rattle.inline_rows.specs.declared.row.VerbatimText.{VerbatimText}
use Rattle.inline_rows.specs.declared.row.SpelledLeaf.TheVariants as spelled
use Rattle.inline_literals.specs.declared.address.FoundAddress.{FoundAddress}
use Rattle.inline_addresses.proofs.Leaves.{all_kept, lines_kept, part_in_link, part_is, text_or, AreText, Bytes, EndsRun, Others}
use Rattle.inline_addresses.proofs.Rows.{no_run}

-- ---- rows of verbatim text

-- a text is there
pub some_text : {text : List ℕ} → Some text ≡ None → ⊥
some_text {text} e = let wrong : Some text ≡ None = e in cc

-- a row of verbatim text, or one that is something else
module _ (P : InlineRow → Type 0) (verbatim : (v : VerbatimText) → P (row.Verbatim v)) (other : (r : InlineRow) → verbatim_text r ≡ None → P r) where
  pub each_row : (r : InlineRow) → P r
  each_row (row.Text text) = other (row.Text text) refl
  each_row (row.Verbatim v) = verbatim v
  each_row (row.Leaf p) = other (row.Leaf p) refl
  each_row (row.Spelled leaf) = other (row.Spelled leaf) refl
  each_row (row.EnterSpan span) = other (row.EnterSpan span) refl
  each_row (row.EnterLink to) = other (row.EnterLink to) refl
  each_row (row.EnterImage to) = other (row.EnterImage to) refl
  each_row (row.Call label) = other (row.Call label) refl
  each_row row.Exit = other row.Exit refl

-- a row that is no text is no verbatim text
no_verbatim : (r : InlineRow) → row_text r ≡ None → verbatim_text r ≡ None
no_verbatim = each_row (λ r. row_text r ≡ None → verbatim_text r ≡ None) (λ v none. absurd (some_text none)) (λ r other none. other)

-- a row of this verbatim text
pub record IsVerbatim (r : InlineRow) (text : List ℕ) : Type 0 where
  pub row : row_text r ≡ Some text
  pub view : (at : ℕ → LinkTexts) → row_view at r ≡ lines_rows text

pub verbatim_is : (r : InlineRow) (text : List ℕ) → verbatim_text r ≡ Some text → IsVerbatim r text
verbatim_is r text =
    each_row (λ seen. verbatim_text seen ≡ Some text → IsVerbatim seen text)
    (λ v is. record { row = is; view = λ at. ap (λ o. lines_rows (text_or_end o)) is })
    (λ seen other is. absurd (some_text (sym is ∙ other))) r

-- ---- a row after a run

-- text makes the run longer
pub run_longer : (n : ℕ) (run bytes : List ℕ) (rest : List rows.InlineRow) → linked_rows n run (data_rows bytes ++ rest) ≡ linked_rows n (run ++ bytes) rest
run_longer n run [] rest = ap (λ r. linked_rows n r rest) (sym (append-nil run))
run_longer n run (b ∷ bs) rest = run_longer n (run ++ b ∷ []) bs rest ∙ ap (λ r. linked_rows n r rest) (append_assoc run (b ∷ []) bs)

-- what rows come to, given the text that the first of them stand for, if that is all
abbrev pub after : ℕ → List ℕ → List rows.InlineRow → ℕ → List rows.InlineRow → Option (List ℕ) → List rows.InlineRow
after n run view depth rest None = run_linked n run ++ (flat_map (row_linked n) view ++ linked_rows depth [] rest)
after n run view depth rest (Some text) = linked_rows n (run ++ text) rest

-- leaves of which each ends a run, with no run before them
ended : (n : ℕ) (parts : List InlineLeaf) (rest : List rows.InlineRow) → Each EndsRun parts
    → linked_rows n [] (map Part parts ++ rest) ≡ flat_map (row_linked n) (map Part parts) ++ linked_rows n [] rest
ended n [] rest each = refl
ended n (part ∷ others) rest each =
    let here = row_linked n (Part part) in
    each.0.linked n [] (λ next. linked_rows n next (map Part others ++ rest))
    ∙ ap₂ (λ run later. run ++ (here ++ later)) (no_run n) (ended n others rest each.1)
    ∙ sym (append_assoc here (flat_map (row_linked n) (map Part others)) (linked_rows n [] rest))

-- leaves after a run
leaves_after : (n : ℕ) (run : List ℕ) (parts : List InlineLeaf) (text : Option (List ℕ)) (rest : List rows.InlineRow) → AreText parts text
    → linked_rows n run (map Part parts ++ rest) ≡ after n run (map Part parts) n rest text
leaves_after n run _ _ rest (Bytes text) = run_longer n run text rest
leaves_after n run _ _ rest (Others first others ends each) =
    let here = row_linked n (Part first) in
    ends.linked n run (λ next. linked_rows n next (map Part others ++ rest))
    ∙ ap (λ later. run_linked n run ++ (here ++ later)) (ended n others rest each)
    ∙ ap (λ l. run_linked n run ++ l) (sym (append_assoc here (flat_map (row_linked n) (map Part others)) (linked_rows n [] rest)))

-- a run in a link
pub inside_run : (n : ℕ) (run : List ℕ) → 0 < n → run_linked n run ≡ data_rows run
inside_run zero run some = absurd (omega (arith, some))
inside_run (suc n) run some = refl

-- outside of links, rows stay as they are
pub outside_rows : (rs : List rows.InlineRow) → flat_map (row_linked zero) rs ≡ rs
outside_rows [] = refl
outside_rows (r ∷ rs) = ap (λ l. r ∷ l) (outside_rows rs)

module _ (at : ℕ → LinkTexts) where
  -- a row that holds no soft line breaks, after a run
  pub row_after : (n : ℕ) (run : List ℕ) (r : InlineRow) (rest : List rows.InlineRow) → verbatim_text r ≡ None
      → linked_rows n run (row_view at r ++ rest) ≡ after n run (row_view at r) (row_depth n r) rest (row_text r)
  row_after n run (row.Text text) rest none = run_longer n run text.now rest
  row_after n run (row.Verbatim verbatim) rest none = absurd (some_text none)
  row_after zero run (row.Leaf p) rest none = leaves_after zero run (parts_of p) (part_text p) rest (part_is p)
  row_after zero run (row.Spelled (spelled.Code text)) rest none = refl
  row_after zero run (row.Spelled (spelled.Math text)) rest none = refl
  row_after zero run (row.Spelled (spelled.Check done)) rest none = refl
  row_after zero run (row.EnterSpan span) rest none = refl
  row_after zero run (row.EnterLink to) rest none = refl
  row_after zero run (row.EnterImage to) rest none = refl
  row_after zero run (row.Call label) rest none = refl
  row_after zero run row.Exit rest none = refl
  row_after (suc n) run (row.Leaf p) rest none = leaves_after (suc n) run (parts_of p) (part_text p) rest (part_is p)
  row_after (suc n) run (row.Spelled (spelled.Code text)) rest none = refl
  row_after (suc n) run (row.Spelled (spelled.Math text)) rest none = refl
  row_after (suc n) run (row.Spelled (spelled.Check done)) rest none = refl
  row_after (suc n) run (row.EnterSpan span) rest none = refl
  row_after (suc n) run (row.EnterLink to) rest none = refl
  row_after (suc n) run (row.EnterImage to) rest none = refl
  row_after (suc n) run (row.Call label) rest none = refl
  row_after (suc n) run row.Exit rest none = refl

  -- ---- rows that are written

  -- one more row
  pub rows_more : (before : List InlineRow) (r : InlineRow) → rows_view at (before ++ r ∷ []) ≡ rows_view at before ++ row_view at r
  rows_more before r = flat_map-append (row_view at) before (r ∷ []) ∙ ap (λ l. rows_view at before ++ l) (append-nil (row_view at r))

  -- the first of the rows that are left
  pub rows_left : (rs : List InlineRow) (i : ℕ) (d : InlineRow) → i < length rs
      → row_view at (get_or rs i d) ++ rows_view at (drop (i + 1) rs) ≡ rows_view at (drop i rs)
  rows_left rs i d inside = ap (λ k. row_view at (get_or rs i d) ++ rows_view at (drop k rs)) (add-one i) ∙ ap (rows_view at) (sym (drop-cons rs i d inside))

  -- a run of text and a row after it
  pub other_row : (n : ℕ) (run : List ℕ) (r written : InlineRow) (before middle : List InlineRow) (rest : List rows.InlineRow)
      → rows_view at middle ≡ rows_view at before ++ run_linked n run
      → row_view at written ≡ flat_map (row_linked n) (row_view at r)
      → row_text r ≡ None
      → rows_view at (middle ++ written ∷ []) ++ linked_rows (row_depth n r) [] rest
      ≡ rows_view at before ++ linked_rows n run (row_view at r ++ rest)
  other_row n run r written before middle rest ended linked none =
      let b = rows_view at before in
      let p = run_linked n run in
      let v = flat_map (row_linked n) (row_view at r) in
      let end = linked_rows (row_depth n r) [] rest in
      ap (λ l. l ++ end) (rows_more middle written ∙ ap (λ l. l ++ row_view at written) ended ∙ ap (λ l. (b ++ p) ++ l) linked)
      ∙ append_assoc (b ++ p) v end
      ∙ append_assoc b p (v ++ end)
      ∙ ap (λ l. b ++ l) (sym (row_after n run r rest (no_verbatim r none) ∙ ap (after n run (row_view at r) (row_depth n r) rest) none))

  -- text after a run
  pub text_row : (n : ℕ) (run text longer : List ℕ) (r : InlineRow) (rest : List rows.InlineRow)
      → verbatim_text r ≡ None → row_text r ≡ Some text → longer ≡ run ++ text → linked_rows n longer rest ≡ linked_rows n run (row_view at r ++ rest)
  text_row n run text longer r rest none some same =
      ap (λ l. linked_rows n l rest) same ∙ sym (row_after n run r rest none ∙ ap (after n run (row_view at r) (row_depth n r) rest) some)

  -- ---- runs that are written

  -- text before an address, and the address
  pub address_rows : (before middle after : List InlineRow) (first second : InlineRow) (run left : List ℕ) (found : FoundAddress)
      → middle ≡ before ++ first ∷ [] → after ≡ middle ++ second ∷ []
      → row_view at first ≡ data_rows (take found.start run)
      → row_view at second ≡ Part (inline.Literal (kind_view found.kind) (take (found.end - found.start) (drop found.start run))) ∷ []
      → left ≡ drop found.end run
      → with_addresses run ≡ found_parts run found
      → rows_view at after ++ run_linked 0 left ≡ rows_view at before ++ run_linked 0 run
  address_rows before middle after first second run left found is_middle is_after is_first is_second is_left parts =
      let b = rows_view at before in
      let text = take found.start run in
      let d = data_rows text in
      let literal = inline.Literal (kind_view found.kind) (take (found.end - found.start) (drop found.start run)) in
      let later = run_linked 0 (drop found.end run) in
      let written : rows_view at after ≡ (b ++ d) ++ Part literal ∷ [] =
      ap (rows_view at) is_after ∙ rows_more middle second ∙ ap (λ l. l ++ row_view at second) (ap (rows_view at) is_middle ∙ rows_more before first)
      ∙ ap (λ l. (b ++ l) ++ row_view at second) is_first ∙ ap (λ l. (b ++ d) ++ l) is_second in
      let meant : run_linked 0 run ≡ d ++ (Part literal ∷ later) =
      ap (map Part) parts ∙ map-append Part (map inline.Data text) (literal ∷ with_addresses (drop found.end run)) in
      ap (λ l. rows_view at after ++ run_linked 0 l) is_left
      ∙ ap (λ l. l ++ later) written
      ∙ append_assoc (b ++ d) (Part literal ∷ []) later
      ∙ append_assoc b d (Part literal ∷ later)
      ∙ ap (λ l. b ++ l) (sym meant)

  -- text in which there is no address
  pub rest_rows : (before after : List InlineRow) (last : InlineRow) (run : List ℕ)
      → after ≡ before ++ last ∷ [] → row_view at last ≡ data_rows run → with_addresses run ≡ map inline.Data run
      → rows_view at after ≡ rows_view at before ++ run_linked 0 run
  rest_rows before after last run is_after is_last none =
      ap (rows_view at) is_after ∙ rows_more before last ∙ ap (λ l. rows_view at before ++ l) (is_last ∙ ap (map Part) (sym none))

  -- ---- a row in a link

  -- in a link, a literal is text, and any other row stays as it is
  pub row_in_link : (n : ℕ) (r : InlineRow) → flat_map (row_linked (suc n)) (row_view at r) ≡ text_or (row_view at r) (literal_text r)
  row_in_link n (row.Text text) = all_kept n (λ b. inline.Data b) (λ b. refl) text.now
  row_in_link n (row.Verbatim verbatim) = lines_kept n verbatim.text.now
  row_in_link n (row.Leaf p) = part_in_link n p
  row_in_link n (row.Spelled (spelled.Code text)) = refl
  row_in_link n (row.Spelled (spelled.Math text)) = refl
  row_in_link n (row.Spelled (spelled.Check done)) = refl
  row_in_link n (row.EnterSpan span) = refl
  row_in_link n (row.EnterLink to) = refl
  row_in_link n (row.EnterImage to) = refl
  row_in_link n (row.Call label) = refl
  row_in_link n row.Exit = refl

  -- the same of a row that is a literal or not
  pub literal_linked : (n : ℕ) (r : InlineRow) (found : Option (List ℕ)) → 0 < n → literal_text r ≡ found
      → flat_map (row_linked n) (row_view at r) ≡ text_or (row_view at r) found
  literal_linked zero r found some is = absurd (omega (arith, some))
  literal_linked (suc n) r found some is = row_in_link n r ∙ ap (text_or (row_view at r)) is

-- ---- texts and places

-- more of a text is what it was before, and what comes next
pub take_more : (n m : ℕ) (text : List ℕ) → take (n + m) text ≡ take n text ++ take m (drop n text)
take_more n m text =
    sym (take-append-drop n (take (n + m) text))
    ∙ ap (λ l. l ++ drop n (take (n + m) text)) (take-take n (n + m) text (omega arith))
    ∙ ap (λ l. take n text ++ l) (drop-take n m text)

-- the text that comes next, after what was taken
pub next_taken : (text : List ℕ) (size : ℕ) (next : List ℕ) → IsNext text size next → take (size + length next) text ≡ take size text ++ next
next_taken text size next is = take_more size (length next) text ∙ ap (λ l. take size text ++ l) is.same

-- the text of a row comes next
pub next_row : (text : List ℕ) (size : ℕ) (rs : List InlineRow) (i : ℕ) (d : InlineRow) → size ≤ length text → i < length rs
    → drop size text ≡ rows_text (drop i rs) → IsNext text size (text_or_end (row_text (get_or rs i d)))
next_row text size rs i d within inside same =
    let next = text_or_end (row_text (get_or rs i d)) in
    let later = rows_text (drop (suc i) rs) in
    let there : drop size text ≡ next ++ later = same ∙ ap rows_text (drop-cons rs i d inside) in
    let sizes : length text - size ≡ length next + length later = sym (length-drop size text) ∙ ap length there ∙ length-append next later in
    record {
      within = omega (arith, within, sizes);
      same = ap (take (length next)) there ∙ take-append_seam next later;
    }

-- what comes after it
pub after_row : (text : List ℕ) (size : ℕ) (rs : List InlineRow) (i : ℕ) (d : InlineRow) → i < length rs
    → drop size text ≡ rows_text (drop i rs) → drop (length (text_or_end (row_text (get_or rs i d)))) (drop size text) ≡ rows_text (drop (i + 1) rs)
after_row text size rs i d inside same =
    let next = text_or_end (row_text (get_or rs i d)) in
    ap (drop (length next)) (same ∙ ap rows_text (drop-cons rs i d inside))
    ∙ drop-append_seam next (rows_text (drop (suc i) rs))
    ∙ ap (λ k. rows_text (drop k rs)) (sym (add-one i))

-- the end of an address is the end of a character
pub found_end : (text : List ℕ) (found : FoundAddress) → IsUtf8 text → IsFound text found → IsCharBoundary text found.end
found_end text found utf8 place =
    let last : found.end - 1 + 1 ≡ found.end = omega (arith, place.some) in
    subst (IsCharBoundary text) last (IsCharBoundary-after_ascii text (found.end - 1) utf8 (omega (arith, place.some, place.within)) place.last)
