-- Rows in which nothing is linked.
use Rattle.std.proofs.Common.{◌≡◌, ℕ, zero, suc, Bool, true, false, ◌||◌, eqb, List, [], ◌∷◌, ◌++◌, Option, None, Some, refl, sym, ap, ◌∙◌, map, append_assoc}
use Rattle.std.proofs.Common.{◌⊎◌, inl, inr, ap₂, cond, subst}
use Rattle.inline_addresses.proofs.Prelude.{append-nil, cases_Bool, Data, data_rows, flat_map, has_at_sign, inline_rows, InlineLeaf, InlineRow, Inlines}
use Rattle.inline_addresses.proofs.Prelude.{lines_rows, linked_rows, LinkTexts, list_any, literal_text, map-append, Part, part_text, parts_of, row_depth}
use Rattle.inline_addresses.proofs.Prelude.{row_linked, row_text, row_view, rows_may_link, rows_view, run_linked, Target, verbatim_text, with_literals}
use Rattle.std.proofs.lemmas.Bool.{cond-false, cond-true}
use Rattle.definition_inline.specs.GfmAutolinkLiteral.{parts_from}
use Rattle.definition_inline.specs.Inline.{LineEnd}
use Rattle.inline_rows.specs.InlineRows as rows
use Rattle.inline_rows.specs.declared.row.InlineRow.TheVariants as row
use Rattle.inline_addresses.specs.Addresses.{has_link, row_may_link}
use Rattle.inline_addresses.specs.Addresses.{begins_link}
use Rattle.inline_addresses.proofs.Leaves.{part_is, text_or, AreText, Bytes, Others}
use Rattle.inline_addresses.proofs.Rows.{rows_linked}
use Rattle.inline_addresses.proofs.Walks.{after, each_row, outside_rows, row_after, row_in_link, some_text}

-- ---- texts without an `@`

-- of two tests that both fail
neither : (a b : Bool) → (a || b) ≡ false → (a ≡ false) × (b ≡ false)
neither false b e = (refl, e)
neither true b e = absurd (let wrong : true ≡ false = e in cc)

abbrev HasNone : List ℕ → Type 0
HasNone text = list_any (λ b. eqb b 64) text ≡ false

-- two texts without an `@` make one
none_joined : (xs ys : List ℕ) → HasNone xs → HasNone ys → HasNone (xs ++ ys)
none_joined [] ys first second = second
none_joined (x ∷ xs) ys first second =
    let both = neither (eqb x 64) (list_any (λ b. eqb b 64) xs) first in
    ap (λ a. a || list_any (λ b. eqb b 64) (xs ++ ys)) both.0 ∙ none_joined xs ys both.1 second

-- text without an `@` has no address
no_address : (before text : List ℕ) → HasNone text → parts_from 0 before text ≡ map Data (before ++ text)
no_address before [] none = ap (map Data) (sym (append-nil before))
no_address before (b ∷ bs) none =
    let both = neither (eqb b 64) (list_any (λ c. eqb c 64) bs) none in
    cond-false (eqb b 64) _ _ both.0 ∙ no_address (before ++ b ∷ []) bs both.1 ∙ ap (map Data) (append_assoc before (b ∷ []) bs)

-- neither a literal nor a text with an `@`
no_link : (literal text : Option (List ℕ)) → has_link literal text ≡ false → (literal ≡ None) × (has_at_sign text ≡ false)
no_link None text e = (refl, e)
no_link (Some literal) text e = absurd (let wrong : true ≡ false = e in cc)

data_joined : (xs ys : List ℕ) → data_rows (xs ++ ys) ≡ data_rows xs ++ data_rows ys
data_joined xs ys = ap (map Part) (map-append (λ b. Data b) xs ys) ∙ map-append Part (map (λ b. Data b) xs) (map (λ b. Data b) ys)

module _ (at : ℕ → LinkTexts) where
  -- a run without an `@` is text
  run_is_text : (n : ℕ) (run : List ℕ) → HasNone run → run_linked n run ≡ data_rows run
  run_is_text zero run none = ap (map Part) (no_address [] run none)
  run_is_text (suc n) run none = refl

  -- ---- a row

  -- a row that stands for text alone is that text
  leaves_are_text : (parts : List InlineLeaf) (text : Option (List ℕ)) → AreText parts text → map Part parts ≡ text_or (map Part parts) text
  leaves_are_text _ _ (Bytes text) = refl
  leaves_are_text _ _ (Others first others ends each) = refl

  row_is_text : (r : InlineRow) → verbatim_text r ≡ None → row_view at r ≡ text_or (row_view at r) (row_text r)
  row_is_text (row.Text text) other = refl
  row_is_text (row.Verbatim verbatim) other = absurd (some_text other)
  row_is_text (row.Leaf p) other = leaves_are_text (parts_of p) (part_text p) (part_is p)
  row_is_text (row.Spelled leaf) other = refl
  row_is_text (row.EnterSpan span) other = refl
  row_is_text (row.EnterLink to) other = refl
  row_is_text (row.EnterImage to) other = refl
  row_is_text (row.Call label) other = refl
  row_is_text row.Exit other = refl

  -- a row that is no literal stays as it is, in a link too
  row_unlinked : (n : ℕ) (r : InlineRow) → literal_text r ≡ None → flat_map (row_linked n) (row_view at r) ≡ row_view at r
  row_unlinked zero r none = outside_rows (row_view at r)
  row_unlinked (suc n) r none = row_in_link at n r ∙ ap (text_or (row_view at r)) none

  -- rows that stay as they are after a run without an `@`, where so many parts are open
  abbrev StayAfter : ℕ → List rows.InlineRow → Type 0
  StayAfter n rest = (run : List ℕ) → HasNone run → linked_rows n run rest ≡ data_rows run ++ rest

  -- an LF before such rows
  feed_unlinked : (n : ℕ) (rest : List rows.InlineRow) → StayAfter n rest → StayAfter n (Part (LineEnd 10) ∷ rest)
  feed_unlinked zero rest stay run none = ap₂ (λ first others. first ++ Part (LineEnd 10) ∷ others) (run_is_text zero run none) (stay [] refl)
  feed_unlinked (suc n) rest stay run none = ap (λ others. data_rows run ++ Part (LineEnd 10) ∷ others) (stay [] refl)

  -- a byte before them
  byte_unlinked : (n b : ℕ) (rest : List rows.InlineRow) → eqb b 64 ≡ false → StayAfter n rest → StayAfter n (Part (Data b) ∷ rest)
  byte_unlinked n b rest no_at stay run none =
      stay (run ++ b ∷ []) (none_joined run (b ∷ []) none (ap (λ is. is || false) no_at))
      ∙ ap (λ l. l ++ rest) (data_joined run (b ∷ []))
      ∙ append_assoc (data_rows run) (Part (Data b) ∷ []) rest

  -- verbatim text before them
  lines_unlinked : (text : List ℕ) (n : ℕ) (rest : List rows.InlineRow) → HasNone text → StayAfter n rest → StayAfter n (lines_rows text ++ rest)
  lines_unlinked [] n rest no_at stay = stay
  lines_unlinked (b ∷ bs) n rest no_at stay =
      let both = neither (eqb b 64) (list_any (λ c. eqb c 64) bs) no_at in
      let later = lines_rows bs ++ rest in
      let others = lines_unlinked bs n rest both.1 stay in
      elim (cases_Bool (eqb b 10)) [
        | inl feed ↦ subst (λ is. StayAfter n (Part (cond is (LineEnd 10) (Data b)) ∷ later)) (sym feed) (feed_unlinked n later others)
        | inr other ↦ subst (λ is. StayAfter n (Part (cond is (LineEnd 10) (Data b)) ∷ later)) (sym other) (byte_unlinked n b later both.0 others)
      ]

  -- a row that holds no soft line breaks, before others that are as they were
  other_unlinked : (r : InlineRow) (rs : List InlineRow) (n : ℕ) (run : List ℕ) (text : Option (List ℕ)) → verbatim_text r ≡ None → HasNone run
      → flat_map (row_linked n) (row_view at r) ≡ row_view at r → row_text r ≡ text → has_at_sign text ≡ false
      → ((m : ℕ) → (m ≡ n) ⊎ (m ≡ row_depth n r) → StayAfter m (rows_view at rs))
      → linked_rows n run (row_view at r ++ rows_view at rs) ≡ data_rows run ++ (row_view at r ++ rows_view at rs)
  other_unlinked r rs n run (Some text) other none kept is no_at others =
      let later = rows_view at rs in
      row_after at n run r later other
      ∙ ap (after n run (row_view at r) (row_depth n r) later) is
      ∙ others n (inl refl) (run ++ text) (none_joined run text none no_at)
      ∙ ap (λ l. l ++ later) (data_joined run text)
      ∙ append_assoc (data_rows run) (data_rows text) later
      ∙ ap (λ l. data_rows run ++ (l ++ later)) (sym (row_is_text r other ∙ ap (text_or (row_view at r)) is))
  other_unlinked r rs n run None other none kept is no_at others =
      let later = rows_view at rs in
      let view = row_view at r in
      row_after at n run r later other
      ∙ ap (after n run view (row_depth n r) later) is
      ∙ ap (λ l. l ++ (flat_map (row_linked n) view ++ linked_rows (row_depth n r) [] later)) (run_is_text n run none)
      ∙ ap (λ l. data_rows run ++ (l ++ linked_rows (row_depth n r) [] later)) kept
      ∙ ap (λ l. data_rows run ++ (view ++ l)) (others (row_depth n r) (inr refl) [] refl)

  -- a row before others that are as they were
  first_unlinked : (r : InlineRow) (rs : List InlineRow) (n : ℕ) (run : List ℕ) → HasNone run
      → flat_map (row_linked n) (row_view at r) ≡ row_view at r → has_at_sign (row_text r) ≡ false
      → ((m : ℕ) → (m ≡ n) ⊎ (m ≡ row_depth n r) → StayAfter m (rows_view at rs))
      → linked_rows n run (row_view at r ++ rows_view at rs) ≡ data_rows run ++ (row_view at r ++ rows_view at rs)
  first_unlinked r rs n run none =
      each_row (λ seen. flat_map (row_linked n) (row_view at seen) ≡ row_view at seen → has_at_sign (row_text seen) ≡ false
      → ((m : ℕ) → (m ≡ n) ⊎ (m ≡ row_depth n seen) → StayAfter m (rows_view at rs))
      → linked_rows n run (row_view at seen ++ rows_view at rs) ≡ data_rows run ++ (row_view at seen ++ rows_view at rs))
      (λ v kept no_at others. lines_unlinked v.text.now n (rows_view at rs) no_at (others n (inl refl)) run none)
      (λ seen other kept no_at others. other_unlinked seen rs n run (row_text seen) other none kept refl no_at others) r

  -- ---- rows

  -- rows in which nothing is linked stay as they are, after a run without an `@`
  unlinked : (rs : List InlineRow) (n : ℕ) (run : List ℕ) → HasNone run → list_any row_may_link rs ≡ false
      → linked_rows n run (rows_view at rs) ≡ data_rows run ++ rows_view at rs
  unlinked [] n run none no_link_in = run_is_text n run none ∙ sym (append-nil (data_rows run))
  unlinked (r ∷ rs) n run none no_link_in =
      let both = neither (row_may_link r) (list_any row_may_link rs) no_link_in in
      let first = no_link (literal_text r) (row_text r) both.0 in
      first_unlinked r rs n run none (row_unlinked n r first.0) first.1 (λ m which longer h. unlinked rs m longer h both.1)

  depth_outside : (r : InlineRow) → begins_link r ≡ false → row_depth zero r ≡ zero
  depth_outside (row.Text text) h = refl
  depth_outside (row.Verbatim verbatim) h = refl
  depth_outside (row.Leaf part) h = refl
  depth_outside (row.Spelled leaf) h = refl
  depth_outside (row.EnterSpan span) h = refl
  depth_outside (row.EnterLink to) h = absurd (let wrong : true ≡ false = h in cc)
  depth_outside (row.EnterImage to) h = refl
  depth_outside (row.Call label) h = refl
  depth_outside row.Exit h = refl

  -- outside of links a literal stays as it is
  outside : (rs : List InlineRow) (run : List ℕ) → HasNone run → rows_may_link rs ≡ false
      → linked_rows zero run (rows_view at rs) ≡ data_rows run ++ rows_view at rs
  outside [] run none no_link_in = run_is_text zero run none ∙ sym (append-nil (data_rows run))
  outside (r ∷ rs) run none no_link_in =
      let both = neither (has_at_sign (row_text r)) _ no_link_in in
      elim (cases_Bool (begins_link r)) [
        | inl link ↦ unlinked (r ∷ rs) zero run none (sym (cond-true (begins_link r) _ _ link) ∙ both.1)
        | inr other ↦
            let here = depth_outside r other in
            first_unlinked r rs zero run none (outside_rows (row_view at r)) both.0
            (λ m which longer h.
            let none_open : m ≡ zero = elim which [ inl e ↦ e | inr e ↦ e ∙ here ] in
            ap (λ n. linked_rows n longer (rows_view at rs)) none_open
            ∙ outside rs longer h (sym (cond-false (begins_link r) _ _ other) ∙ both.1))
      ]

  -- such rows stand for what the definition makes of their structure
  pub nothing_linked : (leads : Target → LinkTexts) (rs : List InlineRow) (kids : Inlines) → rows_may_link rs ≡ false
      → rows_view at rs ≡ inline_rows leads kids → rows_view at rs ≡ inline_rows leads (with_literals [] kids)
  nothing_linked leads rs kids none same = sym (outside rs [] refl none) ∙ ap (linked_rows zero []) same ∙ rows_linked leads kids

-- a link comes first, from which on all rows count
pub from_link : (rs others left : List InlineRow) (r : InlineRow) → rs ≡ r ∷ others → has_at_sign (row_text r) ≡ false → begins_link r ≡ true
    → left ≡ rs → list_any row_may_link left ≡ rows_may_link rs
from_link rs others left r e no_at link same =
    ap (list_any row_may_link) (same ∙ e)
    ∙ sym (ap rows_may_link e
    ∙ ap (λ b. b || cond (begins_link r) (list_any row_may_link (r ∷ others)) (rows_may_link others)) no_at
    ∙ cond-true (begins_link r) _ _ link)
