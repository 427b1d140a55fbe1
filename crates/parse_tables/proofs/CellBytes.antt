-- The cells of a line are among its bytes, one after another.
use Rattle.std.proofs.Common.{◌≡◌, ◌⊎◌, ℕ, suc, ◌+◌, Bool, true, false, not, ◌&&◌, List, [], ◌∷◌, ◌++◌, drop, length, inl, inr, refl, sym, ap, subst, ◌∙◌, arith, eqb}
use Rattle.std.proofs.Common.{append_assoc}
use Rattle.parse_tables.proofs.Prelude.{after_first_bar, all_filter, and_parts, AreCellsOf, bytes_of, cases_Bool, Cell, cells, cond-false}
use Rattle.parse_tables.proofs.Prelude.{cond-true, cond_both, eqb-true, filter-append, if◌then◌else◌, in_first_cell, is_bar, is_blank, is_byte, is_tab_column}
use Rattle.parse_tables.proofs.Prelude.{is_white, Kind, list_all, may_escape, parts, prefix_len, slice_index, true≢false, without_blank_first}
use Rattle.parse_tables.proofs.Prelude.{without_blank_last}
use Rattle.markdown_options.specs.declared.beside.Kind.TheVariants.{Punctuation, Whitespace}

-- ---- parts of a line

abbrev AreParts : List Cell → List ℕ → Type 0
AreParts [] ahead = ⊥
AreParts (c ∷ cs) ahead =
    ((c.after ≡ Whitespace) × (cs ≡ []) × (ahead ≡ bytes_of c.codes))
    ⊎ ((c.after ≡ Punctuation) × (rest : List ℕ) × (ahead ≡ bytes_of c.codes ++ 124 ∷ rest) × AreParts cs rest)

bytes_both : (xs ys : List ℕ) → bytes_of (xs ++ ys) ≡ bytes_of xs ++ bytes_of ys
bytes_both xs ys = filter-append is_byte xs ys

-- one more code at the front
first_more : (c : ℕ) (before : Kind) (cs : List Cell) (ahead : List ℕ) → AreParts cs ahead → AreParts (in_first_cell c before cs) (bytes_of (c ∷ []) ++ ahead)
first_more c before [] ahead h = h
first_more c before (first ∷ others) ahead (inl h) =
    inl (h.0, h.1, ap (λ xs. bytes_of (c ∷ []) ++ xs) h.2 ∙ sym (bytes_both (c ∷ []) first.codes))
first_more c before (first ∷ others) ahead (inr h) =
    inr (
      h.0,
      h.1,
      ap (λ xs. bytes_of (c ∷ []) ++ xs) h.2
          ∙ sym (append_assoc (bytes_of (c ∷ [])) (bytes_of first.codes) (124 ∷ h.1))
          ∙ ap (λ xs. xs ++ 124 ∷ h.1) (sym (bytes_both (c ∷ []) first.codes)),
      h.3,
    )

parts_are : (before : Kind) (escaped : Bool) (codes : List ℕ) → AreParts (parts before escaped codes) (bytes_of codes)
parts_are before escaped [] = inl (refl, refl, refl)
parts_are before escaped (c ∷ cs) =
    elim (cases_Bool (is_bar escaped c)) [
      | inl h ↦
          let bar : c ≡ 124 = eqb-true c 124 (and_parts (eqb c 124) (not escaped) h).0 in
          subst (λ ps. AreParts ps (bytes_of (c ∷ cs))) (sym (cond-true (is_bar escaped c) _ _ h))
          (inr (refl, bytes_of cs, ap (λ b. bytes_of (b ∷ cs)) bar, parts_are Punctuation false cs))
      | inr h ↦
          subst (λ ps. AreParts ps (bytes_of (c ∷ cs))) (sym (cond-false (is_bar escaped c) _ _ h))
          (subst (AreParts (in_first_cell c before (parts before (may_escape escaped c) cs))) (sym (bytes_both (c ∷ []) cs))
          (first_more c before (parts before (may_escape escaped c) cs) (bytes_of cs) (parts_are before (may_escape escaped c) cs)))
    ]

-- a blank last part is no cell
last_dropped : (cs : List Cell) (ahead : List ℕ) → AreParts cs ahead → AreCellsOf (without_blank_last cs) ahead
last_dropped [] ahead h = absurd h
last_dropped (c ∷ []) ahead (inl h) =
    cond_both (is_blank c.codes) [] (c ∷ []) (λ xs. AreCellsOf xs ahead)
    (λ blank. ap (list_all is_white) h.2 ∙ all_filter is_white is_byte c.codes blank)
    (λ _. inl (h.0, refl, h.2))
last_dropped (c ∷ []) ahead (inr h) = absurd h.3
last_dropped (c ∷ d ∷ cs) ahead (inl h) = let no : d ∷ cs ≡ [] = h.1 in absurd (cc)
last_dropped (c ∷ d ∷ cs) ahead (inr h) = inr (h.0, h.1, h.2, last_dropped (d ∷ cs) h.1 h.3)

-- ---- the first part

white_front : (white rest : List ℕ) (b : ℕ) → list_all is_white white ≡ true → is_white b ≡ false
    → (prefix_len is_white (white ++ b ∷ rest) ≡ length white)
white_front [] rest b h k = cond-false (is_white b) _ 0 k
white_front (w ∷ ws) rest b h k =
    let both = and_parts (is_white w) (list_all is_white ws) h in
    let more = white_front ws rest b both.1 k in
    cond-true (is_white w) _ 0 both.0 ∙ omega (arith, more)

white_all : (white : List ℕ) → list_all is_white white ≡ true → prefix_len is_white white ≡ length white
white_all [] h = refl
white_all (w ∷ ws) h =
    let both = and_parts (is_white w) (list_all is_white ws) h in
    let more = white_all ws both.1 in
    cond-true (is_white w) _ 0 both.0 ∙ omega (arith, more)

index_at : (xs ys : List ℕ) (b : ℕ) → slice_index (xs ++ b ∷ ys) (length xs) ≡ b
index_at [] ys b = refl
index_at (x ∷ xs) ys b = index_at xs ys b

index_past : (xs : List ℕ) → slice_index xs (length xs) ≡ 0
index_past [] = refl
index_past (x ∷ xs) = index_past xs

drop_at : (xs ys : List ℕ) (b : ℕ) → drop (length xs + 1) (xs ++ b ∷ ys) ≡ ys
drop_at [] ys b = refl
drop_at (x ∷ xs) ys b =
    let step : length (x ∷ xs) + 1 ≡ suc (length xs + 1) = omega arith in
    ap (λ (k : ℕ). drop k (x ∷ (xs ++ b ∷ ys))) step ∙ drop_at xs ys b

-- a blank first part is before the first bar, or all of the line
bar_after_white : (white rest : List ℕ) → list_all is_white white ≡ true → after_first_bar (white ++ 124 ∷ rest) ≡ rest
bar_after_white white rest h =
    let all = white ++ 124 ∷ rest in
    let size = white_front white rest 124 h refl in
    ap (λ (k : ℕ). if eqb (slice_index all k) 124 then drop (k + 1) all else all) size
    ∙ ap (λ (b : ℕ). if eqb b 124 then drop (length white + 1) all else all) (index_at white rest 124)
    ∙ drop_at white rest 124

no_bar_white : (white : List ℕ) → list_all is_white white ≡ true → after_first_bar white ≡ white
no_bar_white white h =
    let size = white_all white h in
    ap (λ (k : ℕ). if eqb (slice_index white k) 124 then drop (k + 1) white else white) size
    ∙ ap (λ (b : ℕ). if eqb b 124 then drop (length white + 1) white else white) (index_past white)

-- codes that are bytes or columns of a tab
abbrev pub AreLineCodes : List ℕ → Type 0
AreLineCodes [] = Unit {0}
AreLineCodes (c ∷ cs) = ((is_byte c ≡ true) ⊎ (is_tab_column c ≡ true)) × AreLineCodes cs

-- whether the first part is blank
abbrev blank_first : List Cell → Bool
blank_first [] = true
blank_first (c ∷ cs) = is_blank c.codes

column_white : (c : ℕ) → is_tab_column c ≡ true → (is_white c ≡ true) × (is_byte c ≡ false)
column_white c h = let is : c ≡ 256 = eqb-true c 256 h in (ap is_white is, ap is_byte is)

white_no_escape : (c : ℕ) → is_white c ≡ true → may_escape false c ≡ false
white_no_escape c h = elim (cases_Bool (eqb c 92)) [
  | inl e ↦ let is : c ≡ 92 = eqb-true c 92 e in absurd (true≢false (sym h ∙ ap is_white is))
  | inr e ↦ ap (λ t. t && true) e
]

blank_more : (c : ℕ) (before : Kind) (ps : List Cell) → blank_first (in_first_cell c before ps) ≡ false → is_white c ≡ true → blank_first ps ≡ false
blank_more c before [] h k = h
blank_more c before (first ∷ others) h k = sym (ap (λ t. t && is_blank first.codes) k) ∙ h

-- bytes whose first one after white space is no bar
abbrev BeginsNoBar : List ℕ → Type 0
BeginsNoBar bytes = eqb (slice_index bytes (prefix_len is_white bytes)) 124 ≡ false

white_before : (c : ℕ) (bytes : List ℕ) → is_white c ≡ true → BeginsNoBar bytes → BeginsNoBar (c ∷ bytes)
white_before c bytes w h =
    let n = prefix_len is_white bytes in
    let step : prefix_len is_white (c ∷ bytes) ≡ suc n = cond-true (is_white c) _ 0 w ∙ omega arith in
    ap (λ (k : ℕ). eqb (slice_index (c ∷ bytes) k) 124) step ∙ h

other_first : (c : ℕ) (bytes : List ℕ) → is_white c ≡ false → eqb c 124 ≡ false → BeginsNoBar (c ∷ bytes)
other_first c bytes w h = ap (λ (k : ℕ). eqb (slice_index (c ∷ bytes) k) 124) (cond-false (is_white c) _ 0 w) ∙ h

and_true : (t : Bool) → (t && true) ≡ false → t ≡ false
and_true true h = h
and_true false h = refl

-- where the first part isn't blank, no bar comes first
first_no_bar : (before : Kind) (codes : List ℕ) → AreLineCodes codes → blank_first (parts before false codes) ≡ false → BeginsNoBar (bytes_of codes)
first_no_bar before [] lc f = absurd (true≢false f)
first_no_bar before (c ∷ cs) lc f = elim (cases_Bool (is_bar false c)) [
  | inl bar ↦ absurd (true≢false (sym (ap blank_first (cond-true (is_bar false c) _ _ bar)) ∙ f))
  | inr other ↦
      let rest : blank_first (in_first_cell c before (parts before (may_escape false c) cs)) ≡ false =
      sym (ap blank_first (cond-false (is_bar false c) _ _ other)) ∙ f in
      elim (cases_Bool (is_white c)) [
        | inl w ↦
            let more : blank_first (parts before false cs) ≡ false =
            sym (ap (λ e. blank_first (parts before e cs)) (white_no_escape c w)) ∙ blank_more c before (parts before (may_escape false c) cs) rest w in
            cond_both (is_byte c) (c ∷ bytes_of cs) (bytes_of cs) BeginsNoBar
            (λ _. white_before c (bytes_of cs) w (first_no_bar before cs lc.1 more)) (λ _. first_no_bar before cs lc.1 more)
        | inr b ↦
            cond_both (is_byte c) (c ∷ bytes_of cs) (bytes_of cs) BeginsNoBar (λ _. other_first c (bytes_of cs) b (and_true (eqb c 124) other))
            (λ unkept. absurd (neither c lc.0 b unkept))
      ]
]
  where
    neither : (c : ℕ) → (is_byte c ≡ true) ⊎ (is_tab_column c ≡ true) → is_white c ≡ false → is_byte c ≡ false → ⊥
    neither c (inl byte) b unkept = true≢false (sym byte ∙ unkept)
    neither c (inr column) b unkept = true≢false (sym (column_white c column).0 ∙ b)

-- the cells of a line, after a bar that it begins with
pub cells_are : (before : Kind) (codes : List ℕ) → AreLineCodes codes → AreCellsOf (cells before codes) (after_first_bar (bytes_of codes))
cells_are before codes lc = by_first (parts before false codes) refl (parts_are before false codes)
  where
    by_first : (ps : List Cell) → parts before false codes ≡ ps → AreParts ps (bytes_of codes)
        → AreCellsOf (without_blank_last (without_blank_first ps)) (after_first_bar (bytes_of codes))
    by_first [] is h = absurd h
    by_first (p ∷ others) is h =
        cond_both (is_blank p.codes) others (p ∷ others) (λ xs. AreCellsOf (without_blank_last xs) (after_first_bar (bytes_of codes)))
        (λ blank. after_blank p others h blank)
        (λ filled.
        subst (AreCellsOf (without_blank_last (p ∷ others)))
        (sym (cond-false _ _ _ (first_no_bar before codes lc (ap blank_first is ∙ filled))))
        (last_dropped (p ∷ others) (bytes_of codes) h))
      where
        after_blank : (p : Cell) (others : List Cell) → AreParts (p ∷ others) (bytes_of codes) → is_blank p.codes ≡ true
            → AreCellsOf (without_blank_last others) (after_first_bar (bytes_of codes))
        after_blank p others (inl h) blank =
            let white = ap (list_all is_white) h.2 ∙ all_filter is_white is_byte p.codes blank in
            subst (λ xs. AreCellsOf (without_blank_last xs) (after_first_bar (bytes_of codes))) (sym h.1)
            (ap (list_all is_white) (no_bar_white (bytes_of codes) white) ∙ white)
        after_blank p others (inr h) blank =
            let white = all_filter is_white is_byte p.codes blank in
            subst (AreCellsOf (without_blank_last others)) (sym (ap after_first_bar h.2 ∙ bar_after_white (bytes_of p.codes) h.1 white))
            (last_dropped others h.1 h.3)
