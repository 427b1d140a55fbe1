-- The text of a heading by `#` among the bytes of its line (CommonMark 4.2).
use Rattle.std.proofs.Common.{◌≡◌, ℕ, zero, suc, ◌-◌, ◌<◌, Bool, true, false, ◌||◌, ◌&&◌, eqb, leb, if◌then◌else◌, List, [], ◌∷◌, ◌++◌, None, Some, refl, sym, ap, ◌∙◌, inl, inr, length, get_or, replicate, take, drop, arith}
use Rattle.parse_leaves.proofs.Prelude.{append_assoc, AreContentLines, Atx, bare, bytes_of, cases_Bool, cond-false, cond-true, Constructs, ends_line}
use Rattle.parse_leaves.proofs.Prelude.{HaveNoEnding, heading_atx, is_tab_column, is_white, list_any, number_sign, or_parts, Piece, piece_line, piece_lines}
use Rattle.parse_leaves.proofs.Prelude.{Rest, run, small_indent, tab_column, take-append-drop, true≢false}
use Rattle.parse_leaves.proofs.Prelude.{eqb-true}
use Rattle.std.proofs.lemmas.Bool.{and_parts}
use Rattle.std.proofs.Common.{◌+◌}
use Rattle.std.specs.List.{list_all, suffix_len}
use Rattle.std.specs.Prelude.{not}
use Rattle.definition_text.specs.Columns.{trim}
use Rattle.definition_text.specs.Runs.{after_run}
use Rattle.definition_block.specs.HeadingAtx.{atx, atx_of, begins_apart, ends_apart, without_closing, without_run}
use Rattle.parse_leaves.specs.Atx.{EndsHeading}
use Rattle.parse_raw.proofs.Bytes.{all_drop, suffix_passes}
use Rattle.parse_leaves.proofs.Starts.{BeginsDark, count_dark, count_white, start_dark, white_count}

dark_take : (k : ℕ) (bs : List ℕ) → BeginsDark bs → BeginsDark (take k bs)
dark_take zero bs dark = tt
dark_take (suc k) [] dark = tt
dark_take (suc k) (b ∷ bs) dark = dark

dark_none : (bs : List ℕ) → BeginsDark bs → white_count bs ≡ 0
dark_none [] dark = refl
dark_none (b ∷ bs) dark = count_dark b bs dark

-- what is trimmed begins with its text, where it begins with no space
trim_front : (bs : List ℕ) → BeginsDark bs → (others : List ℕ) × (bs ≡ trim bs ++ others) × (list_all is_white others ≡ true)
trim_front bs dark =
    let rest = drop (white_count bs) bs in
    let k = length rest - suffix_len is_white rest in
    let same : rest ≡ bs = ap (λ n. drop n bs) (dark_none bs dark) in
    (drop k rest, sym (take-append-drop k rest ∙ same), suffix_passes is_white rest)

after_hashes : (h v : List ℕ) → list_all (λ b. eqb b number_sign) h ≡ true → list_all is_white v ≡ true → list_all is_white (after_run number_sign (h ++ v)) ≡ true
after_hashes [] v hashes white = all_drop is_white (run number_sign v) v white
after_hashes (x ∷ h) v hashes white =
    let parts = and_parts (eqb x number_sign) (list_all (λ b. eqb b number_sign) h) hashes in
    let one : run number_sign (x ∷ (h ++ v)) ≡ suc (run number_sign (h ++ v)) =
    cond-true (eqb x number_sign) (1 + run number_sign (h ++ v)) 0 parts.0 ∙ omega arith in
    ap (λ (n : ℕ). list_all is_white (drop n (x ∷ (h ++ v)))) one ∙ after_hashes h v parts.1 white

-- white space, a run of `#`, and white space
ends_heading : (w h v : List ℕ) → list_all is_white w ≡ true → list_all (λ b. eqb b number_sign) h ≡ true → list_all is_white v ≡ true
    → EndsHeading (w ++ (h ++ v))
ends_heading [] [] v front hashes white = all_drop is_white (run number_sign (drop (white_count v) v)) (drop (white_count v) v) (all_drop is_white (white_count v) v white)
ends_heading [] (x ∷ h) v front hashes white =
    let parts = and_parts (eqb x number_sign) (list_all (λ b. eqb b number_sign) h) hashes in
    let dark : is_white x ≡ false = ap is_white (eqb-true x number_sign parts.0) in
    ap (λ (n : ℕ). list_all is_white (after_run number_sign (drop n (x ∷ (h ++ v))))) (count_dark x (h ++ v) dark)
    ∙ after_hashes (x ∷ h) v hashes white
ends_heading (x ∷ w) h v front hashes white =
    let parts = and_parts (is_white x) (list_all is_white w) front in
    ap (λ (n : ℕ). list_all is_white (after_run number_sign (drop n (x ∷ (w ++ (h ++ v)))))) (count_white x (w ++ (h ++ v)) parts.0)
    ∙ ends_heading w h v parts.1 hashes white

-- the text of a heading is at the front of what follows the white space
pub atx_front : (bs : List ℕ) → (others : List ℕ) × (drop (white_count bs) bs ≡ without_closing (trim bs) ++ others) × EndsHeading others
atx_front bs =
    let rest = drop (white_count bs) bs in
    let k = length rest - suffix_len is_white rest in
    let text = trim bs in
    let last = suffix_passes is_white rest in
    let first : rest ≡ text ++ drop k rest = sym (take-append-drop k rest) in
    let m = length text - suffix_len (λ b. eqb b number_sign) text in
    let before = without_run text in
    let second : text ≡ before ++ drop m text = sym (take-append-drop m text) in
    let third = trim_front before (dark_take m text (dark_take k rest (start_dark bs))) in
    elim (cases_Bool (ends_apart before)) [
      | inl apart ↦ (
        third.0 ++ (drop m text ++ drop k rest),
        first ∙ ap (λ (xs : List ℕ). xs ++ drop k rest) (second ∙ ap (λ (xs : List ℕ). xs ++ drop m text) third.1)
            ∙ append_assoc (trim before ++ third.0) (drop m text) (drop k rest)
            ∙ append_assoc (trim before) third.0 (drop m text ++ drop k rest)
            ∙ ap (λ (xs : List ℕ). xs ++ (third.0 ++ (drop m text ++ drop k rest))) (sym (cond-true (ends_apart before) (trim before) text apart)),
        ends_heading third.0 (drop m text) (drop k rest) third.2 (suffix_passes (λ b. eqb b number_sign) text) last,
      )
      | inr other ↦ (
        drop k rest,
        first ∙ ap (λ (xs : List ℕ). xs ++ drop k rest) (sym (cond-false (ends_apart before) (trim before) text other)),
        ends_heading [] [] (drop k rest) refl refl last,
      )
    ]

-- ---- a heading on a line

pub record IsAtxOf (on : Constructs) (bs : List ℕ) (found : Atx) : Type 0 where
  pub made : on.heading_atx ≡ true
  pub rank : found.rank ≡ run number_sign bs
  pub some : 0 < run number_sign bs
  pub sized : (leb 1 (run number_sign bs) && leb (run number_sign bs) 6) ≡ true
  pub content : found.content ≡ without_closing (trim (drop (run number_sign bs) bs))

none_atx : (found : Atx) → None ≡ Some found → ⊥
none_atx found h = cc

some_atx : (a b : Atx) → Some a ≡ Some b → a ≡ b
some_atx a b h = cc

some_rank : (k : ℕ) (p q : Bool) → (leb 1 k && p && q) ≡ true → 0 < k
some_rank zero p q h = absurd (true≢false (sym h))
some_rank (suc k) p q h = omega arith

both_first : (p q s : Bool) → (p && q && s) ≡ true → (p && q) ≡ true
both_first true true s h = refl
both_first true false s h = absurd (true≢false (sym h))
both_first false q s h = absurd (true≢false (sym h))

pub atx_on : (on : Constructs) (rest : Rest) (found : Atx) → heading_atx on rest ≡ Some found → IsAtxOf on (bytes_of (bare rest)) found
atx_on on rest found is =
    let bs = bytes_of (bare rest) in
    let rank = run number_sign bs in
    let may = on.heading_atx && small_indent on rest in
    let test = leb 1 rank && leb rank 6 && begins_apart (after_run number_sign bs) in
    let here = atx rank (without_closing (trim (after_run number_sign bs))) in
    elim (cases_Bool may) [
      | inl holds ↦
          let of : atx_of bs ≡ Some found = sym (cond-true may (atx_of bs) None holds) ∙ is in
          elim (cases_Bool test) [
            | inl good ↦
                let same : here ≡ found = some_atx here found (sym (cond-true test (Some here) None good) ∙ of) in
                record {
                  made = (and_parts on.heading_atx (small_indent on rest) holds).0;
                  rank = ap (λ (a : Atx). a.rank) (sym same);
                  some = some_rank rank (leb rank 6) (begins_apart (after_run number_sign bs)) good;
                  sized = both_first (leb 1 rank) (leb rank 6) (begins_apart (after_run number_sign bs)) good;
                  content = ap (λ (a : Atx). a.content) (sym same);
                }
            | inr bad ↦ absurd (none_atx found (sym (cond-false test (Some here) None bad) ∙ of))
          ]
      | inr fails ↦ absurd (none_atx found (sym (cond-false may (atx_of bs) None fails) ∙ is))
    ]

-- ---- no columns of a tab

no_columns : (rest : List ℕ) → list_any is_tab_column (bytes_of rest) ≡ false
no_columns [] = refl
no_columns (c ∷ cs) = elim (cases_Bool (is_tab_column c)) [
  | inl column ↦ ap (λ b. list_any is_tab_column (if not b then c ∷ bytes_of cs else bytes_of cs)) column ∙ no_columns cs
  | inr byte ↦
      ap (λ b. list_any is_tab_column (if not b then c ∷ bytes_of cs else bytes_of cs)) byte
      ∙ ap (λ b. b || list_any is_tab_column (bytes_of cs)) byte ∙ no_columns cs
]

any_drop : (p : ℕ → Bool) (k : ℕ) (bs : List ℕ) → list_any p bs ≡ false → list_any p (drop k bs) ≡ false
any_drop p zero bs none = none
any_drop p (suc k) [] none = none
any_drop p (suc k) (b ∷ bs) none = any_drop p k bs (or_parts (p b) (list_any p bs) none).1

any_front : (p : ℕ → Bool) (xs ys : List ℕ) → list_any p (xs ++ ys) ≡ false → list_any p xs ≡ false
any_front p [] ys none = refl
any_front p (x ∷ xs) ys none =
    let parts = or_parts (p x) (list_any p (xs ++ ys)) none in ap (λ b. b || list_any p xs) parts.0 ∙ any_front p xs ys parts.1

none_owed : (k : ℕ) (bs : List ℕ) → list_any is_tab_column (replicate k tab_column ++ bs) ≡ false → (k ≡ 0) × (list_any is_tab_column bs ≡ false)
none_owed zero bs none = (refl, none)
none_owed (suc k) bs none = absurd (true≢false none)

-- the text of a heading has no columns of a tab
pub text_bytes : (rest : List ℕ) (k m owed : ℕ) (text codes others : List ℕ) → drop m (drop k (bytes_of rest)) ≡ codes ++ others
    → replicate owed tab_column ++ text ≡ codes → (owed ≡ 0) × (list_any is_tab_column text ≡ false)
text_bytes rest k m owed text codes others parts same =
    none_owed owed text
    (ap (list_any is_tab_column) same
    ∙ any_front is_tab_column codes others
    (ap (list_any is_tab_column) (sym parts) ∙ any_drop is_tab_column m (drop k (bytes_of rest)) (any_drop is_tab_column k (bytes_of rest) (no_columns rest))))

pub clear_text : (cs : List ℕ) → HaveNoEnding cs → list_any ends_line cs ≡ false
clear_text [] clear = refl
clear_text (c ∷ cs) clear = ap (λ b. b || list_any ends_line cs) (or_parts (ends_line c) (eqb c 257) clear.0).0 ∙ clear_text cs clear.1

pub nothing : (bs : List ℕ) → length bs ≡ 0 → bs ≡ []
nothing [] none = refl
nothing (b ∷ bs) none = absurd (omega (arith, none))

-- a text that isn't empty
pub some_bytes : (bs : List ℕ) → false ≡ eqb (length bs) 0 → 0 < length bs
some_bytes [] none = absurd (true≢false (sym none))
some_bytes (b ∷ bs) some = omega arith

-- the first of the lines of a content has no line ending
pub first_clear : (pieces : List Piece) (none : Piece) → AreContentLines (piece_lines pieces) → 0 < length pieces
    → HaveNoEnding (piece_line (get_or pieces 0 none)).codes
first_clear [] none are some = absurd (omega (arith, some))
first_clear (p ∷ []) none are some = are
first_clear (p ∷ q ∷ others) none are some = are.0
