-- The points after codes of a text.
use Rattle.std.proofs.Common.{◌≡◌, ℕ, ◌+◌, ◌-◌, ◌≤◌, ◌<◌, zero, suc, Bool, true, false, not, ◌||◌, List, [], ◌∷◌, inl, inr, refl, sym, ap, ap₂, ◌∙◌}
use Rattle.std.proofs.Common.{arith, get_or, length, take}
use Rattle.std.specs.Prelude.{◌==◌, if◌then◌else◌, nat_lt}
use Rattle.std.specs.List.{fold}
use Rattle.std.proofs.lemmas.Bool.{cases_Bool, cond-false, cond-true, eqb-true, le-ltb, ne_eqb, or_parts}
use Rattle.std.proofs.lemmas.List.{take_more}
use Rattle.std.proofs.lemmas.List.Sums.{fold-append}
use Rattle.definition_text.specs.Columns.{Code, is_tab_column}
use Rattle.definition_text.specs.Content.{is_eol, return_and_feed}
use Rattle.engine_events.specs.Columns.{column_after, mark_size, tab_size}
use Rattle.event_definition.specs.Places.{after_code, after_codes, begins_in_tab, point}
use Rattle.parse_output.specs.declared.end.End.{End}
use Rattle.parse_output.specs.declared.spot.Spot.{Spot}
use Rattle.parse_output.specs.Ends.{columns_before, end_at, end_point, index_spot}
use Rattle.parse_output.specs.Spots.{next_spot, spot, start}
use Rattle.parse_output.proofs.Ends.{spot_index}
use Rattle.parse_pieces.specs.Sizes.{code_size, codes_size, columns_of, end_of}
use Rattle.parse_pieces.specs.Codes.{AllCome, Comes}

-- whether a column of a tab follows
abbrev pub goes_on : ℕ → Bool
goes_on after = not (after == 0)

-- ---- spots

same_point : (l m c d i j v w : ℕ) → l ≡ m → c ≡ d → i ≡ j → v ≡ w → point l c i v ≡ point m d j w
same_point l m c d i j v w line column index vs = ap₂ (λ (a b : ℕ). point a b i v) line column ∙ ap₂ (λ (a b : ℕ). point m d a b) index vs

pub next_at : (text : List ℕ) (i : ℕ) → i < length text → index_spot text (i + 1) ≡ next_spot (mark_size text) (index_spot text i) (get_or text i 0)
next_at text i inside =
    let f = next_spot (mark_size text) in
    let all : (i + 1) - 0 ≡ i + 1 = omega arith in
    let some : i - 0 ≡ i = omega arith in
    ap (λ (k : ℕ). fold f start (take k text)) all ∙ ap (fold f start) (take_more text i 0 inside)
    ∙ fold-append f start (take i text) (get_or text i 0 ∷ [])
    ∙ ap (λ (k : ℕ). f (fold f start (take k text)) (get_or text i 0)) (sym some)

-- past a byte order mark
past_mark : (mark : ℕ) (s : Spot) (b : ℕ) → mark ≤ s.index
    → next_spot mark s b
    ≡ (if b == 10 then spot (if s.returned then s.line else s.line + 1) 1 (s.index + 1) false
    else (if b == 13 then spot (s.line + 1) 1 (s.index + 1) true else spot s.line (column_after b s.column) (s.index + 1) false))
past_mark mark s b le = cond-false (nat_lt s.index mark) _ _ (le-ltb s.index mark le)

-- ---- points of ends

point_none : (text : List ℕ) (i : ℕ) → end_point text (end_at i 0) ≡ point (index_spot text i).line (index_spot text i).column i 0
point_none text i = let s = index_spot text i in same_point s.line s.line (s.column + 0) s.column i i 0 0 refl (omega arith) refl refl

owed_some : (k : ℕ) → (suc k == 0) ≡ false
owed_some k = ne_eqb (suc k) 0 (λ (e : suc k ≡ 0). omega (arith, e))

pub columns_some : (s : Spot) (k : ℕ) → columns_before s (suc k) ≡ tab_size s.column - suc k
columns_some s k = cond-false (suc k == 0) _ _ (owed_some k)

point_some : (text : List ℕ) (i k : ℕ) → end_point text (end_at i (suc k))
    ≡ point (index_spot text i).line ((index_spot text i).column + (tab_size (index_spot text i).column - suc k)) i (tab_size (index_spot text i).column - suc k)
point_some text i k =
    let s = index_spot text i in
    ap (λ (v : ℕ). point s.line (s.column + v) i v) (columns_some s k)

pub end_some : (before k : ℕ) → end_of before (suc k) ≡ end_at (before - 1) (suc k)
end_some before k = cond-false (suc k == 0) _ _ (owed_some k)

-- ---- one code

-- a byte that ends no line
dark_code : (text : List ℕ) (before : ℕ) (c : Code) → mark_size text ≤ before → before < length text → get_or text before 0 ≡ c
    → is_eol c ≡ false → end_point text (end_at (before + 1) 0) ≡ after_code false c (end_point text (end_at before 0))
dark_code text before c mark inside is dark =
    let s = index_spot text before in
    let ends = or_parts ((c == 10) || (c == 13)) (c == return_and_feed) dark in
    let others = or_parts (c == 10) (c == 13) ends.0 in
    let at : s.index ≡ before = spot_index text before (let le : before ≤ length text = omega (arith, inside) in le) in
    let next : index_spot text (before + 1) ≡ spot s.line (column_after c s.column) (s.index + 1) false =
    next_at text before inside ∙ past_mark (mark_size text) s (get_or text before 0) (omega (arith, mark, at))
    ∙ ap (λ (b : ℕ). if b == 10 then spot (if s.returned then s.line else s.line + 1) 1 (s.index + 1) false
    else (if b == 13 then spot (s.line + 1) 1 (s.index + 1) true else spot s.line (column_after b s.column) (s.index + 1) false)) is
    ∙ cond-false (c == 10) _ _ others.0 ∙ cond-false (c == 13) _ _ others.1 in
    point_none text (before + 1)
    ∙ ap (λ (x : Spot). point x.line x.column (before + 1) 0) next
    ∙ sym (ap (after_code false c) (point_none text before) ∙ cond-false (is_eol c) _ _ dark)

-- a line ending
ending_by : (text : List ℕ) (before size : ℕ) (c : Code) → is_eol c ≡ true → (index_spot text (before + size)).line ≡ (index_spot text before).line + 1
    → (index_spot text (before + size)).column ≡ 1 → size ≡ (if c == return_and_feed then 2 else 1)
    → end_point text (end_at (before + size) 0) ≡ after_code false c (end_point text (end_at before 0))
ending_by text before size c is line column sized =
    point_none text (before + size)
    ∙ same_point (index_spot text (before + size)).line ((index_spot text before).line + 1) (index_spot text (before + size)).column 1 (before + size) (before + size)
    0 0 line column refl refl
    ∙ sym (ap (after_code false c) (point_none text before) ∙ cond-true (is_eol c) _ _ is
    ∙ ap (λ (k : ℕ). point ((index_spot text before).line + 1) 1 (before + k) 0) (sym sized))

after_return : (text : List ℕ) (i : ℕ) → mark_size text ≤ i → i < length text → get_or text i 0 ≡ 13
    → index_spot text (i + 1) ≡ spot ((index_spot text i).line + 1) 1 ((index_spot text i).index + 1) true
after_return text i mark inside is =
    let s = index_spot text i in
    let at : s.index ≡ i = spot_index text i (let le : i ≤ length text = omega (arith, inside) in le) in
    next_at text i inside ∙ ap (next_spot (mark_size text) s) is ∙ past_mark (mark_size text) s 13 (omega (arith, mark, at))

feed_code : (text : List ℕ) (before : ℕ) → mark_size text ≤ before → before < length text → get_or text before 0 ≡ 10 → (index_spot text before).returned ≡ false
    → end_point text (end_at (before + 1) 0) ≡ after_code false 10 (end_point text (end_at before 0))
feed_code text before mark inside is alone =
    let s = index_spot text before in
    let at : s.index ≡ before = spot_index text before (let le : before ≤ length text = omega (arith, inside) in le) in
    let next : index_spot text (before + 1) ≡ spot (s.line + 1) 1 (s.index + 1) false =
    next_at text before inside ∙ ap (next_spot (mark_size text) s) is ∙ past_mark (mark_size text) s 10 (omega (arith, mark, at))
    ∙ ap (λ (t : Bool). spot (if t then s.line else s.line + 1) 1 (s.index + 1) false) alone in
    ending_by text before 1 10 refl (ap (λ (x : Spot). x.line) next) (ap (λ (x : Spot). x.column) next) refl

return_code : (text : List ℕ) (before : ℕ) → mark_size text ≤ before → before < length text → get_or text before 0 ≡ 13
    → end_point text (end_at (before + 1) 0) ≡ after_code false 13 (end_point text (end_at before 0))
return_code text before mark inside is =
    let next = after_return text before mark inside is in
    ending_by text before 1 13 refl (ap (λ (x : Spot). x.line) next) (ap (λ (x : Spot). x.column) next) refl

both_code : (text : List ℕ) (before : ℕ) → mark_size text ≤ before → before + 1 < length text → get_or text before 0 ≡ 13 → get_or text (before + 1) 0 ≡ 10
    → end_point text (end_at (before + 2) 0) ≡ after_code false 257 (end_point text (end_at before 0))
both_code text before mark inside is also =
    let s = index_spot text before in
    let first = after_return text before mark (let less : before < length text = omega (arith, inside) in less) is in
    let mid = index_spot text (before + 1) in
    let at : mid.index ≡ before + 1 = spot_index text (before + 1) (let le : before + 1 ≤ length text = omega (arith, inside) in le) in
    let two : (before + 1) + 1 ≡ before + 2 = omega arith in
    let next : index_spot text (before + 2) ≡ spot mid.line 1 (mid.index + 1) false =
    ap (index_spot text) (sym two) ∙ next_at text (before + 1) inside ∙ ap (next_spot (mark_size text) mid) also
    ∙ past_mark (mark_size text) mid 10 (omega (arith, mark, at))
    ∙ ap (λ (t : Bool). spot (if t then mid.line else mid.line + 1) 1 (mid.index + 1) false) (ap (λ (x : Spot). x.returned) first) in
    ending_by text before 2 257 refl (ap (λ (x : Spot). x.line) next ∙ ap (λ (x : Spot). x.line) first) (ap (λ (x : Spot). x.column) next) refl

-- the first column of a tab of which more follow
first_code : (text : List ℕ) (before k : ℕ) → 1 + suc k ≡ tab_size (index_spot text before).column
    → end_point text (end_of (before + 1) (suc k)) ≡ after_code true 9 (end_point text (end_at before 0))
first_code text before k wide =
    let s = index_spot text before in
    let index : (before + 1) - 1 ≡ before = omega arith in
    let one : tab_size s.column - suc k ≡ 1 = omega (arith, wide) in
    ap (end_point text) (end_some (before + 1) k ∙ ap (λ (i : ℕ). end_at i (suc k)) index) ∙ point_some text before k
    ∙ ap (λ (v : ℕ). point s.line (s.column + v) before v) one ∙ sym (ap (after_code true 9) (point_none text before))

-- a further column of it
column_code : (text : List ℕ) (before after : ℕ) → 0 < before → mark_size text ≤ before - 1 → before - 1 < length text → get_or text (before - 1) 0 ≡ 9
    → 1 + after < tab_size (index_spot text (before - 1)).column
    → end_point text (end_of (before + 0) after) ≡ after_code (goes_on after) 256 (end_point text (end_of before (1 + after)))
column_code text before zero some mark inside tab fewer =
    let i = before - 1 in
    let s = index_spot text i in
    let size = tab_size s.column in
    let at : s.index ≡ i = spot_index text i (let le : i ≤ length text = omega (arith, inside) in le) in
    let here : before + 0 ≡ i + 1 = omega (arith, some) in
    let next : index_spot text (i + 1) ≡ spot s.line (s.column + size) (s.index + 1) false =
    next_at text i inside ∙ ap (next_spot (mark_size text) s) tab ∙ past_mark (mark_size text) s 9 (omega (arith, mark, at)) in
    ap (λ (k : ℕ). end_point text (end_at k 0)) here ∙ point_none text (i + 1)
    ∙ ap (λ (x : Spot). point x.line x.column (i + 1) 0) next
    ∙ sym (ap (λ (e : End). after_code false 256 (end_point text e)) (end_some before 0) ∙ ap (after_code false 256) (point_some text i 0)
    ∙ same_point s.line s.line (s.column + (size - 1) + 1) (s.column + size) (i + 1) (i + 1) 0 0 refl (omega (arith, fewer)) refl refl)
column_code text before (suc k) some mark inside tab fewer =
    let i = before - 1 in
    let s = index_spot text i in
    let size = tab_size s.column in
    let here : before + 0 ≡ before = omega arith in
    let more : goes_on (suc k) ≡ true = ap not (owed_some k) in
    let two : 1 + suc k ≡ suc (suc k) = omega arith in
    ap (λ (b : ℕ). end_point text (end_of b (suc k))) here ∙ ap (end_point text) (end_some before k) ∙ point_some text i k
    ∙ sym (ap (λ (t : Bool). after_code t 256 (end_point text (end_of before (1 + suc k)))) more
    ∙ ap (λ (j : ℕ). after_code true 256 (end_point text (end_of before j))) two
    ∙ ap (λ (e : End). after_code true 256 (end_point text e)) (end_some before (suc k)) ∙ ap (after_code true 256) (point_some text i (suc k))
    ∙ same_point s.line s.line (s.column + (size - suc (suc k)) + 1) (s.column + (size - suc k)) i i ((size - suc (suc k)) + 1) (size - suc k) refl
    (omega (arith, fewer)) refl (omega (arith, fewer)))

or_none : (b : Bool) → (b || false) ≡ b
or_none true = refl
or_none false = refl

third : (a b c : Bool) → a ≡ false → c ≡ false → ((a || b) || c) ≡ true → b ≡ true
third a b c absent none is =
    sym (or_none b) ∙ ap (λ (t : Bool). b || t) (sym none) ∙ ap (λ (t : Bool). (t || b) || c) (sym absent) ∙ is

-- a code that is no further column of a tab
other_some : (text : List ℕ) (before : ℕ) (c : Code) (after : ℕ) → is_tab_column c ≡ false → Comes text before c after
    → end_point text (end_of (before + code_size c) after) ≡ after_code (goes_on after) c (end_point text (end_of before 0))
other_some text before c (suc k) h comes =
    let first = comes.first h (omega arith) in
    let one : code_size c ≡ 1 = ap code_size first.0 in
    let more : goes_on (suc k) ≡ true = ap not (owed_some k) in
    ap (λ (j : ℕ). end_point text (end_of (before + j) (suc k))) one ∙ first_code text before k first.1
    ∙ sym (ap₂ (λ (t : Bool) (x : ℕ). after_code t x (end_point text (end_at before 0))) more first.0)
other_some text before c zero h comes =
    elim (cases_Bool (is_eol c)) [
      | inr dark ↦
          let ends = or_parts ((c == 10) || (c == 13)) (c == return_and_feed) dark in
          let one : code_size c ≡ 1 = cond-false (is_tab_column c) _ _ h ∙ cond-false (c == return_and_feed) _ _ ends.1 in
          ap (λ (j : ℕ). end_point text (end_at (before + j) 0)) one ∙ dark_code text before c (comes.mark h) (comes.within h) (comes.byte h dark) dark
      | inl is ↦
          elim (cases_Bool (c == return_and_feed)) [
            | inl both ↦
                let code : c ≡ 257 = eqb-true c 257 both in
                let b = comes.both code in
                ap (λ (x : ℕ). end_point text (end_at (before + code_size x) 0)) code ∙ both_code text before (comes.mark h) b.2 b.0 b.1
                ∙ sym (ap (λ (x : ℕ). after_code false x (end_point text (end_at before 0))) code)
            | inr one ↦
                elim (cases_Bool (c == 10)) [
                  | inl feed ↦
                      let code : c ≡ 10 = eqb-true c 10 feed in
                      let b = comes.feed code in
                      ap (λ (x : ℕ). end_point text (end_at (before + code_size x) 0)) code ∙ feed_code text before (comes.mark h) (comes.within h) b.0 b.1
                      ∙ sym (ap (λ (x : ℕ). after_code false x (end_point text (end_at before 0))) code)
                  | inr absent ↦
                      let code : c ≡ 13 = eqb-true c 13 (third (c == 10) (c == 13) (c == return_and_feed) absent one is) in
                      ap (λ (x : ℕ). end_point text (end_at (before + code_size x) 0)) code
                      ∙ return_code text before (comes.mark h) (comes.within h) (comes.return code)
                      ∙ sym (ap (λ (x : ℕ). after_code false x (end_point text (end_at before 0))) code)
                ]
          ]
    ]

-- any code
pub code_point : (text : List ℕ) (before : ℕ) (c : Code) (after : ℕ) → Comes text before c after
    → end_point text (end_of (before + code_size c) after) ≡ after_code (goes_on after) c (end_point text (end_of before (columns_of (c ∷ []) after)))
code_point text before c after comes =
    elim (cases_Bool (is_tab_column c)) [
      | inl h ↦
          let code : c ≡ 256 = eqb-true c 256 h in
          let col = comes.column h in
          let size : code_size c ≡ 0 = cond-true (is_tab_column c) _ _ h in
          let owed : columns_of (c ∷ []) after ≡ 1 + after = cond-true (is_tab_column c) _ _ h in
          ap (λ (k : ℕ). end_point text (end_of (before + k) after)) size
          ∙ column_code text before after col.0 col.1 col.2 col.3 col.4
          ∙ sym (ap₂ (λ (x k : ℕ). after_code (goes_on after) x (end_point text (end_of before k))) code owed)
      | inr h ↦
          let owed : columns_of (c ∷ []) after ≡ 0 = cond-false (is_tab_column c) _ _ h in
          other_some text before c after h comes ∙ ap (λ (k : ℕ). after_code (goes_on after) c (end_point text (end_of before k))) (sym owed)
    ]

-- whether codes begin with a further column of a tab
pub begins : (cs : List Code) (after : ℕ) → begins_in_tab cs (goes_on after) ≡ goes_on (columns_of cs after)
begins [] after = refl
begins (c ∷ cs) after =
    elim (cases_Bool (is_tab_column c)) [
      | inl h ↦
          let owed : columns_of (c ∷ cs) after ≡ suc (columns_of cs after) = cond-true (is_tab_column c) _ _ h ∙ (let one : 1 + columns_of cs after ≡ suc (columns_of cs after) = omega arith in one) in
          h ∙ sym (ap goes_on owed ∙ ap not (owed_some (columns_of cs after)))
      | inr h ↦
          let owed : columns_of (c ∷ cs) after ≡ 0 = cond-false (is_tab_column c) _ _ h in
          h ∙ sym (ap goes_on owed)
    ]

same_columns : (c : Code) (cs : List Code) (after : ℕ) → columns_of (c ∷ []) (columns_of cs after) ≡ columns_of (c ∷ cs) after
same_columns c cs after = refl

-- codes, one after another
pub codes_point : (text : List ℕ) (before : ℕ) (cs : List Code) (after : ℕ) → AllCome text before cs after
    → end_point text (end_of (before + codes_size cs) after) ≡ after_codes (goes_on after) cs (end_point text (end_of before (columns_of cs after)))
codes_point text before [] after come = let same : before + 0 ≡ before = omega arith in ap (λ (k : ℕ). end_point text (end_of k after)) same
codes_point text before (c ∷ cs) after come =
    let size : before + (code_size c + codes_size cs) ≡ (before + code_size c) + codes_size cs = omega arith in
    ap (λ (k : ℕ). end_point text (end_of k after)) size ∙ codes_point text (before + code_size c) cs after come.1
    ∙ ap (after_codes (goes_on after) cs) (
    code_point text before c (columns_of cs after) come.0
    ∙ ap (λ (t : Bool). after_code t c (end_point text (end_of before (columns_of (c ∷ cs) after)))) (sym (begins cs after)))
