-- The bytes of nodes in a line, and what they are among the parts of a raw block (CommonMark 4.4 to 4.6).
use Rattle.std.proofs.Common.{◌≡◌, ℕ, zero, suc, ◌+◌, ◌-◌, ◌<◌, ◌≤◌, Bool, true, false, not, ◌&&◌, ◌||◌, List, [], ◌∷◌, ◌++◌, eqb, ltb, inl, inr, refl}
use Rattle.std.proofs.Common.{sym, ap, ap₂, subst, ◌∙◌, drop, take, length, length-append, arith, get_or}
use Rattle.parse_raw.proofs.Prelude.{append-nil, AreNext, Around, between, bytes_of, cases_Bool, cond-false, cond-true, End, end_after, end_at, enter_at}
use Rattle.parse_raw.proofs.Prelude.{eqb-true, exit_at, is_tab_column, IsLineOf, left_bytes, left_next, Name, nat_tests, ne_eqb, next_after, Nil, Node}
use Rattle.parse_raw.proofs.Prelude.{prefix_len, replicate, Rest, rest_start, same_end, space, spaced_text_of, text_of, whole, ◌==◌}
use Rattle.std.specs.List.{fold, repeat}
use Rattle.std.proofs.Math.Seq.{drop-nil}
use Rattle.std.proofs.lemmas.Bool.{ltb-true, ltb-false, le-ltb}
use Rattle.std.proofs.lemmas.List.{length-replicate}
use Rattle.engine_events.specs.Columns.{column_after, ends_no_line, mark_size, tab_size}
use Rattle.event_grammar.specs.Points.{column_at, column_on, edge, spot as cut}
use Rattle.event_meaning.specs.Children.{columns_after}
use Rattle.parse_output.specs.declared.spot.Spot.{Spot}
use Rattle.parse_output.specs.Ends.{end_columns, index_spot}
use Rattle.parse_output.specs.Spots.{next_spot, start}
use Rattle.parse_lines.proofs.Ahead.{after_tab}
use Rattle.parse_lines.proofs.Columns.{IsAmong, among, inside, past}
use Rattle.parse_lines.proofs.Ends.{start_among}

-- ---- columns of a text

spot_column : (mark b : ℕ) (s : Spot) → mark ≤ s.index → (next_spot mark s b).column ≡ column_on s.column b
spot_column mark b s le =
    let other = cond-false (ltb s.index mark) _ _ (le-ltb s.index mark le) in
    elim (cases_Bool (eqb b 10)) [
      | inl h ↦
          ap (λ (x : Spot). x.column) (other ∙ cond-true (eqb b 10) _ _ h)
          ∙ sym (cond-false (ends_no_line b) (column_after b s.column) 1 (ap (λ (t : Bool). not (t || eqb b 13)) h))
      | inr h ↦
          elim (cases_Bool (eqb b 13)) [
            | inl k ↦
                ap (λ (x : Spot). x.column) (other ∙ cond-false (eqb b 10) _ _ h ∙ cond-true (eqb b 13) _ _ k)
                ∙ sym (cond-false (ends_no_line b) (column_after b s.column) 1 (ap₂ (λ (t u : Bool). not (t || u)) h k))
            | inr k ↦
                ap (λ (x : Spot). x.column) (other ∙ cond-false (eqb b 10) _ _ h ∙ cond-false (eqb b 13) _ _ k)
                ∙ sym (cond-true (ends_no_line b) (column_after b s.column) 1 (ap₂ (λ (t u : Bool). not (t || u)) h k))
          ]
    ]

spot_index : (mark b : ℕ) (s : Spot) → (next_spot mark s b).index ≡ s.index + 1
spot_index mark b s =
    elim (cases_Bool (ltb s.index mark)) [
      | inl h ↦ ap (λ (x : Spot). x.index) (cond-true (ltb s.index mark) _ _ h)
      | inr h ↦
          let other = cond-false (ltb s.index mark) _ _ h in
          elim (cases_Bool (eqb b 10)) [
            | inl k ↦ ap (λ (x : Spot). x.index) (other ∙ cond-true (eqb b 10) _ _ k)
            | inr k ↦
                elim (cases_Bool (eqb b 13)) [
                  | inl m ↦ ap (λ (x : Spot). x.index) (other ∙ cond-false (eqb b 10) _ _ k ∙ cond-true (eqb b 13) _ _ m)
                  | inr m ↦ ap (λ (x : Spot). x.index) (other ∙ cond-false (eqb b 10) _ _ k ∙ cond-false (eqb b 13) _ _ m)
                ]
          ]
    ]

columns_on : (mark : ℕ) (bs : List ℕ) (s : Spot) → (fold (next_spot mark) s bs).column ≡ fold column_on s.column (drop (mark - s.index) bs)
columns_on mark [] s = ap (fold column_on s.column) (sym (drop-nil (mark - s.index)))
columns_on mark (b ∷ bs) s =
    let next = next_spot mark s b in
    let index = spot_index mark b s in
    let more = columns_on mark bs next in
    elim (cases_Bool (ltb s.index mark)) [
      | inl h ↦
          let lt = ltb-true s.index mark h in
          let same : next.column ≡ s.column = ap (λ (x : Spot). x.column) (cond-true (ltb s.index mark) _ _ h) in
          let fewer : mark - s.index ≡ suc (mark - next.index) = omega arith in
          more ∙ ap (λ (c : ℕ). fold column_on c (drop (mark - next.index) bs)) same
          ∙ ap (λ (k : ℕ). fold column_on s.column (drop k (b ∷ bs))) (sym fewer)
      | inr h ↦
          let le = ltb-false s.index mark h in
          let none : mark - next.index ≡ 0 = omega arith in
          let none_here : mark - s.index ≡ 0 = omega arith in
          more ∙ ap (λ (k : ℕ). fold column_on next.column (drop k bs)) none
          ∙ ap (λ (c : ℕ). fold column_on c bs) (spot_column mark b s le)
          ∙ ap (λ (k : ℕ). fold column_on s.column (drop k (b ∷ bs))) (sym none_here)
    ]

-- the column at an index, as events and as their drafts have it
pub column_same : (text : List ℕ) (index : ℕ) → column_at text index ≡ (index_spot text index).column
column_same text index =
    let all : index - 0 ≡ index = omega arith in
    let mark : mark_size text - 0 ≡ mark_size text = omega arith in
    sym (columns_on (mark_size text) (between 0 index text) start
    ∙ ap (λ (k : ℕ). fold column_on 1 (drop k (between 0 index text))) mark
    ∙ ap (λ (k : ℕ). fold column_on 1 (drop (mark_size text) (take k text))) all)

-- ---- the bytes of a node

spaces : (n : ℕ) → repeat {A = ℕ} n (32 ∷ []) ≡ replicate n 32
spaces zero = refl
spaces (suc n) = ap (λ (xs : List ℕ). 32 ∷ xs) (spaces n)

take_next : (text : List ℕ) (index : ℕ) (bytes : List ℕ) → AreNext text (end_at index 0) bytes → take (length bytes) (drop index text) ≡ bytes
take_next text index [] are = refl
take_next text index (b ∷ bs) are = ap (take (suc (length bs))) are.0 ∙ ap (λ (xs : List ℕ). b ∷ xs) (take_next text (index + 1) bs are.1)

-- where the first byte after the columns that are owed is
abbrev pub first_byte : ℕ → ℕ → ℕ
first_byte index zero = index
first_byte index (suc owed) = index + 1

abbrev pub void_node : List ℕ → Name → End → End → Node
void_node text name from to = Around (enter_at text name from) Nil (exit_at text name to)

-- the bytes, and the same with a space for each column
pub record HasBytes (text : List ℕ) (node : Node) (owed : ℕ) (bytes : List ℕ) : Type 0 where
  pub own : text_of text node ≡ bytes
  pub spaced : spaced_text_of text node ≡ replicate owed space ++ bytes

pub node_bytes : (text : List ℕ) (name : Name) (index owed stop : ℕ) (bytes : List ℕ) → AreNext text (end_at index owed) (replicate owed space ++ bytes)
    → stop ≡ first_byte index owed + length bytes → HasBytes text (void_node text name (end_at index owed) (end_at stop 0)) owed bytes
node_bytes text name index zero stop bytes are is =
    let size : stop - index ≡ length bytes = omega arith in
    let own : between index stop text ≡ bytes = ap (λ (k : ℕ). take k (drop index text)) size ∙ take_next text index bytes are in
    record { own = own; spaced = append-nil (between index stop text) ∙ own }
node_bytes text name index (suc owed) stop bytes are is =
    let tab = are.0.2 in
    let fewer = tab.fewer in
    let vs = end_columns text (end_at index (suc owed)) in
    let vs_is : vs ≡ tab_size (index_spot text index).column - suc owed = cond-false (eqb (suc owed) 0) _ _ (ne_eqb (suc owed) 0 (λ e. omega arith)) in
    let some : eqb vs 0 ≡ false = ne_eqb vs 0 (λ e. omega arith) in
    let first : edge (cut index vs) ≡ index + 1 = cond-false (eqb vs 0) index (index + 1) some in
    let size : stop - (index + 1) ≡ length bytes = omega arith in
    let more = next_after text (replicate (suc owed) space) bytes (end_at index (suc owed)) are in
    let columns : length (replicate (suc owed) space) ≡ suc owed = length-replicate (suc owed) space in
    let here : index + 1 + (suc owed - suc owed) ≡ index + 1 = omega arith in
    let at : end_after (end_at index (suc owed)) (length (replicate (suc owed) space)) ≡ end_at (index + 1) 0 =
    ap (end_after (end_at index (suc owed))) columns ∙ after_tab index (suc owed) (suc owed) (omega arith) (omega arith)
    ∙ ap (λ (k : ℕ). end_at k 0) here in
    let bytes_are : take (length bytes) (drop (index + 1) text) ≡ bytes =
    take_next text (index + 1) bytes (subst (λ (e : End). AreNext text e bytes) at more) in
    let own : between (edge (cut index vs)) stop text ≡ bytes =
    ap (λ (k : ℕ). between k stop text) first ∙ ap (λ (k : ℕ). take k (drop (index + 1) text)) size ∙ bytes_are in
    let apart : eqb index stop ≡ false = ne_eqb index stop (λ e. omega arith) in
    let not_within : (not (eqb vs 0) && eqb index stop) ≡ false = ap₂ (λ (t u : Bool). not t && u) some apart in
    let left : tab_size (column_at text index) - vs ≡ suc owed =
    ap (λ (c : ℕ). tab_size c - vs) (column_same text index) ∙ omega arith in
    let after : columns_after text (cut index vs) ≡ suc owed = cond-false (eqb vs 0) _ _ some ∙ left in
    record {
      own = own;
      spaced =
          cond-false (not (eqb vs 0) && eqb index stop) _ _ not_within
          ∙ append-nil (repeat {A = ℕ} (columns_after text (cut index vs)) (32 ∷ []) ++ between (edge (cut index vs)) stop text)
          ∙ ap (λ (k : ℕ). repeat {A = ℕ} k (32 ∷ []) ++ between (edge (cut index vs)) stop text) after
          ∙ ap₂ (λ (xs ys : List ℕ). xs ++ ys) (spaces (suc owed)) own;
    }

-- ---- what is left of a line

line_end_by : (first p i owed left line_end : ℕ) (bs : List ℕ) → line_end ≡ first + length bs → IsAmong bs 1 p i owed left
    → line_end ≡ first_byte (first + p) owed + left
line_end_by first p i owed left line_end bs end (inl at) =
    let sizes = at.sizes in
    let same : line_end ≡ first + p + left = omega arith in
    same ∙ ap (λ (k : ℕ). first_byte (first + p) k + left) (sym at.owed_none)
line_end_by first p i zero left line_end bs end (inr at) = let some = at.owed_some in absurd (omega arith)
line_end_by first p i (suc owed) left line_end bs end (inr at) = let sizes = at.sizes in omega arith

-- the ending of a line is as far behind a place among its bytes as what is left of it is long
line_end_from : (before content : List ℕ) (line_end n : ℕ) → ((k : ℕ) → get_or content k 0 < 256) → line_end ≡ length before + length content
    → let rest = drop n (whole content) in
    line_end ≡ first_byte (rest_start line_end rest).index (rest_start line_end rest).owed + length (bytes_of rest)
line_end_from before content line_end n bytes end =
    let rest = drop n (whole content) in
    let p = past 0 content n in
    let owed = prefix_len is_tab_column rest in
    let left = length (bytes_of rest) in
    let at = among 0 content n bytes in
    let start : rest_start line_end rest ≡ end_at (length before + p) owed =
    ap (λ (k : ℕ). rest_start k rest) end ∙ start_among (length before) content 1 p (inside 0 content n) owed left at in
    line_end_by (length before) p (inside 0 content n) owed left line_end content end at ∙ ap (λ (e : End). first_byte e.index e.owed + left) (sym start)

no_length : (xs : List ℕ) → length xs ≡ 0 → xs ≡ []
no_length [] is = refl
no_length (x ∷ xs) is = absurd (omega arith)

size_by : (line_end index owed left : ℕ) → line_end ≡ first_byte index owed + left
    → (((line_end == index) && (0 == owed)) ≡ true → owed + left ≡ 0) × (((line_end == index) && (0 == owed)) ≡ false → 0 < owed + left)
size_by line_end index zero left is = grind (arith, nat_tests)
size_by line_end index (suc owed) left is = grind (arith, nat_tests)

rest_owed : (line_end : ℕ) (rest : Rest) → (rest_start line_end rest).owed ≡ prefix_len is_tab_column rest
rest_owed line_end rest =
    let owed = prefix_len is_tab_column rest in
    elim (cases_Bool (eqb owed 0)) [
      | inl h ↦ ap (λ (e : End). e.owed) (cond-true (eqb owed 0) _ _ h) ∙ sym (eqb-true owed 0 h)
      | inr h ↦ ap (λ (e : End). e.owed) (cond-false (eqb owed 0) _ _ h)
    ]

-- a node for what is left of a line has its bytes
pub rest_bytes : (text before content after : List ℕ) (line_end n : ℕ) (name : Name) → IsLineOf text before content after
    → line_end ≡ length before + length content → let rest = drop n (whole content) in
    HasBytes text (void_node text name (rest_start line_end rest) (end_at line_end 0)) (prefix_len is_tab_column rest) (bytes_of rest)
rest_bytes text before content after line_end n name line end =
    let rest = drop n (whole content) in
    let from = rest_start line_end rest in
    let owed = rest_owed line_end rest in
    let next = left_next text before content after line_end n line end in
    subst (λ (k : ℕ). HasBytes text (void_node text name from (end_at line_end 0)) k (bytes_of rest)) owed (
    node_bytes text name from.index from.owed line_end (bytes_of rest)
    (subst (λ (k : ℕ). AreNext text from (replicate k space ++ bytes_of rest)) (sym owed) next)
    (line_end_from before content line_end n line.bytes end)
    )

-- it has a size where something is left
pub rest_size : (before content : List ℕ) (line_end n : ℕ) → ((k : ℕ) → get_or content k 0 < 256) → line_end ≡ length before + length content
    → let rest = drop n (whole content) in
    (same_end (end_at line_end 0) (rest_start line_end rest) ≡ true → left_bytes rest ≡ [])
    × (same_end (end_at line_end 0) (rest_start line_end rest) ≡ false → 0 < length (left_bytes rest))
rest_size before content line_end n bytes end =
    let rest = drop n (whole content) in
    let from = rest_start line_end rest in
    let owed = rest_owed line_end rest in
    let is = line_end_from before content line_end n bytes end in
    let size : length (left_bytes rest) ≡ from.owed + length (bytes_of rest) =
    length-append (replicate (prefix_len is_tab_column rest) space) (bytes_of rest)
    ∙ ap (λ (k : ℕ). k + length (bytes_of rest)) (length-replicate (prefix_len is_tab_column rest) space ∙ sym owed) in
    let found = size_by line_end from.index from.owed (length (bytes_of rest)) is in
    (λ h. no_length (left_bytes rest) (size ∙ found.0 h), λ h. omega (arith, size, found.1 h))
