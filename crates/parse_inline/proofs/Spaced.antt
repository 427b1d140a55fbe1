-- What is next is the text of a token with spaces for the columns of a tab that its start cuts.
use Rattle.std.proofs.Common.{◌≡◌, ℕ, zero, suc, ◌+◌, ◌-◌, ◌<◌, ◌≤◌, Bool, true, false, not, ◌&&◌, List, [], ◌∷◌, ◌++◌, refl, sym, ap, ap₂, subst}
use Rattle.std.proofs.Common.{◌∙◌, drop, take, length, arith}
use Rattle.parse_inline.proofs.Prelude.{after_bytes, append-nil, AreNext, Around, between, codes, column_at, End, end_after, end_at, enter_at, eqb-true}
use Rattle.parse_inline.proofs.Prelude.{exit_at, if◌then◌else◌, index_spot, Name, nat_tests, Nil, spaced_text_of, ◌==◌}
use Rattle.std.specs.List.{repeat}
use Rattle.engine_events.specs.Columns.{tab_size}
use Rattle.event_grammar.specs.Points.{spot}
use Rattle.event_grammar.specs.declared.spot.Spot.{Spot}
use Rattle.parse_output.specs.Ends.{end_columns}
use Rattle.event_meaning.specs.Children.{spaced_between}
use Rattle.parse_lines.proofs.Ahead.{follows_after}
use Rattle.parse_inline.proofs.Columns.{column_is}

some_columns : (n : ℕ) → 0 < n → (n == 0) ≡ false
some_columns n some = grind (arith, nat_tests)

module _ (text : List ℕ) where
  -- the bytes that are next outside of a tab
  pub take_next : (index : ℕ) (front line : List ℕ) → AreNext text (end_at index 0) (front ++ line) → take (length front) (drop index text) ≡ front
  take_next index [] line are = refl
  take_next index (b ∷ bs) line are =
      ap (take (suc (length bs))) are.0 ∙ ap (λ others. b ∷ others) (take_next (index + 1) bs line are.1)

  -- from inside of a tab on
  abbrev spaced_if : Bool → Bool → ℕ → Spot → Spot → List ℕ
  spaced_if none same v p q =
      if not none && same then repeat (q.vs - v) (codes " ")
      else repeat (if none then 0 else tab_size (column_at text p.index) - v) (codes " ")
      ++ between (if none then p.index else p.index + 1) (if q.vs == 0 then q.index else q.index + 1) text
      ++ repeat (q.vs - 1) (codes " ")

  -- a column earlier is a space more
  column_more : (same : Bool) (i v : ℕ) (q : Spot) → (same ≡ true → v + 1 ≤ q.vs) → v + 1 ≤ tab_size (column_at text i)
      → spaced_if false same v (spot i v) q ≡ 32 ∷ spaced_if false same (v + 1) (spot i (v + 1)) q
  column_more true i v q onward within =
      let more : q.vs - v ≡ suc (q.vs - (v + 1)) = omega (arith, onward refl) in
      ap (λ n. repeat n (codes " ")) more
  column_more false i v q onward within =
      let more : tab_size (column_at text i) - v ≡ suc (tab_size (column_at text i) - (v + 1)) = omega (arith, within) in
      ap (λ n. repeat n (codes " ") ++ between (i + 1) (if q.vs == 0 then q.index else q.index + 1) text ++ repeat (q.vs - 1) (codes " ")) more

  spaced_more : (i v : ℕ) (q : Spot) → 0 < v → ((i == q.index) ≡ true → v + 1 ≤ q.vs) → v + 1 ≤ tab_size (column_at text i)
      → spaced_between text (spot i v) q ≡ 32 ∷ spaced_between text (spot i (v + 1)) q
  spaced_more i v q some onward within =
      ap (λ none. spaced_if none (i == q.index) v (spot i v) q) (some_columns v some)
      ∙ column_more (i == q.index) i v q onward within
      ∙ sym (ap (λ none. 32 ∷ spaced_if none (i == q.index) (v + 1) (spot i (v + 1)) q) (some_columns (v + 1) (omega arith)))

  -- the last column of a tab, and what is after it
  spaced_last : (i v n : ℕ) → 0 < v → v + 1 ≡ tab_size (column_at text i)
      → spaced_between text (spot i v) (spot (i + 1 + n) 0) ≡ 32 ∷ take n (drop (i + 1) text)
  spaced_last i v n some last =
      let apart : (i == (i + 1 + n)) ≡ false = grind (arith, nat_tests) in
      let one : tab_size (column_at text i) - v ≡ 1 = omega (arith, last) in
      let all : (i + 1 + n) - (i + 1) ≡ n = omega arith in
      ap (λ none. spaced_if none (i == (i + 1 + n)) v (spot i v) (spot (i + 1 + n) 0)) (some_columns v some)
      ∙ ap (λ same. spaced_if false same v (spot i v) (spot (i + 1 + n) 0)) apart
      ∙ ap₂ (λ k m. repeat k (codes " ") ++ take m (drop (i + 1) text) ++ []) one all
      ∙ append-nil (32 ∷ take n (drop (i + 1) text))

  -- from no tab on
  spaced_whole : (i n : ℕ) → spaced_between text (spot i 0) (spot (i + n) 0) ≡ take n (drop i text)
  spaced_whole i n =
      let all : (i + n) - i ≡ n = omega arith in
      ap (λ m. take m (drop i text) ++ []) all ∙ append-nil (take n (drop i text))

  spaced_none : (i v : ℕ) → spaced_between text (spot i v) (spot i v) ≡ []
  spaced_none i zero =
      let none : i - i ≡ 0 = omega arith in
      ap (λ n. take n (drop i text) ++ []) none
  spaced_none i (suc v) =
      let same : (i == i) ≡ true = grind (arith, nat_tests) in
      let none : suc v - suc v ≡ 0 = omega arith in
      ap (λ none. spaced_if none (i == i) (suc v) (spot i (suc v)) (spot i (suc v))) (some_columns (suc v) (omega arith))
      ∙ ap (λ same. spaced_if false same (suc v) (spot i (suc v)) (spot i (suc v))) same
      ∙ ap (λ n. repeat n (codes " ")) none

  -- how far on in a text an end is
  abbrev spaced : End → End → List ℕ
  spaced a b = spaced_between text (spot a.index (end_columns text a)) (spot b.index (end_columns text b))

  owed_columns : (i owed : ℕ) → end_columns text (end_at i (suc owed)) ≡ tab_size (column_at text i) - suc owed
  owed_columns i owed =
      ap (λ none. if none then 0 else tab_size (index_spot text i).column - suc owed) (some_columns (suc owed) (omega arith))
      ∙ ap (λ column. tab_size column - suc owed) (column_is text i)

  spaced_next : (front line : List ℕ) (i owed : ℕ) → AreNext text (end_at i owed) (front ++ line)
      → spaced (end_at i owed) (end_after (end_at i owed) (length front)) ≡ front
  spaced_next [] line i owed are = spaced_none i (end_columns text (end_at i owed))
  spaced_next (b ∷ bs) line i zero are =
      ap (spaced (end_at i 0)) (after_bytes i (length (b ∷ bs))) ∙ spaced_whole i (length (b ∷ bs)) ∙ take_next i (b ∷ bs) line are
  spaced_next (b ∷ bs) line i (suc zero) are =
      let t = tab_size (column_at text i) in
      let n = length bs in
      let fewer : 1 < t = subst (λ c. 1 < tab_size c) (column_is text i) are.0.2.fewer in
      ap (spaced (end_at i 1)) (after_bytes (i + 1) n)
      ∙ ap (λ v. spaced_between text (spot i v) (spot (i + 1 + n) 0)) (owed_columns i 0)
      ∙ spaced_last i (t - 1) n (omega (arith, fewer)) (omega (arith, fewer))
      ∙ ap₂ (λ x xs. x ∷ xs) (sym are.0.0) (take_next (i + 1) bs line are.1)
  spaced_next (b ∷ bs) line i (suc (suc owed)) are =
      let t = tab_size (column_at text i) in
      let next = end_at i (suc owed) in
      let to = end_after next (length bs) in
      let v = t - suc (suc owed) in
      let fewer : suc (suc owed) < t = subst (λ c. suc (suc owed) < tab_size c) (column_is text i) are.0.2.fewer in
      let one : v + 1 ≡ end_columns text next = omega (arith, fewer, owed_columns i owed) in
      let follows = follows_after text bs line next are.1 in
      ap (λ k. spaced_between text (spot i k) (spot to.index (end_columns text to))) (owed_columns i (suc owed))
      ∙ spaced_more i v (spot to.index (end_columns text to)) (omega (arith, fewer))
      (λ same. omega (arith, follows.columns (sym (eqb-true i to.index same)), one)) (omega (arith, fewer))
      ∙ ap₂ (λ x xs. x ∷ xs) (sym are.0.0)
      (ap (λ k. spaced_between text (spot i k) (spot to.index (end_columns text to))) one ∙ spaced_next bs line i (suc owed) are.1)

  -- what is next is the spaced text of a token
  pub spaced_token : (name : Name) (e : End) (front line : List ℕ) → AreNext text e (front ++ line)
      → spaced_text_of text (Around (enter_at text name e) Nil (exit_at text name (end_after e (length front)))) ≡ front
  spaced_token name e front line are = spaced_next front line e.index e.owed are
