-- Another end is at another point of the text.
use Rattle.parse_output.proofs.Prelude.{and_from, and_parts, AreInOrder, columns_before, Draft, drafts_end, End, end_at, end_columns, first_end, Follows}
use Rattle.parse_output.proofs.Prelude.{if◌then◌else◌, index_spot, Name, nat_tests, same_end, Spot, true≢false, ◌==◌}
use Rattle.std.proofs.Common.{◌≡◌, ◌⊎◌, ◌≤◌, ◌<◌, ◌-◌, ℕ, Bool, true, false, ◌&&◌, List, [], ◌∷◌, inl, inr, refl, sym, ap, subst, ◌∙◌, arith}
use Rattle.std.proofs.lemmas.Bool.{cases_Bool}
use Rattle.engine_events.specs.Columns.{tab_size}
use Rattle.event_tokens.specs.Bytes.{same_spot}
use Rattle.parse_output.specs.declared.draft.Draft.TheVariants as draft
use Rattle.parse_output.specs.Ends.{OwesIn}
use Rattle.parse_output.specs.Joined.{end_spot}
use Rattle.parse_output.specs.Voids.{IsSizedToken, IsToken}

pub test_eq : (a b : ℕ) → (a == b) ≡ true → a ≡ b
test_eq a b same = grind (arith, nat_tests)

eq_test : (a b : ℕ) → a ≡ b → (a == b) ≡ true
eq_test a b same = grind (arith, nat_tests)

-- ---- further on

same_if : (i k v x : ℕ) → i ≡ k → v ≡ x → ((i == k) && (v == x)) ≡ true
same_if i k v x index columns = and_from (i == k) (v == x) (eq_test i k index) (eq_test v x columns)

-- what is after another point stays so further on
still_apart : (i v j w k x : ℕ) → i ≤ j → j ≤ k → (j ≡ i → v ≤ w) → (k ≡ j → w ≤ x) → ((i == j) && (v == w)) ≡ false → ((i == k) && (v == x)) ≡ false
still_apart i v j w k x first second columns more apart =
    elim (cases_Bool ((i == k) && (v == x))) [
      | inl same ↦
          let parts = and_parts (i == k) (v == x) same in
          let at : i ≡ k = test_eq i k parts.0 in
          let size : v ≡ x = test_eq v x parts.1 in
          let here : j ≡ i = omega (arith, first, second, at) in
          let there : k ≡ j = omega (arith, first, second, at) in
          let none : v ≡ w = omega (arith, columns here, more there, size) in
          absurd (true≢false (sym (same_if i j v w (sym here) none) ∙ apart))
      | inr other ↦ other
    ]

pub apart_longer : (text : List ℕ) (a b c : End) → Follows text a b → Follows text b c → same_spot (end_spot text a) (end_spot text b) ≡ false
    → same_spot (end_spot text a) (end_spot text c) ≡ false
apart_longer text a b c first second apart =
    still_apart a.index (end_columns text a) b.index (end_columns text b) c.index (end_columns text c)
    first.forward second.forward first.columns second.columns apart

-- ---- columns of a tab

owed_same : (size a b : ℕ) → (a ≡ 0) ⊎ (a < size) → (b ≡ 0) ⊎ (b < size) → (if a == 0 then 0 else size - a) ≡ (if b == 0 then 0 else size - b) → a ≡ b
owed_same size a b (inl x) (inl y) is = x ∙ sym y
owed_same size a b (inl x) (inr y) is = grind (arith, nat_tests)
owed_same size a b (inr x) (inl y) is = grind (arith, nat_tests)
owed_same size a b (inr x) (inr y) is = grind (arith, nat_tests)

fewer : (text : List ℕ) (s : Spot) (owed : ℕ) → OwesIn text s owed → (owed ≡ 0) ⊎ (owed < tab_size s.column)
fewer text s owed (inl none) = inl none
fewer text s owed (inr tab) = inr tab.fewer

-- an end owes columns only in a tab
abbrev Owes : List ℕ → End → Type 0
Owes text end = OwesIn text (index_spot text end.index) end.owed

apart_ends : (text : List ℕ) (from to : End) → Owes text from → Follows text from to → same_end to from ≡ false
    → same_spot (end_spot text from) (end_spot text to) ≡ false
apart_ends text from to owes follows other =
    elim (cases_Bool (same_spot (end_spot text from) (end_spot text to))) [
      | inl same ↦
          let parts = and_parts (from.index == to.index) (end_columns text from == end_columns text to) same in
          let at : from.index ≡ to.index = test_eq from.index to.index parts.0 in
          let columns : end_columns text from ≡ end_columns text to = test_eq (end_columns text from) (end_columns text to) parts.1 in
          let s = index_spot text from.index in
          let there : index_spot text to.index ≡ s = ap (index_spot text) (sym at) in
          let owed : from.owed ≡ to.owed =
          owed_same (tab_size s.column) from.owed to.owed (fewer text s from.owed owes)
          (fewer text s to.owed (subst (λ (x : Spot). OwesIn text x to.owed) there follows.whole))
          (columns ∙ ap (λ (x : Spot). columns_before x to.owed) there) in
          absurd (true≢false (sym (same_if to.index from.index to.owed from.owed (sym at) (sym owed)) ∙ other))
      | inr apart ↦ apart
    ]

-- ---- drafts

owes_at : (text : List ℕ) (from : End) (ds : List Draft) → Owes text from → AreInOrder text from ds → Owes text (drafts_end from ds)
owes_at text from [] owes are = owes
owes_at text from (draft.Enter name ∷ ds) owes are = owes_at text from ds owes are.1
owes_at text from (draft.Exit name ∷ ds) owes are = owes_at text from ds owes are.1
owes_at text from (draft.Void name owed index ∷ ds) owes are = owes_at text (end_at index owed) ds are.0.follows.whole are.1

-- a token from where drafts end to another end has a size
pub sized : (text : List ℕ) (ds : List Draft) {name : Name} (from to : End) → drafts_end first_end ds ≡ from → same_end to from ≡ false
    → AreInOrder text first_end ds → IsToken text name from to → IsSizedToken text name from to
sized text ds from to at other are token = record {
  follows = token.follows;
  bytes = token.bytes other;
  apart = apart_ends text from to (subst (Owes text) at (owes_at text first_end ds (inl refl) are)) token.follows other;
}
