-- Texts that are the same but for the spaces and tabs at the starts of lines.
use Rattle.std.proofs.Common.{◌≡◌, ℕ, zero, suc, ◌+◌, ◌-◌, ◌<◌, ◌≤◌, Bool, true, ◌&&◌, ◌||◌, List, [], ◌∷◌, ◌++◌, inl, inr, refl, sym, ap, ap₂, ◌∙◌, subst, drop, take}
use Rattle.std.proofs.Common.{length, arith}
use Rattle.parse_lines.proofs.Prelude.{AreNext, between_both, cases_Bool, cond-false, cond-true, edge, End, end_after, end_at, end_columns, end_edge}
use Rattle.parse_lines.proofs.Prelude.{ends_at_start, fold-append, index_spot, is_eol, is_white, IsInTab, IsSameText, nat_tests, none_between, or-true, spot}
use Rattle.parse_lines.proofs.Prelude.{text_between}
use Rattle.engine_events.specs.Columns.{between}
use Rattle.definition_text.specs.Content.{at_line_start}
use Rattle.parse_output.proofs.Between.{edges_follow}
use Rattle.parse_lines.specs.InContent.{unindented}
use Rattle.parse_lines.proofs.Ahead.{columns_some, follows_after}

pub ends_both : (start : Bool) (xs ys : List ℕ) → ends_at_start start (xs ++ ys) ≡ ends_at_start (ends_at_start start xs) ys
ends_both start xs ys = fold-append at_line_start start xs ys

pub unindented_both : (start : Bool) (xs ys : List ℕ) → unindented start (xs ++ ys) ≡ unindented start xs ++ unindented (ends_at_start start xs) ys
unindented_both start [] ys = refl
unindented_both start (b ∷ bs) ys =
    let t = start && is_white b in
    elim (cases_Bool t) [
      | inl white ↦
          let still : at_line_start start b ≡ true = ap (λ (u : Bool). is_eol b || u) white ∙ or-true (is_eol b) in
          cond-true t _ _ white ∙ unindented_both true bs ys
          ∙ ap₂ (λ (xs : List ℕ) (u : Bool). xs ++ unindented (ends_at_start u bs) ys) (sym (cond-true t _ _ white)) (sym still)
      | inr dark ↦
          cond-false t _ _ dark ∙ ap (λ (xs : List ℕ). b ∷ xs) (unindented_both (at_line_start start b) bs ys)
          ∙ ap (λ (xs : List ℕ). xs ++ unindented (ends_at_start start (b ∷ bs)) ys) (sym (cond-false t (unindented true bs) _ dark))
    ]

-- some bytes, and then others
pub same_both : (start : Bool) (front after region more : List ℕ) → IsSameText start front region → IsSameText (ends_at_start start front) after more
    → IsSameText start (front ++ after) (region ++ more)
same_both start front after region more first second = record {
  same =
      unindented_both start front after
      ∙ ap₂ (λ (xs ys : List ℕ). xs ++ ys) first.same (second.same ∙ ap (λ (u : Bool). unindented u more) first.end)
      ∙ sym (unindented_both start region more);
  end = ends_both start front after ∙ second.end ∙ ap (λ (u : Bool). ends_at_start u more) first.end ∙ sym (ends_both start region more);
}

pub same_self : (start : Bool) (front : List ℕ) → IsSameText start front front
same_self start front = record { same = refl; end = refl }

-- ---- bytes that are next in a text

edge_some : (index v : ℕ) → 0 < v → edge (spot index v) ≡ index + 1
edge_some index v some = grind (arith, nat_tests)

module _ (text : List ℕ) where
  -- a tab that is cut isn't ahead
  pub tab_edge : (index owed : ℕ) → IsInTab text (index_spot text index) (suc owed) → end_edge text (end_at index (suc owed)) ≡ index + 1
  tab_edge index owed tab =
      let s = index_spot text index in
      edge_some index (end_columns text (end_at index (suc owed))) (omega (arith, columns_some s owed, tab.fewer))

  -- so many of the bytes that are next are the same text as those between the two ends
  pub record IsSameNext (start : Bool) (front : List ℕ) (from to : End) : Type 0 where
    pub text_is : IsSameText start front (text_between text from to)
    pub may_start : 0 < to.owed → ends_at_start start front ≡ true

  same_from : (front line : List ℕ) (start : Bool) (index owed : ℕ) → (0 < owed → start ≡ true) → AreNext text (end_at index owed) (front ++ line)
      → IsSameNext start front (end_at index owed) (end_after (end_at index owed) (length front))
  same_from [] line start index owed may are =
      let none = none_between text (end_edge text (end_at index owed)) (end_edge text (end_at index owed)) refl in
      record { text_is = record { same = ap (unindented start) (sym none); end = ap (ends_at_start start) (sym none) }; may_start = may }
  same_from (b ∷ bs) line start index zero may are =
      let to = end_after (end_at (index + 1) 0) (length bs) in
      let more = same_from bs line (at_line_start start b) (index + 1) 0 (λ none. absurd (omega (arith, none))) are.1 in
      let onward : index + 1 ≤ end_edge text to = edges_follow text (end_at (index + 1) 0) to (follows_after text bs line (end_at (index + 1) 0) are.1) in
      let one : (index + 1) - index ≡ 1 = omega arith in
      let first : between index (index + 1) text ≡ b ∷ [] = ap (λ (k : ℕ). take k (drop index text)) one ∙ ap (take 1) are.0 in
      let all : b ∷ text_between text (end_at (index + 1) 0) to ≡ text_between text (end_at index 0) to =
      ap (λ (xs : List ℕ). xs ++ text_between text (end_at (index + 1) 0) to) (sym first)
      ∙ between_both text index (index + 1) (end_edge text to) (omega arith) onward in
      record {
        text_is =
            subst (IsSameText start (b ∷ bs)) all
            (same_both start (b ∷ []) bs (b ∷ []) (text_between text (end_at (index + 1) 0) to) (same_self start (b ∷ [])) more.text_is);
        may_start = more.may_start;
      }
  same_from (b ∷ bs) line start index (suc zero) may are =
      let to = end_after (end_at (index + 1) 0) (length bs) in
      let starts = may (omega arith) in
      let more = same_from bs line true (index + 1) 0 (λ none. absurd (omega (arith, none))) are.1 in
      let region : text_between text (end_at (index + 1) 0) to ≡ text_between text (end_at index 1) to =
      ap (λ (k : ℕ). between k (end_edge text to) text) (sym (tab_edge index 0 are.0.2)) in
      subst (λ (u : Bool). IsSameNext u (b ∷ bs) (end_at index 1) to) (sym starts) (
      subst (λ (k : ℕ). IsSameNext true (k ∷ bs) (end_at index 1) to) (sym are.0.0) (record {
        text_is = record {
          same = more.text_is.same ∙ ap (unindented true) region;
          end = more.text_is.end ∙ ap (ends_at_start true) region;
        };
        may_start = more.may_start;
      }))
  same_from (b ∷ bs) line start index (suc (suc owed)) may are =
      let to = end_after (end_at index (suc owed)) (length bs) in
      let starts = may (omega arith) in
      let tab = are.0.2 in
      let inner : IsInTab text (index_spot text index) (suc owed) = record { within = tab.within; tab = tab.tab; fewer = omega (arith, tab.fewer) } in
      let more = same_from bs line true index (suc owed) (λ some. refl) are.1 in
      let region : text_between text (end_at index (suc owed)) to ≡ text_between text (end_at index (suc (suc owed))) to =
      ap (λ (k : ℕ). between k (end_edge text to) text) (tab_edge index owed inner ∙ sym (tab_edge index (suc owed) tab)) in
      subst (λ (u : Bool). IsSameNext u (b ∷ bs) (end_at index (suc (suc owed))) to) (sym starts) (
      subst (λ (k : ℕ). IsSameNext true (k ∷ bs) (end_at index (suc (suc owed))) to) (sym are.0.0) (record {
        text_is = record {
          same = more.text_is.same ∙ ap (unindented true) region;
          end = more.text_is.end ∙ ap (ends_at_start true) region;
        };
        may_start = more.may_start;
      }))

  pub same_next : (front line : List ℕ) (start : Bool) (end : End) → (0 < end.owed → start ≡ true) → AreNext text end (front ++ line)
      → IsSameNext start front end (end_after end (length front))
  same_next front line start end may are = same_from front line start end.index end.owed may are
