-- Levels of a page.
use Rattle.std.proofs.Common.{◌≡◌, ℕ, suc, ◌+◌, Bool, true, false, not, ◌||◌, cond, eqb, List, [], ◌∷◌, ◌++◌, length, refl, sym, ap, ◌∙◌, arith, inl, inr}
use Rattle.std.specs.Prelude.{nat_lt}
use Rattle.std.specs.List.{list_any, prefix_len}
use Rattle.std.proofs.lemmas.Bool.{cases_Bool, lt-ltb, le-ltb, ltb-true, ltb-false, ne_eqb}
use Rattle.definition_html.specs.Listing.{is_in, heading_names}
use Rattle.definition_html.specs.State.{state, level, count_to, entered, left, left_to}
use Rattle.definition_html.specs.State as listed
use Rattle.html_safe_page.specs.Views.{open_names}
use Rattle.html_sanitizer.specs.Page.{level_of, levels_onto, levels_of}
use Rattle.html_sanitizer.specs.declared.page.Level.{Level}
use Rattle.html_sanitizer.proofs.Ends.{is_other, stops_here, goes_on}

module _ {A : Type 0} where
  onto_push : (items : List (Level A)) (last : Level A) (others : List listed.Level)
      → levels_onto (items ++ last ∷ []) others ≡ level_of last ∷ levels_onto items others
  onto_push [] last others = refl
  onto_push (l ∷ ls) last others = onto_push ls last (level_of l ∷ others)

  pub levels_push : (items : List (Level A)) (last : Level A) → levels_of (items ++ last ∷ []) ≡ level_of last ∷ levels_of items
  levels_push items last = onto_push items last []

  -- a level is entered
  pub level_entered : (name out : List ℕ) (before inside : Level A) (items pushed : List (Level A))
      → inside.in_heading ≡ (before.in_heading || is_in heading_names name || list_any (is_in heading_names) (open_names before.names.items))
      → inside.names.items ≡ [] → pushed ≡ items ++ before ∷ []
      → state out (level_of inside) (levels_of pushed) ≡ entered name (state out (level_of before) (levels_of items))
  level_entered name out before inside items pushed heading none is =
      let h = before.in_heading || is_in heading_names name || list_any (is_in heading_names) (open_names before.names.items) in
      ap (λ t. state out (level t (open_names inside.names.items)) (levels_of pushed)) heading
      ∙ ap (λ ns. state out (level h (open_names ns)) (levels_of pushed)) none
      ∙ ap (λ ls. state out (level h []) ls) (ap levels_of is ∙ levels_push items before)

  -- the last level is left
  pub level_left : (out : List ℕ) (innermost : listed.Level) (items others : List (Level A)) (last : Level A) → items ≡ others ++ last ∷ []
      → state out (level_of last) (levels_of others) ≡ left (state out innermost (levels_of items))
  level_left out innermost items others last is =
      sym (ap (λ ls. left_to ls (state out innermost (levels_of items))) (ap levels_of is ∙ levels_push others last))

  -- there is none
  pub none_left : (out : List ℕ) (innermost : listed.Level) (items others : List (Level A)) → length others ≡ 0 → items ≡ others
      → state out innermost (levels_of others) ≡ left (state out innermost (levels_of items))
  none_left out innermost items [] none is =
      ap (λ (ls : List (Level A)). state out innermost (levels_of ls)) (sym is)
      ∙ sym (ap (λ (ls : List (Level A)). left_to (levels_of ls) (state out innermost (levels_of items))) is)
  none_left out innermost items (l ∷ ls) none is = absurd (omega arith)

-- ---- whether an element of some names is open

one_less : (k n : ℕ) (t : Bool) → nat_lt k n ≡ t → nat_lt (1 + k) (suc n) ≡ t
one_less k n t e = elim (cases_Bool (nat_lt k n)) [
  | inl h ↦ let less = ltb-true k n h in lt-ltb (1 + k) (suc n) (omega arith) ∙ sym h ∙ e
  | inr h ↦ let most = ltb-false k n h in le-ltb (1 + k) (suc n) (omega arith) ∙ sym h ∙ e
]

prefix_any : (wanted names : List (List ℕ)) → nat_lt (prefix_len (is_other wanted) names) (length names) ≡ list_any (is_in wanted) names
prefix_any wanted [] = refl
prefix_any wanted (n ∷ ns) = elim (cases_Bool (is_in wanted n)) [
  | inl h ↦
      ap (λ k. nat_lt k (suc (length ns))) (stops_here wanted n ns h)
      ∙ lt-ltb 0 (suc (length ns)) (omega arith)
      ∙ sym (ap (λ t. t || list_any (is_in wanted) ns) h)
  | inr h ↦
      ap (λ k. nat_lt k (suc (length ns))) (goes_on wanted n ns h)
      ∙ one_less (prefix_len (is_other wanted) ns) (length ns) (list_any (is_in wanted) ns) (prefix_any wanted ns)
      ∙ sym (ap (λ t. t || list_any (is_in wanted) ns) h)
]

some_counted : (t : Bool) (above : ℕ) → not (eqb (cond t (above + 1) 0) 0) ≡ t
some_counted true above = ap not (ne_eqb (above + 1) 0 (λ e. omega (arith, e)))
some_counted false above = refl

pub any_open : (wanted names : List (List ℕ)) (n : ℕ) → n ≡ count_to wanted names → not (eqb n 0) ≡ list_any (is_in wanted) names
any_open wanted names n e =
    let above = prefix_len (is_other wanted) names in
    ap (λ k. not (eqb k 0)) e ∙ some_counted (nat_lt above (length names)) above ∙ prefix_any wanted names
