-- What is written ends between characters, and so does what is written next, if the text may be cut there.
use Rattle.std.proofs.Common.{◌≡◌, ◌≤◌, ◌<◌, ◌+◌, ◌-◌, ℕ, true, ◌==◌, List, [], ◌∷◌, ◌++◌, inl, inr, sym, ap, subst, ◌∙◌, take, drop, length, arith}
use Rattle.std.specs.Prelude.{slice_index}
use Rattle.std.specs.Str.{IsCharBoundary, IsUtf8, is_utf8}
use Rattle.std.proofs.lemmas.Bool.{cases_Bool, cond-true, cond-false}
use Rattle.std.proofs.lemmas.Str.{IsCharBoundary-after_ascii, IsCharBoundary-before_ascii, IsCharBoundary-from_take, IsCharBoundary-start, IsUtf8-append}
use Rattle.std.proofs.lemmas.Str.{IsUtf8-between, IsUtf8-from_is_utf8, IsUtf8-take, is_utf8-from_IsUtf8}
use Rattle.event_tokens.specs.Laws.{AreBytes}
use Rattle.event_tokens.proofs.Characters.{tokens_are_characters}
use Rattle.event_tokens.proofs.Utf8Bytes.{bytes_after, first_bytes, utf8_bytes}
use Rattle.parse_output.specs.Ends.{IsInTab, OwesIn}
use Rattle.parse_output.specs.Joined.{end_edge, text_between}
use Rattle.parse_output.specs.declared.draft.Draft.TheVariants as draft
use Rattle.parse_output.proofs.Prelude.{AreInOrder, between, Draft, drafts_end, End, end_at, end_columns, end_in, first_end, Follows, index_spot, IsInOrder}
use Rattle.parse_output.proofs.Prelude.{nat_tests, Output, take-add}
use Rattle.parse_output.proofs.Between.{edges_follow}
use Rattle.parse_output.proofs.Ends.{spot_index}

-- an end owes columns only in a tab
abbrev Owes : List ℕ → End → Type 0
Owes text end = OwesIn text (index_spot text end.index) end.owed

-- where an end owes columns, a tab is
record IsTab (text : List ℕ) (index : ℕ) : Type 0 where
  within : index < length text
  tab : slice_index text index ≡ 9

module _ (text : List ℕ) where
  tab_here : (end : End) → end.index ≤ length text → IsInTab text (index_spot text end.index) end.owed → IsTab text end.index
  tab_here end within tab =
      let at = spot_index text end.index within in
      record {
        within = subst (λ (i : ℕ). i < length text) at tab.within;
        tab = ap (slice_index text) (sym at) ∙ tab.tab;
      }

  -- an end that owes nothing is at its index
  pub whole_edge : (end : End) → end.owed ≡ 0 → end_edge text end ≡ end.index
  whole_edge end none =
      let columns : end_columns text end ≡ 0 = grind (arith, nat_tests, none) in
      grind (arith, nat_tests, columns)

  edge_most : (end : End) → end_edge text end ≤ end.index + 1
  edge_most end = grind (arith, nat_tests)

  edge_least : (end : End) → end.index ≤ end_edge text end
  edge_least end = grind (arith, nat_tests)

  edge_within : (end : End) → end.index ≤ length text → Owes text end → end_edge text end ≤ length text
  edge_within end within (inl none) = let at = whole_edge end none in omega (arith, at, within)
  edge_within end within (inr tab) = let is = tab_here end within tab in let most = edge_most end in omega (arith, is.within, most)

  module _ (utf8 : IsUtf8 text) where
    -- an end whose bytes before it end between characters is between characters itself, and the other way round
    pub at_index : (end : End) → end.index ≤ length text → Owes text end → IsCharBoundary text (end_edge text end) → IsCharBoundary text end.index
    at_index end within (inl none) is = subst (IsCharBoundary text) (whole_edge end none) is
    at_index end within (inr tab) is =
        let here = tab_here end within tab in
        IsCharBoundary-before_ascii text end.index here.within (omega (arith, here.tab))

    pub at_edge : (end : End) → end.index ≤ length text → Owes text end → IsCharBoundary text end.index → IsCharBoundary text (end_edge text end)
    at_edge end within (inl none) is = subst (IsCharBoundary text) (sym (whole_edge end none)) is
    at_edge end within (inr tab) is =
        let here = tab_here end within tab in
        let after : IsCharBoundary text (end.index + 1) = IsCharBoundary-after_ascii text end.index utf8 here.within (omega (arith, here.tab)) in
        elim (cases_Bool (end_columns text end == 0)) [
          | inl none ↦ subst (IsCharBoundary text) (sym (cond-true (end_columns text end == 0) end.index (end.index + 1) none)) is
          | inr some ↦ subst (IsCharBoundary text) (sym (cond-false (end_columns text end == 0) end.index (end.index + 1) some)) after
        ]

    -- characters follow characters
    pub characters_end : (from to : ℕ) → from ≤ to → to ≤ length text → IsCharBoundary text from → is_utf8 (between from to text) ≡ true → IsCharBoundary text to
    characters_end from to onward within before chars =
        let all : from + (to - from) ≡ to = omega (arith, onward) in
        let both : IsUtf8 (take from text ++ take (to - from) (drop from text)) =
        IsUtf8-append (take from text) (between from to text) (IsUtf8-take text from utf8 before) (IsUtf8-from_is_utf8 (between from to text) chars) in
        let front : IsUtf8 (take to text) = subst IsUtf8 (sym (take-add from (to - from) text) ∙ ap (λ (k : ℕ). take k text) all) both in
        IsCharBoundary-from_take text to utf8 within front

    pub text_bytes : (from to : ℕ) → AreBytes (between from to text)
    text_bytes from to = first_bytes (to - from) (drop from text) (bytes_after from text (utf8_bytes text utf8))

    -- where drafts end
    drafts_between : (from : End) (ds : List Draft) → IsCharBoundary text (end_edge text from) → AreInOrder text from ds
        → IsCharBoundary text (end_edge text (drafts_end from ds))
    drafts_between from [] is are = is
    drafts_between from (draft.Enter name ∷ ds) is are = drafts_between from ds is are.1
    drafts_between from (draft.Exit name ∷ ds) is are = drafts_between from ds is are.1
    drafts_between from (draft.Void name owed index ∷ ds) is are =
        let to = end_at index owed in
        let token = are.0 in
        let chars =
        tokens_are_characters name (text_between text from to) (text_bytes (end_edge text from) (end_edge text to)) token.bytes in
        drafts_between to ds
        (characters_end (end_edge text from) (end_edge text to) (edges_follow text from to token.follows)
        (edge_within to token.follows.within token.follows.whole) is chars) are.1

-- ---- for the writers

module _ {A : Type 0} (text : List ℕ) (o : Output A) (order : IsInOrder text o) where
  pub order_utf8 : IsUtf8 text
  order_utf8 = IsUtf8-from_is_utf8 text order.0

  -- the bytes of what is written end between characters
  pub edge_between : IsCharBoundary text (end_edge text (end_in o))
  edge_between =
      subst (λ (x : End). IsCharBoundary text (end_edge text x)) o.ends
      (drafts_between text order_utf8 first_end o.drafts.items (IsCharBoundary-start text order_utf8) order.1)

  -- Bytes up to an end that follows are whole characters, if the end is between characters.
  pub characters_to : (to : End) → Follows text (end_in o) to → IsCharBoundary text to.index → is_utf8 (text_between text (end_in o) to) ≡ true
  characters_to to follows is =
      is_utf8-from_IsUtf8 (text_between text (end_in o) to)
      (IsUtf8-between text (end_edge text (end_in o)) (end_edge text to) order_utf8 (edges_follow text (end_in o) to follows) edge_between
      (at_edge text order_utf8 to follows.within follows.whole is))
