-- The bytes that are next, between the ends that they lie between, and which events may have them.
use Rattle.std.proofs.Common.{◌≡◌, ℕ, ◌+◌, ◌-◌, ◌<◌, zero, suc, Bool, true, false, not, ◌&&◌, List, [], ◌∷◌, ◌++◌, refl, sym, ap, ap₂, ◌∙◌, subst, arith, drop, take}
use Rattle.std.proofs.Common.{length}
use Rattle.parse_lines.proofs.Prelude.{and_parts, AreNext, between, End, end_after, end_at, end_edge, end_in, ends_line, HasBytes, is_token, list_all, list_any}
use Rattle.parse_lines.proofs.Prelude.{Name, none_between, or_parts, same_end, StandsInLine, text_between, true≢false, Walk}
use Rattle.parse_lines.proofs.Prelude.{ending_bytes, index_spot, IsInTab, LineEnding, ◌==◌}
use Rattle.std.proofs.lemmas.Bool.{and_from, eq-eqb}
use Rattle.markdown_options.specs.declared.line_ending.LineEnding.TheVariants.{CarriageReturnLineFeed, CarriageReturn, LineFeed}
use Rattle.engine_events.specs.declared.event.Name.TheVariants as n
use Rattle.parse_output.proofs.Between.{text_on}
use Rattle.parse_lines.specs.InContent.{IsWhole}
use Rattle.parse_lines.proofs.Ahead.{after_bytes, follows_after}
use Rattle.parse_lines.proofs.SameText.{tab_edge}

-- no line ends in them
pub dark_line : (xs : List ℕ) → list_any ends_line xs ≡ false → list_all (λ b. not (ends_line b)) xs ≡ true
dark_line [] dark = refl
dark_line (x ∷ xs) dark =
    let parts = or_parts (ends_line x) (list_any ends_line xs) dark in
    ap₂ (λ (a b : Bool). not a && b) parts.0 (dark_line xs parts.1)

-- a token that ends at another place than it begins has bytes
pub apart_some : (from to : End) (front : List ℕ) → to ≡ end_after from (length front) → same_end to from ≡ false → 0 < length front
apart_some from to [] is apart =
    let same : same_end from from ≡ true =
    and_from (from.index == from.index) (from.owed == from.owed) (eq-eqb from.index from.index refl) (eq-eqb from.owed from.owed refl) in
    absurd (true≢false (sym same ∙ (ap (λ (e : End). same_end e from) (sym is) ∙ apart)))
apart_some from to (b ∷ bs) is apart = omega arith

module _ (text : List ℕ) where
  take_next : (index : ℕ) (front line : List ℕ) → AreNext text (end_at index 0) (front ++ line) → take (length front) (drop index text) ≡ front
  take_next index [] line are = refl
  take_next index (b ∷ bs) line are = ap (take (suc (length bs))) are.0 ∙ ap (λ others. b ∷ others) (take_next (index + 1) bs line are.1)

  -- outside of a tab
  next_between : (index : ℕ) (front line : List ℕ) → AreNext text (end_at index 0) (front ++ line)
      → text_between text (end_at index 0) (end_after (end_at index 0) (length front)) ≡ front
  next_between index front line are =
      let size : index + length front - index ≡ length front = omega arith in
      ap (text_between text (end_at index 0)) (after_bytes index (length front))
      ∙ ap (λ (k : ℕ). take k (drop index text)) size ∙ take_next index front line are

  pub whole_between : (end : End) (front line : List ℕ) → end.owed ≡ 0 → AreNext text end (front ++ line)
      → text_between text end (end_after end (length front)) ≡ front
  whole_between end front line whole are =
      let at : end ≡ end_at end.index 0 = ap (end_at end.index) whole in
      ap (λ (e : End). text_between text e (end_after e (length front))) at
      ∙ next_between end.index front line (subst (λ (e : End). AreNext text e (front ++ line)) at are)

  -- also within a tab, whose columns are spaces
  kind_between : (kind : ℕ → Bool) (front line : List ℕ) (index owed : ℕ) → list_all kind front ≡ true → AreNext text (end_at index owed) (front ++ line)
      → list_all kind (text_between text (end_at index owed) (end_after (end_at index owed) (length front))) ≡ true
  kind_between kind [] line index owed all are =
      ap (list_all kind) (none_between text (end_edge text (end_at index owed)) (end_edge text (end_at index owed)) refl)
  kind_between kind (b ∷ bs) line index zero all are =
      let parts = and_parts (kind b) (list_all kind bs) all in
      let from = end_at index 0 in
      let mid = end_at (index + 1) 0 in
      let to = end_after mid (length bs) in
      let first : text_between text from mid ≡ b ∷ [] = next_between index (b ∷ []) (bs ++ line) are in
      let more = kind_between kind bs line (index + 1) 0 parts.1 are.1 in
      let split = text_on text from mid to (follows_after text (b ∷ []) (bs ++ line) from are) (follows_after text bs line mid are.1) in
      ap (list_all kind) (sym split ∙ ap (λ (xs : List ℕ). xs ++ text_between text mid to) first)
      ∙ ap₂ (λ (s t : Bool). s && t) parts.0 more
  kind_between kind (b ∷ bs) line index (suc zero) all are =
      let parts = and_parts (kind b) (list_all kind bs) all in
      let to = end_after (end_at (index + 1) 0) (length bs) in
      ap (λ (k : ℕ). list_all kind (between k (end_edge text to) text)) (tab_edge text index 0 are.0.2)
      ∙ kind_between kind bs line (index + 1) 0 parts.1 are.1
  kind_between kind (b ∷ bs) line index (suc (suc owed)) all are =
      let parts = and_parts (kind b) (list_all kind bs) all in
      let to = end_after (end_at index (suc owed)) (length bs) in
      let tab = are.0.2 in
      let inner : IsInTab text (index_spot text index) (suc owed) = record { within = tab.within; tab = tab.tab; fewer = omega (arith, tab.fewer) } in
      ap (λ (k : ℕ). list_all kind (between k (end_edge text to) text)) (tab_edge text index (suc owed) tab ∙ sym (tab_edge text index owed inner))
      ∙ kind_between kind bs line index (suc owed) parts.1 are.1

  module _ {A : Type 0} (front line : List ℕ) (size : ℕ) (w : Walk A) where
    ahead : StandsInLine text (front ++ line) w → AreNext text (end_in w.out) (front ++ line)
    ahead st = subst (λ (e : End). AreNext text e (front ++ line)) (sym st.at) st.next

    -- an event that may have them
    pub has_bytes : (name : Name) → size ≡ length front → StandsInLine text (front ++ line) w → IsWhole w → is_token name front ≡ true
        → HasBytes text name size w
    has_bytes name is st whole may =
        ap (λ (k : ℕ). is_token name (text_between text (end_in w.out) (end_after (end_in w.out) k))) is
        ∙ ap (is_token name) (whole_between (end_in w.out) front line whole (ahead st)) ∙ may

    -- all of them are of a kind
    pub has_kind : (kind : ℕ → Bool) → size ≡ length front → StandsInLine text (front ++ line) w → list_all kind front ≡ true
        → list_all kind (text_between text (end_in w.out) (end_after (end_in w.out) size)) ≡ true
    has_kind kind is st all =
        ap (λ (k : ℕ). list_all kind (text_between text (end_in w.out) (end_after (end_in w.out) k))) is
        ∙ kind_between kind front line (end_in w.out).index (end_in w.out).owed all (ahead st)

-- an ending of a line may be any of the three
pub ending_may : (e : LineEnding) → is_token n.LineEnding (ending_bytes e) ≡ true
ending_may LineFeed = refl
ending_may CarriageReturn = refl
ending_may CarriageReturnLineFeed = refl
