-- Characters that are next in a line: what is written of them is characters, too, also within a tab.
use Rattle.std.proofs.Common.{◌≡◌, ◌+◌, zero, suc, ℕ, Bool, true, false, not, ◌&&◌, List, [], ◌∷◌, ◌++◌, refl, sym, ap, ap₂, subst, ◌∙◌, arith, length}
use Rattle.std.specs.Str.{is_utf8}
use Rattle.std.proofs.lemmas.Str.{IsCharBoundary-after_ascii, is_utf8-from_IsUtf8, IsUtf8-drop, IsUtf8-nil}
use Rattle.engine_events.specs.Columns.{between}
use Rattle.engine_events.specs.declared.event.Name.TheVariants as n
use Rattle.parse_output.specs.Ends.{index_spot, IsInTab}
use Rattle.parse_output.specs.Joined.{end_edge, text_between}
use Rattle.parse_output.proofs.Joined.{none_between}
use Rattle.parse_lines.specs.Content.{HasBytes}
use Rattle.parse_lines.proofs.Bytes.{dark_line, has_kind, whole_between}
use Rattle.parse_lines.proofs.SameText.{tab_edge}
use Rattle.parse_strings.proofs.Prelude.{AreNext, End, end_after, end_at, end_in, ends_line, IsUtf8, list_any, StandsInLine, Walk}

-- bytes that pass a test, too
pub with_characters : (bytes : List ℕ) (test : Bool) → IsUtf8 bytes → test ≡ true → (is_utf8 bytes && test) ≡ true
with_characters bytes test utf8 is = ap₂ (λ (s t : Bool). s && t) (is_utf8-from_IsUtf8 bytes utf8) is

after_space : (b : ℕ) (bs : List ℕ) → b ≡ 32 → IsUtf8 (b ∷ bs) → IsUtf8 bs
after_space b bs is utf8 = IsUtf8-drop (b ∷ bs) 1 utf8 (IsCharBoundary-after_ascii (b ∷ bs) 0 utf8 (omega arith) (omega (arith, is)))

module _ (text : List ℕ) where
  characters_between : (front line : List ℕ) (index owed : ℕ) → IsUtf8 front → AreNext text (end_at index owed) (front ++ line)
      → IsUtf8 (text_between text (end_at index owed) (end_after (end_at index owed) (length front)))
  characters_between [] line index owed utf8 are =
      subst IsUtf8 (sym (none_between text (end_edge text (end_at index owed)) (end_edge text (end_at index owed)) refl)) IsUtf8-nil
  characters_between (b ∷ bs) line index zero utf8 are = subst IsUtf8 (sym (whole_between text (end_at index 0) (b ∷ bs) line refl are)) utf8
  characters_between (b ∷ bs) line index (suc zero) utf8 are =
      let to = end_after (end_at (index + 1) 0) (length bs) in
      subst IsUtf8 (sym (ap (λ (k : ℕ). between k (end_edge text to) text) (tab_edge text index 0 are.0.2)))
      (characters_between bs line (index + 1) 0 (after_space b bs are.0.0 utf8) are.1)
  characters_between (b ∷ bs) line index (suc (suc owed)) utf8 are =
      let to = end_after (end_at index (suc owed)) (length bs) in
      let tab = are.0.2 in
      let inner : IsInTab text (index_spot text index) (suc owed) = record { within = tab.within; tab = tab.tab; fewer = omega (arith, tab.fewer) } in
      subst IsUtf8 (sym (ap (λ (k : ℕ). between k (end_edge text to) text) (tab_edge text index (suc owed) tab ∙ sym (tab_edge text index owed inner))))
      (characters_between bs line index (suc owed) (after_space b bs are.0.0 utf8) are.1)

  module _ {A : Type 0} (front line : List ℕ) (size : ℕ) (w : Walk A) where
    has_characters : size ≡ length front → StandsInLine text (front ++ line) w → IsUtf8 front
        → IsUtf8 (text_between text (end_in w.out) (end_after (end_in w.out) size))
    has_characters is st utf8 =
        subst (λ (k : ℕ). IsUtf8 (text_between text (end_in w.out) (end_after (end_in w.out) k))) (sym is)
        (characters_between front line (end_in w.out).index (end_in w.out).owed utf8 (subst (λ (e : End). AreNext text e (front ++ line)) (sym st.at) st.next))

    -- characters of a line may be data
    pub fits_data : size ≡ length front → StandsInLine text (front ++ line) w → IsUtf8 front → list_any ends_line front ≡ false → HasBytes text n.Data size w
    fits_data is st utf8 dark =
        with_characters (text_between text (end_in w.out) (end_after (end_in w.out) size)) _ (has_characters is st utf8)
        (has_kind text front line size w (λ b. not (ends_line b)) is st (dark_line front dark))
