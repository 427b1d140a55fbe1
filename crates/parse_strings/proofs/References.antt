-- What is written of a character reference, step by step (CommonMark 2.5).
use Rattle.std.proofs.Common.{◌≡◌, ◌⊎◌, inl, inr, ◌+◌, ℕ, true, false, List, [], ◌∷◌, ◌++◌, refl, sym, ap, subst, ◌∙◌, arith, drop, length, slice_index, ◌==◌}
use Rattle.std.specs.Prelude.{codes, ◌&&◌}
use Rattle.std.proofs.lemmas.Bool.Decides.{nat_tests}
use Rattle.event_tokens.specs.Tokens.{is_among, is_token}
use Rattle.parse_lines.proofs.Bytes.{has_bytes}
use Rattle.parse_strings.proofs.Prelude.{after_bytes, AreMarks, End, end_after, end_in, is_x, lines_both, mark_nodes, one, StandsInLine, token, true≢false}
use Rattle.parse_strings.proofs.Prelude.{void_nodes, Walk, WritesInLine, WritesMarks}
use Rattle.engine_events.specs.declared.event.Name.TheVariants as n
use Rattle.parse_lines.specs.Content.{HasBytes}
use Rattle.parse_lines.proofs.InLine.{lines_none}
use Rattle.parse_strings.specs.Strings.{StandsInString}
use Rattle.parse_strings.proofs.Spelled.{still_whole, void_one, whole_end}

pub x_of : (b : ℕ) → (b ≡ 88) ⊎ (b ≡ 120) → is_x b ≡ true
x_of b (inl is) = ap is_x is
x_of b (inr is) = ap is_x is

x_among : (x : ℕ) → is_x x ≡ true → is_among (codes "xX") x ≡ true
x_among x is = grind (arith, nat_tests, is)

x_may : (x : ℕ) → is_x x ≡ true → is_token n.CharacterReferenceMarkerHexadecimal (x ∷ []) ≡ true
x_may x is = ap (λ b. b && true) (x_among x is)

module _ {A : Type 0} (text : List ℕ) where
  pub no_marks : (a : Walk A) (line : List ℕ) → StandsInString text line a → WritesMarks text [] line a a
  no_marks a line st = record { writes = lines_none text a line st.stands; whole = st.whole }

  pub one_mark : (a b : Walk A) (line : List ℕ) → (end_in a.out).owed ≡ 0
      → WritesInLine text (35 ∷ []) (void_nodes text n.CharacterReferenceMarkerNumeric (end_in a.out) (end_after (end_in a.out) 1)) line a b
      → WritesMarks text (35 ∷ []) line a b
  one_mark a b line whole mark = record {
    writes =
        subst (λ ns. WritesInLine text (35 ∷ []) ns line a b)
        (void_one text n.CharacterReferenceMarkerNumeric (end_in a.out) 1 whole (omega arith) refl) mark;
    whole = ap (λ (e : End). e.owed) mark.end ∙ still_whole (end_in a.out) 1 whole;
  }

  pub two_marks : (a b c : Walk A) (x : ℕ) (line : List ℕ) → (end_in a.out).owed ≡ 0
      → WritesInLine text (35 ∷ []) (void_nodes text n.CharacterReferenceMarkerNumeric (end_in a.out) (end_after (end_in a.out) 1)) (x ∷ line) a b
      → WritesInLine text (x ∷ []) (void_nodes text n.CharacterReferenceMarkerHexadecimal (end_in b.out) (end_after (end_in b.out) 1)) line b c
      → WritesMarks text (35 ∷ x ∷ []) line a c
  two_marks a b c x line whole mark hexadecimal =
      let first = one_mark a b (x ∷ line) whole mark in
      let index : (end_in b.out).index ≡ (end_in a.out).index + 1 =
      ap (λ (e : End). e.index)
      (mark.end ∙ ap (λ from. end_after from 1) (whole_end (end_in a.out) whole) ∙ after_bytes (end_in a.out).index 1) in
      record {
        writes =
            lines_both text a b c (35 ∷ []) (x ∷ []) line (mark_nodes text (end_in a.out).index (35 ∷ [])) _ first.writes
            (subst (λ ns. WritesInLine text (x ∷ []) ns line b c)
            (void_one text n.CharacterReferenceMarkerHexadecimal (end_in b.out) 1 first.whole (omega arith) refl
            ∙ ap (λ i. one (token text n.CharacterReferenceMarkerHexadecimal i 1)) index) hexadecimal);
        whole = ap (λ (e : End). e.owed) hexadecimal.end ∙ still_whole (end_in b.out) 1 first.whole;
      }

  -- bytes that don't begin with `#`
  pub unmarked : (a : Walk A) (bytes marks after line : List ℕ) → (slice_index bytes 0 ≡ 35 → ⊥) → bytes ≡ marks ++ after → AreMarks marks (slice_index after 0)
      → StandsInString text (marks ++ line) a → WritesMarks text marks line a a
  unmarked a bytes [] after line apart is are st = no_marks a line st
  unmarked a bytes (m ∷ []) after line apart is are st = absurd (apart (ap (λ xs. slice_index xs 0) is ∙ are.0))
  unmarked a bytes (m ∷ x ∷ []) after line apart is are st = absurd (apart (ap (λ xs. slice_index xs 0) is ∙ are.0))
  unmarked a bytes (m ∷ x ∷ y ∷ ms) after line apart is are st = absurd are

  -- bytes that begin with `#x`
  pub marked_x : (a b c : Walk A) (bytes marks after line : List ℕ) → slice_index bytes 0 ≡ 35 → is_x (slice_index (drop 1 bytes) 0) ≡ true
      → bytes ≡ marks ++ after → AreMarks marks (slice_index after 0) → StandsInString text (marks ++ line) a
      → ((front others : List ℕ) → 1 ≡ length front → StandsInLine text (front ++ others) a → HasBytes text n.CharacterReferenceMarkerNumeric 1 a
      → WritesInLine text front (void_nodes text n.CharacterReferenceMarkerNumeric (end_in a.out) (end_after (end_in a.out) 1)) others a b)
      → ((front others : List ℕ) → 1 ≡ length front → StandsInLine text (front ++ others) b → HasBytes text n.CharacterReferenceMarkerHexadecimal 1 b
      → WritesInLine text front (void_nodes text n.CharacterReferenceMarkerHexadecimal (end_in b.out) (end_after (end_in b.out) 1)) others b c)
      → WritesMarks text marks line a c
  marked_x a b c bytes [] after line hash is_hex is are st one two =
      absurd (true≢false (ap (λ x. x == 35) (sym (ap (λ xs. slice_index xs 0) (sym is) ∙ hash)) ∙ are))
  marked_x a b c bytes (m ∷ []) after line hash is_hex is are st one two =
      absurd (true≢false (sym (ap (λ xs. is_x (slice_index (drop 1 xs) 0)) (sym is) ∙ is_hex) ∙ are.1))
  marked_x a b c bytes (m ∷ x ∷ []) after line hash is_hex is are st one two =
      let stands : StandsInLine text (35 ∷ x ∷ line) a = subst (λ k. StandsInLine text (k ∷ x ∷ line) a) are.0 st.stands in
      let mark =
      one (35 ∷ []) (x ∷ line) refl stands (has_bytes text (35 ∷ []) (x ∷ line) 1 a n.CharacterReferenceMarkerNumeric refl stands st.whole refl) in
      let inside : (end_in b.out).owed ≡ 0 = ap (λ (e : End). e.owed) mark.end ∙ still_whole (end_in a.out) 1 st.whole in
      let hexadecimal = has_bytes text (x ∷ []) line 1 b n.CharacterReferenceMarkerHexadecimal refl mark.stands inside (x_may x are.1) in
      subst (λ k. WritesMarks text (k ∷ x ∷ []) line a c) (sym are.0) (two_marks a b c x line st.whole mark (two (x ∷ []) line refl mark.stands hexadecimal))
  marked_x a b c bytes (m ∷ x ∷ y ∷ ms) after line hash is_hex is are st one two = absurd are

  -- bytes that begin with `#`, and not with `#x`
  pub marked_one : (a b : Walk A) (bytes marks after line : List ℕ) → slice_index bytes 0 ≡ 35 → is_x (slice_index (drop 1 bytes) 0) ≡ false
      → bytes ≡ marks ++ after → AreMarks marks (slice_index after 0) → StandsInString text (marks ++ line) a
      → ((front others : List ℕ) → 1 ≡ length front → StandsInLine text (front ++ others) a → HasBytes text n.CharacterReferenceMarkerNumeric 1 a
      → WritesInLine text front (void_nodes text n.CharacterReferenceMarkerNumeric (end_in a.out) (end_after (end_in a.out) 1)) others a b)
      → WritesMarks text marks line a b
  marked_one a b bytes [] after line hash no_x is are st one =
      absurd (true≢false (ap (λ x. x == 35) (sym (ap (λ xs. slice_index xs 0) (sym is) ∙ hash)) ∙ are))
  marked_one a b bytes (m ∷ []) after line hash no_x is are st one =
      let stands : StandsInLine text (35 ∷ line) a = subst (λ k. StandsInLine text (k ∷ line) a) are.0 st.stands in
      let mark = one (35 ∷ []) line refl stands (has_bytes text (35 ∷ []) line 1 a n.CharacterReferenceMarkerNumeric refl stands st.whole refl) in
      subst (λ k. WritesMarks text (k ∷ []) line a b) (sym are.0) (one_mark a b line st.whole mark)
  marked_one a b bytes (m ∷ x ∷ []) after line hash no_x is are st one =
      absurd (true≢false (sym are.1 ∙ sym (ap (λ xs. is_x (slice_index (drop 1 xs) 0)) is) ∙ no_x))
  marked_one a b bytes (m ∷ x ∷ y ∷ ms) after line hash no_x is are st one = absurd are
