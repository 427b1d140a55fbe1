-- What is written of a string, step by step (CommonMark 2.4 and 2.5).
use Rattle.std.proofs.Common.{◌≡◌, ℕ, true, List, [], ◌∷◌, ◌++◌, refl, sym, ap, ap₂, subst, ◌∙◌, arith}
use Rattle.markdown_options.specs.declared.configuration.Constructs.{Constructs}
use Rattle.engine_events.specs.declared.event.Name.TheVariants as n
use Rattle.parse_strings.proofs.Prelude.{append, AreNext, Around, cut, End, end_after, end_at, end_in, enter_at, EntersInLine, exit_at, ExitsInLine}
use Rattle.parse_strings.proofs.Prelude.{lines_around, lines_both, Names, Nodes, one, StandsInLine, string_of, token, void_nodes, Walk, WritesInLine}
use Rattle.parse_strings.proofs.Prelude.{WritesNode}
use Rattle.event_grammar.specs.declared.slot.Between.TheVariants.{Spaces}
use Rattle.event_grammar.specs.declared.slot.Form.TheVariants.{Plain}
use Rattle.event_grammar.specs.Grammar.{row}
use Rattle.parse_slots.specs.Left.{Fill}
use Rattle.parse_slots.proofs.Steps.{filled_in_line}
use Rattle.parse_references.proofs.Sound.{sound_both, sound_of_on, void_sound}
use Rattle.parse_strings.proofs.Fills.{escape_fill}
use Rattle.parse_strings.proofs.PlainNodes.{plain_both, plain_one, plain_void}
use Rattle.parse_strings.proofs.Spelled.{still_whole, token_text, void_one, whole_end}

-- an escape spells its byte
escape_string : (names : Names) (text line : List ℕ) (byte index later : ℕ) (a b : End) (marker value : Nodes)
    → marker ≡ one (token text n.CharacterEscapeMarker index 1) → value ≡ one (token text n.CharacterEscapeValue later 1)
    → AreNext text (end_at later 0) (byte ∷ line)
    → string_of names text (cut (Around (enter_at text n.CharacterEscape a) (append marker value) (exit_at text n.CharacterEscape b))) ≡ byte ∷ []
escape_string names text line byte index later a b marker value is_marker is_value next =
    ap₂ (λ m v. string_of names text (cut (Around (enter_at text n.CharacterEscape a) (append m v) (exit_at text n.CharacterEscape b)))) is_marker is_value
    ∙ ap (λ bytes. bytes ++ []) (token_text text n.CharacterEscapeValue later (byte ∷ []) line next)

module _ {A : Type 0} (names : Names) (text : List ℕ) where
  pub next_here : (line : List ℕ) (w : Walk A) → StandsInLine text line w → (end_in w.out).owed ≡ 0 → AreNext text (end_at (end_in w.out).index 0) line
  next_here line w st whole = subst (λ e. AreNext text e line) (sym st.at ∙ whole_end (end_in w.out) whole) st.next

  -- a backslash and the byte that it escapes
  pub writes_escape : (on : Constructs) (a b c d e : Walk A) (byte : ℕ) (line : List ℕ) → on.character_escape ≡ true → (end_in a.out).owed ≡ 0
      → EntersInLine text n.CharacterEscape (92 ∷ byte ∷ line) a b
      → WritesInLine text (92 ∷ []) (void_nodes text n.CharacterEscapeMarker (end_in b.out) (end_after (end_in b.out) 1)) (byte ∷ line) b c
      → WritesInLine text (byte ∷ []) (void_nodes text n.CharacterEscapeValue (end_in c.out) (end_after (end_in c.out) 1)) line c d
      → ExitsInLine text n.CharacterEscape line d e → WritesNode on names text n.CharacterEscape (92 ∷ byte ∷ []) (byte ∷ []) line a e
  writes_escape on a b c d e byte line is_on whole enters marker value exits =
      let markers = void_nodes text n.CharacterEscapeMarker (end_in b.out) (end_after (end_in b.out) 1) in
      let values = void_nodes text n.CharacterEscapeValue (end_in c.out) (end_after (end_in c.out) 1) in
      let whole_b : (end_in b.out).owed ≡ 0 = ap (λ (x : End). x.owed) enters.end ∙ whole in
      let whole_c : (end_in c.out).owed ≡ 0 = ap (λ (x : End). x.owed) marker.end ∙ still_whole (end_in b.out) 1 whole_b in
      let whole_d : (end_in d.out).owed ≡ 0 = ap (λ (x : End). x.owed) value.end ∙ still_whole (end_in c.out) 1 whole_c in
      let node = Around (enter_at text n.CharacterEscape (end_in a.out)) (append markers values) (exit_at text n.CharacterEscape (end_in d.out)) in
      record {
        node = node;
        named = refl;
        writes =
            lines_around text a b d e n.CharacterEscape (92 ∷ byte ∷ []) line (append markers values) enters
            (lines_both text b c d (92 ∷ []) (byte ∷ []) line markers values marker value) exits refl;
        whole = ap (λ (x : End). x.owed) exits.end ∙ whole_d;
        spells =
            escape_string names text line byte (end_in b.out).index (end_in c.out).index (end_in a.out) (end_in d.out) markers values
            (void_one text n.CharacterEscapeMarker (end_in b.out) 1 whole_b (omega arith) refl)
            (void_one text n.CharacterEscapeValue (end_in c.out) 1 whole_c (omega arith) refl)
            (next_here (byte ∷ line) c marker.stands whole_c);
        plain =
            plain_one _ refl
            (plain_both markers values (plain_void text n.CharacterEscapeMarker (end_in b.out) (end_after (end_in b.out) 1) refl refl)
            (plain_void text n.CharacterEscapeValue (end_in c.out) (end_after (end_in c.out) 1) refl refl));
        filled = λ around.
            filled_in_line around Plain n.CharacterEscape [] node refl refl refl
            (subst (λ ns. Fill Spaces (row n.CharacterEscape Plain) ns [])
            (sym (ap₂ append (void_one text n.CharacterEscapeMarker (end_in b.out) 1 whole_b (omega arith) refl)
            (void_one text n.CharacterEscapeValue (end_in c.out) 1 whole_c (omega arith) refl)))
            (escape_fill text (end_in b.out).index (end_in c.out).index)) refl;
        sound =
            sound_of_on on names text node refl is_on
            (sound_both on names text markers values (void_sound on names text n.CharacterEscapeMarker (end_in b.out) (end_after (end_in b.out) 1) refl)
            (void_sound on names text n.CharacterEscapeValue (end_in c.out) (end_after (end_in c.out) 1) refl));
      }
