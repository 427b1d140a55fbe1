-- A character reference from its `&` to its `;` (CommonMark 2.5).
use Rattle.std.proofs.Common.{◌≡◌, ◌<◌, ◌+◌, ℕ, true, false, List, [], ◌∷◌, ◌++◌, None, refl, sym, ap, subst, ◌∙◌, append_assoc, arith, length}
use Rattle.parse_strings.proofs.Prelude.{append, append-nil, AreMarks, AreNext, ArePlain, Around, cut, End, end_after, end_at, end_in, enter_at, EntersInLine}
use Rattle.parse_strings.proofs.Prelude.{exit_at, ExitsInLine, is_listed, lines_around, lines_both, mark_nodes, marked_text, Name, Names, Nil, Nodes, one}
use Rattle.parse_strings.proofs.Prelude.{same_name, StandsInLine, string_of, token, true≢false, void_nodes, Walk, WritesInLine, WritesMarks, WritesNode}
use Rattle.markdown_options.specs.declared.configuration.Constructs.{Constructs}
use Rattle.engine_events.specs.declared.event.Name.TheVariants as n
use Rattle.event_grammar.specs.declared.slot.Form.TheVariants.{Plain}
use Rattle.parse_slots.proofs.Steps.{filled_in_line}
use Rattle.parse_references.specs.Sound.{AreSound, asked_names, Decode, IsSound}
use Rattle.parse_references.proofs.Sound.{asks_nothing, sound_both, sound_one}
use Rattle.parse_strings.specs.References.{marked_decodes}
use Rattle.parse_strings.proofs.Fills.{reference_fill}
use Rattle.parse_strings.proofs.PlainNodes.{plain_both, plain_none, plain_one, sought_names}
use Rattle.parse_strings.proofs.Spelled.{still_whole, token_text, void_one}
use Rattle.parse_strings.proofs.Strings.{next_here}

-- a `&`, marks, a value and a `;`
abbrev pub reference_kids : List ℕ → ℕ → ℕ → ℕ → ℕ → List ℕ → ℕ → Nodes
reference_kids text i j k l marks size =
    append (one (token text n.CharacterReferenceMarker i 1))
    (append (mark_nodes text j marks)
    (append (one (token text n.CharacterReferenceValue k size)) (one (token text n.CharacterReferenceMarkerSemi l 1))))

plain_token : (text : List ℕ) (name : Name) (index size : ℕ) → is_listed sought_names name ≡ false → ArePlain (one (token text name index size))
plain_token text name index size other = plain_one (token text name index size) other plain_none

plain_marks : (text : List ℕ) (index : ℕ) (marks : List ℕ) → ArePlain (mark_nodes text index marks)
plain_marks text index [] = plain_none
plain_marks text index (m ∷ []) = plain_token text n.CharacterReferenceMarkerNumeric index 1 refl
plain_marks text index (m ∷ x ∷ ms) =
    plain_both (one (token text n.CharacterReferenceMarkerNumeric index 1)) (one (token text n.CharacterReferenceMarkerHexadecimal (index + 1) 1))
    (plain_token text n.CharacterReferenceMarkerNumeric index 1 refl) (plain_token text n.CharacterReferenceMarkerHexadecimal (index + 1) 1 refl)

plain_kids : (text : List ℕ) (i j k l : ℕ) (marks : List ℕ) (size : ℕ) → ArePlain (reference_kids text i j k l marks size)
plain_kids text i j k l marks size =
    plain_both (one (token text n.CharacterReferenceMarker i 1)) _ (plain_token text n.CharacterReferenceMarker i 1 refl)
    (plain_both (mark_nodes text j marks) _ (plain_marks text j marks)
    (plain_both (one (token text n.CharacterReferenceValue k size)) (one (token text n.CharacterReferenceMarkerSemi l 1))
    (plain_token text n.CharacterReferenceValue k size refl) (plain_token text n.CharacterReferenceMarkerSemi l 1 refl)))

reference_string : (names : Names) (text line marks value : List ℕ) (first i j k l : ℕ) (a b : End) → AreMarks marks first
    → AreNext text (end_at k 0) (value ++ line)
    → string_of names text (cut (Around (enter_at text n.CharacterReference a) (reference_kids text i j k l marks (length value))
    (exit_at text n.CharacterReference b)))
    ≡ marked_text names marks value
reference_string names text line [] value first i j k l a b are next =
    append-nil _ ∙ ap (marked_text names []) (token_text text n.CharacterReferenceValue k value line next)
reference_string names text line (m ∷ []) value first i j k l a b are next =
    append-nil _ ∙ ap (marked_text names (m ∷ [])) (token_text text n.CharacterReferenceValue k value line next)
reference_string names text line (m ∷ x ∷ []) value first i j k l a b are next =
    append-nil _ ∙ ap (marked_text names (m ∷ x ∷ [])) (token_text text n.CharacterReferenceValue k value line next)
reference_string names text line (m ∷ x ∷ y ∷ ms) value first i j k l a b are next = absurd are

sound_token : (on : Constructs) (names : Names) (text : List ℕ) (name : Name) (index size : ℕ) → is_listed asked_names name ≡ false
    → AreSound on names text (one (token text name index size))
sound_token on names text name index size other = sound_one on names text (token text name index size) (asks_nothing on names text name Nil other, tt)

sound_marks : (on : Constructs) (names : Names) (text : List ℕ) (index : ℕ) (marks : List ℕ) → AreSound on names text (mark_nodes text index marks)
sound_marks on names text index [] = tt
sound_marks on names text index (m ∷ []) = sound_token on names text n.CharacterReferenceMarkerNumeric index 1 refl
sound_marks on names text index (m ∷ x ∷ ms) =
    sound_both on names text (one (token text n.CharacterReferenceMarkerNumeric index 1))
    (one (token text n.CharacterReferenceMarkerHexadecimal (index + 1) 1))
    (sound_token on names text n.CharacterReferenceMarkerNumeric index 1 refl) (sound_token on names text n.CharacterReferenceMarkerHexadecimal (index + 1) 1 refl)

sound_kids : (on : Constructs) (names : Names) (text : List ℕ) (i j k l : ℕ) (marks : List ℕ) (size : ℕ) → AreSound on names text (reference_kids text i j k l marks size)
sound_kids on names text i j k l marks size =
    sound_both on names text (one (token text n.CharacterReferenceMarker i 1)) _ (sound_token on names text n.CharacterReferenceMarker i 1 refl)
    (sound_both on names text (mark_nodes text j marks) _ (sound_marks on names text j marks)
    (sound_both on names text (one (token text n.CharacterReferenceValue k size)) (one (token text n.CharacterReferenceMarkerSemi l 1))
    (sound_token on names text n.CharacterReferenceValue k size refl) (sound_token on names text n.CharacterReferenceMarkerSemi l 1 refl)))

-- no value
other_kid : {P : Type 0} → false ≡ true → P
other_kid h = absurd (true≢false (sym h))

-- the value after its last mark
kids_decode : (names : Names) (text line marks value : List ℕ) (first i j k l : ℕ) → AreMarks marks first → marked_decodes names marks value ≡ true
    → AreNext text (end_at k 0) (value ++ line) → Decode names text None (reference_kids text i j k l marks (length value))
kids_decode names text line [] value first i j k l are decodes next =
    let same = token_text text n.CharacterReferenceValue k value line next in
    (other_kid, (λ h. ap (marked_decodes names []) same ∙ decodes, (other_kid, tt)))
kids_decode names text line (m ∷ []) value first i j k l are decodes next =
    let same = token_text text n.CharacterReferenceValue k value line next in
    (other_kid, (other_kid, (λ h. ap (marked_decodes names (m ∷ [])) same ∙ decodes, (other_kid, tt))))
kids_decode names text line (m ∷ x ∷ []) value first i j k l are decodes next =
    let same = token_text text n.CharacterReferenceValue k value line next in
    (other_kid, (other_kid, (other_kid, (λ h. ap (marked_decodes names (m ∷ x ∷ [])) same ∙ decodes, (other_kid, tt)))))
kids_decode names text line (m ∷ x ∷ y ∷ ms) value first i j k l are decodes next = absurd are

-- a reference is sound whose value decodes
reference_sound : (on : Constructs) (names : Names) (text : List ℕ) (kids : Nodes) (a b : End) → on.character_reference ≡ true → Decode names text None kids → AreSound on names text kids
    → IsSound on names text (Around (enter_at text n.CharacterReference a) kids (exit_at text n.CharacterReference b))
reference_sound on names text kids a b is_on decode sound = (
  record {
    is_on = is_on;
    call = λ same. other_kid (ap (λ name. same_name name n.GfmFootnoteCall) same);
    reference = λ same. decode;
    heading = λ same. other_kid (ap (λ name. same_name name n.HeadingAtx) same);
    html = λ same. other_kid (ap (λ name. same_name name n.HtmlText) same);
    some = λ full. absurd (true≢false (sym full));
  },
  sound,
)

-- the same bytes are next
pub stands_by : {A : Type 0} (text : List ℕ) (w : Walk A) (line same : List ℕ) → line ≡ same → StandsInLine text line w → StandsInLine text same w
stands_by text w line same is st = subst (λ xs. StandsInLine text xs w) is st

module _ {A : Type 0} (on : Constructs) (names : Names) (text : List ℕ) where
  pub writes_reference : (a b c d e f g : Walk A) (marks value line : List ℕ) (first count : ℕ) → on.character_reference ≡ true → (end_in a.out).owed ≡ 0
      → AreMarks marks first
      → marked_decodes names marks value ≡ true → 0 < length value
      → count ≡ length value
      → EntersInLine text n.CharacterReference (38 ∷ ((marks ++ (value ++ 59 ∷ [])) ++ line)) a b
      → WritesInLine text (38 ∷ []) (void_nodes text n.CharacterReferenceMarker (end_in b.out) (end_after (end_in b.out) 1))
      ((marks ++ (value ++ 59 ∷ [])) ++ line) b c
      → WritesMarks text marks ((value ++ 59 ∷ []) ++ line) c d
      → WritesInLine text value (void_nodes text n.CharacterReferenceValue (end_in d.out) (end_after (end_in d.out) count)) (59 ∷ line) d e
      → WritesInLine text (59 ∷ []) (void_nodes text n.CharacterReferenceMarkerSemi (end_in e.out) (end_after (end_in e.out) 1)) line e f
      → ExitsInLine text n.CharacterReference line f g
      → WritesNode on names text n.CharacterReference (38 ∷ (marks ++ (value ++ 59 ∷ []))) (marked_text names marks value) line a g
  writes_reference a b c d e f g marks value line first count is_on whole are decodes some sized enters marker marked valued closed exits =
      let owed = λ (x : End). x.owed in
      let whole_b : (end_in b.out).owed ≡ 0 = ap owed enters.end ∙ whole in
      let whole_e : (end_in e.out).owed ≡ 0 = ap owed valued.end ∙ still_whole (end_in d.out) (length value) marked.whole in
      let whole_f : (end_in f.out).owed ≡ 0 = ap owed closed.end ∙ still_whole (end_in e.out) 1 whole_e in
      let size = length value in
      let kids = reference_kids text (end_in b.out).index (end_in c.out).index (end_in d.out).index (end_in e.out).index marks size in
      let m = void_one text n.CharacterReferenceMarker (end_in b.out) 1 whole_b (omega arith) refl in
      let v =
      ap (λ k. void_nodes text n.CharacterReferenceValue (end_in d.out) (end_after (end_in d.out) k)) sized
      ∙ void_one text n.CharacterReferenceValue (end_in d.out) size marked.whole some refl in
      let s = void_one text n.CharacterReferenceMarkerSemi (end_in e.out) 1 whole_e (omega arith) refl in
      let last = lines_both text d e f value (59 ∷ []) line _ _
      (subst (λ ns. WritesInLine text value ns (59 ∷ line) d e) v valued) (subst (λ ns. WritesInLine text (59 ∷ []) ns line e f) s closed) in
      let later = lines_both text c d f marks (value ++ 59 ∷ []) line _ _ marked.writes last in
      let all = lines_both text b c f (38 ∷ []) (marks ++ (value ++ 59 ∷ [])) line _ _
      (subst (λ ns. WritesInLine text (38 ∷ []) ns ((marks ++ (value ++ 59 ∷ [])) ++ line) b c) m marker) later in
      let next =
      next_here names text (value ++ 59 ∷ line) d
      (subst (λ xs. StandsInLine text xs d) (append_assoc value (59 ∷ []) line) marked.writes.stands) marked.whole in
      record {
        node = Around (enter_at text n.CharacterReference (end_in a.out)) kids (exit_at text n.CharacterReference (end_in f.out));
        named = refl;
        writes = lines_around text a b f g n.CharacterReference (38 ∷ (marks ++ (value ++ 59 ∷ []))) line kids enters all exits refl;
        whole = ap owed exits.end ∙ whole_f;
        spells =
            reference_string names text (59 ∷ line) marks value first (end_in b.out).index (end_in c.out).index (end_in d.out).index (end_in e.out).index
            (end_in a.out) (end_in f.out) are next;
        plain = plain_one _ refl (plain_kids text (end_in b.out).index (end_in c.out).index (end_in d.out).index (end_in e.out).index marks size);
        filled = λ around.
            filled_in_line around Plain n.CharacterReference []
            (Around (enter_at text n.CharacterReference (end_in a.out)) kids (exit_at text n.CharacterReference (end_in f.out))) refl refl refl
            (reference_fill text (end_in b.out).index (end_in c.out).index (end_in d.out).index (end_in e.out).index size marks first are) refl;
        sound =
            reference_sound on names text kids (end_in a.out) (end_in f.out) is_on
            (kids_decode names text (59 ∷ line) marks value first (end_in b.out).index (end_in c.out).index (end_in d.out).index (end_in e.out).index are
            decodes next)
            (sound_kids on names text (end_in b.out).index (end_in c.out).index (end_in d.out).index (end_in e.out).index marks size);
      }
