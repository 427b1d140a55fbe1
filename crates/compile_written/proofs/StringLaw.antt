-- What a string spells by its events is what its nodes spell.
use Rattle.std.proofs.Common.{◌≡◌, ℕ, ◌+◌, ◌-◌, ◌==◌, Bool, true, false, ◌||◌, if◌then◌else◌, List, [], ◌∷◌, ◌++◌, drop, Option, None, Some, refl, sym, ap}
use Rattle.std.proofs.Common.{◌∙◌, append_assoc}
use Rattle.compile_written.proofs.Prelude.{AreNodes, AreTexts, AreWithin, Around, child, cond-false, Cons, Event, events_of, from_child, is_utf8}
use Rattle.compile_written.proofs.Prelude.{is_utf8-from_IsUtf8, IsEnd, kids_of, Kind, less, Name, Names, Nil, Node, node_events, Nodes, nonzero, number_of}
use Rattle.compile_written.proofs.Prelude.{part_text, parts_after, parts_next, same_name, split, StandsFirst, string_of, text_first, text_in, text_of}
use Rattle.compile_written.proofs.Prelude.{text_or_none, unwrap_or, valid}
use Rattle.std.specs.Prelude.{is_some}
use Rattle.std.proofs.lemmas.Str.{IsUtf8-nil}
use Rattle.engine_events.specs.declared.event.Kind.TheVariants.{Enter, Exit}
use Rattle.engine_events.specs.declared.event.Name.TheVariants as n
use Rattle.definition_inline.specs.CharacterReference.{numbered_text}
use Rattle.event_grammar.specs.InGrammar.{node_name}
use Rattle.event_meaning.specs.Strings.{reference_text_of, string_part}
use Rattle.compile_written.specs.Strings.{is_some_event, value_text, reference_text}
use Rattle.compile_written.specs.Texts.{IsTextNode}
use Rattle.compile_written.proofs.ChildLaw.{child_within, inside_law, text_is, text_in_is}
pub use Rattle.compile_written.proofs.FormedTexts.{valid_is}

-- ---- texts

some_is : (o : Option Node) (es : List Event) → StandsFirst o es → is_some_event es ≡ is_some o
some_is None es h = ap is_some_event h
some_is (Some (Around enter kids exit)) es h = ap is_some_event h.2

module _ (bytes : List ℕ) where
  -- the bytes of a child are a text
  child_text : (name : Name) (ns : Nodes) → AreTexts bytes ns → is_utf8 (text_in bytes name ns) ≡ true
  child_text name Nil h = is_utf8-from_IsUtf8 [] IsUtf8-nil
  child_text name (Cons (Around enter kids exit) ns) h = one (same_name enter.name name) (child_text name ns h.1)
    where
      one : (b : Bool) → is_utf8 (text_in bytes name ns) ≡ true → is_utf8 (text_or_none bytes (if b then Some (Around enter kids exit) else child name ns))
          ≡ true
      one true others = h.0.0
      one false others = others

  child_valid : (name : Name) (ns : Nodes) (es : List Event) → AreWithin ns es → AreTexts bytes ns
      → valid (text_first bytes (from_child name 0 es)) ≡ text_in bytes name ns
  child_valid name ns es w h = ap valid (text_in_is bytes name ns es w) ∙ valid_is (text_in bytes name ns) (child_text name ns h)

  own_valid : (node : Node) (es : List Event) → StandsFirst (Some node) es → IsTextNode bytes node → valid (text_first bytes es) ≡ text_of bytes node
  own_valid (Around enter kids exit) es s h =
      ap valid (text_is bytes (Some (Around enter kids exit)) es s) ∙ valid_is (text_of bytes (Around enter kids exit)) h.0

module _ (names : Names) (bytes : List ℕ) where
  -- ---- references

  reference_is : (ns : Nodes) (es : List Event) → AreWithin ns es → AreTexts bytes ns → reference_text names bytes es ≡ reference_text_of names bytes ns
  reference_is ns es w h =
      let hexadecimal = n.CharacterReferenceMarkerHexadecimal in
      let numeric = n.CharacterReferenceMarkerNumeric in
      let value = n.CharacterReferenceValue in
      ap (λ (z : Bool). value_text names z (is_some_event (from_child numeric 0 es)) (text_first bytes (from_child value 0 es)))
      (some_is (child hexadecimal ns) (from_child hexadecimal 0 es) (child_within hexadecimal ns es w))
      ∙ ap (λ (z : Bool). value_text names (is_some (child hexadecimal ns)) z (text_first bytes (from_child value 0 es)))
      (some_is (child numeric ns) (from_child numeric 0 es) (child_within numeric ns es w))
      ∙ ap (λ (z : List ℕ). value_text names (is_some (child hexadecimal ns)) (is_some (child numeric ns)) z) (text_in_is bytes value ns es w)
      ∙ by_value (is_some (child hexadecimal ns)) (is_some (child numeric ns)) (text_in bytes value ns) (child_text bytes value ns h)
    where
      by_value : (hexadecimal numeric : Bool) (value : List ℕ) → is_utf8 value ≡ true
          → value_text names hexadecimal numeric value
          ≡ (if hexadecimal then numbered_text (number_of 16 value)
          else (if numeric then numbered_text (number_of 10 value) else unwrap_or (names value) []))
      by_value true numeric value u = refl
      by_value false true value u = refl
      by_value false false value u = ap (λ (t : Bool). if t then unwrap_or (names value) [] else []) u

  -- ---- parts

  abbrev chain : Name → List ℕ → List ℕ → List ℕ → List ℕ
  chain name text escape reference =
      if same_name name n.Data || same_name name n.LineEnding then text
      else (if same_name name n.CharacterEscape then escape else (if same_name name n.CharacterReference then reference else []))

  part_by : (name : Name) (text : List ℕ) (kids : Nodes)
      → chain name text (text_in bytes n.CharacterEscapeValue kids) (reference_text_of names bytes kids) ≡ string_part names bytes name text kids
  part_by n.Data text kids = refl
  part_by n.LineEnding text kids = refl
  part_by n.CharacterEscape text kids = refl
  part_by n.CharacterReference text kids = refl
  part_by name text kids = refl

  part_is : (node : Node) (es : List Event) → StandsFirst (Some node) es → IsTextNode bytes node
      → part_text names bytes (node_name node) es ≡ string_part names bytes (node_name node) (text_of bytes node) (kids_of node)
  part_is (Around enter kids exit) es s h =
      let node = Around enter kids exit in
      let inside = inside_law (Some node) es s in
      let escape = text_first bytes (from_child n.CharacterEscapeValue 0 (drop 1 es)) in
      ap (λ (z : List ℕ). chain enter.name z (valid escape) (reference_text names bytes (drop 1 es))) (own_valid bytes node es s h)
      ∙ ap (λ (z : List ℕ). chain enter.name (text_of bytes node) z (reference_text names bytes (drop 1 es)))
      (child_valid bytes n.CharacterEscapeValue kids (drop 1 es) inside h.1)
      ∙ ap (λ (z : List ℕ). chain enter.name (text_of bytes node) (text_in bytes n.CharacterEscapeValue kids) z) (reference_is kids (drop 1 es) inside h.1)
      ∙ part_by enter.name (text_of bytes node) kids

  -- ---- strings

  parts_enter : (kind : Kind) (d : ℕ) (here : List ℕ) (others : ℕ → List ℕ) → kind ≡ Enter → (d == 0) ≡ false
      → parts_next names bytes kind d here others ≡ others (d + 1)
  parts_enter kind d here others h z =
      ap (λ (k : Kind). parts_next names bytes k d here others) h
      ∙ ap (λ (t : Bool). (if t then here else []) ++ others (d + 1)) z

  parts_exit : (kind : Kind) (d : ℕ) (here : List ℕ) (others : ℕ → List ℕ) → kind ≡ Exit → parts_next names bytes kind (d + 1) here others ≡ others d
  parts_exit kind d here others h =
      ap (λ (k : Kind). parts_next names bytes k (d + 1) here others) h
      ∙ cond-false ((d + 1) == 0) [] (others ((d + 1) - 1)) (nonzero d)
      ∙ ap others (less d)

  abbrev first_part : List Event → List ℕ
  first_part [] = []
  first_part (e ∷ es) = part_text names bytes e.name (e ∷ es)

  parts_deep : (ns : Nodes) → AreNodes ns → (d : ℕ) → (d == 0) ≡ false → (es : List Event)
      → parts_after names bytes d (events_of ns ++ es) ≡ parts_after names bytes d es
  parts_deep Nil k d z es = refl
  parts_deep (Cons (Around enter kids exit) ns) k d z es =
      let rest = events_of ns ++ es in
      let inner = events_of kids ++ exit ∷ rest in
      ap (λ (l : List Event). parts_after names bytes d (enter ∷ l)) (split kids ns exit es)
      ∙ parts_enter enter.kind d (first_part (enter ∷ inner)) (λ e. parts_after names bytes e inner) k.0.0 z
      ∙ parts_deep kids k.0.3 (d + 1) (nonzero d) (exit ∷ rest)
      ∙ parts_exit exit.kind d (first_part (exit ∷ rest)) (λ e. parts_after names bytes e rest) k.0.1
      ∙ parts_deep ns k.1 d z es

  no_parts : (es : List Event) → IsEnd es → parts_after names bytes 0 es ≡ []
  no_parts [] x = refl
  no_parts (e ∷ es) x = ap (λ (k : Kind). parts_next names bytes k 0 (first_part (e ∷ es)) (λ d. parts_after names bytes d es)) x

  parts_law : (ns : Nodes) → AreNodes ns → AreTexts bytes ns → (es : List Event) → IsEnd es
      → parts_after names bytes 0 (events_of ns ++ es) ≡ string_of names bytes ns
  parts_law Nil k h es x = no_parts es x
  parts_law (Cons (Around enter kids exit) ns) k h es x =
      let rest = events_of ns ++ es in
      let inner = events_of kids ++ exit ∷ rest in
      let node = Around enter kids exit in
      let stands : enter ∷ inner ≡ node_events node ++ rest = sym (ap (λ (z : List Event). enter ∷ z) (append_assoc (events_of kids) (exit ∷ []) rest)) in
      ap (λ (l : List Event). parts_after names bytes 0 (enter ∷ l)) (split kids ns exit es)
      ∙ ap (λ (z : Kind). parts_next names bytes z 0 (first_part (enter ∷ inner)) (λ e. parts_after names bytes e inner)) k.0.0
      ∙ ap (λ (z : List ℕ). first_part (enter ∷ inner) ++ z)
      (parts_deep kids k.0.3 1 refl (exit ∷ rest)
      ∙ parts_exit exit.kind 0 (first_part (exit ∷ rest)) (λ e. parts_after names bytes e rest) k.0.1
      ∙ parts_law ns k.1 h.1 es x)
      ∙ ap (λ (z : List ℕ). z ++ string_of names bytes ns) (part_is node (enter ∷ inner) (k.0, rest, stands) h.0)

  -- The law of strings: what a string spells, by the events in it, is what its nodes spell.
  pub string_law : (ns : Nodes) (events : List Event) → AreWithin ns events → AreTexts bytes ns
      → parts_after names bytes 0 events ≡ string_of names bytes ns
  string_law ns events w h = ap (parts_after names bytes 0) w.events_are ∙ parts_law ns w.nodes h w.back w.ends
