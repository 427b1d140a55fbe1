-- What the events of a string spell is a text of bytes.
use Rattle.std.proofs.Common.{◌≡◌, ◌<◌, ℕ, zero, suc, List, [], ◌∷◌, Option, None, Some, drop, refl, arith}
use Rattle.parse_alike.proofs.Prelude.{cond_both, Each, each-append, each-drop, IsOfBytes, unwrap_or}
use Rattle.std.specs.Prelude.{is_some, nat_le, nat_lt}
use Rattle.std.specs.Char.{encode_utf8}
use Rattle.std.proofs.lemmas.Bool.{or_parts, ltb-true, leb-false}
use Rattle.engine_events.specs.declared.event.Name.{Name}
use Rattle.engine_events.specs.declared.event.Name.TheVariants as n
use Rattle.definition_text.proofs.Each.{each-take}
use Rattle.definition_inline.specs.CharacterReference.{Names, number_of, is_replaced, character_of, numbered_text}
use Rattle.event_grammar.specs.InGrammar.{node_name, kids_of}
use Rattle.event_grammar.specs.Points.{edge, spot_of}
use Rattle.event_grammar.specs.Trees.{Node, Nodes, Around, Nil, Cons}
use Rattle.event_meaning.specs.Children.{child, text_of, text_or_none, text_in}
use Rattle.event_meaning.specs.Strings.{reference_text_of, string_part, string_of}
use Rattle.parse_alike.specs.Strings.{HaveTextsOfBytes, SpelledStringsAreOfBytes}

abbrev pub IsByte : ℕ → Type 0
IsByte b = b < 256

pub each_byte : (text : List ℕ) → IsOfBytes text → Each IsByte text
each_byte [] h = tt
each_byte (b ∷ bs) h = (h 0, each_byte bs (λ k. h (suc k)))

pub at_byte : (text : List ℕ) → Each IsByte text → IsOfBytes text
at_byte [] h k = omega arith
at_byte (b ∷ bs) h zero = h.0
at_byte (b ∷ bs) h (suc k) = at_byte bs h.1 k

-- ---- references

encoded : (c : ℕ) → c < 0x11_0000 → Each IsByte (encode_utf8 c)
unfolding encode_utf8
encoded c h =
    cond_both (nat_lt c 128) _ _ (Each IsByte) (λ k. (omega (arith, ltb-true c 128 k), tt))
    (λ _.
    cond_both (nat_lt c 2048) _ _ (Each IsByte) (λ k. (omega (arith, ltb-true c 2048 k), (omega arith, tt)))
    (λ _.
    cond_both (nat_lt c 65536) _ _ (Each IsByte) (λ k. (omega (arith, ltb-true c 65536 k), (omega arith, (omega arith, tt))))
    (λ _. (omega (arith, h), (omega arith, (omega arith, (omega arith, tt)))))))

character : (number : ℕ) → character_of number < 0x11_0000
character number =
    cond_both (is_replaced number) 0xFFFD number (λ c. c < 0x11_0000) (λ _. omega arith)
    (λ h. leb-false 0x11_0000 number (or_parts _ (nat_le 0x11_0000 number) h).1)

pub numbered : (number : ℕ) → Each IsByte (numbered_text number)
numbered number = encoded (character_of number) (character number)

named : (found : Option (List ℕ)) → ((text : List ℕ) → found ≡ Some text → IsOfBytes text) → Each IsByte (unwrap_or found [])
named None h = tt
named (Some text) h = each_byte text (h text refl)

-- ---- strings

module _ (names : Names) (bytes : List ℕ) (of_bytes : HaveTextsOfBytes names) (all : Each IsByte bytes) where
  node_bytes : (node : Node) → Each IsByte (text_of bytes node)
  node_bytes (Around enter kids exit) =
      let from = edge (spot_of enter) in
      let to = edge (spot_of exit) in
      each-take IsByte _ (drop from bytes) (each-drop IsByte from bytes all)

  some_bytes : (node : Option Node) → Each IsByte (text_or_none bytes node)
  some_bytes None = tt
  some_bytes (Some node) = node_bytes node

  reference_bytes : (kids : Nodes) → Each IsByte (reference_text_of names bytes kids)
  reference_bytes kids =
      let value = text_in bytes n.CharacterReferenceValue kids in
      cond_both (is_some (child n.CharacterReferenceMarkerHexadecimal kids)) _ _ (Each IsByte) (λ _. numbered (number_of 16 value))
      (λ _.
      cond_both (is_some (child n.CharacterReferenceMarkerNumeric kids)) _ _ (Each IsByte) (λ _. numbered (number_of 10 value))
      (λ _. named (names value) (of_bytes value)))

  part_bytes : (name : Name) (text : List ℕ) (kids : Nodes) → Each IsByte text → Each IsByte (string_part names bytes name text kids)
  part_bytes n.Data text kids h = h
  part_bytes n.LineEnding text kids h = h
  part_bytes n.CharacterEscape text kids h = some_bytes (child n.CharacterEscapeValue kids)
  part_bytes n.CharacterReference text kids h = reference_bytes kids
  part_bytes name text kids h = tt

  string_bytes : (string : Nodes) → Each IsByte (string_of names bytes string)
  string_bytes Nil = tt
  string_bytes (Cons node ns) =
      each-append IsByte (string_part names bytes (node_name node) (text_of bytes node) (kids_of node)) (string_of names bytes ns)
      (part_bytes (node_name node) (text_of bytes node) (kids_of node) (node_bytes node)) (string_bytes ns)

pub spelled_strings_are_of_bytes : SpelledStringsAreOfBytes
spelled_strings_are_of_bytes =
    record {
      spelled = λ names bytes string texts all. at_byte (string_of names bytes string) (string_bytes names bytes texts (each_byte bytes all) string);
    }
