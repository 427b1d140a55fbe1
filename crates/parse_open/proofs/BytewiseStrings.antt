-- Strings, with their data cut into bytes.
use Rattle.std.proofs.Common.{◌≡◌, ℕ, zero, suc, ◌+◌, ◌-◌, List, [], ◌∷◌, ◌++◌, take, drop, refl, sym, ap, ap₂, ◌∙◌, append_assoc, arith}
use Rattle.parse_open.proofs.Prelude.{append, AreSound, Around, between, byte_nodes, bytewise, child, Cons, edge, if◌then◌else◌, is_some, Name, Names, Nil}
use Rattle.parse_open.proofs.Prelude.{Nodes, spot_of, string_of, text_in, text_of}
use Rattle.std.specs.Prelude.{unwrap_or}
use Rattle.engine_events.specs.declared.event.Name.TheVariants as n
use Rattle.definition_inline.specs.CharacterReference.{number_of, numbered_text}
use Rattle.event_meaning.specs.Strings.{reference_text_of, string_part}
use Rattle.parse_open.specs.BytewiseLaws.{StringsSpellTheSame}
use Rattle.parse_open.proofs.BytewiseNodes.{by_cases}
use Rattle.parse_open.proofs.BytewiseChildren.{has_same, text_same}

-- ---- bytes, one by one

one_more : (i k : ℕ) (bytes : List ℕ) → take (suc k) (drop i bytes) ≡ take 1 (drop i bytes) ++ take k (drop (suc i) bytes)
one_more zero zero [] = refl
one_more zero (suc k) [] = refl
one_more zero k (b ∷ bs) = refl
one_more (suc i) zero [] = refl
one_more (suc i) (suc k) [] = refl
one_more (suc i) k (b ∷ bs) = one_more i k bs

-- so many bytes from an index on
abbrev pub bytes_on : List ℕ → ℕ → ℕ → List ℕ
bytes_on bytes i k = take k (drop i bytes)

pub next_byte : (bytes : List ℕ) (i k : ℕ) → between i (i + 1) bytes ++ bytes_on bytes (i + 1) k ≡ bytes_on bytes i (suc k)
next_byte bytes i k =
    let size : i + 1 - i ≡ 1 = omega arith in
    let next : i + 1 ≡ suc i = omega arith in
    ap₂ (λ a b. take a (drop i bytes) ++ take k (drop b bytes)) size next ∙ sym (one_more i k bytes)

-- the bytes of data
pub data_bytes : (bytes : List ℕ) (from to k : ℕ) → to ≡ from + k → between from to bytes ≡ bytes_on bytes from k
data_bytes bytes from to k is = let size : to - from ≡ k = omega (arith, is) in ap (λ a. take a (drop from bytes)) size

module _ (names : Names) (bytes : List ℕ) where
  string_bytes : (i k : ℕ) (ns : Nodes) → string_of names bytes (append (byte_nodes i k) ns) ≡ bytes_on bytes i k ++ string_of names bytes ns
  string_bytes i zero ns = refl
  string_bytes i (suc k) ns =
      ap (λ text. between i (i + 1) bytes ++ text) (string_bytes (i + 1) k ns)
      ∙ sym (append_assoc (between i (i + 1) bytes) (bytes_on bytes (i + 1) k) (string_of names bytes ns))
      ∙ ap (λ text. text ++ string_of names bytes ns) (next_byte bytes i k)

  pub reference_same : (ns : Nodes) → AreSound ns → reference_text_of names bytes (bytewise ns) ≡ reference_text_of names bytes ns
  reference_same ns f =
      let value = text_in bytes n.CharacterReferenceValue in
      ap₂ (λ h v. if h then numbered_text (number_of 16 v)
      else (if is_some (child n.CharacterReferenceMarkerNumeric (bytewise ns)) then numbered_text (number_of 10 v) else unwrap_or (names v) []))
      (has_same n.CharacterReferenceMarkerHexadecimal refl ns f) (text_same bytes n.CharacterReferenceValue refl ns f)
      ∙ ap (λ d. if is_some (child n.CharacterReferenceMarkerHexadecimal ns) then numbered_text (number_of 16 (value ns))
      else (if d then numbered_text (number_of 10 (value ns)) else unwrap_or (names (value ns)) []))
      (has_same n.CharacterReferenceMarkerNumeric refl ns f)

  part_same : (name : Name) (text : List ℕ) (kids : Nodes) → AreSound kids
      → string_part names bytes name text (bytewise kids) ≡ string_part names bytes name text kids
  part_same n.CharacterEscape text kids f = text_same bytes n.CharacterEscapeValue refl kids f
  part_same n.CharacterReference text kids f = reference_same kids f
  part_same n.Data text kids f = refl
  part_same n.LineEnding text kids f = refl
  part_same name text kids f = refl

  pub string_same : (ns : Nodes) → AreSound ns → string_of names bytes (bytewise ns) ≡ string_of names bytes ns
  string_same Nil f = refl
  string_same (Cons (Around enter kids exit) ns) f =
      let text = text_of bytes (Around enter kids exit) in
      by_cases (λ ms. string_of names bytes ms ≡ string_of names bytes (Cons (Around enter kids exit) ns)) enter kids exit ns f.0
      (λ k is none far. string_bytes (edge (spot_of enter)) k (bytewise ns)
      ∙ ap₂ (λ front back. front ++ back) (sym (data_bytes bytes (edge (spot_of enter)) (edge (spot_of exit)) k far)) (string_same ns f.1)
      ∙ ap (λ name. string_part names bytes name text kids ++ string_of names bytes ns) (sym is))
      (ap₂ (λ front back. front ++ back) (part_same enter.name text kids f.0.1) (string_same ns f.1))

pub strings_spell_the_same : StringsSpellTheSame
strings_spell_the_same = λ names bytes ns f. string_same names bytes ns f
