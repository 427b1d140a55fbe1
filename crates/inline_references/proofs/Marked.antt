-- References are read by the marker of what stands after their `&`.
use Rattle.std.proofs.Common.{◌≡◌, ℕ, suc, ◌+◌, ◌-◌, ◌<◌, List, [], ◌∷◌, ◌++◌, Bool, true, false, cond, ◌&&◌, ◌||◌, eqb, leb, Option, None, Some, refl, sym, ap}
use Rattle.std.proofs.Common.{◌∙◌, inl, inr, arith, length, take, drop, get_or}
use Rattle.std.specs.List.{prefix_len}
use Rattle.std.specs.Option.{option_map}
use Rattle.std.proofs.lemmas.Bool.{cases_Bool, cond-true, cond-false, eqb-true, ne_eqb, le-leb, leb-true, leb-false}
use Rattle.std.proofs.lemmas.List.{at_drop_all, drop-drop, get_or-drop, length-drop, length-take-le, take-append-drop}
use Rattle.std.proofs.Math.Seq.{drop-cons}
use Rattle.definition_text.specs.Content.{Part, part}
use Rattle.definition_inline.specs.CharacterReference as definition
use Rattle.definition_inline.specs.CharacterReference.{character_reference, before_semicolon, part_to_semicolon, reference_by_name, reference_by_number}
use Rattle.definition_inline.specs.CharacterReference.{number_reference, reference_after}
use Rattle.inline_references.specs.declared.reference.Reference.{Reference}
use Rattle.inline_references.specs.Markers.{name_marker, decimal_marker, hexadecimal_marker, is_value_byte, marker_of, marker_size, name_by, value_max}
use Rattle.inline_references.specs.Markers.{IsDecodable}
use Rattle.inline_references.specs.Places.{placed_reference, value_of, IsPlaced}
use Rattle.inline_references.proofs.Values.{decodable}

-- a value with this marker, and what follows its `;`
abbrev with_marker : ℕ → Part → definition.CharacterReference
with_marker marker p = character_reference (name_by marker p.text) p.rest

abbrev closed : ℕ → List ℕ → Option Part
closed marker bytes = part_to_semicolon (is_value_byte marker) (value_max marker) (drop (marker_size marker) bytes)

abbrev marked : ℕ → List ℕ → Option definition.CharacterReference
marked marker bytes = option_map (with_marker marker) (closed marker bytes)

by_name : (o : Option Part) → reference_by_name o ≡ option_map (with_marker name_marker) o
by_name None = refl
by_name (Some p) = refl

by_decimal : (o : Option Part) → reference_by_number 10 o ≡ option_map (with_marker decimal_marker) o
by_decimal None = refl
by_decimal (Some p) = refl

by_hexadecimal : (o : Option Part) → reference_by_number 16 o ≡ option_map (with_marker hexadecimal_marker) o
by_hexadecimal None = refl
by_hexadecimal (Some p) = refl

number_marked : (cs : List ℕ) → number_reference cs ≡ marked (marker_of (35 ∷ cs)) (35 ∷ cs)
number_marked [] = refl
number_marked (c ∷ cs) =
    let x = eqb c 120 || eqb c 88 in
    let all = 35 ∷ c ∷ cs in
    elim (cases_Bool x) [
      | inl h ↦
          cond-true x (reference_by_number 16 (closed hexadecimal_marker all)) (reference_by_number 10 (closed decimal_marker all)) h
          ∙ by_hexadecimal (closed hexadecimal_marker all)
          ∙ ap (λ m. marked m all) (sym (cond-true x hexadecimal_marker decimal_marker h))
      | inr h ↦
          cond-false x (reference_by_number 16 (closed hexadecimal_marker all)) (reference_by_number 10 (closed decimal_marker all)) h
          ∙ by_decimal (closed decimal_marker all)
          ∙ ap (λ m. marked m all) (sym (cond-false x hexadecimal_marker decimal_marker h))
    ]

reference_marked : (bytes : List ℕ) → reference_after bytes ≡ marked (marker_of bytes) bytes
reference_marked [] = refl
reference_marked (c ∷ cs) =
    let name = reference_by_name (closed name_marker (c ∷ cs)) in
    elim (cases_Bool (eqb c 35)) [
      | inl h ↦
          cond-true (eqb c 35) (number_reference cs) name h ∙ number_marked cs
          ∙ ap (λ n. marked (marker_of (n ∷ cs)) (n ∷ cs)) (sym (eqb-true c 35 h))
      | inr h ↦
          cond-false (eqb c 35) (number_reference cs) name h ∙ by_name (closed name_marker (c ∷ cs))
          ∙ ap (λ m. marked m (c ∷ cs)) (sym (cond-false (eqb c 35) _ name_marker h))
    ]

-- ---- a value and its `;`

-- where a value begins after the marker of these bytes, and how many bytes it has
pub record IsSized (bytes : List ℕ) (marker start size : ℕ) : Type 0 where
  pub marker_is : marker ≡ marker_of bytes
  pub start_is : start ≡ marker_size marker
  pub size_is : size ≡ prefix_len (is_value_byte marker) (drop start bytes)

abbrev pub has_size : ℕ → ℕ → Bool
has_size marker size = leb 1 size && leb size (value_max marker)

abbrev before_rest : ℕ → List ℕ → ℕ → Option Part
before_rest marker from size = cond (has_size marker size) (before_semicolon (take size from) (drop size from)) None

by_size : (bytes : List ℕ) (marker start size : ℕ) → IsSized bytes marker start size
    → reference_after bytes ≡ option_map (with_marker marker) (before_rest marker (drop start bytes) size)
by_size bytes marker start size h =
    reference_marked bytes ∙ ap (λ m. marked m bytes) (sym h.marker_is)
    ∙ ap (λ s. option_map (with_marker marker) (part_to_semicolon (is_value_byte marker) (value_max marker) (drop s bytes))) (sym h.start_is)
    ∙ ap (λ n. option_map (with_marker marker) (before_rest marker (drop start bytes) n)) (sym h.size_is)

-- it is too short or too long
pub unsized : (bytes : List ℕ) (marker start size : ℕ) → IsSized bytes marker start size → has_size marker size ≡ false → None ≡ reference_after bytes
unsized bytes marker start size h e =
    let from = drop start bytes in
    sym (by_size bytes marker start size h
    ∙ ap (option_map (with_marker marker)) (cond-false (has_size marker size) (before_semicolon (take size from) (drop size from)) None e))

-- no `;` follows
other_at : (text xs : List ℕ) (n : ℕ) → (n < length xs → get_or xs n 0 ≡ 59 → ⊥) → before_semicolon text (drop n xs) ≡ None
other_at text xs n other =
    elim (cases_Bool (leb (length xs) n)) [
      | inl p ↦ at_drop_all (before_semicolon text) xs n (leb-true (length xs) n p)
      | inr p ↦
          let lt = leb-false (length xs) n p in
          ap (before_semicolon text) (drop-cons xs n 0 lt) ∙ cond-false (eqb (get_or xs n 0) 59) (Some (part text (drop (suc n) xs))) None
          (ne_eqb (get_or xs n 0) 59 (other lt))
    ]

pub unclosed : (bytes : List ℕ) (marker start size : ℕ) → IsSized bytes marker start size
    → (start + size < length bytes → get_or bytes (start + size) 0 ≡ 59 → ⊥) → None ≡ reference_after bytes
unclosed bytes marker start size h other =
    let from = drop start bytes in
    let none = other_at (take size from) from size (λ lt e. other (omega (arith, length-drop start bytes)) (sym (get_or-drop start bytes size 0) ∙ e)) in
    sym (by_size bytes marker start size h
    ∙ ap (λ o. option_map (with_marker marker) (cond (has_size marker size) o None)) none
    ∙ elim (has_size marker size) as (λ b. option_map (with_marker marker) (cond b None None) ≡ None) [ true ↦ refl | false ↦ refl ])

-- a `;` follows
semicolon_at : (text xs : List ℕ) (n : ℕ) → n < length xs → get_or xs n 0 ≡ 59 → before_semicolon text (drop n xs) ≡ Some (part text (drop (n + 1) xs))
semicolon_at text xs n lt e =
    let next : suc n ≡ n + 1 = omega arith in
    ap (before_semicolon text) (drop-cons xs n 0 lt) ∙ ap (λ c. before_semicolon text (c ∷ drop (suc n) xs)) e ∙ ap (λ k. Some (part text (drop k xs))) next

pub closed_read : (bytes : List ℕ) (r : Reference) → IsPlaced bytes r → r.end - r.start ≡ prefix_len (is_value_byte r.marker) (drop r.start bytes)
    → Some (placed_reference bytes r) ≡ reference_after bytes
closed_read bytes r placed size =
    let n = r.end - r.start in
    let from = drop r.start bytes in
    let sized : IsSized bytes r.marker r.start n = record { marker_is = placed.marker; start_is = placed.start; size_is = size } in
    let e : r.start + n ≡ r.end = omega (arith, placed.nonempty) in
    let within : n < length from = omega (arith, placed.within, placed.nonempty, length-drop r.start bytes) in
    let semicolon : get_or from n 0 ≡ 59 = get_or-drop r.start bytes n 0 ∙ ap (λ k. get_or bytes k 0) e ∙ placed.semicolon in
    let last : r.start + (n + 1) ≡ r.end + 1 = omega (arith, placed.nonempty) in
    let fits : has_size r.marker n ≡ true =
    ap (λ b. b && leb n (value_max r.marker)) (le-leb 1 n (omega (arith, placed.nonempty))) ∙ le-leb n (value_max r.marker) placed.bounded in
    sym (by_size bytes r.marker r.start n sized
    ∙ ap (option_map (with_marker r.marker))
    (cond-true (has_size r.marker n) (before_semicolon (take n from) (drop n from)) None fits ∙ semicolon_at (take n from) from n within semicolon)
    ∙ ap (λ xs. Some (character_reference (name_by r.marker (value_of bytes r)) xs)) (drop-drop (n + 1) r.start bytes ∙ ap (λ k. drop k bytes) last))

-- ---- its parts

pub parts_at : (bytes : List ℕ) (r : Reference) → IsPlaced bytes r → drop (marker_size r.marker) bytes ≡ value_of bytes r ++ 59 ∷ drop (r.end + 1) bytes
parts_at bytes r placed =
    let n = r.end - r.start in
    let e : r.start + n ≡ r.end = omega (arith, placed.nonempty) in
    let next : suc r.end ≡ r.end + 1 = omega arith in
    ap (λ k. drop k bytes) (sym placed.start) ∙ sym (take-append-drop n (drop r.start bytes))
    ∙ ap (λ xs. value_of bytes r ++ xs)
    (drop-drop n r.start bytes ∙ ap (λ k. drop k bytes) e ∙ drop-cons bytes r.end 0 placed.within
    ∙ ap (λ c. c ∷ drop (suc r.end) bytes) placed.semicolon ∙ ap (λ k. 59 ∷ drop k bytes) next)

pub decodable_at : (bytes : List ℕ) (r : Reference) → IsPlaced bytes r → IsDecodable r.marker (value_of bytes r)
decodable_at bytes r placed =
    let n = r.end - r.start in
    let size : length (value_of bytes r) ≡ n = length-take-le n (drop r.start bytes) (omega (arith, placed.within, length-drop r.start bytes)) in
    decodable r.marker (value_of bytes r) (omega (arith, size, placed.nonempty)) (omega (arith, size, placed.bounded)) placed.value
