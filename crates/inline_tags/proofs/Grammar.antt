-- A tag that is read place by place is one by the grammar.
use Rattle.std.proofs.Common.{◌≡◌, ℕ, ◌+◌, ◌-◌, ◌≤◌, suc, zero, Bool, true, false, cond, ◌&&◌, ◌||◌, eqb, List, [], ◌∷◌, length, take, drop, Option, None, Some}
use Rattle.std.proofs.Common.{refl, sym, ap, ◌∙◌, inl, inr, arith}
use Rattle.std.proofs.lemmas.Bool.{cases_Bool, cond-true, cond-false, ne_eqb, or_from, true≢false}
use Rattle.std.proofs.lemmas.List.{take_rest}
use Rattle.std.specs.Prelude.{codes}
use Rattle.std.specs.List.{prefix_len}
use Rattle.definition_text.specs.Columns.{tab_column}
use Rattle.definition_text.specs.Bytes.{is_letter, begins_with, after_all, without_slash}
use Rattle.definition_inline.specs.HtmlTags.{then_part, is_tag_space, tag_space, is_tag_name_byte, begins_attribute, is_attribute_byte, is_unquoted}
use Rattle.definition_inline.specs.HtmlTags.{quoted_value, value, value_or, specification, attribute, begins_with_attribute, has_attribute, attributes, tag_end}
use Rattle.definition_inline.specs.HtmlTags.{open_end, closing_end, open_rest, closing_rest, open_tag, closing_tag}
use Rattle.inline_tags.specs.Places.{Place, NameStart, Name, Space, Attribute, AttributeSpace, Equals, Unquoted, DoubleQuoted, SingleQuoted, Quoted, Slash}
use Rattle.inline_tags.specs.Places.{ClosingStart, ClosingName, ClosingSpace, End, Nowhere, at_end, after_part, after_attribute, after_equals}
use Rattle.inline_tags.specs.Places.{after_closing_name, tag_rest, rest_after}

-- what follows a tag that goes on from a place, which may be its end
abbrev from : Place → List ℕ → Option (List ℕ)
from place bytes = tag_rest place bytes (rest_after place bytes)

-- ---- bytes that pass a test

passes : (test : ℕ → Bool) (b : ℕ) (bs : List ℕ) → test b ≡ true → after_all test (b ∷ bs) ≡ after_all test bs
passes test b bs h =
    let n = prefix_len test bs in
    let more : 1 + n ≡ suc n = omega arith in
    ap (λ k. drop k (b ∷ bs)) (cond-true (test b) (1 + n) 0 h ∙ more)

fails : (test : ℕ → Bool) (b : ℕ) (bs : List ℕ) → test b ≡ false → after_all test (b ∷ bs) ≡ b ∷ bs
fails test b bs h = ap (λ k. drop k (b ∷ bs)) (cond-false (test b) (1 + prefix_len test bs) 0 h)

-- an attribute begins with no white space, and with no `=`
no_space : (b : ℕ) → begins_attribute b ≡ true → is_tag_space b ≡ false
no_space b h =
    or_from (eqb b 32 || eqb b 9 || eqb b tab_column) (eqb b 10)
    (or_from (eqb b 32 || eqb b 9) (eqb b tab_column) (or_from (eqb b 32) (eqb b 9) (is_none 32 refl) (is_none 9 refl)) (is_none tab_column refl))
    (is_none 10 refl)
  where
    is_none : (white : ℕ) → begins_attribute white ≡ false → eqb b white ≡ false
    is_none white other = ne_eqb b white (λ e. true≢false (sym h ∙ ap begins_attribute e ∙ other))

no_equals : (b : ℕ) → begins_attribute b ≡ true → eqb b 61 ≡ false
no_equals b h = ne_eqb b 61 (λ e. true≢false (sym h ∙ ap begins_attribute e))

-- ---- what follows a part of an open tag

-- after a name or a value: attributes and the end
abbrev tail : ℕ → List ℕ → Option (List ℕ)
tail most bytes = then_part (attributes most bytes) open_end

-- after white space, which these bytes follow: an attribute and what follows it, or the end
abbrev seen : ℕ → List ℕ → Option (List ℕ)
seen most bytes = cond (begins_with_attribute bytes) (then_part (attribute bytes) (tail most)) (tag_end (without_slash bytes))

-- after an attribute's name and white space, which these bytes follow: a value, or what is given
abbrev valued : ℕ → Option (List ℕ) → List ℕ → Option (List ℕ)
valued most other [] = other
valued most other (b ∷ bs) = cond (eqb b 61) (then_part (value (tag_space bs)) (tail most)) other

no_tail : (most : ℕ) → tail most [] ≡ None
no_tail zero = refl
no_tail (suc most) = refl

one_attribute : (has : Bool) (first : Option (List ℕ)) (most : ℕ) (bytes : List ℕ)
    → then_part (cond has (then_part first (attributes most)) (Some bytes)) open_end ≡ cond has (then_part first (tail most)) (open_end bytes)
one_attribute true None most bytes = refl
one_attribute true (Some rest) most bytes = refl
one_attribute false first most bytes = refl

-- after a name or a value, white space or none
tail_space : (most : ℕ) (b : ℕ) (bs : List ℕ) → is_tag_space b ≡ true → tail (suc most) (b ∷ bs) ≡ seen most (tag_space bs)
tail_space most b bs h =
    let rest = tag_space (b ∷ bs) in
    one_attribute (has_attribute (b ∷ bs)) (attribute rest) most (b ∷ bs)
    ∙ ap (λ t. cond (t && begins_with_attribute rest) (then_part (attribute rest) (tail most)) (tag_end (without_slash rest))) h
    ∙ ap (seen most) (passes is_tag_space b bs h)

tail_end : (most : ℕ) (b : ℕ) (bs : List ℕ) → is_tag_space b ≡ false → tail (suc most) (b ∷ bs) ≡ tag_end (without_slash (b ∷ bs))
tail_end most b bs h =
    let rest = tag_space (b ∷ bs) in
    one_attribute (has_attribute (b ∷ bs)) (attribute rest) most (b ∷ bs)
    ∙ ap (λ t. cond (t && begins_with_attribute rest) (then_part (attribute rest) (tail most)) (tag_end (without_slash rest))) h
    ∙ ap (λ bytes. tag_end (without_slash bytes)) (fails is_tag_space b bs h)

-- a value or what is given, and what follows
valued_is : (most : ℕ) (other bytes : List ℕ) → then_part (value_or other bytes) (tail most) ≡ valued most (tail most other) bytes
valued_is most other [] = refl
valued_is most other (b ∷ bs) = by_case (eqb b 61)
  where
    by_case : (t : Bool) → then_part (cond t (value (tag_space bs)) (Some other)) (tail most)
        ≡ cond t (then_part (value (tag_space bs)) (tail most)) (tail most other)
    by_case true = refl
    by_case false = refl

-- ---- places where a tag may end

end_reads : (b : ℕ) (bs : List ℕ) → from (at_end b) bs ≡ tag_end (b ∷ bs)
end_reads b bs = by_case (eqb b 62)
  where
    by_case : (t : Bool) → from (cond t End Nowhere) bs ≡ cond t (Some bs) None
    by_case true = refl
    by_case false = refl

slash_reads : (bytes : List ℕ) → rest_after Slash bytes ≡ tag_end bytes
slash_reads [] = refl
slash_reads (b ∷ bs) = end_reads b bs

part_end : (b : ℕ) (bs : List ℕ) → is_tag_space b ≡ false → from (after_part b) bs ≡ tag_end (without_slash (b ∷ bs))
part_end b bs h =
    ap (λ t. from (cond t Space (cond (eqb b 47) Slash (at_end b))) bs) h ∙ by_case (eqb b 47)
  where
    by_case : (t : Bool) → from (cond t Slash (at_end b)) bs ≡ tag_end (cond t bs (b ∷ bs))
    by_case true = slash_reads bs
    by_case false = end_reads b bs

part_space : (b : ℕ) (bs : List ℕ) → is_tag_space b ≡ true → from (after_part b) bs ≡ rest_after Space bs
part_space b bs h = ap (λ t. from (cond t Space (cond (eqb b 47) Slash (at_end b))) bs) h

part_reads : (most : ℕ) (b : ℕ) (bs : List ℕ) → rest_after Space bs ≡ seen most (tag_space bs) → from (after_part b) bs ≡ tail (suc most) (b ∷ bs)
part_reads most b bs spaces = elim (cases_Bool (is_tag_space b)) [
  | inl h ↦ part_space b bs h ∙ spaces ∙ sym (tail_space most b bs h)
  | inr h ↦ part_end b bs h ∙ sym (tail_end most b bs h)
]

-- ---- places after an attribute's name

name_space : (b : ℕ) (bs : List ℕ) → is_tag_space b ≡ true → from (after_attribute b) bs ≡ rest_after AttributeSpace bs
name_space b bs h = ap (λ t. from (cond t AttributeSpace (cond (eqb b 61) Equals (after_part b))) bs) h

name_end : (most : ℕ) (b : ℕ) (bs : List ℕ) (other : Option (List ℕ)) → is_tag_space b ≡ false
    → rest_after Equals bs ≡ then_part (value (tag_space bs)) (tail most) → from (after_part b) bs ≡ other
    → from (after_attribute b) bs ≡ valued most other (b ∷ bs)
name_end most b bs other h values part =
    ap (λ t. from (cond t AttributeSpace (cond (eqb b 61) Equals (after_part b))) bs) h ∙ by_case (eqb b 61)
  where
    by_case : (t : Bool) → from (cond t Equals (after_part b)) bs ≡ cond t (then_part (value (tag_space bs)) (tail most)) other
    by_case true = values
    by_case false = part

equals_space : (b : ℕ) (bs : List ℕ) → is_tag_space b ≡ true → from (after_equals b) bs ≡ rest_after Equals bs
equals_space b bs h = ap (λ t. from (cond t Equals (cond (eqb b 34) DoubleQuoted (cond (eqb b 39) SingleQuoted (cond (is_unquoted b) Unquoted Nowhere)))) bs) h

value_reads : (most : ℕ) (b : ℕ) (bs : List ℕ) → is_tag_space b ≡ false
    → rest_after DoubleQuoted bs ≡ then_part (quoted_value 34 bs) (tail most) → rest_after SingleQuoted bs ≡ then_part (quoted_value 39 bs) (tail most)
    → rest_after Unquoted bs ≡ tail most (after_all is_unquoted bs) → from (after_equals b) bs ≡ then_part (value (b ∷ bs)) (tail most)
value_reads most b bs h double single bare =
    ap (λ t. from (cond t Equals (cond (eqb b 34) DoubleQuoted (cond (eqb b 39) SingleQuoted (cond (is_unquoted b) Unquoted Nowhere)))) bs) h
    ∙ by_case (eqb b 34) (eqb b 39) (is_unquoted b)
  where
    by_case : (d s u : Bool) → from (cond d DoubleQuoted (cond s SingleQuoted (cond u Unquoted Nowhere))) bs
        ≡ then_part (cond d (quoted_value 34 bs) (cond s (quoted_value 39 bs) (cond u (Some (after_all is_unquoted bs)) None))) (tail most)
    by_case true s u = double
    by_case false true u = single
    by_case false false true = bare
    by_case false false false = refl

-- ---- the places of an open tag

mutual
  space_reads : (bytes : List ℕ) (most : ℕ) → length bytes ≤ most → rest_after Space bytes ≡ seen most (tag_space bytes)
  space_reads [] most h = refl
  space_reads (b ∷ bs) most h = elim (cases_Bool (begins_attribute b)) [
    | inl e ↦
        ap (λ p. from p bs) (cond-true (begins_attribute b) Attribute (after_part b) e)
        ∙ attribute_reads bs most (omega arith)
        ∙ sym (ap (seen most) (fails is_tag_space b bs (no_space b e))
        ∙ ap (λ t. cond t (then_part (cond t (specification (after_all is_attribute_byte bs)) None) (tail most)) (tag_end (without_slash (b ∷ bs)))) e)
    | inr e ↦
        ap (λ p. from p bs) (cond-false (begins_attribute b) Attribute (after_part b) e)
        ∙ elim (cases_Bool (is_tag_space b)) [
          | inl k ↦ part_space b bs k ∙ space_reads bs most (omega arith) ∙ sym (ap (seen most) (passes is_tag_space b bs k))
          | inr k ↦
              part_end b bs k
              ∙ sym (ap (seen most) (fails is_tag_space b bs k)
              ∙ ap (λ t. cond t (then_part (attribute (b ∷ bs)) (tail most)) (tag_end (without_slash (b ∷ bs)))) e)
        ]
  ]

  name_reads : (bytes : List ℕ) (most : ℕ) → length bytes ≤ most → rest_after Name bytes ≡ tail most (after_all is_tag_name_byte bytes)
  name_reads [] most h = sym (no_tail most)
  name_reads (b ∷ bs) zero h = absurd (omega arith)
  name_reads (b ∷ bs) (suc most) h = elim (cases_Bool (is_tag_name_byte b)) [
    | inl e ↦
        ap (λ p. from p bs) (cond-true (is_tag_name_byte b) Name (after_part b) e)
        ∙ name_reads bs (suc most) (omega arith) ∙ sym (ap (tail (suc most)) (passes is_tag_name_byte b bs e))
    | inr e ↦
        ap (λ p. from p bs) (cond-false (is_tag_name_byte b) Name (after_part b) e)
        ∙ part_reads most b bs (space_reads bs most (omega arith)) ∙ sym (ap (tail (suc most)) (fails is_tag_name_byte b bs e))
  ]

  unquoted_reads : (bytes : List ℕ) (most : ℕ) → length bytes ≤ most → rest_after Unquoted bytes ≡ tail most (after_all is_unquoted bytes)
  unquoted_reads [] most h = sym (no_tail most)
  unquoted_reads (b ∷ bs) zero h = absurd (omega arith)
  unquoted_reads (b ∷ bs) (suc most) h = elim (cases_Bool (is_unquoted b)) [
    | inl e ↦
        ap (λ p. from p bs) (cond-true (is_unquoted b) Unquoted (after_part b) e)
        ∙ unquoted_reads bs (suc most) (omega arith) ∙ sym (ap (tail (suc most)) (passes is_unquoted b bs e))
    | inr e ↦
        ap (λ p. from p bs) (cond-false (is_unquoted b) Unquoted (after_part b) e)
        ∙ part_reads most b bs (space_reads bs most (omega arith)) ∙ sym (ap (tail (suc most)) (fails is_unquoted b bs e))
  ]

  quoted_reads : (bytes : List ℕ) (most : ℕ) → length bytes ≤ most → rest_after Quoted bytes ≡ tail most bytes
  quoted_reads [] most h = sym (no_tail most)
  quoted_reads (b ∷ bs) zero h = absurd (omega arith)
  quoted_reads (b ∷ bs) (suc most) h = part_reads most b bs (space_reads bs most (omega arith))

  double_reads : (bytes : List ℕ) (most : ℕ) → length bytes ≤ most → rest_after DoubleQuoted bytes ≡ then_part (quoted_value 34 bytes) (tail most)
  double_reads [] most h = refl
  double_reads (b ∷ bs) most h = elim (cases_Bool (eqb b 34)) [
    | inl e ↦
        ap (λ p. from p bs) (cond-true (eqb b 34) Quoted DoubleQuoted e) ∙ quoted_reads bs most (omega arith)
        ∙ sym (ap (λ o. then_part o (tail most)) (cond-true (eqb b 34) (Some bs) (quoted_value 34 bs) e))
    | inr e ↦
        ap (λ p. from p bs) (cond-false (eqb b 34) Quoted DoubleQuoted e) ∙ double_reads bs most (omega arith)
        ∙ sym (ap (λ o. then_part o (tail most)) (cond-false (eqb b 34) (Some bs) (quoted_value 34 bs) e))
  ]

  single_reads : (bytes : List ℕ) (most : ℕ) → length bytes ≤ most → rest_after SingleQuoted bytes ≡ then_part (quoted_value 39 bytes) (tail most)
  single_reads [] most h = refl
  single_reads (b ∷ bs) most h = elim (cases_Bool (eqb b 39)) [
    | inl e ↦
        ap (λ p. from p bs) (cond-true (eqb b 39) Quoted SingleQuoted e) ∙ quoted_reads bs most (omega arith)
        ∙ sym (ap (λ o. then_part o (tail most)) (cond-true (eqb b 39) (Some bs) (quoted_value 39 bs) e))
    | inr e ↦
        ap (λ p. from p bs) (cond-false (eqb b 39) Quoted SingleQuoted e) ∙ single_reads bs most (omega arith)
        ∙ sym (ap (λ o. then_part o (tail most)) (cond-false (eqb b 39) (Some bs) (quoted_value 39 bs) e))
  ]

  equals_reads : (bytes : List ℕ) (most : ℕ) → length bytes ≤ most → rest_after Equals bytes ≡ then_part (value (tag_space bytes)) (tail most)
  equals_reads [] most h = refl
  equals_reads (b ∷ bs) most h = elim (cases_Bool (is_tag_space b)) [
    | inl k ↦
        equals_space b bs k ∙ equals_reads bs most (omega arith)
        ∙ sym (ap (λ rest. then_part (value rest) (tail most)) (passes is_tag_space b bs k))
    | inr k ↦
        value_reads most b bs k (double_reads bs most (omega arith)) (single_reads bs most (omega arith)) (unquoted_reads bs most (omega arith))
        ∙ sym (ap (λ rest. then_part (value rest) (tail most)) (fails is_tag_space b bs k))
  ]

  attribute_space_reads : (bytes : List ℕ) (most : ℕ) → length bytes ≤ most
      → rest_after AttributeSpace bytes ≡ valued most (rest_after Space bytes) (tag_space bytes)
  attribute_space_reads [] most h = refl
  attribute_space_reads (b ∷ bs) most h = elim (cases_Bool (begins_attribute b)) [
    | inl e ↦
        let here = rest_after Space (b ∷ bs) in
        ap (λ t. from (cond t Attribute (after_attribute b)) bs) e
        ∙ sym (ap (valued most here) (fails is_tag_space b bs (no_space b e))
        ∙ cond-false (eqb b 61) (then_part (value (tag_space bs)) (tail most)) here (no_equals b e)
        ∙ ap (λ t. from (cond t Attribute (after_part b)) bs) e)
    | inr e ↦
        let here = rest_after Space (b ∷ bs) in
        let same : here ≡ from (after_part b) bs = ap (λ t. from (cond t Attribute (after_part b)) bs) e in
        ap (λ t. from (cond t Attribute (after_attribute b)) bs) e
        ∙ elim (cases_Bool (is_tag_space b)) [
          | inl k ↦
              name_space b bs k ∙ attribute_space_reads bs most (omega arith)
              ∙ ap (λ o. valued most o (tag_space bs)) (sym (same ∙ part_space b bs k))
              ∙ sym (ap (valued most here) (passes is_tag_space b bs k))
          | inr k ↦
              name_end most b bs here k (equals_reads bs most (omega arith)) (sym same)
              ∙ sym (ap (valued most here) (fails is_tag_space b bs k))
        ]
  ]

  attribute_reads : (bytes : List ℕ) (most : ℕ) → length bytes ≤ most → rest_after Attribute bytes
      ≡ then_part (specification (after_all is_attribute_byte bytes)) (tail most)
  attribute_reads [] most h = sym (no_tail most)
  attribute_reads (b ∷ bs) zero h = absurd (omega arith)
  attribute_reads (b ∷ bs) (suc most) h = elim (cases_Bool (is_attribute_byte b)) [
    | inl e ↦
        ap (λ p. from p bs) (cond-true (is_attribute_byte b) Attribute (after_attribute b) e)
        ∙ attribute_reads bs (suc most) (omega arith)
        ∙ sym (ap (λ rest. then_part (specification rest) (tail (suc most))) (passes is_attribute_byte b bs e))
    | inr e ↦
        let other = tail (suc most) (b ∷ bs) in
        let whole = part_reads most b bs (space_reads bs most (omega arith)) in
        ap (λ p. from p bs) (cond-false (is_attribute_byte b) Attribute (after_attribute b) e)
        ∙ elim (cases_Bool (is_tag_space b)) [
          | inl k ↦
              name_space b bs k ∙ attribute_space_reads bs (suc most) (omega arith)
              ∙ ap (λ o. valued (suc most) o (tag_space bs)) (sym (part_space b bs k) ∙ whole)
              ∙ sym (ap (valued (suc most) other) (passes is_tag_space b bs k))
          | inr k ↦
              name_end (suc most) b bs other k (equals_reads bs (suc most) (omega arith)) whole
              ∙ sym (ap (valued (suc most) other) (fails is_tag_space b bs k))
        ]
        ∙ sym (valued_is (suc most) (b ∷ bs) (tag_space (b ∷ bs)))
        ∙ sym (ap (λ rest. then_part (specification rest) (tail (suc most))) (fails is_attribute_byte b bs e))
  ]

pub open_reads : (bytes : List ℕ) → rest_after NameStart bytes ≡ open_rest bytes
open_reads [] = refl
open_reads (b ∷ bs) = elim (cases_Bool (is_letter b)) [
  | inl e ↦
      ap (λ p. from p bs) (cond-true (is_letter b) Name Nowhere e) ∙ name_reads bs (length (b ∷ bs)) (omega arith)
      ∙ sym (ap (λ o. then_part (then_part o (attributes (length (b ∷ bs)))) open_end)
      (cond-true (is_letter b) (Some (after_all is_tag_name_byte bs)) None e))
  | inr e ↦
      ap (λ p. from p bs) (cond-false (is_letter b) Name Nowhere e)
      ∙ sym (ap (λ o. then_part (then_part o (attributes (length (b ∷ bs)))) open_end)
      (cond-false (is_letter b) (Some (after_all is_tag_name_byte bs)) None e))
]

-- ---- the places of a closing tag

closing_space : (b : ℕ) (bs : List ℕ) → is_tag_space b ≡ true → from (after_closing_name b) bs ≡ rest_after ClosingSpace bs
closing_space b bs h = ap (λ t. from (cond t ClosingSpace (at_end b)) bs) h

closing_space_reads : (bytes : List ℕ) → rest_after ClosingSpace bytes ≡ closing_end bytes
closing_space_reads [] = refl
closing_space_reads (b ∷ bs) = elim (cases_Bool (is_tag_space b)) [
  | inl h ↦ closing_space b bs h ∙ closing_space_reads bs ∙ sym (ap tag_end (passes is_tag_space b bs h))
  | inr h ↦ ap (λ t. from (cond t ClosingSpace (at_end b)) bs) h ∙ end_reads b bs ∙ sym (ap tag_end (fails is_tag_space b bs h))
]

closing_name_reads : (bytes : List ℕ) → rest_after ClosingName bytes ≡ closing_end (after_all is_tag_name_byte bytes)
closing_name_reads [] = refl
closing_name_reads (b ∷ bs) = elim (cases_Bool (is_tag_name_byte b)) [
  | inl e ↦
      ap (λ p. from p bs) (cond-true (is_tag_name_byte b) ClosingName (after_closing_name b) e)
      ∙ closing_name_reads bs ∙ sym (ap closing_end (passes is_tag_name_byte b bs e))
  | inr e ↦
      ap (λ p. from p bs) (cond-false (is_tag_name_byte b) ClosingName (after_closing_name b) e)
      ∙ closing_space_reads (b ∷ bs) ∙ sym (ap closing_end (fails is_tag_name_byte b bs e))
]

pub closing_reads : (bytes : List ℕ) → rest_after ClosingStart bytes ≡ closing_rest bytes
closing_reads [] = refl
closing_reads (b ∷ bs) = elim (cases_Bool (is_letter b)) [
  | inl e ↦
      ap (λ p. from p bs) (cond-true (is_letter b) ClosingName Nowhere e) ∙ closing_name_reads bs
      ∙ sym (ap (λ o. then_part o closing_end) (cond-true (is_letter b) (Some (after_all is_tag_name_byte bs)) None e))
  | inr e ↦
      ap (λ p. from p bs) (cond-false (is_letter b) ClosingName Nowhere e)
      ∙ sym (ap (λ o. then_part o closing_end) (cond-false (is_letter b) (Some (after_all is_tag_name_byte bs)) None e))
]

-- ---- whole tags, with the bytes after their start as a slice gives them

pub open_tag_reads : (bytes : List ℕ) → begins_with (codes "<") bytes ≡ true → rest_after NameStart (take (length bytes - 1) (drop 1 bytes)) ≡ open_tag bytes
open_tag_reads bytes h =
    ap (rest_after NameStart) (take_rest bytes 1) ∙ open_reads (drop 1 bytes)
    ∙ sym (cond-true (begins_with (codes "<") bytes) (open_rest (drop 1 bytes)) None h)

pub closing_tag_reads : (bytes : List ℕ) → begins_with (codes "</") bytes ≡ true
    → rest_after ClosingStart (take (length bytes - 2) (drop 2 bytes)) ≡ closing_tag bytes
closing_tag_reads bytes h =
    ap (rest_after ClosingStart) (take_rest bytes 2) ∙ closing_reads (drop 2 bytes)
    ∙ sym (cond-true (begins_with (codes "</") bytes) (closing_rest (drop 2 bytes)) None h)
