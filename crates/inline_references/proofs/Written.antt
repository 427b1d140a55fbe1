-- References are read as they are written.
use Rattle.std.proofs.Common.{◌≡◌, ℕ, ◌+◌, Bool, true, false, ◌&&◌, ◌||◌, cond, eqb, leb, List, [], ◌∷◌, ◌++◌, Option, None, Some, length, take, drop, refl}
use Rattle.std.proofs.Common.{sym, ap, ◌∙◌, subst, inl, inr, arith, append_assoc}
use Rattle.std.specs.Char.{is_ascii_digit, is_ascii_hexdigit, is_ascii_alphanumeric}
use Rattle.std.specs.List.{list_all, prefix_len, take_while}
use Rattle.std.proofs.lemmas.Bool.{cases_Bool, cond-true, cond-false, and_parts, and_from, or_cases, eqb-true, ne_eqb, leb-true, le-leb}
use Rattle.std.proofs.lemmas.List.{length-take-le, take-append-drop}
use Rattle.std.proofs.lemmas.List.Sums.{prefix_len-le-length, take_while-cons}
use Rattle.std.proofs.Math.Seq.{drop-append_seam, take-append_seam}
use Rattle.definition_text.specs.Content.{Part, part}
use Rattle.definition_inline.specs.CharacterReference.{CharacterName, Named, Numbered, CharacterReference, character_reference, before_semicolon}
use Rattle.definition_inline.specs.CharacterReference.{part_to_semicolon, number_of, reference_by_name, reference_by_number, number_reference, reference_after}
use Rattle.definition_inline.specs.CharacterReference.{reference_form}
use Rattle.inline_references.specs.Grammar.{IsValue, IsWritten, name, digits, lower_x, upper_x, WrittenIsRead, ReadIsWritten}

-- bytes that pass, before one that doesn't
prefix_all : (test : ℕ → Bool) (xs : List ℕ) (y : ℕ) (ys : List ℕ) → list_all test xs ≡ true → test y ≡ false → prefix_len test (xs ++ y ∷ ys) ≡ length xs
prefix_all test [] y ys h k = cond-false (test y) (1 + prefix_len test ys) 0 k
prefix_all test (x ∷ xs) y ys h k =
    let parts = and_parts (test x) (list_all test xs) h in
    let rest = prefix_all test xs y ys parts.1 k in
    let e : prefix_len test (x ∷ (xs ++ y ∷ ys)) ≡ 1 + prefix_len test (xs ++ y ∷ ys) = cond-true (test x) _ _ parts.0 in
    omega arith

-- a value and its `;` are read
value_read : (test : ℕ → Bool) (most : ℕ) (value rest : List ℕ) → IsValue test most value → test 59 ≡ false
    → part_to_semicolon test most ((value ++ 59 ∷ []) ++ rest) ≡ Some (part value rest)
value_read test most value rest h semicolon =
    let s = value ++ 59 ∷ rest in
    let found : ℕ → Option Part = λ n. cond (leb 1 n && leb n most) (before_semicolon (take n s) (drop n s)) None in
    ap (part_to_semicolon test most) (append_assoc value (59 ∷ []) rest)
    ∙ ap found (prefix_all test value 59 rest h.bytes semicolon)
    ∙ cond-true (leb 1 (length value) && leb (length value) most) _ None
    (and_from (leb 1 (length value)) (leb (length value) most) (le-leb 1 (length value) h.nonempty) (le-leb (length value) most h.bounded))
    ∙ ap (λ v. before_semicolon v (drop (length value) s)) (take-append_seam value (59 ∷ rest))
    ∙ ap (before_semicolon value) (drop-append_seam value (59 ∷ rest))

-- the first byte of a value isn't one that it can't have
not_first : (test : ℕ → Bool) (b other : ℕ) (bs : List ℕ) → list_all test (b ∷ bs) ≡ true → test other ≡ false → eqb b other ≡ false
not_first test b other bs h k =
    ne_eqb b other (λ e. let yes = (and_parts (test b) (list_all test bs) h).0 in let no : false ≡ true = sym k ∙ ap test (sym e) ∙ yes in cc)

name_read : (value rest : List ℕ) → IsValue is_ascii_alphanumeric 31 value
    → reference_form ((38 ∷ value ++ 59 ∷ []) ++ rest) ≡ Some (character_reference (Named value) rest)
name_read [] rest h = absurd (omega (arith, h.nonempty))
name_read (v ∷ vs) rest h =
    cond-false (eqb v 35) _ _ (not_first is_ascii_alphanumeric v 35 vs h.bytes refl)
    ∙ ap reference_by_name (value_read is_ascii_alphanumeric 31 (v ∷ vs) rest h refl)

digits_read : (value rest : List ℕ) → IsValue is_ascii_digit 7 value
    → reference_form ((38 ∷ 35 ∷ value ++ 59 ∷ []) ++ rest) ≡ Some (character_reference (Numbered (number_of 10 value)) rest)
digits_read [] rest h = absurd (omega (arith, h.nonempty))
digits_read (v ∷ vs) rest h =
    let lower = not_first is_ascii_digit v 120 vs h.bytes refl in
    let upper = not_first is_ascii_digit v 88 vs h.bytes refl in
    cond-false (eqb v 120 || eqb v 88) _ _ (ap (λ b. b || eqb v 88) lower ∙ upper)
    ∙ ap (reference_by_number 10) (value_read is_ascii_digit 7 (v ∷ vs) rest h refl)

pub written_is_read : WrittenIsRead
written_is_read front rest _ (name value h) = name_read value rest h
written_is_read front rest _ (digits value h) = digits_read value rest h
written_is_read front rest _ (lower_x value h) = ap (reference_by_number 16) (value_read is_ascii_hexdigit 6 value rest h refl)
written_is_read front rest _ (upper_x value h) = ap (reference_by_number 16) (value_read is_ascii_hexdigit 6 value rest h refl)

-- the bytes at the front that pass pass
pub taken_pass : (test : ℕ → Bool) (xs : List ℕ) → list_all test (take_while test xs) ≡ true
taken_pass test [] = refl
taken_pass test (x ∷ xs) =
    elim (cases_Bool (test x)) [
      | inl p ↦
          ap (list_all test) (take_while-cons test x xs ∙ cond-true (test x) (x ∷ take_while test xs) [] p)
          ∙ and_from (test x) (list_all test (take_while test xs)) p (taken_pass test xs)
      | inr p ↦ ap (list_all test) (take_while-cons test x xs ∙ cond-false (test x) (x ∷ take_while test xs) [] p)
    ]

-- what is read before a `;`
semicolon_written : (text xs : List ℕ) (p : Part) → before_semicolon text xs ≡ Some p → (text ≡ p.text) × (xs ≡ 59 ∷ p.rest)
semicolon_written text [] p h = cc
semicolon_written text (c ∷ cs) p h =
    elim (cases_Bool (eqb c 59)) [
      | inl q ↦
          let is : part text cs ≡ p = let e = sym (cond-true (eqb c 59) (Some (part text cs)) None q) ∙ h in cc in
          (ap (λ (x : Part). x.text) is, ap (λ x. x ∷ cs) (eqb-true c 59 q) ∙ ap (λ (x : Part). 59 ∷ x.rest) is)
      | inr q ↦ let e = sym (cond-false (eqb c 59) (Some (part text cs)) None q) ∙ h in cc
    ]

value_written : (test : ℕ → Bool) (most : ℕ) (xs : List ℕ) (p : Part) → part_to_semicolon test most xs ≡ Some p → IsValue test most p.text
    × (xs ≡ p.text ++ 59 ∷ p.rest)
value_written test most xs p h =
    let n = prefix_len test xs in
    let fits = leb 1 n && leb n most in
    elim (cases_Bool fits) [
      | inl q ↦
          let closed = semicolon_written (take n xs) (drop n xs) p (sym (cond-true fits (before_semicolon (take n xs) (drop n xs)) None q) ∙ h) in
          let sizes = and_parts (leb 1 n) (leb n most) q in
          let size : length (take n xs) ≡ n = length-take-le n xs (prefix_len-le-length test xs) in
          let good : IsValue test most (take n xs) = record {
            nonempty = omega (arith, size, leb-true 1 n sizes.0);
            bounded = omega (arith, size, leb-true n most sizes.1);
            bytes = taken_pass test xs;
          } in
          (subst (IsValue test most) closed.0 good, sym (take-append-drop n xs) ∙ ap (λ x. x ++ drop n xs) closed.0 ∙ ap (λ x. p.text ++ x) closed.1)
      | inr q ↦ let e = sym (cond-false fits (before_semicolon (take n xs) (drop n xs)) None q) ∙ h in cc
    ]

-- how bytes that begin with a reference are written
abbrev pub Written : List ℕ → CharacterReference → Type 0
Written bytes r = (front : List ℕ) × IsWritten front r.name × (bytes ≡ front ++ r.rest)

-- a value and its `;` after a mark
written_by : (test : ℕ → Bool) (most : ℕ) (mark xs : List ℕ) (wrap : Option Part → Option CharacterReference) (make : List ℕ
    → CharacterName) (r : CharacterReference)
    → wrap None ≡ None → ((p : Part) → wrap (Some p) ≡ Some (character_reference (make p.text) p.rest))
    → ((value : List ℕ) → IsValue test most value → IsWritten (mark ++ (value ++ 59 ∷ [])) (make value))
    → (o : Option Part) → part_to_semicolon test most xs ≡ o → wrap o ≡ Some r → Written (mark ++ xs) r
written_by test most mark xs wrap make r none some how None e h = let no : None ≡ Some r = sym none ∙ h in cc
written_by test most mark xs wrap make r none some how (Some p) e h =
    let is : character_reference (make p.text) p.rest ≡ r = let found = sym (some p) ∙ h in cc in
    let w = value_written test most xs p e in
    subst (Written (mark ++ xs)) is (
      mark ++ (p.text ++ 59 ∷ []),
      how p.text w.0,
      ap (λ x. mark ++ x) (w.1 ∙ sym (append_assoc p.text (59 ∷ []) p.rest)) ∙ sym (append_assoc mark (p.text ++ 59 ∷ []) p.rest),
    )

number_written : (cs : List ℕ) (r : CharacterReference) → number_reference cs ≡ Some r → Written (38 ∷ 35 ∷ cs) r
number_written [] r h = cc
number_written (c ∷ cs) r h =
    let x = eqb c 120 || eqb c 88 in
    let sixteen : List ℕ → CharacterName = λ value. Numbered (number_of 16 value) in
    elim (cases_Bool x) [
      | inl p ↦
          let read =
          sym (cond-true x (reference_by_number 16 (part_to_semicolon is_ascii_hexdigit 6 cs))
          (reference_by_number 10 (part_to_semicolon is_ascii_digit 7 (c ∷ cs))) p) ∙ h in
          elim (or_cases (eqb c 120) (eqb c 88) p) [
            | inl q ↦
                subst (λ (n : ℕ). Written (38 ∷ 35 ∷ n ∷ cs) r) (sym (eqb-true c 120 q))
                (written_by is_ascii_hexdigit 6 (38 ∷ 35 ∷ 120 ∷ []) cs (reference_by_number 16) sixteen r refl (λ p. refl) lower_x
                (part_to_semicolon is_ascii_hexdigit 6 cs) refl read)
            | inr q ↦
                subst (λ (n : ℕ). Written (38 ∷ 35 ∷ n ∷ cs) r) (sym (eqb-true c 88 q))
                (written_by is_ascii_hexdigit 6 (38 ∷ 35 ∷ 88 ∷ []) cs (reference_by_number 16) sixteen r refl (λ p. refl) upper_x
                (part_to_semicolon is_ascii_hexdigit 6 cs) refl read)
          ]
      | inr p ↦
          let read =
          sym (cond-false x (reference_by_number 16 (part_to_semicolon is_ascii_hexdigit 6 cs))
          (reference_by_number 10 (part_to_semicolon is_ascii_digit 7 (c ∷ cs))) p) ∙ h in
          written_by is_ascii_digit 7 (38 ∷ 35 ∷ []) (c ∷ cs) (reference_by_number 10) (λ value. Numbered (number_of 10 value)) r refl (λ p. refl) digits
          (part_to_semicolon is_ascii_digit 7 (c ∷ cs)) refl read
    ]

after_written : (cs : List ℕ) (r : CharacterReference) → reference_after cs ≡ Some r → Written (38 ∷ cs) r
after_written [] r h = cc
after_written (c ∷ cs) r h =
    let by_name = reference_by_name (part_to_semicolon is_ascii_alphanumeric 31 (c ∷ cs)) in
    elim (cases_Bool (eqb c 35)) [
      | inl p ↦
          subst (λ (n : ℕ). Written (38 ∷ n ∷ cs) r) (sym (eqb-true c 35 p)) (number_written cs r
          (sym (cond-true (eqb c 35) (number_reference cs) by_name p) ∙ h))
      | inr p ↦
          written_by is_ascii_alphanumeric 31 (38 ∷ []) (c ∷ cs) reference_by_name Named r refl (λ p. refl) name
          (part_to_semicolon is_ascii_alphanumeric 31 (c ∷ cs)) refl
          (sym (cond-false (eqb c 35) (number_reference cs) by_name p) ∙ h)
    ]

pub read_is_written : ReadIsWritten
read_is_written [] r h = cc
read_is_written (c ∷ cs) r h =
    elim (cases_Bool (eqb c 38)) [
      | inl p ↦ subst (λ (n : ℕ). Written (n ∷ cs) r) (sym (eqb-true c 38 p)) (after_written cs r (sym (cond-true (eqb c 38) (reference_after cs) None p) ∙ h))
      | inr p ↦ let e = sym (cond-false (eqb c 38) (reference_after cs) None p) ∙ h in cc
    ]
