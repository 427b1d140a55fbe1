-- Decoded texts, part by part.
use Rattle.std.proofs.Common.{◌≡◌, ℕ, zero, suc, ◌+◌, ◌-◌, ◌<◌, true, false, List, [], ◌∷◌, ◌++◌, Option, None, Some, refl, sym, ap, ◌∙◌, inl, inr, eqb, length}
use Rattle.std.proofs.Common.{take, drop, arith, not, subst, length-append}
use Rattle.std.specs.Prelude.{is_some, unwrap_or}
use Rattle.std.specs.List.{position_or_len, before_first, after_first, list_all}
use Rattle.std.specs.Option.{option_map, option_and_then}
use Rattle.std.proofs.lemmas.Bool.{cases_Bool, cond-true, cond-false, eqb-true, and_parts}
use Rattle.std.proofs.Math.Seq.{drop-append_seam}
use Rattle.definition_text.specs.Content.{Part, part}
use Rattle.definition_inline.specs.CharacterReference.{CharacterName, CharacterReference, Names, reference_after, reference_form, reference_text}
use Rattle.definition_inline.specs.Decoded.{known_text, known_at, replace_reference, decoded_after, decode}
use Rattle.inline_references.specs.Grammar.{IsWritten, name, digits, lower_x, upper_x}
use Rattle.inline_references.proofs.Written.{written_is_read, read_is_written}

-- ---- known references

-- one that is written
pub known_written : (names : Names) (front rest text : List ℕ) (n : CharacterName) → IsWritten front n → reference_text names n ≡ Some text
    → known_at names (front ++ rest) ≡ Some (part text rest)
known_written names front rest text n w t =
    ap (option_and_then (known_text names)) (written_is_read front rest n w) ∙ ap (option_map (λ x. part x rest)) t

-- how one is written
pub record HasReference (names : Names) (bytes : List ℕ) (p : Part) : Type 0 where
  pub front : List ℕ
  pub name : CharacterName
  pub written : IsWritten front name
  pub text : reference_text names name ≡ Some p.text
  pub is : bytes ≡ front ++ p.rest

with_text : (names : Names) (bytes : List ℕ) (p : Part) (r : CharacterReference) → reference_form bytes ≡ Some r → (text : Option (List ℕ))
    → reference_text names r.name ≡ text
    → option_map (λ x. part x r.rest) text ≡ Some p → HasReference names bytes p
with_text names bytes p r e None t h = cc
with_text names bytes p r e (Some text) t h =
    let w = read_is_written bytes r e in
    let is : part text r.rest ≡ p = cc in
    record {
      front = w.0;
      name = r.name;
      written = w.1;
      text = t ∙ ap (λ (x : Part). Some x.text) is;
      is = w.2 ∙ ap (λ (x : Part). w.0 ++ x.rest) is;
    }

with_form : (names : Names) (bytes : List ℕ) (p : Part) (found : Option CharacterReference) → reference_form bytes ≡ found
    → option_and_then (known_text names) found ≡ Some p → HasReference names bytes p
with_form names bytes p None e h = cc
with_form names bytes p (Some r) e h = with_text names bytes p r e (reference_text names r.name) refl h

pub known_has : (names : Names) (bytes : List ℕ) (p : Part) → known_at names bytes ≡ Some p → HasReference names bytes p
known_has names bytes p h = with_form names bytes p (reference_form bytes) refl h

-- ---- what they leave

-- leaving out bytes
decoded-drop : (names : Names) (skipped : ℕ) (bytes : List ℕ) → decoded_after names skipped bytes ≡ decode names (drop skipped bytes)
decoded-drop names zero bytes = refl
decoded-drop names (suc skipped) [] = refl
decoded-drop names (suc skipped) (b ∷ bs) = decoded-drop names skipped bs

cut_at : (bs front rest : List ℕ) → bs ≡ front ++ rest → drop (length bs - length rest) bs ≡ rest
cut_at bs front rest is =
    let size : length bs - length rest ≡ length front = omega (arith, ap length is, length-append front rest) in
    ap (λ n. drop n bs) size ∙ ap (drop (length front)) is ∙ drop-append_seam front rest

-- past the first byte of a reference
rest_after : (b : ℕ) (bs front rest : List ℕ) (n : CharacterName) → IsWritten front n → b ∷ bs ≡ front ++ rest → drop (length bs - length rest) bs ≡ rest
rest_after b bs front rest _ (name value h) is = cut_at bs (value ++ 59 ∷ []) rest cc
rest_after b bs front rest _ (digits value h) is = cut_at bs (35 ∷ value ++ 59 ∷ []) rest cc
rest_after b bs front rest _ (lower_x value h) is = cut_at bs (35 ∷ 120 ∷ value ++ 59 ∷ []) rest cc
rest_after b bs front rest _ (upper_x value h) is = cut_at bs (35 ∷ 88 ∷ value ++ 59 ∷ []) rest cc

-- the text of a known reference stands in place of it
pub decoded_known : (names : Names) (bytes : List ℕ) (p : Part) → known_at names bytes ≡ Some p → decode names bytes ≡ p.text ++ decode names p.rest
decoded_known names [] p h = cc
decoded_known names (b ∷ bs) p h =
    let has = known_has names (b ∷ bs) p h in
    let size = length bs - length p.rest in
    ap (λ found. replace_reference b bs found (λ n. decoded_after names n bs)) h
    ∙ ap (λ others. p.text ++ others) (decoded-drop names size bs ∙ ap (decode names) (rest_after b bs has.front p.rest has.name has.written has.is))

-- a byte that begins none stays
pub decoded_other : (names : Names) (b : ℕ) (bs : List ℕ) → known_at names (b ∷ bs) ≡ None → decode names (b ∷ bs) ≡ b ∷ decode names bs
decoded_other names b bs h = ap (λ found. replace_reference b bs found (λ n. decoded_after names n bs)) h

-- so does one other than `&`
decoded_byte : (names : Names) (b : ℕ) (bs : List ℕ) → eqb b 38 ≡ false → decode names (b ∷ bs) ≡ b ∷ decode names bs
decoded_byte names b bs h = decoded_other names b bs (ap (option_and_then (known_text names)) (cond-false (eqb b 38) (reference_after bs) None h))

-- ---- up to the first `&`

-- its place
abbrev pub place : List ℕ → ℕ
place bytes = position_or_len (λ b. eqb b 38) bytes

abbrev pub before : List ℕ → List ℕ
before bytes = before_first (λ b. eqb b 38) bytes

abbrev pub after_and : List ℕ → List ℕ
after_and bytes = after_first (λ b. eqb b 38) bytes

place_other : (b : ℕ) (bs : List ℕ) → eqb b 38 ≡ false → place (b ∷ bs) ≡ suc (place bs)
place_other b bs h =
    let e : place (b ∷ bs) ≡ 1 + place bs = cond-true (not (eqb b 38)) (1 + place bs) 0 (ap not h) in
    omega arith

-- what stands before it stays
pub decoded_split : (names : Names) (bytes : List ℕ) → place bytes < length bytes → decode names bytes ≡ before bytes ++ decode names (38 ∷ after_and bytes)
decoded_split names [] lt = absurd (omega arith)
decoded_split names (b ∷ bs) lt =
    elim (cases_Bool (eqb b 38)) [
      | inl p ↦ subst (λ (n : ℕ). decode names (n ∷ bs) ≡ before (n ∷ bs) ++ decode names (38 ∷ after_and (n ∷ bs))) (sym (eqb-true b 38 p)) refl
      | inr p ↦
          let e = place_other b bs p in
          let lt' : place bs < length bs = omega arith in
          let e' : place (b ∷ bs) + 1 ≡ suc (place bs + 1) = omega arith in
          decoded_byte names b bs p
          ∙ ap (λ others. b ∷ others) (decoded_split names bs lt')
          ∙ ap (λ n. take n (b ∷ bs) ++ decode names (38 ∷ after_and bs)) (sym e)
          ∙ ap (λ n. before (b ∷ bs) ++ decode names (38 ∷ drop n (b ∷ bs))) (sym e')
    ]

-- a text without `&` stays
pub decoded_none : (names : Names) (bytes : List ℕ) → place bytes ≡ length bytes → decode names bytes ≡ bytes
decoded_none names [] h = refl
decoded_none names (b ∷ bs) h =
    elim (cases_Bool (eqb b 38)) [
      | inl p ↦
          let e : place (b ∷ bs) ≡ 0 = cond-false (not (eqb b 38)) (1 + place bs) 0 (ap not p) in
          absurd (omega arith)
      | inr p ↦
          let e = place_other b bs p in
          let h' : place bs ≡ length bs = omega arith in
          decoded_byte names b bs p ∙ ap (λ others. b ∷ others) (decoded_none names bs h')
    ]

pub plain_law : (names : Names) (text : List ℕ) → list_all (λ b. not (eqb b 38)) text ≡ true → decode names text ≡ text
plain_law names [] h = refl
plain_law names (b ∷ bs) h =
    let parts = and_parts (not (eqb b 38)) (list_all (λ n. not (eqb n 38)) bs) h in
    elim (cases_Bool (eqb b 38)) [
      | inl p ↦ let no : false ≡ true = sym (ap not p) ∙ parts.0 in cc
      | inr p ↦ decoded_byte names b bs p ∙ ap (λ others. b ∷ others) (plain_law names bs parts.1)
    ]

-- ---- a reference that was read

text_known : (text : Option (List ℕ)) (rest : List ℕ) → is_some text ≡ true → option_map (λ x. part x rest) text ≡ Some (part (unwrap_or text []) rest)
text_known None rest h = cc
text_known (Some text) rest h = refl

no_text : (text : Option (List ℕ)) (rest : List ℕ) → is_some text ≡ false → option_map (λ x. part x rest) text ≡ None
no_text None rest h = refl
no_text (Some text) rest h = cc

-- whose text is known
pub decoded_reference : (names : Names) (bytes : List ℕ) (r : CharacterReference) → Some r ≡ reference_form bytes → is_some (reference_text names r.name) ≡ true
    → decode names bytes ≡ unwrap_or (reference_text names r.name) [] ++ decode names r.rest
decoded_reference names bytes r is known =
    decoded_known names bytes (part (unwrap_or (reference_text names r.name) []) r.rest)
    (ap (option_and_then (known_text names)) (sym is) ∙ text_known (reference_text names r.name) r.rest known)

-- whose name isn't known
pub decoded_unknown : (names : Names) (b : ℕ) (bs : List ℕ) (r : CharacterReference) → Some r ≡ reference_form (b ∷ bs)
    → is_some (reference_text names r.name) ≡ false
    → decode names (b ∷ bs) ≡ b ∷ decode names bs
decoded_unknown names b bs r is unknown =
    decoded_other names b bs (ap (option_and_then (known_text names)) (sym is) ∙ no_text (reference_text names r.name) r.rest unknown)

pub none_of : (text : Option (List ℕ)) → is_some text ≡ false → unwrap_or text [] ≡ []
none_of None h = refl
none_of (Some text) h = cc
