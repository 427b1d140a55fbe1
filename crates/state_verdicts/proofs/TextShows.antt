-- The letters and digits of a virtual text stand in its bytes.
use Rattle.std.proofs.Common.{◌≡◌, ◌∙◌, ℕ, zero, suc, ◌+◌, ◌<◌, ◌≤◌, Bool, true, false, ◌==◌, ◌&&◌, nat_lt, if◌then◌else◌, List, [], ◌∷◌, Some, None, inl, inr}
use Rattle.std.proofs.Common.{refl, sym, ap, subst, arith, slice_index}
use Rattle.std.proofs.lemmas.Bool.{and_parts, cases_Bool, eqb-true, le-ltb, ne_eqb}
use Rattle.std.specs.Char.{is_ascii_alphanumeric}
use Rattle.engine_events.specs.declared.place.Point.{Point}
use Rattle.markdown_engine.specs.declared.virtual_text.VirtualByte.{VirtualByte}
use Rattle.markdown_engine.specs.VirtualText.{Source, after_byte, as_byte, byte_given, in_line, is_before, is_in_mark, one_more, place_in, text_to}
use Rattle.markdown_engine.specs.VirtualText.{virtual_byte}
use Rattle.state_verdicts.specs.TextBytes.{Shows, StandsAt, TextBytesLaw}

no_letter : (b : Bool) → is_ascii_alphanumeric (if b then 9 else 32) ≡ false
no_letter true = refl
no_letter false = refl

-- another byte than those of a line ending and a tab
plain : (bytes : List ℕ) (p : Point) (v : ℕ) → (v == 9) ≡ false → (v == 10) ≡ false → (v == 13) ≡ false → byte_given bytes p v ≡ as_byte v (after_byte bytes p)
plain bytes p v h k l = rw (h, k, l) refl

-- no letter is in a byte order mark
behind : (a b c : ℕ) (others : List ℕ) (i : ℕ) → a ≡ 239 → b ≡ 187 → c ≡ 191 → is_ascii_alphanumeric (slice_index (a ∷ b ∷ c ∷ others) i) ≡ true → 3 ≤ i
behind a b c others zero ea eb ec h = absurd (let f : true ≡ false = sym h ∙ ap is_ascii_alphanumeric ea in cc)
behind a b c others (suc zero) ea eb ec h = absurd (let f : true ≡ false = sym h ∙ ap is_ascii_alphanumeric eb in cc)
behind a b c others (suc (suc zero)) ea eb ec h = absurd (let f : true ≡ false = sym h ∙ ap is_ascii_alphanumeric ec in cc)
behind a b c others (suc (suc (suc i))) ea eb ec h = omega arith

outside : (bytes : List ℕ) (i : ℕ) → is_ascii_alphanumeric (slice_index bytes i) ≡ true → is_in_mark bytes i ≡ false
outside [] i h = le-ltb i 0 (omega arith)
outside (a ∷ []) i h = le-ltb i 0 (omega arith)
outside (a ∷ b ∷ []) i h = le-ltb i 0 (omega arith)
outside (a ∷ b ∷ c ∷ others) i h =
    let test = ((a == 239) && (b == 187)) && (c == 191) in
    elim (cases_Bool test) [
      | inl is ↦
          let last = and_parts ((a == 239) && (b == 187)) (c == 191) is in
          let first = and_parts (a == 239) (b == 187) last.0 in
          let after : 3 ≤ i = behind a b c others i (eqb-true a 239 first.0) (eqb-true b 187 first.1) (eqb-true c 191 last.1) h in
          ap (λ (t : Bool). nat_lt i (if t then 3 else 0)) is ∙ le-ltb i 3 after
      | inr isnt ↦ ap (λ (t : Bool). nat_lt i (if t then 3 else 0)) isnt ∙ le-ltb i 0 (omega arith)
    ]

letter_in_line : (bytes : List ℕ) (p : Point) → is_ascii_alphanumeric (slice_index bytes p.index) ≡ true → after_byte bytes p ≡ in_line p
letter_in_line bytes p h =
    ap (λ (t : Bool). (let q : Point = record { line = p.line; column = if t then p.column else one_more p.column; index = p.index + 1; vs = 0 } in q))
    (outside bytes p.index h)

-- of a tab and a line ending no letter is given
white : (bytes : List ℕ) (p : Point) (v : ℕ) → (v == 9) ≡ true → is_ascii_alphanumeric (byte_given bytes p v).byte ≡ false
white bytes p v h = rw h (no_letter (p.vs == 0))

feed : (bytes : List ℕ) (p : Point) (v : ℕ) → (v == 9) ≡ false → (v == 10) ≡ true → is_ascii_alphanumeric (byte_given bytes p v).byte ≡ false
feed bytes p v h k = rw (h, k) refl

return : (bytes : List ℕ) (p : Point) (v : ℕ) → (v == 9) ≡ false → (v == 10) ≡ false → (v == 13) ≡ true
    → is_ascii_alphanumeric (byte_given bytes p v).byte ≡ false
return bytes p v h k l = rw (h, k, l) refl

module _ (s : Source) (to : ℕ × ℕ) where
  further : (p : Point) → 0 < p.column → (one_more p.column == 1) ≡ false
  further p h = ne_eqb (one_more p.column) 1 (λ e. let f : one_more p.column ≡ 1 = e in absurd (omega (arith, h, f)))

  stays : (p : Point) → 0 < p.column → place_in s.skips (in_line p) ≡ in_line p
  stays p h = rw (further p h) refl

  is_plain : (p q : Point) (b : ℕ) → virtual_byte s.bytes p ≡ as_byte b q → is_ascii_alphanumeric b ≡ true
      → virtual_byte s.bytes p ≡ as_byte (slice_index s.bytes p.index) (in_line p)
  is_plain p q b e letter =
      let v = slice_index s.bytes p.index in
      let is : is_ascii_alphanumeric (byte_given s.bytes p v).byte ≡ true = ap (λ (g : VirtualByte). is_ascii_alphanumeric g.byte) e ∙ letter in
      elim (cases_Bool (v == 9)) [
        | inl h ↦ absurd (let f : false ≡ true = sym (white s.bytes p v h) ∙ is in cc)
        | inr h ↦ elim (cases_Bool (v == 10)) [
          | inl k ↦ absurd (let f : false ≡ true = sym (feed s.bytes p v h k) ∙ is in cc)
          | inr k ↦ elim (cases_Bool (v == 13)) [
            | inl l ↦ absurd (let f : false ≡ true = sym (return s.bytes p v h k l) ∙ is in cc)
            | inr l ↦
                let given = plain s.bytes p v h k l in
                let text : is_ascii_alphanumeric v ≡ true = sym (ap (λ (g : VirtualByte). is_ascii_alphanumeric g.byte) given) ∙ is in
                given ∙ ap (λ (q : Point). as_byte v q) (letter_in_line s.bytes p text)
          ]
        ]
      ]

  stands : (p q : Point) (b : ℕ) → as_byte (slice_index s.bytes p.index) (in_line p) ≡ as_byte b q → StandsAt s.bytes (text_to s to) p q b
  stands p q b e =
      let next : in_line p ≡ q = ap (λ (v : VirtualByte). v.next) e in
      let one : StandsAt s.bytes (text_to s to) p (in_line p) b =
      record { byte = ap (λ (v : VirtualByte). v.byte) e; index = refl; column = omega arith; on = stays p } in
      subst (λ (z : Point). StandsAt s.bytes (text_to s to) p z b) next one

  by_end : (p q : Point) (b : ℕ) (is : Bool) → (if is then Some (virtual_byte s.bytes p) else None) ≡ Some (as_byte b q) → virtual_byte s.bytes p ≡ as_byte b q
  by_end p q b true e = let f : Some (virtual_byte s.bytes p) ≡ Some (as_byte b q) = e in cc
  by_end p q b false e = absurd (let f : None ≡ Some (as_byte b q) = e in cc)

  shows : Shows s.bytes (text_to s to)
  shows p q b e letter =
      let place = place_in s.skips p in
      let is = by_end place q b (is_before to place) e in
      stands place q b (sym (is_plain place q b is letter) ∙ is)

pub text_bytes : TextBytesLaw
text_bytes s to = shows s to
