-- What a string of bytes stands for is bytes (CommonMark 2.4 and 2.5).
use Rattle.std.proofs.Common.{◌≡◌, ◌⊎◌, ℕ, zero, suc, ◌+◌, ◌-◌, ◌<◌, Bool, true, false, cond, ◌&&◌, eqb, leb, List, [], ◌∷◌, Option, None, Some}
use Rattle.std.proofs.Common.{inl, inr, refl, sym, ap, ap₂, subst, ◌∙◌, arith, length, append-nil}
use Rattle.parse_strings.proofs.Prelude.{and_parts, bare, begins_with_eol, bytes_text, cases_Bool, CharacterName, CharacterReference, cond-false, cond_both}
use Rattle.parse_strings.proofs.Prelude.{Constructs, content_codes, eol_bytes, Escape, escape_at, flat_map, flat_map-append, Found, indent}
use Rattle.parse_strings.proofs.Prelude.{is_ascii_punctuation, is_eol, leaf, line_end_at, LineEnd, Names, or_else, reference_at, reference_form}
use Rattle.parse_strings.proofs.Prelude.{reference_leaf, reference_of, reference_text, spaces_at, string_bytes, string_leaf_at, string_parts}
use Rattle.definition_text.proofs.Each.{Each, each-append}
use Rattle.definition_inline.specs.CharacterReference.{Named, Numbered}
use Rattle.definition_inline.specs.CharacterReference.{numbered_text}
use Rattle.definition_inline.specs.Strings.{or_byte}
use Rattle.parse_alike.specs.Strings.{HaveTextsOfBytes, IsOfBytes}
use Rattle.parse_alike.proofs.SpelledStrings.{IsByte, at_byte, each_byte, numbered}
use Rattle.parse_strings.proofs.Codes.{alone_codes, feed_codes}
use Rattle.parse_strings.proofs.Texts.{no_escape, no_reference}

-- a byte, or CR LF
abbrev IsCode : ℕ → Type 0
IsCode c = (c < 256) ⊎ (c ≡ 257)

-- a construct makes bytes, if there is one
abbrev MakesBytes : Option Found → Type 0
MakesBytes None = Unit {0}
MakesBytes (Some found) = Each IsByte (flat_map string_bytes found.parts)

makes_or : (a b : Option Found) → MakesBytes a → MakesBytes b → MakesBytes (or_else a b)
makes_or None b p q = q
makes_or (Some found) b p q = p

makes_if : (t : Bool) (found : Found) → (t ≡ true → Each IsByte (flat_map string_bytes found.parts)) → MakesBytes (cond t (Some found) None)
makes_if true found h = h refl
makes_if false found h = tt

codes_each : (xs : List ℕ) → Each IsByte xs → Each IsCode (content_codes xs)
codes_each [] h = tt
codes_each (b ∷ []) h = cond_both (eqb b 13) (13 ∷ []) (b ∷ []) (Each IsCode) (λ _. (inl (omega arith), tt)) (λ _. (inl h.0, tt))
codes_each (b ∷ d ∷ ds) h = elim (cases_Bool (eqb b 13)) [
  | inl is ↦ elim (cases_Bool (eqb d 10)) [
    | inl feed ↦ subst (Each IsCode) (sym (feed_codes b d ds is feed)) (inr refl, codes_each ds h.1.1)
    | inr alone ↦ subst (Each IsCode) (sym (alone_codes b (d ∷ ds) is alone)) (inl (omega arith), codes_each (d ∷ ds) h.1)
  ]
  | inr other ↦ subst (Each IsCode) (sym (cond-false (eqb b 13) _ _ other)) (inl h.0, codes_each (d ∷ ds) h.1)
]

mark_byte : (c : ℕ) → IsCode c → is_ascii_punctuation c ≡ true → c < 256
mark_byte c (inl lt) h = lt
mark_byte c (inr is) h = let e : is_ascii_punctuation 257 ≡ true = ap is_ascii_punctuation (sym is) ∙ h in cc

eol_byte : (c : ℕ) → IsCode c → is_eol c ≡ true → Each IsByte (eol_bytes c)
eol_byte c (inl lt) h = cond_both (eqb c 257) (13 ∷ 10 ∷ []) (c ∷ []) (Each IsByte) (λ _. (omega arith, (omega arith, tt))) (λ _. (lt, tt))
eol_byte c (inr is) h = subst (λ x. Each IsByte (eol_bytes x)) (sym is) (omega arith, (omega arith, tt))

module _ (on : Constructs) (names : Names) (of_bytes : HaveTextsOfBytes names) where
  makes_escape : (cs : List ℕ) → Each IsCode cs → MakesBytes (escape_at on cs)
  makes_escape [] h = tt
  makes_escape (c ∷ []) h = tt
  makes_escape (c ∷ next ∷ cs) h =
      let mark = eqb c 92 && is_ascii_punctuation next in
      makes_if (on.character_escape && mark) (leaf (Escape next ∷ []) 2)
      (λ does. (
        mark_byte next h.1.0 (and_parts (eqb c 92) (is_ascii_punctuation next) (and_parts on.character_escape mark does).1).1,
        tt,
      ))

  makes_name : (name : CharacterName) (text : List ℕ) → reference_text names name ≡ Some text → Each IsByte text
  makes_name (Named name) text h = each_byte text (of_bytes name text h)
  makes_name (Numbered number) text h = let is : numbered_text number ≡ text = cc in subst (Each IsByte) is (numbered number)

  makes_reference : (cs : List ℕ) → MakesBytes (reference_at on names cs)
  makes_reference cs = cond_both on.character_reference (reference_of names cs (reference_form cs)) None MakesBytes (λ _. by_form (reference_form cs)) (λ _. tt)
    where
      by_text : (size : ℕ) (name : CharacterName) (t : Option (List ℕ)) → reference_text names name ≡ t → MakesBytes (reference_leaf size t)
      by_text size name None h = tt
      by_text size name (Some text) h = subst (Each IsByte) (sym (append-nil text)) (makes_name name text h)

      by_form : (o : Option CharacterReference) → MakesBytes (reference_of names cs o)
      by_form None = tt
      by_form (Some r) = by_text (length cs - length r.rest) r.name (reference_text names r.name) refl

  makes_end : (cs : List ℕ) → Each IsCode cs → MakesBytes (line_end_at cs)
  makes_end [] h = tt
  makes_end (c ∷ cs) h =
      makes_if (is_eol c) (leaf (LineEnd c ∷ []) (1 + indent cs)) (λ is. subst (Each IsByte) (sym (append-nil (eol_bytes c))) (eol_byte c h.0 is))

  makes_spaces : (cs : List ℕ) → MakesBytes (spaces_at cs)
  makes_spaces cs = makes_if (leb 1 (indent cs) && begins_with_eol (bare cs)) (leaf [] (indent cs)) (λ _. tt)

  makes_leaf : (cs : List ℕ) → Each IsCode cs → MakesBytes (string_leaf_at on names cs)
  makes_leaf cs h =
      makes_or (escape_at on cs) _ (makes_escape cs h)
      (makes_or (reference_at on names cs) _ (makes_reference cs) (makes_or (line_end_at cs) (spaces_at cs) (makes_end cs h) (makes_spaces cs)))

  -- where nothing begins no line ends
  makes_byte : (c : ℕ) (cs : List ℕ) (o : Option Found) → IsCode c → string_leaf_at on names (c ∷ cs) ≡ o → MakesBytes o
      → Each IsByte (flat_map string_bytes (or_byte c o).parts)
  makes_byte c cs (Some found) code is makes = makes
  makes_byte c cs None (inl lt) is makes = (lt, tt)
  makes_byte c cs None (inr both) is makes =
      let escape : escape_at on (c ∷ cs) ≡ None = ap (λ x. escape_at on (x ∷ cs)) both ∙ no_escape on names 257 cs refl in
      let reference : reference_at on names (c ∷ cs) ≡ None = ap (λ x. reference_at on names (x ∷ cs)) both ∙ no_reference on names 257 cs refl in
      let here : string_leaf_at on names (c ∷ cs) ≡ Some (leaf (LineEnd 257 ∷ []) (1 + indent cs)) =
      ap₂ (λ a b. or_else a (or_else b (or_else (line_end_at (c ∷ cs)) (spaces_at (c ∷ cs))))) escape reference
      ∙ ap (λ x. or_else (line_end_at (x ∷ cs)) (spaces_at (c ∷ cs))) both in
      let none : None ≡ Some (leaf (LineEnd 257 ∷ []) (1 + indent cs)) = sym is ∙ here in
      cc

  parts_each : (k : ℕ) (cs : List ℕ) → Each IsCode cs → Each IsByte (flat_map string_bytes (string_parts on names k cs))
  parts_each zero [] h = tt
  parts_each (suc k) [] h = tt
  parts_each zero (c ∷ cs) h =
      let found = or_byte c (string_leaf_at on names (c ∷ cs)) in
      subst (Each IsByte) (sym (flat_map-append string_bytes found.parts (string_parts on names (found.size - 1) cs)))
      (each-append IsByte (flat_map string_bytes found.parts) (flat_map string_bytes (string_parts on names (found.size - 1) cs))
      (makes_byte c cs (string_leaf_at on names (c ∷ cs)) h.0 refl (makes_leaf (c ∷ cs) h)) (parts_each (found.size - 1) cs h.1))
  parts_each (suc k) (c ∷ cs) h = parts_each k cs h.1

  pub string_of_bytes : (xs : List ℕ) → IsOfBytes xs → IsOfBytes (bytes_text on names xs)
  string_of_bytes xs h = at_byte (bytes_text on names xs) (parts_each 0 (content_codes xs) (codes_each xs (each_byte xs h)))
