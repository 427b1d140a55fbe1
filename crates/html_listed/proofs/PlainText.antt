-- HTML without `<` and `&` is printed as text.
use Rattle.std.proofs.Common.{◌≡◌, ℕ, ◌-◌, ◌<◌, Bool, true, false, not, ◌&&◌, ◌||◌, cond, eqb, List, [], ◌∷◌, ◌++◌, None, codes, refl, sym, ap, ◌∙◌}
use Rattle.std.proofs.Common.{subst, arith, append_assoc, drop}
use Rattle.std.specs.Prelude.{nat_lt}
use Rattle.std.specs.List.{list_all, fold, flat_map}
use Rattle.std.specs.Option.{option_map, option_and_then}
use Rattle.std.proofs.lemmas.Bool.{cond-false, cond_both, and_parts, and_from, and_left, or_parts, not-true, ltb-true, eqb-true, eqb-false, ne_eqb}
use Rattle.definition_text.specs.Bytes.{begins_with}
use Rattle.markdown_compile_options.specs.declared.configuration.CompileOptions.{CompileOptions}
use Rattle.definition_text.specs.Content.{after_return_code, content_codes}
use Rattle.definition_text.specs.Columns.{Code}
use Rattle.definition_text.specs.Encode.{encoded_byte, encode}
use Rattle.definition_inline.specs.CharacterReference.{Names, reference_after}
use Rattle.definition_inline.specs.Decoded.{known_text, known_at}
use Rattle.definition_inline.specs.Strings.{eol_bytes}
use Rattle.definition_html.specs.Raw.{Text, reference_to, token_or_reference, or_code, raw_parts_after}
use Rattle.definition_html.specs.State.{State, says, nothing_open, all_ended}
use Rattle.definition_html.specs.Listed.{raw_part}
use Rattle.html_listed.specs.Laws.{are_plain, PlainTextLaw}
use Rattle.html_listed.proofs.Open.{says_twice, says_nothing}

-- ---- codes and bytes

-- codes that stand for these bytes, and begin no tag and no reference
abbrev is_plain : Code → Bool
is_plain code = not (eqb code 60 || eqb code 38)

abbrev code_bytes : List Code → List ℕ
code_bytes html = flat_map eol_bytes html

below_256 : (b : ℕ) → (nat_lt b 256 && is_plain b) ≡ true → b < 256
below_256 b h = ltb-true b 256 (and_parts (nat_lt b 256) (is_plain b) h).0

own_byte : (b : ℕ) → b < 256 → eol_bytes b ≡ b ∷ []
own_byte b h = cond-false (eqb b 257) (13 ∷ 10 ∷ []) (b ∷ []) (ne_eqb b 257 (λ e. omega (arith, e)))

-- the codes of such bytes
record ArePlainCodes (html : List ℕ) (code_list : List Code) : Type 0 where
  plain : list_all is_plain code_list ≡ true
  bytes : code_bytes code_list ≡ html

byte_ahead : (b : ℕ) (bs : List ℕ) (cs : List Code) → b < 256 → is_plain b ≡ true → ArePlainCodes bs cs → ArePlainCodes (b ∷ bs) (b ∷ cs)
byte_ahead b bs cs lt h more = record {
  plain = and_from (is_plain b) (list_all is_plain cs) h more.plain;
  bytes = ap (λ x. x ++ code_bytes cs) (own_byte b lt) ∙ ap (λ x. b ∷ x) more.bytes;
}

-- a return, and what follows it
after_return : (bs : List ℕ) → are_plain bs ≡ true → ArePlainCodes bs (content_codes bs) → ArePlainCodes (13 ∷ bs) (after_return_code bs (content_codes bs))
after_return [] h more = record { plain = refl; bytes = refl }
after_return (b ∷ bs) h more =
    let rest = content_codes (b ∷ bs) in
    cond_both (eqb b 10) (257 ∷ drop 1 rest) (13 ∷ rest) (ArePlainCodes (13 ∷ b ∷ bs))
    (λ e.
    let is : b ≡ 10 = eqb-true b 10 e in
    let feed : ArePlainCodes (10 ∷ bs) (10 ∷ content_codes bs) = subst (λ b. ArePlainCodes (b ∷ bs) (content_codes (b ∷ bs))) is more in
    subst (λ b. ArePlainCodes (13 ∷ b ∷ bs) (257 ∷ drop 1 (content_codes (b ∷ bs)))) (sym is)
    (record { plain = feed.plain; bytes = ap (λ x. 13 ∷ x) feed.bytes }))
    (λ _. byte_ahead 13 (b ∷ bs) rest (omega arith) refl more)

plain_codes : (html : List ℕ) → are_plain html ≡ true → ArePlainCodes html (content_codes html)
plain_codes [] h = record { plain = refl; bytes = refl }
plain_codes (b ∷ bs) h =
    let parts = and_parts (nat_lt b 256 && is_plain b) (are_plain bs) h in
    let more = plain_codes bs parts.1 in
    cond_both (eqb b 13) (after_return_code bs (content_codes bs)) (b ∷ content_codes bs) (ArePlainCodes (b ∷ bs))
    (λ e. subst (λ b. ArePlainCodes (b ∷ bs) (after_return_code bs (content_codes bs))) (sym (eqb-true b 13 e)) (after_return bs parts.1 more))
    (λ _. byte_ahead b bs (content_codes bs) (below_256 b parts.0) (and_parts (nat_lt b 256) (is_plain b) parts.0).1 more)

-- ---- what is printed

encode_append : (a b : List ℕ) → encode (a ++ b) ≡ encode a ++ encode b
encode_append [] b = refl
encode_append (c ∷ cs) b = ap (λ x. encoded_byte c ++ x) (encode_append cs b) ∙ sym (append_assoc (encoded_byte c) (encode cs) (encode b))

module _ (names : Names) (options : CompileOptions) where
  -- a code that begins nothing is a text
  one_code : (c : Code) (cs : List Code) → is_plain c ≡ true
      → raw_parts_after names options 0 (c ∷ cs) ≡ Text (encode (eol_bytes c)) ∷ raw_parts_after names options 0 cs
  one_code c cs h =
      let no = or_parts (eqb c 60) (eqb c 38) (not-true (eqb c 60 || eqb c 38) h) in
      let no_tag : eqb 60 c ≡ false = ne_eqb 60 c (λ e. eqb-false c 60 no.0 (sym e)) in
      let html = c ∷ cs in
      let nothing : token_or_reference names options html ≡ None =
      cond-false (begins_with (codes "<") html) _ (option_map (reference_to html) (known_at names html)) (and_left (eqb 60 c) _ no_tag)
      ∙ ap (λ t. option_map (reference_to html) (option_and_then (known_text names) (cond t (reference_after cs) None))) no.1 in
      ap (λ o. let found = or_code c o in found.part ∷ raw_parts_after names options (found.size - 1) cs) nothing

  all_codes : (html : List Code) (s : State) → list_all is_plain html ≡ true
      → fold raw_part s (raw_parts_after names options 0 html) ≡ says (encode (code_bytes html)) s
  all_codes [] s h = says_nothing s
  all_codes (c ∷ cs) s h =
      let parts = and_parts (is_plain c) (list_all is_plain cs) h in
      let first = encode (eol_bytes c) in
      ap (fold raw_part s) (one_code c cs parts.0)
      ∙ all_codes cs (says first s) parts.1
      ∙ says_twice s first (encode (code_bytes cs))
      ∙ ap (λ x. says x s) (sym (encode_append (eol_bytes c) (code_bytes cs)))

pub plain_text_law : PlainTextLaw
plain_text_law names options html h =
    let codes_of = plain_codes html h in
    ap (λ s. let t = all_ended s in t.out) (all_codes names options (content_codes html) nothing_open codes_of.plain)
    ∙ ap encode codes_of.bytes
