-- Constructs that hold no other, in a content with another ending in place of each LF.
use Rattle.std.proofs.Common.{◌≡◌, ℕ, suc, ◌+◌, ◌-◌, List, [], ◌∷◌, None, Some, Option, Bool, true, false, cond, not, ◌&&◌, ◌||◌, eqb, refl, sym, ap, ◌∙◌}
use Rattle.std.proofs.Common.{length, drop, take, map, arith}
use Rattle.laws_endings.proofs.Prelude.{after_all, after_run, after_uri, and_parts, Autolink, autolink_after, autolink_at, bare, begins_with}
use Rattle.laws_endings.proofs.Prelude.{begins_with_scheme, both_ways, bytes_eq, closed_autolink, Code, code_space, code_text_at, code_with, codes, codes_with}
use Rattle.laws_endings.proofs.Prelude.{cond-false, Constructs, Data, domain_end, drop-map, email_end, eqb-true, Escape, escape_at, escaped_break_at, Found}
use Rattle.laws_endings.proofs.Prelude.{Html, html_byte, html_end, html_leaf, html_text_at, indent, InlineContext, InlineLeaf, is_ascii_punctuation}
use Rattle.laws_endings.proofs.Prelude.{is_domain_byte, is_email_byte, is_eol, is_scheme_byte, is_trailing_break, is_uri_byte, is_white, leaf, leaf_at}
use Rattle.laws_endings.proofs.Prelude.{leaf_with, length-map, line_end_at, line_ending_code, line_spaces_at, LineEnding, list_all, Math, math_text_at}
use Rattle.laws_endings.proofs.Prelude.{may_open_math, nat_le, option_map, or_else, ParseOptions, part, Part, prefix_len, raw_at, raw_leaf, raw_part}
use Rattle.laws_endings.proofs.Prelude.{reference_after, reference_at, reference_form, reference_of, run, run_of, take-map, text_before, TrailingBreak, up_to}
use Rattle.laws_endings.proofs.Prelude.{uri_end}
use Rattle.std.specs.Char.{is_ascii_digit, is_ascii_hexdigit, is_ascii_alphanumeric}
use Rattle.std.specs.List.{take_while}
use Rattle.definition_text.specs.Bytes.{begins_with_letter, is_letter}
use Rattle.definition_inline.specs.CharacterReference.{CharacterReference, character_reference, before_semicolon, part_to_semicolon, reference_by_number}
use Rattle.definition_inline.specs.CharacterReference.{reference_by_name, number_reference, reference_text, reference_leaf}
use Rattle.definition_inline.specs.CodeText.{without_padding}
use Rattle.definition_inline.specs.Autolink.{is_domain}
use Rattle.definition_inline.specs.HardBreak.{ends_inner_line, ends_here}
use Rattle.laws_endings.proofs.Codes.{cond-under, same_code, prefix_len-with, after_all-with, part_with, before-with, up_to-with}

one-more : (n : ℕ) → 1 + n ≡ suc n
one-more n = omega arith

take-more : (c : ℕ) (cs : List ℕ) (n : ℕ) → take (1 + n) (c ∷ cs) ≡ c ∷ take n cs
take-more c cs n = ap (λ m. take m (c ∷ cs)) (one-more n)

module _ (e : LineEnding) where
  abbrev if_codes : Option (List ℕ) → Option (List ℕ)
  if_codes end = option_map (codes_with e) end

  -- a construct with its leaves
  abbrev pub found_with : Found → Found
  found_with l = leaf (map (leaf_with e) l.parts) l.size

  abbrev pub if_found : Option Found → Option Found
  if_found l = option_map found_with l

  pub or_else-with : (one other : Option Found) → or_else (if_found one) (if_found other) ≡ if_found (or_else one other)
  or_else-with None other = refl
  or_else-with (Some l) other = refl

  -- one leaf, where a test passes
  one-with : {test' test : Bool} {part' : InlineLeaf} (part : InlineLeaf) {size' size : ℕ} → test' ≡ test → part' ≡ leaf_with e part → size' ≡ size
      → cond test' (Some (leaf (part' ∷ []) size')) None ≡ if_found (cond test (Some (leaf (part ∷ []) size)) None)
  one-with {test = test} {part' = part'} part {size' = size'} p q r =
      ap (λ passes. cond passes (Some (leaf (part' ∷ []) size')) None) p
      ∙ cond-under if_found test (ap (λ it. Some (leaf (it ∷ []) size')) q ∙ ap (λ n. Some (leaf (leaf_with e part ∷ []) n)) r) refl

  -- ---- codes that pass a test that LF doesn't pass

  pub same_byte : (code : ℕ) → eqb code 10 ≡ false → code_with e code ≡ code
  same_byte code h = cond-false (eqb code 10) (line_ending_code e) code h

  passing : (test : ℕ → Bool) (code : ℕ) (feed : Bool) → test 10 ≡ false → test code ≡ true → eqb code 10 ≡ feed → eqb code 10 ≡ false
  passing test code true h k is = absurd (both_ways (test code) (ap test (eqb-true code 10 is) ∙ h) k)
  passing test code false h k is = is

  taken_either : (test : ℕ → Bool) (c : ℕ) (cs : List ℕ) (passes : Bool) → test 10 ≡ false → test c ≡ passes
      → take (prefix_len test cs) (codes_with e cs) ≡ take (prefix_len test cs) cs
      → take (cond passes (1 + prefix_len test cs) 0) (codes_with e (c ∷ cs)) ≡ take (cond passes (1 + prefix_len test cs) 0) (c ∷ cs)
  taken_either test c cs true h is same =
      take-more (code_with e c) (codes_with e cs) (prefix_len test cs)
      ∙ ap (λ code. code ∷ take (prefix_len test cs) (codes_with e cs)) (same_byte c (passing test c (eqb c 10) h is refl))
      ∙ ap (λ more. c ∷ more) same
      ∙ sym (take-more c cs (prefix_len test cs))
  taken_either test c cs false h is same = refl

  pub taken-kept : (test : ℕ → Bool) (cs : List ℕ) → test 10 ≡ false → take (prefix_len test cs) (codes_with e cs) ≡ take (prefix_len test cs) cs
  taken-kept test [] h = refl
  taken-kept test (c ∷ cs) h = taken_either test c cs (test c) h refl (taken-kept test cs h)

  pub take_while-with : (test : ℕ → Bool) → test 13 ≡ test 10 → test 257 ≡ test 10 → test 10 ≡ false → (cs : List ℕ)
      → take_while test (codes_with e cs) ≡ take_while test cs
  take_while-with test p q h cs = ap (λ n. take n (codes_with e cs)) (prefix_len-with e test p q cs) ∙ taken-kept test cs h

  -- ---- the first byte

  pub begins-byte : (b : ℕ) → eqb b 13 ≡ eqb b 10 → eqb b 257 ≡ eqb b 10 → (cs : List ℕ) → begins_with (b ∷ []) (codes_with e cs) ≡ begins_with (b ∷ []) cs
  begins-byte b p q [] = refl
  begins-byte b p q (c ∷ cs) =
      same_code e (λ x. bytes_eq (b ∷ []) (x ∷ [])) c (ap (λ same. same && true) p) (ap (λ same. same && true) q)

  -- ---- escapes and breaks

  -- what is escaped is no ending
  escaped : (on : Constructs) (c next : ℕ) (is : Bool) → (on.character_escape && (eqb c 92 && is_ascii_punctuation next)) ≡ is
      → cond is (Some (leaf (Escape (code_with e next) ∷ []) 2)) None ≡ if_found (cond is (Some (leaf (Escape next ∷ []) 2)) None)
  escaped on c next true h =
      let punctuation = (and_parts _ _ (and_parts _ _ h).1).1 in
      ap (λ code. Some (leaf (Escape code ∷ []) 2)) (same_byte next (passing is_ascii_punctuation next (eqb next 10) refl punctuation refl))
  escaped on c next false h = refl

  pub escape_at-with : (on : Constructs) (cs : List ℕ) → escape_at on (codes_with e cs) ≡ if_found (escape_at on cs)
  escape_at-with on [] = refl
  escape_at-with on (c ∷ []) = refl
  escape_at-with on (c ∷ next ∷ cs) =
      let found : ℕ → Option Found = λ code. Some (leaf (Escape code ∷ []) 2) in
      let test : Bool = on.character_escape && (eqb c 92 && is_ascii_punctuation next) in
      same_code e (λ x. cond (on.character_escape && (eqb x 92 && is_ascii_punctuation (code_with e next))) (found (code_with e next)) None) c refl refl
      ∙ same_code e (λ x. cond (on.character_escape && (eqb c 92 && is_ascii_punctuation x)) (found (code_with e next)) None) next refl refl
      ∙ escaped on c next test refl

  ends_inner_line-with : (cs : List ℕ) → ends_inner_line (codes_with e cs) ≡ ends_inner_line cs
  ends_inner_line-with [] = refl
  ends_inner_line-with (c ∷ []) = refl
  ends_inner_line-with (c ∷ next ∷ cs) = same_code e is_eol c refl refl

  ends_here-with : (cs : List ℕ) → ends_here (codes_with e cs) ≡ ends_here cs
  ends_here-with [] = refl
  ends_here-with (c ∷ cs) = same_code e is_eol c refl refl

  escaped_break_at-with : (on : Constructs) (cs : List ℕ) → escaped_break_at on (codes_with e cs) ≡ if_found (escaped_break_at on cs)
  escaped_break_at-with on [] = refl
  escaped_break_at-with on (c ∷ cs) =
      let test : ℕ → Bool → Bool = λ code ends. on.hard_break_escape && (eqb code 92 && ends) in
      one-with _ (same_code e (λ x. test x (ends_inner_line (codes_with e cs))) c refl refl ∙ ap (test c) (ends_inner_line-with cs)) refl refl

  pub line_end_at-with : (cs : List ℕ) → line_end_at (codes_with e cs) ≡ if_found (line_end_at cs)
  line_end_at-with [] = refl
  line_end_at-with (c ∷ cs) =
      one-with _ (same_code e is_eol c refl refl) refl (ap (λ n. 1 + n) (prefix_len-with e is_white refl refl cs))

  pub bare-with : (cs : List ℕ) → bare (codes_with e cs) ≡ codes_with e (bare cs)
  bare-with cs = after_all-with e is_white refl refl cs

  is_trailing_break-with : (cs : List ℕ) → is_trailing_break (codes_with e cs) ≡ is_trailing_break cs
  is_trailing_break-with cs =
      let spaces : List ℕ → Bool = λ white. list_all (λ c. eqb c 32) white in
      ap (λ n. nat_le 2 n && (spaces (take_while is_white (codes_with e cs)) && ends_inner_line (bare (codes_with e cs))))
      (prefix_len-with e is_white refl refl cs)
      ∙ ap (λ white. nat_le 2 (indent cs) && (spaces white && ends_inner_line (bare (codes_with e cs)))) (take_while-with is_white refl refl refl cs)
      ∙ ap (λ rest. nat_le 2 (indent cs) && (spaces (take_while is_white cs) && ends_inner_line rest)) (bare-with cs)
      ∙ ap (λ ends. nat_le 2 (indent cs) && (spaces (take_while is_white cs) && ends)) (ends_inner_line-with (bare cs))

  spaces_found : (size : ℕ) (is_break : Bool)
      → leaf (cond is_break (TrailingBreak ∷ []) []) size ≡ found_with (leaf (cond is_break (TrailingBreak ∷ []) []) size)
  spaces_found size true = refl
  spaces_found size false = refl

  line_spaces_at-with : (on : Constructs) (cs : List ℕ) → line_spaces_at on (codes_with e cs) ≡ if_found (line_spaces_at on cs)
  line_spaces_at-with on cs =
      let found : ℕ → Bool → Option Found = λ n is. Some (leaf (cond (on.hard_break_trailing && is) (TrailingBreak ∷ []) []) n) in
      ap (λ n. cond (nat_le 1 n && ends_here (bare (codes_with e cs))) (found n (is_trailing_break (codes_with e cs))) None)
      (prefix_len-with e is_white refl refl cs)
      ∙ ap (λ rest. cond (nat_le 1 (indent cs) && ends_here rest) (found (indent cs) (is_trailing_break (codes_with e cs))) None) (bare-with cs)
      ∙ ap (λ here. cond (nat_le 1 (indent cs) && here) (found (indent cs) (is_trailing_break (codes_with e cs))) None) (ends_here-with (bare cs))
      ∙ ap (λ is. cond (nat_le 1 (indent cs) && ends_here (bare cs)) (found (indent cs) is) None) (is_trailing_break-with cs)
      ∙ cond-under if_found (nat_le 1 (indent cs) && ends_here (bare cs))
      (ap Some (spaces_found (indent cs) (on.hard_break_trailing && is_trailing_break cs))) refl

  -- ---- character references

  abbrev rest_with : Part → Part
  rest_with p = part p.text (codes_with e p.rest)

  abbrev reference_with : CharacterReference → CharacterReference
  reference_with r = character_reference r.name (codes_with e r.rest)

  abbrev if_reference : Option CharacterReference → Option CharacterReference
  if_reference r = option_map reference_with r

  before_semicolon-with : (text cs : List ℕ) → before_semicolon text (codes_with e cs) ≡ option_map rest_with (before_semicolon text cs)
  before_semicolon-with text [] = refl
  before_semicolon-with text (c ∷ cs) =
      same_code e (λ x. cond (eqb x 59) (Some (part text (codes_with e cs))) None) c refl refl ∙ cond-under (option_map rest_with) (eqb c 59) refl refl

  terminated-with : (test : ℕ → Bool) (most : ℕ) → test 13 ≡ test 10 → test 257 ≡ test 10 → test 10 ≡ false → (cs : List ℕ)
      → part_to_semicolon test most (codes_with e cs) ≡ option_map rest_with (part_to_semicolon test most cs)
  terminated-with test most p q h cs =
      let n = prefix_len test cs in
      ap (λ size. cond (nat_le 1 size && nat_le size most) (before_semicolon (take size (codes_with e cs)) (drop size (codes_with e cs))) None)
      (prefix_len-with e test p q cs)
      ∙ cond-under (option_map rest_with) (nat_le 1 n && nat_le n most)
      (ap (λ text. before_semicolon text (drop n (codes_with e cs))) (taken-kept test cs h)
      ∙ ap (before_semicolon (take n cs)) (drop-map (code_with e) n cs)
      ∙ before_semicolon-with (take n cs) (drop n cs))
      refl

  numbered-with : (base : ℕ) (digits : Option Part) → reference_by_number base (option_map rest_with digits) ≡ if_reference (reference_by_number base digits)
  numbered-with base None = refl
  numbered-with base (Some digits) = refl

  named-with : (name : Option Part) → reference_by_name (option_map rest_with name) ≡ if_reference (reference_by_name name)
  named-with None = refl
  named-with (Some name) = refl

  number_reference-with : (cs : List ℕ) → number_reference (codes_with e cs) ≡ if_reference (number_reference cs)
  number_reference-with [] = refl
  number_reference-with (c ∷ cs) =
      let more = codes_with e cs in
      same_code e
      (λ x. cond (eqb x 120 || eqb x 88) (reference_by_number 16 (part_to_semicolon is_ascii_hexdigit 6 more))
      (reference_by_number 10 (part_to_semicolon is_ascii_digit 7 (codes_with e (c ∷ cs)))))
      c refl refl
      ∙ cond-under if_reference (eqb c 120 || eqb c 88)
      (ap (reference_by_number 16) (terminated-with is_ascii_hexdigit 6 refl refl refl cs) ∙ numbered-with 16 (part_to_semicolon is_ascii_hexdigit 6 cs))
      (ap (reference_by_number 10) (terminated-with is_ascii_digit 7 refl refl refl (c ∷ cs)) ∙ numbered-with 10 (part_to_semicolon is_ascii_digit 7 (c ∷ cs)))

  reference_after-with : (cs : List ℕ) → reference_after (codes_with e cs) ≡ if_reference (reference_after cs)
  reference_after-with [] = refl
  reference_after-with (c ∷ cs) =
      same_code e (λ x. cond (eqb x 35) (number_reference (codes_with e cs))
      (reference_by_name (part_to_semicolon is_ascii_alphanumeric 31 (codes_with e (c ∷ cs))))) c refl refl
      ∙ cond-under if_reference (eqb c 35) (number_reference-with cs)
      (ap reference_by_name (terminated-with is_ascii_alphanumeric 31 refl refl refl (c ∷ cs))
      ∙ named-with (part_to_semicolon is_ascii_alphanumeric 31 (c ∷ cs)))

  reference_form-with : (cs : List ℕ) → reference_form (codes_with e cs) ≡ if_reference (reference_form cs)
  reference_form-with [] = refl
  reference_form-with (c ∷ cs) =
      same_code e (λ x. cond (eqb x 38) (reference_after (codes_with e cs)) None) c refl refl
      ∙ cond-under if_reference (eqb c 38) (reference_after-with cs) refl

  reference_leaf-with : (size : ℕ) (text : Option (List ℕ)) → reference_leaf size text ≡ if_found (reference_leaf size text)
  reference_leaf-with size None = refl
  reference_leaf-with size (Some text) = refl

  module _ (names : List ℕ → Option (List ℕ)) where
    reference_of-with : (cs : List ℕ) (found : Option CharacterReference)
        → reference_of names (codes_with e cs) (if_reference found) ≡ if_found (reference_of names cs found)
    reference_of-with cs None = refl
    reference_of-with cs (Some found) =
        let text = reference_text names found.name in
        ap (λ n. reference_leaf (n - length (codes_with e found.rest)) text) (length-map cs (code_with e))
        ∙ ap (λ n. reference_leaf (length cs - n) text) (length-map found.rest (code_with e))
        ∙ reference_leaf-with (length cs - length found.rest) text

    pub reference_at-with : (on : Constructs) (cs : List ℕ) → reference_at on names (codes_with e cs) ≡ if_found (reference_at on names cs)
    reference_at-with on cs =
        cond-under if_found on.character_reference
        (ap (reference_of names (codes_with e cs)) (reference_form-with cs) ∙ reference_of-with cs (reference_form cs)) refl

  -- ---- code and math

  spaces_same : (f : ℕ → ℕ) → f 13 ≡ f 10 → f 257 ≡ f 10 → (cs : List ℕ) → map f (codes_with e cs) ≡ map f cs
  spaces_same f p q [] = refl
  spaces_same f p q (c ∷ cs) = ap (λ code. code ∷ map f (codes_with e cs)) (same_code e f c p q) ∙ ap (λ more. f c ∷ more) (spaces_same f p q cs)

  raw_part-with : (marker : ℕ) (text : List ℕ) → raw_part marker (codes_with e text) ≡ leaf_with e (raw_part marker text)
  raw_part-with marker text =
      ap (λ spaced. cond (eqb marker 36) (Math (without_padding spaced)) (Code (without_padding spaced))) (spaces_same code_space refl refl text)
      ∙ cond-under (leaf_with e) (eqb marker 36) refl refl

  pub data_kept : (cs : List ℕ) → map (leaf_with e) (map Data cs) ≡ map Data cs
  data_kept [] = refl
  data_kept (c ∷ cs) = ap (λ more. Data c ∷ more) (data_kept cs)

  -- a run of a marker that is no ending
  module _ (marker : ℕ) (return : eqb 13 marker ≡ eqb 10 marker) (both : eqb 257 marker ≡ eqb 10 marker) (no_feed : eqb 10 marker ≡ false) where
    run-with : (cs : List ℕ) → run marker (codes_with e cs) ≡ run marker cs
    run-with cs = prefix_len-with e (λ b. eqb b marker) return both cs

    run_of-with : (n : ℕ) (within : Bool) (cs : List ℕ) → run_of marker n within (codes_with e cs) ≡ if_codes (run_of marker n within cs)
    run_of-with n within [] = refl
    run_of-with n within (c ∷ cs) =
        let more = codes_with e cs in
        let here : Bool = not within && eqb (run marker (c ∷ cs)) n in
        ap (λ size. cond (not within && eqb size n) (Some (codes_with e (c ∷ cs))) (run_of marker n (eqb (code_with e c) marker) more)) (run-with (c ∷ cs))
        ∙ ap (λ is. cond here (Some (codes_with e (c ∷ cs))) (run_of marker n is more)) (same_code e (λ x. eqb x marker) c return both)
        ∙ cond-under if_codes here refl (run_of-with n (eqb c marker) cs)

    raw_leaf-with : (cs : List ℕ) (found : Option Part)
        → raw_leaf marker (run marker cs) (codes_with e cs) (option_map (part_with e) found) ≡ found_with (raw_leaf marker (run marker cs) cs found)
    raw_leaf-with cs None =
        let n = run marker cs in
        ap (λ text. leaf (map Data text) n) (taken-kept (λ b. eqb b marker) cs no_feed) ∙ ap (λ parts. leaf parts n) (sym (data_kept (take n cs)))
    raw_leaf-with cs (Some found) =
        let n = run marker cs in
        ap (λ raw. leaf (raw ∷ []) (n + length (codes_with e found.text) + n)) (raw_part-with marker found.text)
        ∙ ap (λ size. leaf (leaf_with e (raw_part marker found.text) ∷ []) (n + size + n)) (length-map found.text (code_with e))

    raw_at-with : (may_open : Bool) (cs : List ℕ) → raw_at marker may_open (codes_with e cs) ≡ if_found (raw_at marker may_open cs)
    raw_at-with may_open cs =
        let n = run marker cs in
        let all = codes_with e cs in
        let rest = after_run marker cs in
        let found : ℕ → List ℕ → Found = λ size more. raw_leaf marker size all (up_to more (run_of marker size false more)) in
        ap (λ size. cond (may_open && not (eqb size 0)) (Some (found size (drop size all))) None) (run-with cs)
        ∙ cond-under if_found (may_open && not (eqb n 0))
        (ap (λ more. Some (found n more)) (drop-map (code_with e) n cs)
        ∙ ap (λ end. Some (raw_leaf marker n all (up_to (codes_with e rest) end))) (run_of-with n false rest)
        ∙ ap (λ p. Some (raw_leaf marker n all p)) (up_to-with e rest (run_of marker n false rest))
        ∙ ap Some (raw_leaf-with cs (up_to rest (run_of marker n false rest))))
        refl

  code_text_at-with : (on : Constructs) (cs : List ℕ) → code_text_at on (codes_with e cs) ≡ if_found (code_text_at on cs)
  code_text_at-with on cs = raw_at-with 96 refl refl refl on.code_text cs

  math_text_at-with : (options : ParseOptions) (cs : List ℕ) → math_text_at options (codes_with e cs) ≡ if_found (math_text_at options cs)
  math_text_at-with options cs =
      ap (λ n. raw_at 36 (may_open_math options n) (codes_with e cs)) (run-with 36 refl refl refl cs)
      ∙ raw_at-with 36 refl refl refl (may_open_math options (run 36 cs)) cs

  -- ---- raw HTML

  html_leaf-with : (cs : List ℕ) (end : Option (List ℕ)) → html_leaf (codes_with e cs) end ≡ if_found (html_leaf cs end)
  html_leaf-with cs None = refl
  html_leaf-with cs (Some rest) =
      let size = length cs - length rest in
      ap (λ n. Some (leaf (Html (take (n - length rest) (codes_with e cs)) ∷ []) (n - length rest))) (length-map cs (code_with e))
      ∙ ap (λ html. Some (leaf (Html html ∷ []) size)) (take-map (code_with e) size cs)

  html_text_at-with : (on : Constructs) (cs : List ℕ) → html_text_at on (codes_with e cs) ≡ if_found (html_text_at on cs)
  html_text_at-with on cs =
      ap (λ begins. cond (on.html_text && begins) (html_leaf (codes_with e cs) (html_end (map html_byte (codes_with e cs)))) None) (begins-byte 60 refl refl cs)
      ∙ cond-under if_found (on.html_text && begins_with (codes "<") cs)
      (ap (λ bytes. html_leaf (codes_with e cs) (html_end bytes)) (spaces_same html_byte refl refl cs) ∙ html_leaf-with cs (html_end (map html_byte cs)))
      refl

  -- ---- autolinks

  letter-with : (cs : List ℕ) → begins_with_letter (codes_with e cs) ≡ begins_with_letter cs
  letter-with [] = refl
  letter-with (c ∷ cs) = same_code e is_letter c refl refl

  begins_with_scheme-with : (cs : List ℕ) → begins_with_scheme (codes_with e cs) ≡ begins_with_scheme cs
  begins_with_scheme-with cs =
      let size = prefix_len is_scheme_byte cs in
      ap (λ n. begins_with_letter (codes_with e cs) && (nat_le 2 n && nat_le n 32)) (prefix_len-with e is_scheme_byte refl refl cs)
      ∙ ap (λ letter. letter && (nat_le 2 size && nat_le size 32)) (letter-with cs)

  after_uri-with : (cs : List ℕ) → after_uri (codes_with e cs) ≡ codes_with e (after_uri cs)
  after_uri-with cs = ap (after_all is_uri_byte) (drop-map (code_with e) 1 cs) ∙ after_all-with e is_uri_byte refl refl (drop 1 cs)

  uri_end-with : (cs : List ℕ) → uri_end (codes_with e cs) ≡ if_codes (uri_end cs)
  uri_end-with cs =
      let all = codes_with e cs in
      let rest = after_all is_scheme_byte cs in
      ap (λ more. cond (begins_with_scheme all && begins_with (codes ":") more) (Some (after_uri more)) None) (after_all-with e is_scheme_byte refl refl cs)
      ∙ ap (λ scheme. cond (scheme && begins_with (codes ":") (codes_with e rest)) (Some (after_uri (codes_with e rest))) None) (begins_with_scheme-with cs)
      ∙ ap (λ colon. cond (begins_with_scheme cs && colon) (Some (after_uri (codes_with e rest))) None) (begins-byte 58 refl refl rest)
      ∙ cond-under if_codes (begins_with_scheme cs && begins_with (codes ":") rest) (ap Some (after_uri-with rest)) refl

  domain_end-with : (cs : List ℕ) → domain_end (codes_with e cs) ≡ if_codes (domain_end cs)
  domain_end-with cs =
      ap (λ text. cond (is_domain text) (Some (after_all is_domain_byte (codes_with e cs))) None) (take_while-with is_domain_byte refl refl refl cs)
      ∙ cond-under if_codes (is_domain (take_while is_domain_byte cs)) (ap Some (after_all-with e is_domain_byte refl refl cs)) refl

  email_end-with : (cs : List ℕ) → email_end (codes_with e cs) ≡ if_codes (email_end cs)
  email_end-with cs =
      let n = prefix_len is_email_byte cs in
      let rest = after_all is_email_byte cs in
      let found : List ℕ → Option (List ℕ) = λ more. domain_end (drop 1 more) in
      ap (λ size. let more = drop size (codes_with e cs) in cond (nat_le 1 size && begins_with (codes "@") more) (found more) None)
      (prefix_len-with e is_email_byte refl refl cs)
      ∙ ap (λ more. cond (nat_le 1 n && begins_with (codes "@") more) (found more) None) (drop-map (code_with e) n cs)
      ∙ ap (λ at. cond (nat_le 1 n && at) (found (codes_with e rest)) None) (begins-byte 64 refl refl rest)
      ∙ cond-under if_codes (nat_le 1 n && begins_with (codes "@") rest)
      (ap domain_end (drop-map (code_with e) 1 rest) ∙ domain_end-with (drop 1 rest)) refl

  closed_autolink-with : (is_email : Bool) (cs : List ℕ) (end : Option (List ℕ))
      → closed_autolink is_email (codes_with e cs) (if_codes end) ≡ if_found (closed_autolink is_email cs end)
  closed_autolink-with is_email cs None = refl
  closed_autolink-with is_email cs (Some rest) =
      let same = before-with e cs rest in
      one-with _ (begins-byte 62 refl refl rest) (ap (Autolink is_email) same)
      (ap (λ inner. length inner + 2) same ∙ ap (λ n. n + 2) (length-map (text_before cs rest) (code_with e)))

  autolink_after-with : (cs : List ℕ) → autolink_after (codes_with e cs) ≡ if_found (autolink_after cs)
  autolink_after-with cs =
      let all = codes_with e cs in
      ap (λ end. or_else (closed_autolink false all end) (closed_autolink true all (email_end all))) (uri_end-with cs)
      ∙ ap (λ one. or_else one (closed_autolink true all (email_end all))) (closed_autolink-with false cs (uri_end cs))
      ∙ ap (λ end. or_else (if_found (closed_autolink false cs (uri_end cs))) (closed_autolink true all end)) (email_end-with cs)
      ∙ ap (or_else (if_found (closed_autolink false cs (uri_end cs)))) (closed_autolink-with true cs (email_end cs))
      ∙ or_else-with (closed_autolink false cs (uri_end cs)) (closed_autolink true cs (email_end cs))

  autolink_at-with : (on : Constructs) (cs : List ℕ) → autolink_at on (codes_with e cs) ≡ if_found (autolink_at on cs)
  autolink_at-with on cs =
      ap (λ begins. cond (on.autolink && begins) (autolink_after (drop 1 (codes_with e cs))) None) (begins-byte 60 refl refl cs)
      ∙ cond-under if_found (on.autolink && begins_with (codes "<") cs)
      (ap autolink_after (drop-map (code_with e) 1 cs) ∙ autolink_after-with (drop 1 cs)) refl

  -- ---- each of them

  or_both : (one other a b : Option Found) → one ≡ if_found a → other ≡ if_found b → or_else one other ≡ if_found (or_else a b)
  or_both one other a b p q = ap (λ o. or_else o other) p ∙ ap (or_else (if_found a)) q ∙ or_else-with a b

  pub leaf_at-with : (context : InlineContext) (cs : List ℕ) → leaf_at context (codes_with e cs) ≡ if_found (leaf_at context cs)
  leaf_at-with context cs =
      let on = context.options.constructs in
      or_both _ _ _ _ (escape_at-with on cs)
      (or_both _ _ _ _ (escaped_break_at-with on cs)
      (or_both _ _ _ _ (reference_at-with context.names on cs)
      (or_both _ _ _ _ (code_text_at-with on cs)
      (or_both _ _ _ _ (math_text_at-with context.options cs)
      (or_both _ _ _ _ (autolink_at-with on cs)
      (or_both _ _ _ _ (html_text_at-with on cs)
      (or_both _ _ _ _ (line_end_at-with cs) (line_spaces_at-with on cs))))))))
