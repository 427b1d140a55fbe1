-- The characters of a slug, one by one.
use Rattle.std.proofs.Common.{◌≡◌, ℕ, List, [], ◌∷◌, ◌++◌, length, chars, encode_utf8, encode_utf8_all, option_to_list, IsSome, IsUtf8, Some, None, sym, ap, subst, ◌∙◌, arith}
use Rattle.std.proofs.lemmas.Bool.{false≢true}
use Rattle.std.proofs.lemmas.List.{append-nil, nil_from_length}
use Rattle.std.proofs.lemmas.List.Concat.{flat_map-append}
use Rattle.std.proofs.lemmas.Str.{chars_past_char, chars-nil, encodes-append}
use Rattle.std.specs.Char.Iter.{case_mapping_first, case_mapping_second, case_mapping_third, case_mapping_chars}
use Rattle.std.specs.Char.Unicode.ToLowercase.{to_lowercase}
use Rattle.std.specs.List.{flat_map}
use Rattle.std.specs.declared.char.ToLowercase.{CaseChanged}
use Rattle.definition_page.specs.Slug.{slug_char, lowered, slug_of}

-- what a character is in a slug, and what follows it
pub slug_step : (text rest : List ℕ) (c : ℕ) → IsUtf8 text → text ≡ encode_utf8 c ++ rest
    → slug_of text ≡ encode_utf8_all (flat_map slug_char (to_lowercase c)) ++ slug_of rest
slug_step text rest c utf8 parts = rw (chars_past_char text rest c utf8 parts, flat_map-append, encodes-append)

pub slug_empty : (text : List ℕ) → length text ≡ 0 → slug_of text ≡ []
slug_empty text none = ap (λ cs. encode_utf8_all (flat_map slug_char (lowered cs))) (ap chars (nil_from_length text none) ∙ chars-nil)

parts : (s : CaseChanged) → case_mapping_chars s
    ≡ option_to_list (case_mapping_first s) ++ (option_to_list (case_mapping_second s) ++ option_to_list (case_mapping_third s))
parts s = grind arith

-- the first of a character's small letters, and those after it
pub small_step : (s t : CaseChanged) (c : ℕ) → Some c ≡ case_mapping_first s → case_mapping_first t ≡ case_mapping_second s
    → case_mapping_second t ≡ case_mapping_third s → case_mapping_third t ≡ None
    → encode_utf8_all (flat_map slug_char (case_mapping_chars s)) ≡ encode_utf8_all (slug_char c) ++ encode_utf8_all (flat_map slug_char (case_mapping_chars t))
small_step s t c first second third none =
    let head : case_mapping_chars s ≡ c ∷ (option_to_list (case_mapping_second s) ++ option_to_list (case_mapping_third s)) =
    parts s ∙ ap (λ o. option_to_list o ++ (option_to_list (case_mapping_second s) ++ option_to_list (case_mapping_third s))) (sym first) in
    let tail : case_mapping_chars t ≡ option_to_list (case_mapping_second s) ++ option_to_list (case_mapping_third s) =
    parts t ∙ rw (second, third, none, append-nil) in
    ap (λ cs. encode_utf8_all (flat_map slug_char cs)) (head ∙ ap (λ cs. c ∷ cs) (sym tail))
    ∙ encodes-append (slug_char c) (flat_map slug_char (case_mapping_chars t))

-- no letter follows the last
pub record ArePacked (s : CaseChanged) : Type 0 where
  pub second : case_mapping_first s ≡ None → case_mapping_second s ≡ None
  pub third : case_mapping_second s ≡ None → case_mapping_third s ≡ None

pub small_end : (s : CaseChanged) → ArePacked s → None ≡ case_mapping_first s → case_mapping_chars s ≡ []
small_end s packed none =
    let first = sym none in
    let second = packed.second first in
    let third = packed.third second in
    parts s ∙ rw (first, second, third)

pub packed_first : (s : CaseChanged) → IsSome (case_mapping_first s) → (case_mapping_second s ≡ None → case_mapping_third s ≡ None) → ArePacked s
packed_first s some third = record {
  second = λ none. absurd (false≢true (subst IsSome none some));
  third = third;
}

pub packed_next : (s t : CaseChanged) → ArePacked s → case_mapping_first t ≡ case_mapping_second s → case_mapping_second t ≡ case_mapping_third s
    → case_mapping_third t ≡ None → ArePacked t
packed_next s t packed first second none = record {
  second = λ e. second ∙ packed.third (sym first ∙ e);
  third = λ _. none;
}
