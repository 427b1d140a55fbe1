-- The bytes of slugs: those of characters that are kept, of hyphens and of numbers.
use Rattle.std.proofs.Common.{◌≡◌, ℕ, zero, suc, Bool, true, false, cond, not, List, [], ◌∷◌, length, Option, None, Some, refl, unwrap_or, eqb}
use Rattle.std.specs.Prelude.{chars, encode_utf8_all}
use Rattle.std.specs.Char.{encode_utf8}
use Rattle.std.specs.Fmt.{decimal}
use Rattle.std.specs.List.{find, flat_map, range_with_len}
use Rattle.std.proofs.lemmas.Bool.{cond_both}
use Rattle.ucd_perl.proofs.Computing.{ucd_perl}
use Rattle.definition_text.specs.Ascii.{space, hyphen}
use Rattle.definition_text.proofs.Each.{Each, WhereSome, each-append, each_map, each_flat_map}
use Rattle.definition_page.specs.Slug.{is_kept, slug_char, lowered, slug_of, numbered, is_taken, first_numbered, next_slug}

-- an LF isn't kept
pub feed_not_kept : is_kept 10 ≡ false
unfolding ucd_perl
feed_not_kept = refl

-- what is found among elements that are all good
found_good : {A : Type 0} (P : A → Type 0) (test : A → Bool) (xs : List A) → Each P xs → WhereSome P (find test xs)
found_good P test [] h = tt
found_good P test (x ∷ xs) h = cond_both (test x) (Some x) (find test xs) (WhereSome P) (λ _. h.0) (λ _. found_good P test xs h.1)

or_good : {A : Type 0} (P : A → Type 0) (found : Option A) (other : A) → WhereSome P found → P other → P (unwrap_or found other)
or_good P None other h k = k
or_good P (Some x) other h k = h

-- if these bytes are good, so are those of a slug
module _ (P : ℕ → Type 0) (at_hyphen : P hyphen) (at_kept : (c : ℕ) → is_kept c ≡ true → Each P (encode_utf8 c))
    (at_number : (n : ℕ) → Each P (decimal n)) where
  abbrev CharacterGood : ℕ → Type 0
  CharacterGood c = Each P (encode_utf8 c)

  characters_good : (cs : List ℕ) → Each CharacterGood cs → Each P (encode_utf8_all cs)
  characters_good [] h = tt
  characters_good (c ∷ cs) h = each-append P (encode_utf8 c) (encode_utf8_all cs) h.0 (characters_good cs h.1)

  hyphen_good : CharacterGood hyphen
  unfolding encode_utf8
  hyphen_good = (at_hyphen, tt)

  slug_char_good : (c : ℕ) → Each CharacterGood (slug_char c)
  slug_char_good c =
      cond_both (eqb c space) (hyphen ∷ []) (cond (is_kept c) (c ∷ []) []) (Each CharacterGood) (λ _. (hyphen_good, tt))
      (λ _. cond_both (is_kept c) (c ∷ []) [] (Each CharacterGood) (λ kept. (at_kept c kept, tt)) (λ _. tt))

  slug_of_good : (text : List ℕ) → Each P (slug_of text)
  slug_of_good text =
      let characters = lowered (chars text) in
      characters_good (flat_map slug_char characters) (each_flat_map CharacterGood slug_char characters slug_char_good)

  numbered_good : (slug : List ℕ) → Each P slug → (n : ℕ) → Each P (numbered slug n)
  numbered_good slug h zero = h
  numbered_good slug h (suc n) = each-append P slug (hyphen ∷ decimal (suc n)) h (at_hyphen, at_number (suc n))

  pub next_slug_good : (taken : List (List ℕ)) (text : List ℕ) → Each P (next_slug taken text)
  next_slug_good taken text =
      let slug = slug_of text in
      let good = slug_of_good text in
      or_good (Each P) (find (λ s. not (is_taken taken s)) (first_numbered (suc (length taken)) slug)) slug
      (found_good (Each P) (λ s. not (is_taken taken s)) (first_numbered (suc (length taken)) slug)
      (each_map (Each P) (numbered slug) (range_with_len 0 (suc (length taken))) (numbered_good slug good)))
      good
