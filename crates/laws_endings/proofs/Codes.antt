-- Codes with that of another ending in place of each of LF: tests that treat all endings alike answer the same.
use Rattle.std.proofs.Common.{◌≡◌, ℕ, ◌+◌, ◌-◌, List, [], ◌∷◌, None, Some, Option, Bool, true, false, cond, ◌||◌, eqb, refl, sym, ap, ◌∙◌, length, drop, take}
use Rattle.laws_endings.proofs.Prelude.{after_all, closed_by, code_with, codes_with, drop-map, eqb-true, length-map, line_ending_code, LineEnding, option_map}
use Rattle.laws_endings.proofs.Prelude.{Part, part, prefix_len, take-map, text_before, up_to}
use Rattle.std.specs.List.{list_any}
use Rattle.markdown_options.specs.declared.line_ending.LineEnding.TheVariants.{CarriageReturnLineFeed, CarriageReturn, LineFeed}

-- a choice of two values under a function
pub cond-under : {A B : Type 0} {x y : B} {a b : A} (f : A → B) (test : Bool) → x ≡ f a → y ≡ f b → cond test x y ≡ f (cond test a b)
cond-under f true p q = p
cond-under f false p q = q

-- what is the same of each ending's code is that of LF's
at_ending : {A : Type 0} (e : LineEnding) (f : ℕ → A) → f 13 ≡ f 10 → f 257 ≡ f 10 → f (line_ending_code e) ≡ f 10
at_ending LineFeed f p q = refl
at_ending CarriageReturn f p q = p
at_ending CarriageReturnLineFeed f p q = q

-- what a test makes of a code, where it makes the same of each ending's
code_either : {A : Type 0} (e : LineEnding) (f : ℕ → A) (code : ℕ) (feed : Bool) → f 13 ≡ f 10 → f 257 ≡ f 10 → eqb code 10 ≡ feed
    → f (cond feed (line_ending_code e) code) ≡ f code
code_either e f code true p q h = at_ending e f p q ∙ sym (ap f (eqb-true code 10 h))
code_either e f code false p q h = refl

pub same_code : {A : Type 0} (e : LineEnding) (f : ℕ → A) (code : ℕ) → f 13 ≡ f 10 → f 257 ≡ f 10 → f (code_with e code) ≡ f code
same_code e f code p q = code_either e f code (eqb code 10) p q refl

-- ---- lists of codes

module _ (e : LineEnding) where
  module _ (test : ℕ → Bool) (return : test 13 ≡ test 10) (both : test 257 ≡ test 10) where
    pub prefix_len-with : (cs : List ℕ) → prefix_len test (codes_with e cs) ≡ prefix_len test cs
    prefix_len-with [] = refl
    prefix_len-with (c ∷ cs) =
        ap (λ passes. cond passes (1 + prefix_len test (codes_with e cs)) 0) (same_code e test c return both)
        ∙ ap (λ n. cond (test c) (1 + n) 0) (prefix_len-with cs)

    pub after_all-with : (cs : List ℕ) → after_all test (codes_with e cs) ≡ codes_with e (after_all test cs)
    after_all-with cs = ap (λ n. drop n (codes_with e cs)) (prefix_len-with cs) ∙ drop-map (code_with e) (prefix_len test cs) cs

    pub list_any-with : (cs : List ℕ) → list_any test (codes_with e cs) ≡ list_any test cs
    list_any-with [] = refl
    list_any-with (c ∷ cs) =
        ap (λ passes. passes || list_any test (codes_with e cs)) (same_code e test c return both)
        ∙ ap (λ others. test c || others) (list_any-with cs)

  -- ---- parts of a content

  abbrev pub part_with : Part → Part
  part_with p = part (codes_with e p.text) (codes_with e p.rest)

  pub before-with : (content rest : List ℕ) → text_before (codes_with e content) (codes_with e rest) ≡ codes_with e (text_before content rest)
  before-with content rest =
      ap (λ n. take (n - length (codes_with e rest)) (codes_with e content)) (length-map content (code_with e))
      ∙ ap (λ n. take (length content - n) (codes_with e content)) (length-map rest (code_with e))
      ∙ take-map (code_with e) (length content - length rest) content

  pub up_to-with : (content : List ℕ) (end : Option (List ℕ))
      → up_to (codes_with e content) (option_map (codes_with e) end) ≡ option_map part_with (up_to content end)
  up_to-with content None = refl
  up_to-with content (Some rest) = ap (λ text. Some (part text (codes_with e rest))) (before-with content rest)

  pub closed_by-with : (content : List ℕ) (end : Option (List ℕ))
      → closed_by (codes_with e content) (option_map (codes_with e) end) ≡ option_map part_with (closed_by content end)
  closed_by-with content None = refl
  closed_by-with content (Some rest) =
      ap (λ text. Some (part text (drop 1 (codes_with e rest)))) (before-with content rest)
      ∙ ap (λ others. Some (part (codes_with e (text_before content rest)) others)) (drop-map (code_with e) 1 rest)
