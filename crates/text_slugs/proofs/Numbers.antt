-- The numbers that a slug is tried with; `FreeSlugs` of definition_page has that one of enough numbers is free.
use Rattle.std.proofs.Common.{◌≡◌, ◌<◌, ◌≤◌, ◌+◌, ℕ, true, false, List, ◌∷◌, ◌++◌, length, inl, inr, sym, ap, subst, ◌∙◌, add-one, arith}
use Rattle.std.proofs.lemmas.Bool.{cases_lt}
use Rattle.std.specs.Fmt.{decimal}
use Rattle.definition_text.specs.Ascii.{hyphen}
use Rattle.definition_page.specs.Slug.{numbered, is_taken, first_free}
use Rattle.definition_page.proofs.FreeSlugs.{first_free_is}
use Rattle.text_slugs.specs.Slugs.{AreTaken, IsFree}

-- one that isn't taken, where those with each number before are
pub free_of : (taken : List (List ℕ)) (slug : List ℕ) (n : ℕ) (free : List ℕ) → n ≤ length taken
    → free ≡ numbered slug n → AreTaken taken slug n → is_taken taken free ≡ false → IsFree taken slug n free
free_of taken slug n free fits named before new = record {
  named = named;
  first = named ∙ first_free_is taken slug n fits before (subst (λ s. is_taken taken s ≡ false) named new);
  before = before;
  new = new;
}

-- one number more
pub taken_more : (taken : List (List ℕ)) (slug : List ℕ) (count : ℕ) → AreTaken taken slug count → is_taken taken (numbered slug count) ≡ true
    → AreTaken taken slug (count + 1)
taken_more taken slug count all last n below = elim (cases_lt n count) [
  | inl before ↦ all n before
  | inr at_end ↦
      let same : count ≡ n = omega arith in
      subst (λ k. is_taken taken (numbered slug k) ≡ true) same last
]

pub numbered_next : (slug : List ℕ) (n : ℕ) → numbered slug (n + 1) ≡ slug ++ hyphen ∷ decimal (n + 1)
numbered_next slug n = ap (numbered slug) (add-one n) ∙ ap (λ k. slug ++ hyphen ∷ decimal k) (sym (add-one n))
