use Rattle.std.proofs.Common.{◌≡◌, ℕ, List, [], ◌∷◌, ◌∙◌, cond, eqb, refl, ap, rules, tests}
use Rattle.inline_constructs.proofs.Prelude.{list_all}
use Rattle.std.specs.List.{onto_first, slice_split}
use Rattle.std.proofs.lemmas.Iterator.Splits.{YieldsList-from_slice_split}
use Rattle.std.proofs.lemmas.Iterator.Search.{all_from_yields_List}
use Rattle.definition_inline.specs.Autolink.{between_dots, in_first, is_domain_label}
use Rattle.inline_constructs.proofs.autolink.is_domain.Goals as goal

onto : (b : ℕ) (parts : List (List ℕ)) → onto_first b parts ≡ in_first b parts
onto b [] = refl
onto b (first ∷ others) = refl

dots : (xs : List ℕ) → slice_split (λ b. eqb b 46) xs ≡ between_dots xs
dots [] = refl
dots (b ∷ bs) =
    ap (λ parts. cond (eqb b 46) ([] ∷ parts) (onto_first b parts)) (dots bs) ∙ ap (cond (eqb b 46) ([] ∷ between_dots bs)) (onto b (between_dots bs))

pub returns : goal.returns
returns c =
    all_from_yields_List is_domain_label _ _ c.all.result c.all.ensures.ran
    (YieldsList-from_slice_split _ (λ b. eqb b 46) c.args.text.now c.split.ensures.rest c.split.ensures.done c.split.ensures.closure
    (λ x b q k. search (rules, tests)))
    (λ x b q k. search (rules, tests))
    ∙ ap (list_all is_domain_label) (dots c.args.text.now)
