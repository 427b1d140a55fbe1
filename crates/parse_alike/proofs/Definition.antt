-- Labels that are alike lead to links that are, by definitions that are.
use Rattle.std.proofs.Common.{◌≡◌, ℕ, zero, suc, List, [], ◌∷◌, Option, None, Some, map, refl, sym, ap, ◌∙◌, subst}
use Rattle.parse_alike.proofs.Prelude.{AreDefinitionsAlike, AreFootnotesAlike, AreLabelsAlike, AreLinksAlike, AreMeaningsAlike, Code, Definition, first_match}
use Rattle.parse_alike.proofs.Prelude.{leads_to, LinkTexts, Meaning, normal_label, place_of, Reference, unwrap_or}
use Rattle.std.specs.Option.{option_map}
use Rattle.definition_inline.specs.Inline.{link_texts}
use Rattle.definition_inline.specs.Targets.{labels_of, linked_at, linked_by}
use Rattle.parse_alike.specs.Laws.{AlikeDefinitionsMeanTheSame}

module _ (m m' : Meaning) where
  labels_same : (ds ds' : List Definition) → AreDefinitionsAlike m m' ds ds' → map normal_label (labels_of ds) ≡ map normal_label (labels_of ds')
  labels_same [] [] p = refl
  labels_same [] (d' ∷ ds') p = absurd p
  labels_same (d ∷ ds) [] p = absurd p
  labels_same (d ∷ ds) (d' ∷ ds') p =
      ap (λ label. label ∷ map normal_label (labels_of ds)) p.0.0 ∙ ap (λ labels. normal_label d'.label ∷ labels) (labels_same ds ds' p.1)

  match_same : (ds ds' : List Definition) (a b : List Code) → AreDefinitionsAlike m m' ds ds' → AreLabelsAlike a b
      → first_match a (labels_of ds) ≡ first_match b (labels_of ds')
  match_same ds ds' a b p q =
      ap (place_of (normal_label a)) (labels_same ds ds' p) ∙ ap (λ label. place_of label (map normal_label (labels_of ds'))) q

  at_alike : (ds ds' : List Definition) (k : ℕ) → AreDefinitionsAlike m m' ds ds' → AreLinksAlike m m' (linked_at ds k) (linked_at ds' k)
  at_alike [] [] k p = (refl, refl)
  at_alike [] (d' ∷ ds') k p = absurd p
  at_alike (d ∷ ds) [] k p = absurd p
  at_alike (d ∷ ds) (d' ∷ ds') zero p = (p.0.1, p.0.2)
  at_alike (d ∷ ds) (d' ∷ ds') (suc k) p = at_alike ds ds' k p.1

  abbrev link_or : (ds : List Definition) → Option ℕ → LinkTexts
  link_or ds place = unwrap_or (option_map (linked_at ds) place) (link_texts [] None)

  or_alike : (ds ds' : List Definition) (place : Option ℕ) → AreDefinitionsAlike m m' ds ds' → AreLinksAlike m m' (link_or ds place) (link_or ds' place)
  or_alike ds ds' None p = (refl, refl)
  or_alike ds ds' (Some k) p = at_alike ds ds' k p

  leads_alike : (ds ds' : List Definition) → AreDefinitionsAlike m m' ds ds' → (a b : List Code) → AreLabelsAlike a b
      → AreLinksAlike m m' (leads_to (linked_by ds) (Reference a)) (leads_to (linked_by ds') (Reference b))
  leads_alike ds ds' p a b q =
      subst (λ place. AreLinksAlike m m' (link_or ds (first_match a (labels_of ds))) (link_or ds' place)) (match_same ds ds' a b p q)
      (or_alike ds ds' (first_match a (labels_of ds)) p)

  definitions_mean : (ds ds' : List Definition) → m.definition ≡ linked_by ds → m'.definition ≡ linked_by ds' → AreDefinitionsAlike m m' ds ds'
      → AreFootnotesAlike m.footnotes m'.footnotes → m.compile ≡ m'.compile → AreMeaningsAlike m m'
  definitions_mean ds ds' e e' p footnotes compile =
      record {
        compile = compile;
        footnotes = footnotes;
        definitions = λ a b q.
            subst (λ of. AreLinksAlike m m' (leads_to of (Reference a)) (leads_to m'.definition (Reference b))) (sym e)
            (subst (λ of. AreLinksAlike m m' (leads_to (linked_by ds) (Reference a)) (leads_to of (Reference b))) (sym e') (leads_alike ds ds' p a b q));
      }

pub alike_definitions_mean_the_same : AlikeDefinitionsMeanTheSame
alike_definitions_mean_the_same =
    record { same = λ m m' ds ds' e e' p footnotes compile. definitions_mean m m' ds ds' e e' p footnotes compile }
