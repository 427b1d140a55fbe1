-- When labels, targets and definitions are alike (CommonMark 4.7 and 6.3).
use Rattle.std.specs.Prelude.{◌≡◌, ℕ, List, [], Option, None, Some, map}
use Rattle.std.specs.List.{AllZip}
use Rattle.definition_text.specs.Columns.{Code}
use Rattle.definition_inline.specs.Definition.{Definition}
use Rattle.definition_inline.specs.Inline.{Target, Resource, Reference, LinkTexts, link_texts}
use Rattle.definition_inline.specs.LabelMatch.{normal_label}
use Rattle.definition_inline.specs.Strings.{string_text}
use Rattle.definition_inline.specs.Targets.{leads_to}
use Rattle.definition_page.specs.InlinePieces.{Meaning}

-- Labels are alike if they match: by case, by white space between words and at the ends they may differ.
abbrev pub AreLabelsAlike : List Code → List Code → Type 0
AreLabelsAlike a b = normal_label a ≡ normal_label b

-- the labels of footnote definitions, in one order
abbrev pub AreFootnotesAlike : List (List Code) → List (List Code) → Type 0
AreFootnotesAlike labels others = map normal_label labels ≡ map normal_label others

-- the text of a title; no title has an empty one, which is printed as little
abbrev pub title_text : Meaning → Option (List Code) → List ℕ
title_text m None = []
title_text m (Some title) = string_text m.on m.names title

module _ (m m' : Meaning) where
  -- Strings are alike if each stands for the same text by its own constructs and names: an escape may be a character reference, or the character itself.
  abbrev pub AreStringsAlike : List Code → List Code → Type 0
  AreStringsAlike a b = string_text m.on m.names a ≡ string_text m'.on m'.names b

  abbrev pub AreTitlesAlike : Option (List Code) → Option (List Code) → Type 0
  AreTitlesAlike a b = title_text m a ≡ title_text m' b

  -- destinations with titles
  abbrev pub AreLinksAlike : LinkTexts → LinkTexts → Type 0
  AreLinksAlike a b = AreStringsAlike a.destination b.destination × AreTitlesAlike a.title b.title

  -- what links and images lead to: resources, or labels
  abbrev pub AreTargetsAlike : Target → Target → Type 0
  AreTargetsAlike (Resource d t) (Resource d' t') = AreLinksAlike (link_texts d t) (link_texts d' t')
  AreTargetsAlike (Reference a) (Reference b) = AreLabelsAlike a b
  AreTargetsAlike a b = ⊥

  abbrev pub IsDefinitionAlike : Definition → Definition → Type 0
  IsDefinitionAlike d d' = AreLabelsAlike d.label d'.label × AreStringsAlike d.destination d'.destination × AreTitlesAlike d.title d'.title

  -- definitions, one by one, in one order
  abbrev pub AreDefinitionsAlike : List Definition → List Definition → Type 0
  AreDefinitionsAlike ds ds' = AllZip IsDefinitionAlike ds ds'

  -- Meanings are alike if the options of printing are the same, footnotes have labels alike, and labels that are alike lead to links that are.
  pub record AreMeaningsAlike : Type 0 where
    pub compile : m.compile ≡ m'.compile
    pub footnotes : AreFootnotesAlike m.footnotes m'.footnotes
    pub definitions : (a b : List Code) → AreLabelsAlike a b → AreLinksAlike (leads_to m.definition (Reference a)) (leads_to m'.definition (Reference b))
