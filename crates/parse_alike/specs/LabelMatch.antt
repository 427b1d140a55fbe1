-- Labels match by their words: the spaces, tabs and line endings between these may differ, and those at the ends (CommonMark 4.7 and 6.3).
use Rattle.std.specs.Prelude.{◌≡◌, true, List, ◌∷◌, ◌++◌}
use Rattle.std.specs.List.{list_all}
use Rattle.definition_text.specs.Columns.{Code}
use Rattle.definition_text.specs.Content.{is_space}
use Rattle.definition_inline.specs.LabelMatch.{words}
use Rattle.parse_alike.specs.Targets.{AreLabelsAlike}

abbrev pub HaveSameWords : List Code → List Code → Type 0
HaveSameWords label label' = words label ≡ words label'

abbrev pub AreSpaces : List Code → Type 0
AreSpaces codes = list_all is_space codes ≡ true

-- Labels with the same words are alike. Spaces at the ends change no words, and one or more between two labels separate their words.
pub record SameWordsAreAlike : Type 0 where
  pub alike : (label label' : List Code) → HaveSameWords label label' → AreLabelsAlike label label'
  pub around : (before label after : List Code) → AreSpaces before → AreSpaces after → HaveSameWords label (before ++ label ++ after)
  pub between : (first first' second second' : List Code) (space space' : Code) (more more' : List Code) → HaveSameWords first first'
      → HaveSameWords second second' → AreSpaces (space ∷ more) → AreSpaces (space' ∷ more')
      → HaveSameWords (first ++ (space ∷ more ++ second)) (first' ++ (space' ∷ more' ++ second'))
