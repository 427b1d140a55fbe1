-- Whole lines of a text.
use Rattle.std.specs.Prelude.{◌≡◌, ℕ, ◌<◌, List, [], ◌∷◌, ◌++◌, slice_index}
use Rattle.std.specs.List.{flat_map}
use Rattle.markdown_options.specs.declared.beside.Kind.TheVariants.{Whitespace}
use Rattle.definition_text.specs.BlockLines.{BlockLine}
use Rattle.definition_text.specs.Content.{line_text}

-- a line that no prefix stands before: its codes are bytes
abbrev pub IsWhole : BlockLine → Type 0
IsWhole line = (line.before ≡ Whitespace) × ((k : ℕ) → slice_index line.codes k < 256)

abbrev pub AreWhole : List BlockLine → Type 0
AreWhole [] = Unit {0}
AreWhole (line ∷ others) = IsWhole line × AreWhole others

-- a text is a whole line, and the rest
pub record BeginsWith (line : BlockLine) (text rest : List ℕ) : Type 0 where
  pub whole : IsWhole line
  pub split : text ≡ line_text line ++ rest

-- a text is whole lines, and the rest
pub record Begins (ls : List BlockLine) (text rest : List ℕ) : Type 0 where
  pub split : text ≡ flat_map line_text ls ++ rest
  pub whole : AreWhole ls

-- a text doesn't begin with these as whole lines
abbrev pub BeginsNot : List BlockLine → List ℕ → Type 0
BeginsNot ls text = (rest : List ℕ) → Begins ls text rest → ⊥
