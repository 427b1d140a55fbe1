-- Unicode punctuation characters (CommonMark 2.1).
use Rattle.std.specs.Prelude.{ℕ, Bool, ◌||◌}
use Rattle.ucd_category.specs.GeneralCategory.{general_category}
use Rattle.ucd_category.specs.GeneralCategoryGroup.{in_group}
use Rattle.ucd_category.specs.declared.GeneralCategory.{GeneralCategory}
use Rattle.ucd_category.specs.declared.GeneralCategoryGroup.TheVariants.{Punctuation, Symbol}

-- the general categories P (punctuation) and S (symbol)
abbrev pub is_punctuation_category : GeneralCategory → Bool
is_punctuation_category category = in_group Punctuation category || in_group Symbol category

-- a code with one of them
abbrev pub builtin_punctuation : ℕ → Bool
builtin_punctuation code = is_punctuation_category (general_category code)
