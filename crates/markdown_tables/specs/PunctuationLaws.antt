-- Unicode punctuation among the ASCII characters.
use Rattle.std.proofs.Common.{◌≡◌, ℕ, ◌<◌, true, false, refl, sym, ◌∙◌, rules, arith}
use Rattle.std.specs.Bool.{beq}
use Rattle.std.specs.Char.{is_ascii_alphanumeric, is_ascii_punctuation}
use Rattle.std.proofs.lemmas.Grind.{common_steps}
use Rattle.ucd_table.proofs.Facts.{Stepped-below, same_from_beq}
use Rattle.ucd_table.proofs.Stepped.{map_stepped}
use Rattle.ucd_category.specs.GeneralCategory.{general_category}
use Rattle.ucd_category.proofs.Computing.{ucd_category}
use Rattle.ucd_category.proofs.GeneralCategoryLemmas.{general_category_stepped}
use Rattle.markdown_tables.specs.Punctuation.{is_punctuation_category, builtin_punctuation}

-- below 128 it is ASCII punctuation
pub builtin_punctuation-ascii : (code : ℕ) → code < 128 → is_ascii_punctuation code ≡ builtin_punctuation code
unfolding ucd_category
builtin_punctuation-ascii code below =
    let steps = map_stepped is_punctuation_category general_category general_category_stepped in
    same_from_beq _ _ (Stepped-below builtin_punctuation steps (λ x v. beq (is_ascii_punctuation x) v) 128 refl code below)

punctuation_below : (code : ℕ) → is_ascii_punctuation code ≡ true → code < 128
punctuation_below code given = grind (arith, rules, common_steps)

alphanumeric_below : (code : ℕ) → is_ascii_alphanumeric code ≡ true → code < 128
alphanumeric_below code given = grind (arith, rules, common_steps)

no_punctuation : (code : ℕ) → is_ascii_alphanumeric code ≡ true → is_ascii_punctuation code ≡ false
no_punctuation code given = grind (arith, rules, common_steps)

-- ASCII punctuation is Unicode punctuation
pub ascii_punctuation : (code : ℕ) → is_ascii_punctuation code ≡ true → builtin_punctuation code ≡ true
ascii_punctuation code given = sym (builtin_punctuation-ascii code (punctuation_below code given)) ∙ given

-- ASCII letters and digits are no punctuation
pub ascii_alphanumeric : (code : ℕ) → is_ascii_alphanumeric code ≡ true → builtin_punctuation code ≡ false
ascii_alphanumeric code given = sym (builtin_punctuation-ascii code (alphanumeric_below code given)) ∙ no_punctuation code given
