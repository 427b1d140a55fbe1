-- The tables that a text is read by.
use Rattle.std.specs.Prelude.{ℕ, Bool, List, Option}

-- the texts of named characters, and which characters are punctuation
pub record TextTables : Type 0 where
  pub names : List ℕ → Option (List ℕ)
  pub is_punctuation : ℕ → Bool

abbrev pub text_tables : (List ℕ → Option (List ℕ)) → (ℕ → Bool) → TextTables
text_tables names is_punctuation = record { names = names; is_punctuation = is_punctuation }
