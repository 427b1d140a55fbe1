-- The tables of a file of rows, if there is one.
use Rattle.std.specs.Prelude.{◌≡◌, ℕ, List, Option, None, Some}
use Rattle.std.specs.Option.{option_or}
use Rattle.definition_inline.specs.BuiltinReferences.{builtin_names}
use Rattle.markdown_definition.specs.TextTables.{TextTables}
use Rattle.definition_inline.specs.ReferenceRows.{rows, text_in}
use Rattle.definition_inline.specs.CharacterReference.{Names}
use Rattle.markdown_tables.specs.Builtin.{builtin_tables}
use Rattle.markdown_tables.specs.Punctuation.{builtin_punctuation}
use Rattle.markdown_tables.specs.RowsFaults.{text_fault}

-- the names of a file of rows, before the built-in ones
abbrev pub file_names : List ℕ → Names
file_names file name = option_or (text_in (rows file) name) (builtin_names name)

-- the tables of a file of rows without a fault
pub record AreOfFile (tables : TextTables) (file : List ℕ) : Type 0 where
  pub faultless : text_fault file ≡ None
  pub names : (name : List ℕ) → tables.names name ≡ file_names file name
  pub punctuation : tables.is_punctuation ≡ builtin_punctuation

-- the tables of a path: without one those that are built in, and otherwise those of what its file held
abbrev pub AreTables : Option (List ℕ) → TextTables → Type 0
AreTables None tables = tables ≡ builtin_tables
AreTables (Some path) tables = (file : List ℕ) × AreOfFile tables file
