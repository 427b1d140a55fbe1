-- The tables that are built in.
use Rattle.definition_inline.specs.BuiltinReferences.{builtin_names}
use Rattle.markdown_definition.specs.TextTables.{TextTables}
use Rattle.markdown_tables.specs.Punctuation.{builtin_punctuation}

abbrev pub builtin_tables : TextTables
builtin_tables = record { names = builtin_names; is_punctuation = builtin_punctuation }
