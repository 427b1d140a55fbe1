-- Tables for texts in which no character is named.
use Rattle.std.specs.Prelude.{None}
use Rattle.std.specs.Char.{is_ascii_punctuation}
use Rattle.definition_page.specs.TextTables.{TextTables}

abbrev pub small : TextTables
small = record { names = λ name. None; is_punctuation = is_ascii_punctuation }
