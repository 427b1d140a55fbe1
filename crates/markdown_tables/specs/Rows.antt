-- What rows that were read hold.
use Rattle.std.specs.Prelude.{◌≡◌, ℕ, List}
use Rattle.std.specs.Option.{option_or}
use Rattle.definition_inline.specs.CharacterReference.{Names}
use Rattle.definition_inline.specs.BuiltinReferences.{builtin_names}
use Rattle.definition_inline.specs.ReferenceRows.{Row, text_in}
use Rattle.markdown_tables.specs.declared.rows.Rows.{Rows}
use Rattle.markdown_tables.specs.NameTexts.{text_of}

-- the texts of the names that were read
abbrev pub texts_of : {Y : Type 0} → Rows Y → Names
texts_of read name = text_of read.texts name

-- they are those of these rows
abbrev pub HasRows : {Y : Type 0} → Rows Y → List Row → Type 0
HasRows read rows = (name : List ℕ) → texts_of read name ≡ text_in rows name

-- they stand before the built-in ones
abbrev pub names_of : {Y : Type 0} → Rows Y → Names
names_of read name = option_or (texts_of read name) (builtin_names name)
