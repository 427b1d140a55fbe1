-- What a parse state says of a text.
use Rattle.std.specs.Prelude.{◌≡◌, ℕ, List, map, string_bytes}
use Rattle.markdown_options.specs.declared.configuration.ParseOptions.{ParseOptions}
use Rattle.parse_events.specs.declared.state.ParseState.{ParseState}

-- what a text was read by, and its bytes
pub record IsReadBy {T A : Type 0} (state : ParseState T A) (by : ParseOptions) (over : T) (text : List ℕ) : Type 0 where
  pub options : state.options.now ≡ by
  pub tables : state.tables.now ≡ over
  pub bytes : state.bytes.now ≡ text

-- the labels of link reference definitions, and those of footnote definitions
abbrev pub definitions_of : {T A : Type 0} → ParseState T A → List (List ℕ)
definitions_of state = map string_bytes state.definitions.items

abbrev pub footnotes_of : {T A : Type 0} → ParseState T A → List (List ℕ)
footnotes_of state = map string_bytes state.gfm_footnote_definitions.items
