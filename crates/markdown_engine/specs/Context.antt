-- What a text is read with.
use Rattle.std.specs.Prelude.{ℕ, List, [], map, string_bytes}
use Rattle.markdown_options.specs.declared.configuration.ParseOptions.{ParseOptions}
use Rattle.markdown_engine.specs.declared.parse_state.ParseState.{ParseState}

-- a text, the options, the tables, and the labels that are defined
pub record Context (T : Type 0) : Type 0 where
  pub bytes : List ℕ
  pub options : ParseOptions
  pub tables : T
  pub definitions : List (List ℕ)
  pub footnotes : List (List ℕ)

module _ {T A : Type 0} where
  abbrev pub context : ParseState T A → Context T
  context s = record {
    bytes = s.bytes.now;
    options = s.options.now;
    tables = s.tables.now;
    definitions = map string_bytes s.definitions.items;
    footnotes = map string_bytes s.gfm_footnote_definitions.items;
  }

-- a text of which no label is known
abbrev pub without_labels : {T : Type 0} → List ℕ → ParseOptions → T → Context T
without_labels bytes options tables = record { bytes = bytes; options = options; tables = tables; definitions = []; footnotes = [] }
