-- What a text and its events are read by.
use Rattle.std.specs.Prelude.{◌≡◌}
use Rattle.markdown_options.specs.Defaults.{default_constructs}
use Rattle.markdown_options.specs.declared.configuration.Constructs.{Constructs}
use Rattle.definition_inline.specs.CharacterReference.{Names}
use Rattle.definition_page.specs.InlinePieces.{Meaning}

-- what the strings of a text and of its events are read by
pub record AreMeanings (constructs : Constructs) (texts : Names) (m m' : Meaning) : Type 0 where
  pub on : m.on ≡ constructs
  pub names : m.names ≡ texts
  pub spelled_on : m'.on ≡ default_constructs
  pub spelled_names : m'.names ≡ texts
