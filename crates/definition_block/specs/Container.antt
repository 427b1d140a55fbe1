-- What holds other blocks (CommonMark 5).
use Rattle.std.specs.Prelude.{List}
use Rattle.definition_text.specs.Columns.{Code}
use Rattle.markdown_options.specs.declared.container.Item.{Item as ItemParts}

-- a block quote; a list item with its marker, its number and the columns to its content; a footnote definition with its label, as it is written
pub data Container : Type 0 where
  Quote : Container
  Item : ItemParts → Container
  Footnote : List Code → Container
