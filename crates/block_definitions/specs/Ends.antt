-- Where a definition at the front of a paragraph ends.
use Rattle.std.specs.Prelude.{◌≡◌, ◌≤◌, ℕ, List, Some, drop}
use Rattle.definition_text.specs.BlockLines.{BlockLine, own_lines}
use Rattle.definition_text.specs.Content.{content_of, content_text}
use Rattle.definition_block.specs.Definitions.{lines_before}
use Rattle.definition_inline.specs.Definition.{Definition, definition_at}
use Rattle.text_pieces.specs.ParagraphLines.{AreLines}
use Rattle.block_definitions.specs.declared.front.DefinitionEnd.{DefinitionEnd}

-- a definition is on the first lines, and the content of the others is what is left of that of all
pub record EndsAt (content : List ℕ) (ls : List BlockLine) (end : DefinitionEnd) : Type 0 where
  pub read : Definition
  pub found : definition_at (content_of (own_lines ls)) ≡ Some read
  pub count : end.lines ≡ lines_before read.rest ls
  pub some : 1 ≤ end.lines
  pub clean : AreLines (drop end.lines ls)
  pub left : drop end.bytes content ≡ content_text (drop end.lines ls)
