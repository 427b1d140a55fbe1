-- What a cursor stands for.
use Rattle.std.specs.Prelude.{◌++◌, List, map, replicate, Option, None, Some}
use Rattle.markdown_options.specs.declared.container.Container.{Container as CodeContainer}
use Rattle.markdown_options.specs.declared.container.Container.TheVariants as code
use Rattle.definition_block.specs.Container.{Container, Quote, Item, Footnote}
use Rattle.definition_text.specs.Columns.{Rest, tab_column, codes_from}
use Rattle.definition_block.specs.ContainerLine.{ContainerLine, container_line}
use Rattle.definition_block.specs.ContainerStart.{ContainerStart, container_start}
use Rattle.block_starts.specs.declared.cursor.Cursor.{Cursor}
use Rattle.block_starts.specs.declared.container_line.ContainerLine.{ContainerLine as CodeLine}

-- the columns left of a tab, and the codes of the bytes after them
unfoldable pub rest_of : Cursor → Rest
rest_of cursor = replicate cursor.owed tab_column ++ codes_from cursor.column cursor.text.now

abbrev pub rest_if : Option Cursor → Option Rest
rest_if None = None
rest_if (Some cursor) = Some (rest_of cursor)

abbrev pub line_if : Option CodeLine → Option ContainerLine
line_if None = None
line_if (Some line) = Some (container_line (rest_of line.rest) line.before)

abbrev pub container_view : CodeContainer → Container
container_view code.Quote = Quote
container_view (code.Item item) = Item item
container_view (code.Footnote label) = Footnote label.now

abbrev pub container_views : List CodeContainer → List Container
container_views cs = map container_view cs

abbrev pub started_if : Option (CodeContainer × CodeLine) → Option ContainerStart
started_if None = None
started_if (Some s) = Some (container_start (container_view s.0) (rest_of s.1.rest) s.1.before)
