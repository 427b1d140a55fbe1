-- Containers: which go on, and which start (CommonMark 5 and appendix, phase 1).
use Rattle.std.specs.Prelude.{Bool, Option, None, Some}
use Rattle.markdown_options.specs.declared.configuration.Constructs.{Constructs}
use Rattle.definition_block.specs.Container.{Container, Quote, Item, Footnote}
use Rattle.definition_text.specs.Columns.{Rest}
use Rattle.definition_block.specs.ContainerLine.{ContainerLine}
use Rattle.definition_block.specs.ContainerStart.{ContainerStart, container_start}
use Rattle.definition_block.specs.BlockQuote.{quote_prefix}
use Rattle.definition_block.specs.ListItem.{item_start, item_continues}
use Rattle.definition_block.specs.GfmFootnoteDefinition.{footnote_start, footnote_continues}

-- what is left after what the container has on this line, if it goes on; an item may have begun blank on the line before (CommonMark 5.1 and 5.2)
abbrev pub continues : Constructs → Container → Bool → Rest → Option ContainerLine
continues on Quote began_blank rest = quote_prefix on rest
continues on (Item item) began_blank rest = item_continues item.size began_blank rest
continues on (Footnote label) began_blank rest = footnote_continues rest

-- a quote, or another container
abbrev pub quote_or : Option ContainerStart → Option ContainerLine → Option ContainerStart
quote_or other None = other
quote_or other (Some line) = Some (container_start Quote line.rest line.before)

-- a footnote definition, or another container
abbrev pub footnote_or : Option ContainerStart → Option ContainerStart → Option ContainerStart
footnote_or other None = other
footnote_or other (Some footnote) = Some footnote

-- the container that starts here: a quote, an item or a footnote definition, which begin with different bytes; `interrupts` where it would interrupt a
-- paragraph (CommonMark 5.1 and 5.2)
abbrev pub starts : Constructs → Bool → Rest → Option ContainerStart
starts on interrupts rest = quote_or (footnote_or (item_start on interrupts rest) (footnote_start on rest)) (quote_prefix on rest)
