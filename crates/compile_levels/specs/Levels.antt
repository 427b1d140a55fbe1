-- What holds blocks, and what was printed in it.
use Rattle.std.specs.Prelude.{Bool, true, false, if◌then◌else◌}
use Rattle.engine_events.specs.Names.{same_name}
use Rattle.engine_events.specs.declared.event.Name.{Name}
use Rattle.engine_events.specs.declared.event.Name.TheVariants as n
use Rattle.compile_levels.specs.declared.kind.BlockKind.{BlockKind}
use Rattle.compile_levels.specs.declared.kind.BlockKind.TheVariants as k
use Rattle.compile_levels.specs.declared.level.Holder.{Holder}
use Rattle.compile_levels.specs.declared.level.Holder.TheVariants.{Document, Quote, Item, Footnote}
use Rattle.compile_levels.specs.declared.level.Level.{Level}

abbrev pub is_document : Holder → Bool
is_document Document = true
is_document holder = false

abbrev pub new_level : Holder → Bool → Level
new_level holder tight = record { holder = holder; tight = tight; plain = true; silent = false; begun = is_document holder }

-- the name of the child with which the content begins
abbrev pub start_of : Holder → Name
start_of Quote = n.BlockQuotePrefix
start_of Item = n.ListItemPrefix
start_of Footnote = n.GfmFootnoteDefinitionPrefix
start_of holder = n.ListItem

-- whether the content has begun with a child of this name
abbrev pub begins : Level → Name → Bool
begins level name = if level.begun then true else same_name name (start_of level.holder)

-- at a child of this name
abbrev pub begun_at : Level → Name → Level
begun_at level name = record level { begun = begins level name }

-- after a child
abbrev pub passed : Level → BlockKind → Level
passed level k.Other = level
passed level k.Ending = record level { silent = false }
passed level k.Blank = record level { silent = false }
passed level k.Definition = record level { silent = true }
passed level k.Footnote = record level { silent = true }
passed level k.Paragraph = record level { plain = level.tight; silent = level.tight }
passed level kind = record level { plain = false; silent = false }
