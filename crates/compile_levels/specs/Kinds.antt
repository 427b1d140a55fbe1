-- Which block an event is.
use Rattle.std.specs.Prelude.{if◌then◌else◌, ◌||◌}
use Rattle.engine_events.specs.Names.{same_name}
use Rattle.engine_events.specs.declared.event.Name.{Name}
use Rattle.engine_events.specs.declared.event.Name.TheVariants as n
use Rattle.compile_levels.specs.declared.kind.BlockKind.{BlockKind}
use Rattle.compile_levels.specs.declared.kind.BlockKind.TheVariants as k

-- a container, a list or an item
abbrev pub container_kind : Name → BlockKind
container_kind name =
    if same_name name n.BlockQuote then k.Quote
    else (if same_name name n.ListUnordered then k.UnorderedList
    else (if same_name name n.ListOrdered then k.OrderedList
    else (if same_name name n.ListItem then k.Item
    else (if same_name name n.GfmFootnoteDefinition then k.Footnote
    else k.Other))))

abbrev pub kind_of : Name → BlockKind
kind_of name =
    if same_name name n.LineEnding then k.Ending
    else (if same_name name n.BlankLineEnding then k.Blank
    else (if same_name name n.Paragraph then k.Paragraph
    else (if same_name name n.HeadingAtx then k.HeadingAtx
    else (if same_name name n.HeadingSetext then k.HeadingSetext
    else (if same_name name n.ThematicBreak then k.ThematicBreak
    else (if same_name name n.CodeIndented then k.CodeIndented
    else (if same_name name n.CodeFenced then k.CodeFenced
    else (if same_name name n.MathFlow then k.MathFlow
    else (if same_name name n.HtmlFlow then k.HtmlFlow
    else (if same_name name n.GfmTable then k.Table
    else (if same_name name n.Definition || same_name name n.Frontmatter then k.Definition
    else container_kind name)))))))))))
