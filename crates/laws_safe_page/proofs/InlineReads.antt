-- In the inline structure of every content the codes of line endings are those of endings.
use Rattle.std.proofs.Common.{List}
use Rattle.markdown_options.specs.declared.configuration.Constructs.{Constructs}
use Rattle.definition_text.specs.InlineCode.{InlineCode}
use Rattle.definition_inline.specs.Inline.{LineEnd, Inline, Leaf}
use Rattle.definition_inline.specs.Scan.{InlineContext, inlines, inlines_from, without_indent}
use Rattle.definition_inline.proofs.EachPart.{each_gives}
use Rattle.definition_inline.proofs.MayStand.{Stands, may_stand}
use Rattle.laws_safe_page.proofs.InlineAdds.{EndsLine, AllEndLines}

ends_line : (on : Constructs) (i : Inline) → Stands on i → EndsLine i
ends_line on (Leaf (LineEnd code)) e = e
ends_line on i e = tt

-- the inline structure of a content from a place on
pub from_ends : (context : InlineContext) (content : List InlineCode) → AllEndLines (inlines_from context content)
from_ends context content =
    let on = context.options.constructs in each_gives (Stands on) EndsLine (ends_line on) (inlines_from context content) (may_stand context content)

pub inlines_end : (context : InlineContext) (content : List InlineCode) → AllEndLines (inlines context content)
inlines_end context content = from_ends context (without_indent content)
