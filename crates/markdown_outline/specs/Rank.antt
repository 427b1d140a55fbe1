-- Headings as they are on the page (CommonMark 4.2 and 4.3).
use Rattle.std.specs.Prelude.{ℕ, Bool, ◌||◌, if◌then◌else◌, List, []}
use Rattle.engine_events.specs.Names.{same_name}
use Rattle.engine_events.specs.declared.event.Name.{Name}
use Rattle.engine_events.specs.declared.event.Name.TheVariants as n
use Rattle.definition_inline.specs.CharacterReference.{Names}
use Rattle.definition_page.specs.Page.{PageLeaf, Heading}
use Rattle.event_grammar.specs.Trees.{Nodes}
use Rattle.event_meaning.specs.Blocks.{heading_atx_of, heading_setext_of}
use Rattle.html_heading_text.specs.HeadingLines.{heading_lines}

abbrev pub is_heading : Name → Bool
is_heading name = same_name name n.HeadingAtx || same_name name n.HeadingSetext

-- the heading of the page that an event of this name spells, by the events in it
abbrev pub page_heading : Names → List ℕ → Name → Nodes → PageLeaf
page_heading names bytes name kids = if same_name name n.HeadingAtx then heading_atx_of names bytes kids else heading_setext_of names bytes kids

abbrev pub rank_of : PageLeaf → ℕ
rank_of (Heading rank is) = rank
rank_of leaf = 0

-- what it says
abbrev pub said_by : PageLeaf → List ℕ
said_by (Heading rank is) = heading_lines is
said_by leaf = []
