-- The law of the page of a text with `+ ` before its first line and two spaces before every other.
use Rattle.std.specs.Prelude.{◌≡◌, ℕ, true, false, List, ◌++◌, codes}
use Rattle.markdown_options.specs.declared.configuration.Constructs.{Constructs}
use Rattle.markdown_compile_options.specs.RawHtml.{keeps_listed_html}
use Rattle.markdown_compile_options.specs.declared.configuration.Options.{Options}
use Rattle.markdown_options.specs.declared.beside.Kind.TheVariants.{Whitespace}
use Rattle.definition_text.specs.Lines.{first_line, has_mark}
use Rattle.definition_block.specs.Tree.{blocks}
use Rattle.definition_block.specs.Lists.{group_items}
use Rattle.definition_page.specs.TextTables.{TextTables}
use Rattle.definition_page.specs.PrintedPage.{printed_page}
use Rattle.markdown_definition.specs.Html.{html}
use Rattle.laws_block.specs.Looseness.{AreApart, SomeAre}
use Rattle.laws_quote.specs.Laws.{HasNoTab}
use Rattle.laws_quote.specs.Squeeze.{squeeze}
use Rattle.laws_list.specs.Listed.{list_lines}
use Rattle.laws_list.specs.Laws.{begins_dark}

-- some two neighbouring blocks at the top of a text, items put into lists, have a line between them
abbrev pub HasGap : List ℕ → Constructs → Type 0
HasGap text on = SomeAre (AreApart on) (group_items (blocks on Whitespace text))

-- a text that is read in an item of a loose list as it is alone: its first line begins with something other than a space, it has no tab and no byte
-- order mark, and some two of its blocks have a line between them; items are on, frontmatter, footnote definitions and task list items off
abbrev pub IsListable : List ℕ → Constructs → Type 0
IsListable text on =
    (begins_dark (first_line text).content ≡ true) × HasNoTab text × (has_mark text ≡ false) × (on.list_item ≡ true) × (on.frontmatter ≡ false)
    × (on.gfm_footnote_definition ≡ false) × (on.gfm_task_list_item ≡ false) × HasGap text on

-- the page of a list of one item around a page
abbrev pub list_around : List ℕ → List ℕ
list_around page = codes "<ul><li>" ++ page ++ codes "</li></ul>"

-- with `+ ` before its first line and two spaces before every other, a text prints a list of one item around what it prints alone, but for line
-- endings beside tags; where raw HTML is kept by the list of tags, it stands as text in elements without a name on both pages
abbrev pub PrintedListLaw : Type 0
PrintedListLaw =
    (tables : TextTables) (text : List ℕ) (options : Options) → IsListable text options.parse.constructs
    → squeeze (printed_page tables (list_lines text) options) ≡ squeeze (list_around (printed_page tables text options))

-- where raw HTML isn't kept by the list of tags, the HTML of such a text is a list of one item around the HTML of the text alone, but for line endings
-- beside tags
abbrev pub ListPageLaw : Type 0
ListPageLaw =
    (tables : TextTables) (text : List ℕ) (options : Options) → keeps_listed_html options.compile ≡ false → IsListable text options.parse.constructs
    → squeeze (html tables (list_lines text) options) ≡ squeeze (list_around (html tables text options))
