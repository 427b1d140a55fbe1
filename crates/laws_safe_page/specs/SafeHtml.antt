-- The HTML of a text is a safe page.
use Rattle.std.specs.Prelude.{◌≡◌, ℕ, true, false, if◌then◌else◌, ◌||◌, List, None}
use Rattle.std.specs.Option.{is_some}
use Rattle.markdown_compile_options.specs.RawHtml.{keeps_listed_html}
use Rattle.markdown_compile_options.specs.declared.configuration.CompileOptions.{CompileOptions}
use Rattle.markdown_compile_options.specs.declared.configuration.Options.{Options}
use Rattle.definition_page.specs.TextTables.{TextTables}
use Rattle.definition_page.specs.PrintedPage.{printed_page}
use Rattle.markdown_definition.specs.Html.{html}
use Rattle.html_safe_page.specs.declared.table.TagTable.{TagTable}
use Rattle.html_safe_page.specs.declared.table.TagTable.TheVariants.{Basic, Extended}
use Rattle.html_safe_page.specs.SafePage.{Items, IsReadingBy}
use Rattle.html_listed.specs.Laws.{HasOneListedReading, IsMixedPage}
use Rattle.html_listed.specs.MarkedPage.{IsMarkedPage}
use Rattle.html_listed.specs.Mixed.{tags_of}

-- options that print no raw HTML as it is and no URL of another protocol, nor a tag name or attributes for the heading of footnotes
pub record AreSafe (options : CompileOptions) : Type 0 where
  pub no_html : options.allow_dangerous_html ≡ false
  pub no_protocol : options.allow_dangerous_protocol ≡ false
  pub no_source : options.allow_any_img_src ≡ false
  pub no_tag_name : options.gfm_footnote_label_tag_name ≡ None
  pub no_attributes : options.gfm_footnote_label_attributes ≡ None

-- the tags of pages under these options: the basic ones, unless headings have ids, links a `rel`, or images are lazy
abbrev pub table_of : CompileOptions → TagTable
table_of options = if options.heading_ids || (is_some options.link_rel || options.lazy_images) then Extended else Basic

-- a page has a reading as a safe page by a table, and no other
pub record HasOneReadingBy (table : TagTable) (page : List ℕ) : Type 0 where
  pub items : Items
  pub is_reading : IsReadingBy table page items
  pub is_only : (other : Items) → IsReadingBy table page other → other ≡ items

-- and by the basic table
abbrev pub HasOneReading : List ℕ → Type 0
HasOneReading page = HasOneReadingBy Basic page

-- under safe options that keep no raw HTML the HTML of every text, by any tables, is a safe page by the table of the options
abbrev pub SafePageLaw : Type 0
SafePageLaw =
    (tables : TextTables) (text : List ℕ) (options : Options) → AreSafe options.compile → keeps_listed_html options.compile ≡ false
    → HasOneReadingBy (table_of options.compile) (html tables text options)

-- and by the extended table whatever the other options are
abbrev pub ExtendedPageLaw : Type 0
ExtendedPageLaw =
    (tables : TextTables) (text : List ℕ) (options : Options) → AreSafe options.compile → keeps_listed_html options.compile ≡ false
    → HasOneReadingBy Extended (html tables text options)

-- ---- with raw HTML that is kept by the list

-- under safe options the page of every text as it is printed is a safe page, in which raw HTML may stand as text in elements without a name
abbrev pub MarkedPageLaw : Type 0
MarkedPageLaw =
    (tables : TextTables) (text : List ℕ) (options : Options) → AreSafe options.compile
    → IsMarkedPage (table_of options.compile) (printed_page tables text options)

-- the HTML of every text is a safe page with tags of the list, whether raw HTML is kept or not, and has one reading as such
abbrev pub ListedPageLaw : Type 0
ListedPageLaw =
    (tables : TextTables) (text : List ℕ) (options : Options) → AreSafe options.compile
    → HasOneListedReading (table_of options.compile) (html tables text options)

-- where raw HTML is kept, the HTML has the tags of the page as it is printed, in their order and one in the other as they were; the others are raw tags of the
-- list, and all stand where they may
abbrev pub StandingPageLaw : Type 0
StandingPageLaw =
    (tables : TextTables) (text : List ℕ) (options : Options) → AreSafe options.compile → keeps_listed_html options.compile ≡ true
    → (printed : IsMarkedPage (table_of options.compile) (printed_page tables text options))
    → IsMixedPage (table_of options.compile) (tags_of printed.0) (html tables text options)
