-- The page of a text after its byte order mark is the page of the text, and keeps the laws of pages.
use Rattle.std.proofs.Common.{◌≡◌, ℕ, false, List, ap, sym, ◌∙◌, subst}
use Rattle.markdown_compile_options.specs.RawHtml.{keeps_listed_html}
use Rattle.markdown_compile_options.specs.declared.configuration.Options.{Options}
use Rattle.markdown_options.specs.declared.beside.Kind.{Kind}
use Rattle.definition_text.specs.Lines.{kind_before_text, without_mark}
use Rattle.definition_page.specs.PrintedPage.{printed_page}
use Rattle.markdown_definition.specs.Html.{html}
use Rattle.markdown_definition.specs.TextTables.{TextTables}
use Rattle.html_bytes.specs.Html.{marked_html}
use Rattle.html_bytes.proofs.SamePage.{html_is}
use Rattle.html_listed.specs.Laws.{HasOneListedReading}
use Rattle.laws_safe_page.specs.SafeHtml.{AreSafe, HasOneReadingBy, table_of}
use Rattle.laws_safe_page.proofs.SafeHtml.{listed_page_law, safe_page_law}
use Rattle.laws_quote.specs.Squeeze.{squeeze}
use Rattle.laws_quote.proofs.PageLaw.{quote_page_law}
use Rattle.laws_list.proofs.PageLaw.{list_page_law}
use Rattle.laws_endings.proofs.PageLaw.{ending_page_law}
use Rattle.laws_escape.proofs.EscapedPage.{escaped_page_law}
use Rattle.markdown.specs.PageLaws.{QuotesPage, SaysEscapedLine, EndsPage, ListsPage}

pub marked_page : (tables : TextTables) (options : Options) (text : List ℕ) (before : Kind) (rest page : List ℕ)
    → before ≡ kind_before_text text → rest ≡ without_mark text → page ≡ marked_html tables before rest options → page ≡ printed_page tables text options
marked_page tables options text before rest page kind left is =
    is
    ∙ ap (λ k. marked_html tables k rest options) kind
    ∙ ap (λ t. marked_html tables (kind_before_text text) t options) left
    ∙ sym (html_is tables text options)

pub safe_page : (tables : TextTables) (options : Options) (text page : List ℕ) → page ≡ html tables text options → AreSafe options.compile
    → keeps_listed_html options.compile ≡ false → HasOneReadingBy (table_of options.compile) page
safe_page tables options text page is safe off = subst (HasOneReadingBy (table_of options.compile)) (sym is) (safe_page_law tables text options safe off)

pub listed_page : (tables : TextTables) (options : Options) (text page : List ℕ) → page ≡ html tables text options → AreSafe options.compile
    → HasOneListedReading (table_of options.compile) page
listed_page tables options text page is safe = subst (HasOneListedReading (table_of options.compile)) (sym is) (listed_page_law tables text options safe)

pub quotes_page : (tables : TextTables) (options : Options) (value page : List ℕ) → page ≡ html tables value options → QuotesPage tables options value page
quotes_page tables options value page is text same off quotable =
    ap squeeze (is ∙ ap (λ t. html tables t options) same) ∙ quote_page_law tables text options off quotable

pub says_escaped_line : (tables : TextTables) (options : Options) (value page : List ℕ) → page ≡ html tables value options
    → SaysEscapedLine options value page
says_escaped_line tables options value page is line same escapes some trimmed no_mark =
    is ∙ ap (λ t. html tables t options) same ∙ escaped_page_law tables line options escapes some trimmed no_mark

pub ends_page : (tables : TextTables) (options : Options) (value page : List ℕ) → page ≡ html tables value options → EndsPage tables options value page
ends_page tables options value page is e text same off feeds notes =
    is ∙ ap (λ t. html tables t options) same ∙ ending_page_law e tables text options off feeds notes

pub lists_page : (tables : TextTables) (options : Options) (value page : List ℕ) → page ≡ html tables value options → ListsPage tables options value page
lists_page tables options value page is text same off listable =
    ap squeeze (is ∙ ap (λ t. html tables t options) same) ∙ list_page_law tables text options off listable
