-- The law of the page of a text with `> ` before every line.
use Rattle.std.specs.Prelude.{◌≡◌, ◌≢◌, ℕ, true, false, List, [], ◌++◌, codes}
use Rattle.std.specs.Fn.{iterate}
use Rattle.markdown_options.specs.declared.configuration.Constructs.{Constructs}
use Rattle.markdown_compile_options.specs.RawHtml.{keeps_listed_html}
use Rattle.markdown_compile_options.specs.declared.configuration.Options.{Options}
use Rattle.definition_text.specs.Lines.{has_mark}
use Rattle.definition_page.specs.TextTables.{TextTables}
use Rattle.definition_page.specs.PrintedPage.{printed_page}
use Rattle.markdown_definition.specs.Html.{html}
use Rattle.laws_quote.specs.Quoted.{quote_lines}
use Rattle.laws_quote.specs.Laws.{HasNoTab}
use Rattle.laws_quote.specs.Squeeze.{squeeze}

-- a text that is read in a quote as it is alone: it has a byte, no tab and no byte order mark; block quotes are on, frontmatter
-- and footnote definitions off
abbrev pub IsQuotable : List ℕ → Constructs → Type 0
IsQuotable text on =
    (text ≢ []) × HasNoTab text × (has_mark text ≡ false) × (on.block_quote ≡ true) × (on.frontmatter ≡ false)
    × (on.gfm_footnote_definition ≡ false)

-- the page of a block quote around a page
abbrev pub quote_around : List ℕ → List ℕ
quote_around page = codes "<blockquote>" ++ page ++ codes "</blockquote>"

-- with `> ` before every line, a text prints a block quote around what it prints alone, but for line endings beside tags; where raw HTML is kept by the list,
-- it stands as text in elements without a name on both pages
abbrev pub PrintedQuoteLaw : Type 0
PrintedQuoteLaw =
    (tables : TextTables) (text : List ℕ) (options : Options) → IsQuotable text options.parse.constructs
    → squeeze (printed_page tables (quote_lines text) options) ≡ squeeze (quote_around (printed_page tables text options))

-- the same where `> ` stands n times before every line: n block quotes, one in another
abbrev pub PrintedQuotesLaw : Type 0
PrintedQuotesLaw =
    (tables : TextTables) (text : List ℕ) (options : Options) (n : ℕ) → IsQuotable text options.parse.constructs
    → squeeze (printed_page tables (iterate quote_lines n text) options) ≡ squeeze (iterate quote_around n (printed_page tables text options))

-- where raw HTML isn't kept by the list, the HTML of a text with `> ` before every line is a block quote around the HTML of the text, but for line endings
-- beside tags
abbrev pub QuotePageLaw : Type 0
QuotePageLaw =
    (tables : TextTables) (text : List ℕ) (options : Options) → keeps_listed_html options.compile ≡ false → IsQuotable text options.parse.constructs
    → squeeze (html tables (quote_lines text) options) ≡ squeeze (quote_around (html tables text options))

-- the same where `> ` stands n times before every line
abbrev pub QuotePagesLaw : Type 0
QuotePagesLaw =
    (tables : TextTables) (text : List ℕ) (options : Options) (n : ℕ) → keeps_listed_html options.compile ≡ false
    → IsQuotable text options.parse.constructs
    → squeeze (html tables (iterate quote_lines n text) options) ≡ squeeze (iterate quote_around n (html tables text options))

-- what is dropped is a whole run at the start or the end, after `>` or before `<`, and no other
abbrev pub SqueezeRows : Type 0
SqueezeRows =
    (squeeze (codes "\n<p>a\nb</p>\n") ≡ codes "<p>a\nb</p>")
    × (squeeze (codes "<pre><code>\n\na\r\n\r\nb\n\n</code></pre>") ≡ codes "<pre><code>a\r\n\r\nb</code></pre>")
    × (squeeze (codes "a > \nb\n <c") ≡ codes "a > \nb\n <c")
    × (squeeze (codes ">\r\n\ra\n\r<\n") ≡ codes ">a<")
    × (squeeze (codes "\n\r") ≡ [])
    × (squeeze [] ≡ [])
