-- What the calls promise of a page besides that it is the definition's.
use Rattle.std.specs.Prelude.{◌≡◌, ◌≢◌, ℕ, true, false, List, [], ◌++◌, codes}
use Rattle.markdown_options.specs.declared.line_ending.LineEnding.{LineEnding}
use Rattle.markdown_compile_options.specs.RawHtml.{keeps_listed_html}
use Rattle.markdown_compile_options.specs.declared.configuration.Options.{Options}
use Rattle.definition_text.specs.Encode.{encode}
use Rattle.definition_text.specs.Lines.{has_mark}
use Rattle.markdown_definition.specs.Html.{html}
use Rattle.markdown_definition.specs.TextTables.{TextTables}
use Rattle.laws_list.specs.Listed.{list_lines}
use Rattle.laws_list.specs.PageLaws.{IsListable, list_around}
use Rattle.laws_endings.specs.Endings.{with_ending}
use Rattle.laws_endings.specs.PageLaws.{EndsInFeeds, OptionsHoldNoFeed}
use Rattle.laws_escape.specs.Escaped.{with_backslashes, IsTrimmedLine}
use Rattle.laws_quote.specs.Quoted.{quote_lines}
use Rattle.laws_quote.specs.PageLaws.{IsQuotable, quote_around}
use Rattle.laws_quote.specs.Squeeze.{squeeze}

-- where raw HTML isn't kept by the list, the page of a text with `> ` before every line is a block quote around the page of that text, but for line endings
-- beside tags
abbrev pub QuotesPage : TextTables → Options → List ℕ → List ℕ → Type 0
QuotesPage tables options value page =
    (text : List ℕ) → value ≡ quote_lines text → keeps_listed_html options.compile ≡ false → IsQuotable text options.parse.constructs
    → squeeze page ≡ squeeze (quote_around (html tables text options))

-- the page of an escaped line is a paragraph that says the line, where escapes are on
abbrev pub SaysEscapedLine : Options → List ℕ → List ℕ → Type 0
SaysEscapedLine options value page =
    (line : List ℕ) → value ≡ with_backslashes line → options.parse.constructs.character_escape ≡ true → line ≢ [] → IsTrimmedLine line → has_mark line ≡ false
    → page ≡ codes "<p>" ++ encode line ++ codes "</p>"

-- where raw HTML isn't kept by the list, the page of a text with a line ending in place of each LF is the page of that text with that ending in place of
-- each LF, where what the options say on a page holds no LF
abbrev pub EndsPage : TextTables → Options → List ℕ → List ℕ → Type 0
EndsPage tables options value page =
    (e : LineEnding) (text : List ℕ) → value ≡ with_ending e text → keeps_listed_html options.compile ≡ false → EndsInFeeds text
    → OptionsHoldNoFeed options
    → page ≡ with_ending e (html tables text options)

-- where raw HTML isn't kept by the list, the page of a text with `+ ` before its first line and two spaces before every other is a list of one item around
-- the page of that text, but for line endings beside tags
abbrev pub ListsPage : TextTables → Options → List ℕ → List ℕ → Type 0
ListsPage tables options value page =
    (text : List ℕ) → value ≡ list_lines text → keeps_listed_html options.compile ≡ false → IsListable text options.parse.constructs
    → squeeze page ≡ squeeze (list_around (html tables text options))
