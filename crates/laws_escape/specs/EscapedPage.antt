-- The page of a line in which everything that might mean something is escaped (CommonMark 2.4).
use Rattle.std.specs.Prelude.{◌≡◌, ◌≢◌, ℕ, true, false, List, [], ◌++◌, codes}
use Rattle.markdown_compile_options.specs.declared.configuration.Options.{Options}
use Rattle.definition_text.specs.Encode.{encode}
use Rattle.definition_text.specs.Lines.{has_mark}
use Rattle.definition_page.specs.TextTables.{TextTables}
use Rattle.definition_page.specs.PrintedPage.{printed_page}
use Rattle.markdown_definition.specs.Html.{html}
use Rattle.laws_escape.specs.Escaped.{with_backslashes, IsTrimmedLine}

-- a paragraph that says a line
abbrev pub paragraph_of : List ℕ → List ℕ
paragraph_of line = codes "<p>" ++ encode line ++ codes "</p>"

-- a line that isn't empty, has no tab, no space at either end and no byte order mark at its front, escaped: its page as it is printed is a paragraph that
-- says the line, whatever is on besides escapes
abbrev pub PrintedEscapedLaw : Type 0
PrintedEscapedLaw =
    (tables : TextTables) (line : List ℕ) (options : Options) → options.parse.constructs.character_escape ≡ true
    → line ≢ [] → IsTrimmedLine line → has_mark line ≡ false
    → printed_page tables (with_backslashes line) options ≡ paragraph_of line

-- the same of its HTML, by all options of printing
abbrev pub EscapedPageLaw : Type 0
EscapedPageLaw =
    (tables : TextTables) (line : List ℕ) (options : Options) → options.parse.constructs.character_escape ≡ true
    → line ≢ [] → IsTrimmedLine line → has_mark line ≡ false
    → html tables (with_backslashes line) options ≡ paragraph_of line
