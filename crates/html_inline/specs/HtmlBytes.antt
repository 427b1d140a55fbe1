-- Raw HTML, line by line.
use Rattle.std.specs.Prelude.{◌≡◌, ◌<◌, ◌++◌, ℕ, Bool, false, List, [], ◌∷◌, length}
use Rattle.markdown_compile_options.specs.declared.configuration.CompileOptions.{CompileOptions}
use Rattle.markdown_options.specs.declared.line_ending.LineEnding.{LineEnding}
use Rattle.markdown_options.specs.LineEndings.{ending_bytes}
use Rattle.definition_text.specs.Content.{content_codes, line_ending_code}
use Rattle.definition_page.specs.InlinePieces.{HtmlLine, html_line_says, later_line_says}
use Rattle.html_bytes.specs.InlineHtml.{say_bytes}
use Rattle.definition_inline.specs.Strings.{begins_with_eol}

-- what the first of these lines prints, in the description of an image or not
abbrev pub first_bytes : Bool → CompileOptions → List HtmlLine → List ℕ
first_bytes described options [] = []
first_bytes described options (first ∷ others) = say_bytes (html_line_says described options first.line first.ending)

-- what a later one prints
abbrev pub later_bytes : Bool → CompileOptions → HtmlLine → List ℕ
later_bytes described options line = say_bytes (later_line_says described options line)

-- a line ending that a text begins with
pub record Ends (text rest : List ℕ) : Type 0 where
  pub ending : LineEnding
  pub codes : content_codes text ≡ line_ending_code ending ∷ content_codes rest
  pub shorter : length rest < length text

-- a text that begins with a line ending, which is printed, or one that begins with none
pub data PrintsEnding (text rest before after : List ℕ) : Type 0 where
  ends : (e : Ends text rest) → after ≡ before ++ ending_bytes e.ending → PrintsEnding text rest before after
  goes_on : begins_with_eol (content_codes text) ≡ false → rest ≡ text → after ≡ before → PrintsEnding text rest before after
