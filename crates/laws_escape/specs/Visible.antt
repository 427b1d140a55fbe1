-- The laws of the definition.
use Rattle.std.specs.Prelude.{◌≡◌, ℕ, ◌<◌, Bool, true, false, not, if◌then◌else◌, ◌==◌, ◌||◌, List, [], ◌∷◌, ◌++◌}
use Rattle.std.specs.List.{All, filter, flat_map}
use Rattle.markdown_compile_options.specs.RawHtml.{keeps_listed_html}
use Rattle.markdown_compile_options.specs.declared.configuration.Options.{Options}
use Rattle.markdown_options.specs.Defaults.{no_constructs}
use Rattle.definition_text.specs.Ascii.{line_feed, carriage_return, less_than, greater_than}
use Rattle.definition_text.specs.Lines.{TextLine, lines, without_mark}
use Rattle.definition_text.specs.Columns.{whole, is_blank, block_codes, trim}
use Rattle.definition_text.specs.Encode.{encode}
use Rattle.definition_page.specs.TextTables.{TextTables}
use Rattle.definition_page.specs.PrintedPage.{printed_page}
use Rattle.markdown_definition.specs.Html.{html}

-- what a byte outside of tags shows: itself, but `<`, CR and LF show nothing
abbrev pub visible_byte : ℕ → List ℕ
visible_byte b = if (b == less_than) || ((b == line_feed) || (b == carriage_return)) then [] else b ∷ []

-- what stands in a page outside of tags and line endings; the `Bool` says that a tag is open, which ends with `>`
abbrev pub visible : Bool → List ℕ → List ℕ
visible in_tag [] = []
visible true (b ∷ bs) = visible (not (b == greater_than)) bs
visible false (b ∷ bs) = visible_byte b ++ visible (b == less_than) bs

-- whether a line has more than spaces and tabs
abbrev pub is_not_blank : TextLine → Bool
is_not_blank line = not (is_blank (whole line.content))

-- what a line says: its content, trimmed and encoded
abbrev pub said_by : TextLine → List ℕ
said_by line = encode (trim (block_codes (whole line.content)))

-- what the lines say that aren't blank, joined
abbrev pub all_said_by : List TextLine → List ℕ
all_said_by ls = flat_map said_by (filter is_not_blank ls)

-- where every construct is off, the page of a text of bytes as it is printed shows what its nonblank lines say, and nothing else
abbrev pub PrintedVisibleLaw : Type 0
PrintedVisibleLaw =
    (tables : TextTables) (text : List ℕ) (options : Options) → All (λ b. b < 256) text → options.parse.constructs ≡ no_constructs
    → visible false (printed_page tables text options) ≡ all_said_by (lines (without_mark text))

-- where raw HTML isn't kept by the list, either, the HTML of the text shows as much
abbrev pub VisibleLaw : Type 0
VisibleLaw =
    (tables : TextTables) (text : List ℕ) (options : Options) → keeps_listed_html options.compile ≡ false → All (λ b. b < 256) text
    → options.parse.constructs ≡ no_constructs → visible false (html tables text options) ≡ all_said_by (lines (without_mark text))
