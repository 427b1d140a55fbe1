-- Lines among the codes of a text (CommonMark 2.1).
use Rattle.std.specs.Prelude.{◌≡◌, ℕ, Bool, true, false, not, ◌==◌, if◌then◌else◌, List, [], ◌∷◌, drop, Some}
use Rattle.std.specs.BTreeMap.{is_at}
use Rattle.std.specs.List.{prefix_len, take_while}
use Rattle.std.specs.Map.{lookup}
use Rattle.std.specs.Ordering.{nat_cmp}
use Rattle.definition_text.specs.Ascii.{line_feed}
use Rattle.definition_text.specs.Content.{is_eol}
use Rattle.definition_text.specs.Lines.{TextLine, in_first_line, text_line}
use Rattle.markdown_options.specs.declared.line_ending.LineEnding.TheVariants.{LineFeed}
use Rattle.engine_events.specs.declared.place.Point.{Point}
use Rattle.engine_programs.specs.Bodies.{has}
use Rattle.markdown_engine.specs.Reading.{byte_of}
use Rattle.markdown_engine.specs.VirtualText.{Source, Text, place_in, text_to}

-- a code that ends no line
abbrev pub is_inner : ℕ → Bool
is_inner code = not (is_eol code)

-- the codes up to the end of the line
abbrev pub line_of : List ℕ → List ℕ
line_of codes = take_while is_inner codes

-- the line ending and what follows it
abbrev pub after_line : List ℕ → List ℕ
after_line codes = drop (prefix_len is_inner codes) codes

abbrev pub is_filled : List ℕ → Bool
is_filled [] = false
is_filled (code ∷ codes) = true

-- the lines of codes
abbrev pub code_lines : List ℕ → List TextLine
code_lines [] = []
code_lines (code ∷ codes) = if is_eol code then text_line [] (Some LineFeed) ∷ code_lines codes else in_first_line code (code_lines codes)

-- a line ending follows the line
abbrev pub has_ending : List ℕ → Bool
has_ending codes = is_filled (after_line codes)

-- at a place the line ends, or the text
abbrev pub LineEnds : Text → Point → Type 0
LineEnds text p = has (λ b. not (b == line_feed)) (byte_of (text.byte (text.start p))) ≡ false

-- where reading goes on from a place is a place where it goes on: nothing is skipped twice
abbrev pub SkipsOnce : Text → Type 0
SkipsOnce text = (p : Point) → text.start (text.start p) ≡ text.start p

-- the place from which a line is read is a place where reading goes on
abbrev pub StaysAtSkips : Source → Type 0
StaysAtSkips s = (p q : Point) → lookup (is_at (nat_cmp p.index)) s.skips ≡ Some q → place_in s.skips q ≡ q

-- a text with such skips, or with none, skips nothing twice
abbrev pub SkipsOnceLaw : Type 0
SkipsOnceLaw = (s : Source) (to : ℕ × ℕ) → StaysAtSkips s → SkipsOnce (text_to s to)
