-- How a text begins.
use Rattle.std.specs.Prelude.{◌≡◌, ◌≢◌, ℕ, List, ◌∷◌, Option, None, Some}
use Rattle.markdown_options.specs.declared.line_ending.LineEnding.{LineEnding}
use Rattle.markdown_options.specs.declared.line_ending.LineEnding.TheVariants.{CarriageReturnLineFeed, CarriageReturn, LineFeed}
use Rattle.definition_text.specs.Ascii.{line_feed, carriage_return}

-- a text doesn't begin with this byte
abbrev pub BeginsOtherwise : ℕ → List ℕ → Type 0
BeginsOtherwise b text = (rest : List ℕ) → text ≢ b ∷ rest

-- a text begins with this ending and goes on with the rest; without an ending it doesn't begin with CR or LF
abbrev pub BeginsWithEnding : List ℕ → Option LineEnding → List ℕ → Type 0
BeginsWithEnding text None rest = (rest ≡ text) × BeginsOtherwise 10 text × BeginsOtherwise 13 text
BeginsWithEnding text (Some CarriageReturnLineFeed) rest = text ≡ carriage_return ∷ line_feed ∷ rest
BeginsWithEnding text (Some CarriageReturn) rest = (text ≡ carriage_return ∷ rest) × BeginsOtherwise 10 rest
BeginsWithEnding text (Some LineFeed) rest = text ≡ line_feed ∷ rest
