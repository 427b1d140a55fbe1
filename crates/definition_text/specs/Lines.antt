-- The lines of a text: what each holds, and what ends it (CommonMark 2.1).
use Rattle.std.specs.Prelude.{ℕ, Bool, false, if◌then◌else◌, ◌==◌, ◌&&◌, ◌||◌, List, [], ◌∷◌, Option, None, Some, drop}
use Rattle.markdown_options.specs.declared.line_ending.LineEnding.{LineEnding}
use Rattle.markdown_options.specs.declared.line_ending.LineEnding.TheVariants.{CarriageReturnLineFeed, CarriageReturn, LineFeed}
use Rattle.markdown_options.specs.LineEndings.{ending_bytes}
use Rattle.definition_text.specs.Ascii.{line_feed, carriage_return}
use Rattle.markdown_options.specs.declared.beside.Kind.{Kind}
use Rattle.markdown_options.specs.declared.beside.Kind.TheVariants.{Whitespace, Other}

-- a line: the bytes before its ending, and the ending, which a text's last line may lack
pub record TextLine : Type 0 where
  pub content : List ℕ
  pub ending : Option LineEnding

abbrev pub text_line : List ℕ → Option LineEnding → TextLine
text_line content ending = record { content = content; ending = ending }

-- a byte that ends no line is before these lines
abbrev pub in_first_line : ℕ → List TextLine → List TextLine
in_first_line b [] = text_line (b ∷ []) None ∷ []
in_first_line b (line ∷ others) = text_line (b ∷ line.content) line.ending ∷ others

-- a CR is before these bytes, whose lines are given: with an LF right after it, it is one ending
abbrev pub after_return : List ℕ → List TextLine → List TextLine
after_return [] others = text_line [] (Some CarriageReturn) ∷ others
after_return (b ∷ bs) others =
    if b == line_feed then text_line [] (Some CarriageReturnLineFeed) ∷ drop 1 others
    else text_line [] (Some CarriageReturn) ∷ others

-- the lines of a text: an ending is CR LF, a CR without LF after it, or LF, and no line follows a last ending
abbrev pub lines : List ℕ → List TextLine
lines [] = []
lines (b ∷ bs) =
    if b == line_feed then text_line [] (Some LineFeed) ∷ lines bs
    else (if b == carriage_return then after_return bs (lines bs) else in_first_line b (lines bs))

-- a byte that begins an ending
abbrev pub ends_line : ℕ → Bool
ends_line b = (b == line_feed) || (b == carriage_return)

-- the bytes of an ending, if there is one
abbrev pub ending_text : Option LineEnding → List ℕ
ending_text None = []
ending_text (Some e) = ending_bytes e

-- the bytes EF BB BF at the start of a text are a byte order mark
abbrev pub has_mark : List ℕ → Bool
has_mark (a ∷ b ∷ c ∷ others) = (a == 239) && (b == 187) && (c == 191)
has_mark bytes = false

-- it is skipped
abbrev pub without_mark : List ℕ → List ℕ
without_mark bytes = if has_mark bytes then drop 3 bytes else bytes

-- but it is the character before the first line; the start of a text is whitespace there (CommonMark 6.2)
abbrev pub kind_before_text : List ℕ → Kind
kind_before_text bytes = if has_mark bytes then Other else Whitespace

-- the first line of a text; of the empty text an empty one
abbrev pub first_of : List TextLine → TextLine
first_of [] = text_line [] None
first_of (line ∷ others) = line

abbrev pub first_line : List ℕ → TextLine
first_line text = first_of (lines text)
