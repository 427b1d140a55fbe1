-- The laws of a text with `> ` before every line.
use Rattle.std.specs.Prelude.{◌≡◌, ◌≢◌, ℕ, true, false, List, [], ◌∷◌, map}
use Rattle.std.specs.List.{All}
use Rattle.std.specs.Fn.{iterate}
use Rattle.markdown_options.specs.declared.configuration.Constructs.{Constructs}
use Rattle.definition_text.specs.Ascii.{tab, space, greater_than}
use Rattle.markdown_options.specs.declared.beside.Kind.{Kind}
use Rattle.markdown_options.specs.declared.beside.Kind.TheVariants.{Whitespace}
use Rattle.definition_block.specs.Container.{Quote}
use Rattle.definition_text.specs.Lines.{TextLine, text_line, lines}
use Rattle.definition_block.specs.Tree.{Blocks, Holds, join, one, without_last, last_of, blocks}
use Rattle.definition_block.specs.Definitions.{definitions}
use Rattle.laws_quote.specs.Quoted.{quote_lines}

-- a line with the same ending, and `> ` before its content
abbrev pub quoted_line : TextLine → TextLine
quoted_line line = text_line (greater_than ∷ space ∷ line.content) line.ending

-- the lines of the text with `> ` before every line are the text's, each with `> ` before its content
abbrev pub QuotedLinesLaw : Type 0
QuotedLinesLaw = (text : List ℕ) → lines (quote_lines text) ≡ map quoted_line (lines text)

-- no byte is a tab
abbrev pub HasNoTab : List ℕ → Type 0
HasNoTab text = All (λ b. b ≢ tab) text

-- one quote, which holds these
abbrev pub quote_of : Blocks → Blocks
quote_of kids = one (Holds Quote kids)

-- without frontmatter the blocks of a text are in one quote, where `> ` stands before every line, whatever character stands before that;
-- the ending of the last line stands after it
abbrev pub QuoteLaw : Type 0
QuoteLaw =
    (on : Constructs) (before : Kind) (text : List ℕ) → on.block_quote ≡ true → on.frontmatter ≡ false → text ≢ [] → HasNoTab text
    → let kids = blocks on Whitespace text in blocks on before (quote_lines text) ≡ join (quote_of (without_last kids)) (last_of kids)

-- the same where `> ` stands n times before every line: the blocks are in n quotes, one in another
abbrev pub QuotesLaw : Type 0
QuotesLaw =
    (on : Constructs) (text : List ℕ) (n : ℕ) → on.block_quote ≡ true → on.frontmatter ≡ false → text ≢ [] → HasNoTab text
    → let kids = blocks on Whitespace text in blocks on Whitespace (iterate quote_lines n text) ≡ join (iterate quote_of n (without_last kids)) (last_of kids)

-- the link reference definitions are the same in a quote
abbrev pub QuoteDefinitionsLaw : Type 0
QuoteDefinitionsLaw =
    (on : Constructs) (before : Kind) (text : List ℕ) → on.block_quote ≡ true → on.frontmatter ≡ false → HasNoTab text
    → definitions (blocks on before (quote_lines text)) ≡ definitions (blocks on Whitespace text)
