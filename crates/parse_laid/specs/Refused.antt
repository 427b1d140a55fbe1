-- Rows that aren't laid in the lines of a text.
use Rattle.std.specs.Prelude.{ℕ, List, [], ◌∷◌, None, Some, codes}
use Rattle.markdown_options.specs.Defaults.{default_constructs}
use Rattle.markdown_options.specs.declared.beside.Kind.TheVariants.{Whitespace}
use Rattle.markdown_options.specs.declared.line_ending.LineEnding.TheVariants.{LineFeed}
use Rattle.definition_text.specs.BlockLines.{spaced_line}
use Rattle.definition_text.specs.Lines.{lines}
use Rattle.definition_block.specs.Tree.{Paragraph, Leaf, Ending, Blank}
use Rattle.block_rows.specs.Rows.{BlockRow, Single, EnterQuote, Exit}
use Rattle.parse_laid.specs.Places.{Between, unread}
use Rattle.parse_laid.specs.Laid.{AreLaid}

-- rows that a text can't have, by the constructs of CommonMark
abbrev pub AreRefused : List ℕ → List BlockRow → Type 0
AreRefused text rows = AreLaid default_constructs [] (Between (unread Whitespace (lines text))) rows → ⊥

abbrev pub RefusedRows : Type 0
RefusedRows =
    -- `a`: the line has no row
    AreRefused (codes "a") []
    -- `a`: the line isn't blank
    × AreRefused (codes "a") (Single (Blank None) ∷ [])
    -- `# a`: a line of a paragraph begins no heading
    × AreRefused (codes "# a") (Single (Leaf (Paragraph (spaced_line (codes "# a") None ∷ []))) ∷ Single (Ending None) ∷ [])
    -- `>` and an empty line: the second isn't in the quote
    × AreRefused (codes ">\n\n") (EnterQuote ∷ Single (Blank (Some LineFeed)) ∷ Single (Blank (Some LineFeed)) ∷ Exit ∷ [])
