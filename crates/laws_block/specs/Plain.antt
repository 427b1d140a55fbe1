-- Texts without constructs: paragraphs and blank lines (CommonMark 4.8 and 4.9).
use Rattle.std.specs.Prelude.{Bool, true, false, not, ◌||◌}
use Rattle.markdown_options.specs.declared.configuration.Constructs.{Constructs}
use Rattle.definition_block.specs.Tree.{Block, Leaf, Paragraph, Ending, Blank}
use Rattle.laws_block.specs.Occurs.{Never}

-- some construct that makes blocks is on
abbrev pub has_blocks : Constructs → Bool
has_blocks on =
    on.block_quote || on.list_item || on.code_indented || on.code_fenced || on.math_flow || on.html_flow || on.thematic_break
    || on.gfm_table || on.definition || on.heading_atx || on.heading_setext || on.gfm_footnote_definition

-- a paragraph, or an ending
abbrev pub is_plain : Block → Bool
is_plain (Leaf (Paragraph ls)) = true
is_plain (Ending ending) = true
is_plain (Blank ending) = true
is_plain b = false

-- where all of these constructs are off, a text has only paragraphs and endings
abbrev pub OnlyPlain : Type 0
OnlyPlain = Never has_blocks (λ b. not (is_plain b))
