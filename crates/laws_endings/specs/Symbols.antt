-- What the codes of the contents of a text stand for: symbols (CommonMark 2.1 and 2.2).
use Rattle.std.specs.Prelude.{◌≡◌, ◌<◌, ℕ, true, List, [], ◌∷◌, ◌++◌}
use Rattle.std.specs.List.{All}
use Rattle.markdown_options.specs.declared.configuration.Constructs.{Constructs}
use Rattle.markdown_options.specs.declared.beside.Kind.{Kind}
use Rattle.definition_text.specs.BlockLines.{BlockLine}
use Rattle.definition_text.specs.Columns.{Code}
use Rattle.definition_text.specs.Content.{content_of}
use Rattle.definition_text.specs.Codes.{Symbol, is_of_content, code_of}
use Rattle.definition_block.specs.Tree.{LeafBlock, Paragraph, Heading, IndentedCode, FencedCode, Html, Table, Block, Leaf, Holds, Items, Blocks, Nil, Cons}
use Rattle.definition_block.specs.Tree.{blocks}

-- the code of a symbol of a content
pub record IsCode (c : Code) : Type 0 where
  pub symbol : Symbol
  pub of_content : is_of_content symbol ≡ true
  pub is_its_code : code_of symbol ≡ c

abbrev pub AreCodes : List Code → Type 0
AreCodes [] = Unit {0}
AreCodes (c ∷ cs) = IsCode c × AreCodes cs

-- the lines of a leaf that have a content
abbrev pub leaf_lines : LeafBlock → List BlockLine
leaf_lines (Paragraph ls) = ls
leaf_lines (Heading rank ls) = ls
leaf_lines (IndentedCode ls) = ls
leaf_lines (FencedCode info closed ls) = ls
leaf_lines (Html ls) = ls
leaf_lines (Table ls) = ls
leaf_lines leaf = []

-- the lines that have a content, at any depth
abbrev mutual
  pub block_lines : Block → List BlockLine
  block_lines (Leaf leaf) = leaf_lines leaf
  block_lines (Holds c kids) = all_lines kids
  block_lines (Items items) = all_lines items
  block_lines b = []

  pub all_lines : Blocks → List BlockLine
  all_lines Nil = []
  all_lines (Cons b bs) = block_lines b ++ all_lines bs

-- each code of the contents of a text of bytes is that of a symbol, whatever character stands before the text
abbrev pub CodesLaw : Type 0
CodesLaw = (on : Constructs) (before : Kind) (text : List ℕ) → All (λ b. b < 256) text → AreCodes (content_of (all_lines (blocks on before text)))

-- and of no other
abbrev pub ApartLaw : Type 0
ApartLaw = (one other : Symbol) → is_of_content one ≡ true → is_of_content other ≡ true → code_of one ≡ code_of other → one ≡ other
