-- The headings of a page, in order.
use Rattle.std.specs.Prelude.{ℕ, List, [], ◌∷◌, ◌++◌}
use Rattle.definition_page.specs.Page as page
use Rattle.definition_page.specs.Page.{PageLeaf, Heading}
use Rattle.html_heading_text.specs.HeadingLines.{heading_lines}

-- a heading: its rank, and what it says
pub record PageHeading : Type 0 where
  pub rank : ℕ
  pub text : List ℕ

abbrev pub leaf_headings : PageLeaf → List PageHeading
leaf_headings (Heading rank is) = record { rank = rank; text = heading_lines is } ∷ []
leaf_headings leaf = []

abbrev mutual
  pub block_headings : page.Block → List PageHeading
  block_headings (page.Leaf leaf) = leaf_headings leaf
  block_headings (page.Holds c kids) = headings_in kids
  block_headings (page.ItemList number loose items) = headings_in items
  block_headings b = []

  pub headings_in : page.Blocks → List PageHeading
  headings_in page.Nil = []
  headings_in (page.Cons b bs) = block_headings b ++ headings_in bs
