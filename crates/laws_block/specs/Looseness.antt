-- When a list is loose (CommonMark 5.3).
use Rattle.std.specs.Prelude.{◌≡◌, ℕ, ◌<◌, Bool, true, false}
use Rattle.markdown_options.specs.declared.configuration.Constructs.{Constructs}
use Rattle.definition_block.specs.Container.{Container}
use Rattle.definition_block.specs.Tree.{Block, Holds, Blocks, Cons, join, is_ending, all_endings}
use Rattle.definition_block.specs.Lists.{is_loose}
use Rattle.laws_block.specs.Neighbours.{children}
use Rattle.laws_block.specs.TextLines.{IsOn, AreOn}

-- two neighbouring children: only endings stand between them
pub record Pair : Type 0 where
  pub before : Blocks
  pub first : Block
  pub between : Blocks
  pub second : Block
  pub after : Blocks

-- the children that these two are among
abbrev pub around : Pair → Blocks
around p = children p.before p.first p.between p.second p.after

pub record AreNeighbours (p : Pair) : Type 0 where
  pub first_is_none : is_ending p.first ≡ false
  pub between_are_endings : all_endings p.between ≡ true
  pub second_is_none : is_ending p.second ≡ false

-- the lines of two neighbours, by those of the children before them
pub record PairLines (on : Constructs) (p : Pair) : Type 0 where
  -- the first line of all children
  pub top : ℕ
  -- the first line and the last line of the first one of the two
  pub first_line : ℕ
  pub last_line : ℕ
  -- the first line of the second one
  pub next_line : ℕ
  pub before_are_on : AreOn on p.before top first_line
  pub first_is_on : IsOn on p.first first_line last_line
  pub between_are_on : AreOn on p.between last_line next_line

-- a line after the last line of the first one, and before the first line of the second one
pub record LineBetween (on : Constructs) (p : Pair) (ls : PairLines on p) : Type 0 where
  pub line : ℕ
  pub after_first : ls.last_line < line
  pub before_second : line < ls.next_line

-- whichever lines two neighbours stand on, a line is between them
abbrev pub AreAlwaysApart : Constructs → Pair → Type 0
AreAlwaysApart on p = (ls : PairLines on p) → LineBetween on p ls

-- they stand on lines between which another one is
abbrev pub AreApart : Constructs → Pair → Type 0
AreApart on p = (ls : PairLines on p) × LineBetween on p ls

-- some two neighbouring children are apart
pub record SomeAre (apart : Pair → Type 0) (kids : Blocks) : Type 0 where
  pub pair : Pair
  pub here : kids ≡ around pair
  pub are_neighbours : AreNeighbours pair
  pub are_apart : apart pair

-- some two neighbouring items, or some two neighbouring children of one item, are apart
pub data SomeAreInList (apart : Pair → Type 0) (items : Blocks) : Type 0 where
  BetweenItems : SomeAre apart items → SomeAreInList apart items
  InItem : (before : Blocks) (c : Container) (kids after : Blocks) → items ≡ join before (Cons (Holds c kids) after)
      → SomeAre apart kids → SomeAreInList apart items

-- what tells of a list whether a line is between some two neighbouring items, or between some two neighbouring children of one item
pub record TellsLooseness (told : Blocks → Bool) : Type 0 where
  pub has_line : (on : Constructs) (items : Blocks) → told items ≡ true → SomeAreInList (AreAlwaysApart on) items
  pub is_told : (on : Constructs) (items : Blocks) → SomeAreInList (AreApart on) items → told items ≡ true

-- that is when a list is loose
abbrev pub LoosenessIsOfLines : Type 0
LoosenessIsOfLines = TellsLooseness is_loose

-- whatever tells it tells the same of each list that stands on lines, as those of a text do: no other definition of looseness has the law
abbrev pub OnlyLoosenessIsTold : Type 0
OnlyLoosenessIsTold =
    (told : Blocks → Bool) → TellsLooseness told → (on : Constructs) (items : Blocks) (first last : ℕ) → AreOn on items first last
    → told items ≡ is_loose items
