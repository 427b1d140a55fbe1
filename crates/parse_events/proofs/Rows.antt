-- Where rows are laid: after the last line nothing follows, and at the ending of a line only the end of a container does.
use Rattle.std.proofs.Common.{◌≡◌, inl, inr, ◌<◌, ℕ, true, false, List, [], ◌∷◌, Option, refl, sym, arith, length}
use Rattle.parse_events.proofs.Prelude.{AreRowsLaid, AtEnding, Between, Blank, BlockLine, BlockRow, Break, Constructs, Container, Definition, Ending}
use Rattle.parse_events.proofs.Prelude.{ends_line, EnterFootnote, EnterItem, EnterQuote, Exit, FencedCode, Heading, Holds, Html, IndentedCode, IsRowLaid}
use Rattle.parse_events.proofs.Prelude.{IsWrittenLaid, Items, Leaf, LeafBlock, LineEnding, LineRest, lines_may_be_begun, Paragraph, Place, Row, row_value}
use Rattle.parse_events.proofs.Prelude.{Single, Table, true≢false}
use Rattle.parse_laid.specs.Leaves.{AreCode, AreHtml, AreTable, AreTaken, IsTextLine}
use Rattle.parse_laid.specs.Places.{Prefixed}

-- nothing follows where no line is left
pub nothing_follows : (on : Constructs) (around : List Container) (rows : List Row) (ls : List BlockLine) → AreRowsLaid on around (Between []) rows ls → rows ≡ []
nothing_follows on around [] ls laid = refl
nothing_follows on around (row ∷ rows) ls laid =
    absurd (true≢false (sym (lines_may_be_begun.in_line on around laid.0 (row_value row ls) (Between []) laid.1 laid.2)))

-- ---- at the ending of a line

module _ (on : Constructs) (around : List Container) (ending : Option LineEnding) (left : List LineRest) where
  none_taken : (IsLine : Prefixed → BlockLine → Type 0) (ls : List BlockLine) (to : Place) → 0 < length ls → AreTaken on around IsLine ls (AtEnding ending left) to → ⊥
  none_taken IsLine [] to some taken = omega (arith, some)
  none_taken IsLine (line ∷ ls) to some taken = taken.2

  no_code : (ls : List BlockLine) (to : Place) → AreCode on around ls (AtEnding ending left) to → ⊥
  no_code [] to are = are
  no_code (line ∷ ls) to are = are.2

  no_html : (kind : ℕ) (ls : List BlockLine) (to : Place) → AreHtml on around kind ls (AtEnding ending left) to → ⊥
  no_html kind [] to are = are
  no_html kind (line ∷ ls) to are = are.3

  no_table : (ls : List BlockLine) (to : Place) → AreTable on around ls (AtEnding ending left) to → ⊥
  no_table [] to are = are
  no_table (head ∷ []) to are = are
  no_table (head ∷ row ∷ ls) to are = are.4.2

  -- no leaf begins
  no_leaf : (leaf : LeafBlock) (to : Place) → IsWrittenLaid on around leaf (AtEnding ending left) to → ⊥
  no_leaf (Paragraph ls) to laid = none_taken (IsTextLine on) laid.0 laid.1 laid.2.0 laid.2.1
  no_leaf (Heading rank ls) to (inl laid) = laid.3
  no_leaf (Heading rank ls) to (inr laid) = none_taken (IsTextLine on) laid.0 laid.1 laid.4.0 laid.4.1
  no_leaf Break to laid = laid.2
  no_leaf (IndentedCode ls) to laid = no_code laid.0 laid.1 laid.2
  no_leaf (FencedCode info false ls) to laid = laid.4.1
  no_leaf (FencedCode info true ls) to laid = laid.6.1
  no_leaf (Html ls) to laid = no_html laid.0 laid.1 laid.2 laid.3
  no_leaf (Table ls) to laid = no_table laid.0 laid.1 laid.2
  no_leaf (Definition ls label destination title) to laid = none_taken (IsTextLine on) laid.6.0 laid.6.1 laid.6.2.0 laid.6.2.1

  -- only a container ends there, or the line
  pub only_ends : (row : BlockRow) (inner : List Container) (to : Place) → ends_line row ≡ false → IsRowLaid on around row (AtEnding ending left) inner to
      → (c : Container) × (around ≡ c ∷ inner)
  only_ends (Single (Leaf leaf)) inner to other laid = absurd (no_leaf leaf to laid.1)
  only_ends (Single (Ending e)) inner to other laid = absurd (true≢false other)
  only_ends (Single (Blank e)) inner to other laid = absurd laid.1.2
  only_ends (Single (Holds c kids)) inner to other laid = absurd laid.1
  only_ends (Single (Items items)) inner to other laid = absurd laid.1
  only_ends EnterQuote inner to other laid = absurd laid.3.3
  only_ends (EnterItem marker number) inner to other laid = absurd laid.3.3
  only_ends (EnterFootnote label) inner to other laid = absurd laid.3.3
  only_ends Exit inner to other laid = (laid.0, laid.1)
