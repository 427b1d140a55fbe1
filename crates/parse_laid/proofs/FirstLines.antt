-- The first line of a row is in all open containers, but for later lines of a paragraph.
use Rattle.std.proofs.Common.{◌≡◌, ◌⊎◌, ℕ, true, false, List, [], ◌∷◌, inl, inr}
use Rattle.parse_laid.proofs.Prelude.{AreCode, AreHtml, AreTable, AreText, AtEnding, Between, Blank, BlockLine, BlockRow, Break, Constructs, Container}
use Rattle.parse_laid.proofs.Prelude.{Definition, Ending, ends_line, EnterFootnote, EnterItem, EnterQuote, Enters, Exit, FencedCode, FollowsText, Heading}
use Rattle.parse_laid.proofs.Prelude.{Holds, Html, IndentedCode, IsInAll, IsLeafLaid, IsRowLaid, IsWrittenLaid, Items, Leaf, LeafBlock, Paragraph, Place}
use Rattle.parse_laid.proofs.Prelude.{Single, Stops, Table, true≢false, Within}
use Rattle.parse_laid.specs.FirstLines.{FirstLinesAreIn}
use Rattle.parse_laid.proofs.Lines.{in_all}

module _ (on : Constructs) (around : List Container) where
  abbrev BeginsWell : Place → Type 0
  BeginsWell from = IsInAll on around from ⊎ FollowsText on around from

  text_begins : (ls : List BlockLine) (from to : Place) → AreText on around ls from to → BeginsWell from
  text_begins ls from to p = elim p.2 [ inl h ↦ inl h | inr h ↦ inr (h.3, h.4, h.5, h.6) ]

  code_begins : (ls : List BlockLine) (from to : Place) → AreCode on around ls from to → BeginsWell from
  code_begins [] from to p = absurd p
  code_begins (first ∷ others) from to p = inl (in_all on around from p.0 p.1 p.2)

  html_begins : (kind : ℕ) (ls : List BlockLine) (from to : Place) → AreHtml on around kind ls from to → BeginsWell from
  html_begins kind [] from to p = absurd p
  html_begins kind (first ∷ others) from to p = inl (in_all on around from p.0 p.1 p.3)

  table_begins : (ls : List BlockLine) (from to : Place) → AreTable on around ls from to → BeginsWell from
  table_begins [] from to p = absurd p
  table_begins (head ∷ []) from to p = absurd p
  table_begins (head ∷ row ∷ others) from to p = p.10

  leaf_begins : (leaf : LeafBlock) (from to : Place) → IsLeafLaid on around leaf from to → BeginsWell from
  leaf_begins (Paragraph ls) from to p = text_begins p.0 from p.1 p.2
  leaf_begins (Heading rank ls) from to p = elim p [
    | inl h ↦ inl (in_all on around from h.0 h.1 h.3)
    | inr h ↦ text_begins h.0 from h.1 h.4
  ]
  leaf_begins Break from to p = inl (in_all on around from p.0 p.1 p.2)
  leaf_begins (IndentedCode ls) from to p = code_begins p.0 from p.1 p.2
  leaf_begins (FencedCode info false ls) from to p = let q = p.4 in inl (in_all on around from p.1 q.0 q.1)
  leaf_begins (FencedCode info true ls) from to p = let q = p.6 in inl (in_all on around from p.1 q.0 q.1)
  leaf_begins (Html ls) from to p = html_begins p.0 p.1 from p.2 p.3
  leaf_begins (Table ls) from to p = table_begins p.0 from p.1 p.2
  leaf_begins (Definition ls label destination title) from to p = text_begins p.0 from p.1 p.2

  written_begins : (leaf : LeafBlock) (from to : Place) → IsWrittenLaid on around leaf from to → BeginsWell from
  written_begins (Definition ls label destination title) from to p = leaf_begins (Definition ls p.0 p.1 p.2) from to p.6
  written_begins leaf from to p = leaf_begins leaf from to p

  enters_begins : (row : BlockRow) (inner : List Container) (from to : Place) → Enters on around row from inner to → BeginsWell from
  enters_begins row inner from to p = let q = p.3 in inl (in_all on around from q.0 q.1 q.3)

  stops_begins : (from to : Place) → Stops on around from to → BeginsWell from
  stops_begins (Between []) to p = absurd p
  stops_begins (Between (next ∷ left)) to p = inl (p.0, p.1)
  stops_begins (Within here left) to p = inl tt
  stops_begins (AtEnding ending left) to p = inl tt

  row_begins : (inner : List Container) (row : BlockRow) (from to : Place) → ends_line row ≡ false → IsRowLaid on around row from inner to
      → BeginsWell from
  row_begins inner (Single (Leaf leaf)) from to e p = written_begins leaf from to p.1
  row_begins inner (Single (Blank ending)) from to e p = let q = p.1 in inl (in_all on around from q.0 q.1 q.2)
  row_begins inner (Single (Ending ending)) from to e p = absurd (true≢false e)
  row_begins inner (Single (Holds c kids)) from to e p = absurd p.1
  row_begins inner (Single (Items items)) from to e p = absurd p.1
  row_begins inner EnterQuote from to e p = enters_begins EnterQuote inner from to p
  row_begins inner (EnterItem marker number) from to e p = enters_begins (EnterItem marker number) inner from to p
  row_begins inner (EnterFootnote label) from to e p = enters_begins (EnterFootnote label) inner from to p
  row_begins inner Exit from to e p = stops_begins from to p.2

pub first_lines_are_in : FirstLinesAreIn
first_lines_are_in = record { first = λ on around inner row from to e p. row_begins on around inner row from to e p }
