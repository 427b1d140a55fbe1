-- Beginning a line before a row changes nothing.
use Rattle.std.proofs.Common.{◌≡◌, ℕ, true, false, List, [], ◌∷◌, refl, sym, ap, ◌∙◌, inl, inr, arith}
use Rattle.parse_laid.proofs.Prelude.{AreCode, AreFenced, AreHtml, AreTable, AreText, AtEnding, begun, Between, Blank, BlockLine, BlockRow, Break, cases_Bool}
use Rattle.parse_laid.proofs.Prelude.{Constructs, Container, Definition, Ending, ends_line, EnterFootnote, EnterItem, EnterQuote, Enters, Exit, false≢true}
use Rattle.parse_laid.proofs.Prelude.{Fence, FencedCode, Heading, Holds, Html, InAll, IndentedCode, IsInAll, IsLeafLaid, IsOn, IsRowLaid, IsWrittenLaid, Items}
use Rattle.parse_laid.proofs.Prelude.{Leaf, LeafBlock, line_left, LineRest, Paragraph, Place, Prefixed, Single, Stops, Table, true≢false, Within}
use Rattle.parse_laid.specs.Begun.{is_in_line, LinesMayBeBegun}

module _ (on : Constructs) (around : List Container) where
  on_begun : (from : Place) (here : Prefixed) (left : List LineRest) → IsOn on around from here left
      → IsOn on around (begun on around from) (InAll (line_left here)) left
  on_begun (Between []) here left p = absurd p
  on_begun (Between (next ∷ others)) here left p = (ap (λ x. InAll (line_left x)) p.0, p.1)
  on_begun (Within line others) here left p = (ap (λ x. InAll (line_left x)) p.0, p.1)
  on_begun (AtEnding ending others) here left p = absurd p

  line_begun : (from : Place) (here : Prefixed) (left : List LineRest) → IsOn on around from here left → is_in_line (begun on around from) ≡ true
  line_begun (Between []) here left p = absurd p
  line_begun (Between (next ∷ others)) here left p = refl
  line_begun (Within line others) here left p = refl
  line_begun (AtEnding ending others) here left p = refl

  in_all_begun : (from : Place) → IsInAll on around (begun on around from)
  in_all_begun (Between []) = tt
  in_all_begun (Between (next ∷ others)) = tt
  in_all_begun (Within line others) = tt
  in_all_begun (AtEnding ending others) = tt

  -- ---- leaves

  text_begun : (ls : List BlockLine) (from to : Place) → AreText on around ls from to
      → AreText on around ls (begun on around from) to × (is_in_line (begun on around from) ≡ true)
  text_begun [] from to p = let some = p.0 in absurd (omega (arith, some))
  text_begun (line ∷ others) from to p =
      let q = p.1 in
      ((p.0, (InAll (line_left q.0), q.1, on_begun from q.0 q.1 q.2, q.3, q.4), inl (in_all_begun from)), line_begun from q.0 q.1 q.2)

  code_begun : (ls : List BlockLine) (from to : Place) → AreCode on around ls from to
      → AreCode on around ls (begun on around from) to × (is_in_line (begun on around from) ≡ true)
  code_begun [] from to p = absurd p
  code_begun (first ∷ others) from to p =
      ((p.0, p.1, on_begun from (InAll p.0) p.1 p.2, p.3, p.4, p.5, p.6), line_begun from (InAll p.0) p.1 p.2)

  html_begun : (kind : ℕ) (ls : List BlockLine) (from to : Place) → AreHtml on around kind ls from to
      → AreHtml on around kind ls (begun on around from) to × (is_in_line (begun on around from) ≡ true)
  html_begun kind [] from to p = absurd p
  html_begun kind (first ∷ others) from to p =
      ((p.0, p.1, p.2, on_begun from (InAll p.0) p.1 p.3, p.4, p.5, p.6), line_begun from (InAll p.0) p.1 p.3)

  table_begun : (ls : List BlockLine) (from to : Place) → AreTable on around ls from to
      → AreTable on around ls (begun on around from) to × (is_in_line (begun on around from) ≡ true)
  table_begun [] from to p = absurd p
  table_begun (head ∷ []) from to p = absurd p
  table_begun (head ∷ row ∷ others) from to p =
      let q = p.4 in (
        (p.0, p.1, p.2, p.3, (InAll (line_left q.0), q.1, on_begun from q.0 q.1 q.2, q.3, q.4), p.5, p.6, p.7, p.8, p.9, inl (in_all_begun from)),
        line_begun from q.0 q.1 q.2,
      )

  fence_begun : (fence : Fence) (here : LineRest) (ls : List BlockLine) (from to : Place) → AreFenced on around fence here ls from to
      → AreFenced on around fence here ls (begun on around from) to × (is_in_line (begun on around from) ≡ true)
  fence_begun fence here ls from to p =
      ((p.0, on_begun from (InAll here) p.0 p.1, p.2, p.3), line_begun from (InAll here) p.0 p.1)

  leaf_begun : (leaf : LeafBlock) (from to : Place) → IsLeafLaid on around leaf from to
      → IsLeafLaid on around leaf (begun on around from) to × (is_in_line (begun on around from) ≡ true)
  leaf_begun (Paragraph ls) from to p = let q = text_begun p.0 from p.1 p.2 in ((p.0, p.1, q.0, p.3, p.4), q.1)
  leaf_begun (Heading rank ls) from to p = elim p [
    | inl h ↦
        (inl (h.0, h.1, h.2, on_begun from (InAll h.0) h.1 h.3, h.4, h.5, h.6, h.7), line_begun from (InAll h.0) h.1 h.3)
    | inr h ↦ let q = text_begun h.0 from h.1 h.4 in (inr (h.0, h.1, h.2, h.3, q.0, h.5, h.6, h.7, h.8), q.1)
  ]
  leaf_begun Break from to p = ((p.0, p.1, on_begun from (InAll p.0) p.1 p.2, p.3, p.4), line_begun from (InAll p.0) p.1 p.2)
  leaf_begun (IndentedCode ls) from to p = let q = code_begun p.0 from p.1 p.2 in ((p.0, p.1, q.0, p.3, p.4), q.1)
  leaf_begun (FencedCode info false ls) from to p =
      let q = fence_begun p.0 p.1 ls from (Between p.2) p.4 in ((p.0, p.1, p.2, p.3, q.0, p.5), q.1)
  leaf_begun (FencedCode info true ls) from to p =
      let q = fence_begun p.0 p.1 ls from p.3 p.6 in ((p.0, p.1, p.2, p.3, p.4, p.5, q.0, p.7, p.8, p.9), q.1)
  leaf_begun (Html ls) from to p = let q = html_begun p.0 p.1 from p.2 p.3 in ((p.0, p.1, p.2, q.0, p.4, p.5), q.1)
  leaf_begun (Table ls) from to p = let q = table_begun p.0 from p.1 p.2 in ((p.0, p.1, q.0, p.3, p.4), q.1)
  leaf_begun (Definition ls label destination title) from to p = let q = text_begun p.0 from p.1 p.2 in ((p.0, p.1, q.0, p.3, p.4, p.5), q.1)

  -- ---- rows

  written_begun : (leaf : LeafBlock) (from to : Place) → IsWrittenLaid on around leaf from to
      → IsWrittenLaid on around leaf (begun on around from) to × (is_in_line (begun on around from) ≡ true)
  written_begun (Definition ls label destination title) from to p =
      let q = leaf_begun (Definition ls p.0 p.1 p.2) from to p.6 in ((p.0, p.1, p.2, p.3, p.4, p.5, q.0), q.1)
  written_begun leaf from to p = leaf_begun leaf from to p

  enters_begun : (row : BlockRow) (inner : List Container) (from to : Place) → Enters on around row from inner to
      → Enters on around row (begun on around from) inner to × (is_in_line (begun on around from) ≡ true)
  enters_begun row inner from to p =
      let q = p.3 in (
        (p.0, p.1, p.2, (q.0, q.1, q.2, on_begun from (InAll q.0) q.1 q.3, q.4, q.5, q.6)),
        line_begun from (InAll q.0) q.1 q.3,
      )

  stops_begun : (from to : Place) → Stops on around from to
      → Stops on around (begun on around from) to × (is_in_line (begun on around from) ≡ true)
  stops_begun (Between []) to p = absurd p
  stops_begun (Between (next ∷ left)) to p = (p.2 ∙ ap (λ x. Within (line_left x) left) (sym p.1), refl)
  stops_begun (Within here left) to p = (p, refl)
  stops_begun (AtEnding ending left) to p = (p, refl)

  row_begun : (inner : List Container) (row : BlockRow) (from to : Place) → ends_line row ≡ false → IsRowLaid on around row from inner to
      → IsRowLaid on around row (begun on around from) inner to × (is_in_line (begun on around from) ≡ true)
  row_begun inner (Single (Leaf leaf)) from to e p = let q = written_begun leaf from to p.1 in ((p.0, q.0), q.1)
  row_begun inner (Single (Blank ending)) from to e p =
      let q = p.1 in
      ((p.0, (q.0, q.1, on_begun from (InAll q.0) q.1 q.2, q.3, q.4, q.5)), line_begun from (InAll q.0) q.1 q.2)
  row_begun inner (Single (Ending ending)) from to e p = absurd (true≢false e)
  row_begun inner (Single (Holds c kids)) from to e p = absurd p.1
  row_begun inner (Single (Items items)) from to e p = absurd p.1
  row_begun inner EnterQuote from to e p = enters_begun EnterQuote inner from to p
  row_begun inner (EnterItem marker number) from to e p = enters_begun (EnterItem marker number) inner from to p
  row_begun inner (EnterFootnote label) from to e p = enters_begun (EnterFootnote label) inner from to p
  row_begun inner Exit from to e p = let q = stops_begun from to p.2 in ((p.0, p.1, q.0), q.1)

  ending_begun : (inner : List Container) (row : BlockRow) (from to : Place) → ends_line row ≡ true → IsRowLaid on around row from inner to
      → is_in_line from ≡ true
  ending_begun inner (Single (Ending ending)) from to e p = ap is_in_line p.1.1
  ending_begun inner row from to e p = absurd (false≢true e)

-- a line that is begun stays so
stays_begun : (on : Constructs) (around : List Container) (from : Place) → is_in_line from ≡ true → is_in_line (begun on around from) ≡ true
stays_begun on around (Between left) e = absurd (false≢true e)
stays_begun on around (Within here left) e = refl
stays_begun on around (AtEnding ending left) e = refl

pub lines_may_be_begun : LinesMayBeBegun
lines_may_be_begun = record {
  others = λ on around inner row from to e p. (row_begun on around inner row from to e p).0;
  in_line = λ on around inner row from to p. elim (cases_Bool (ends_line row)) [
    | inl e ↦ stays_begun on around from (ending_begun on around inner row from to e p)
    | inr e ↦ (row_begun on around inner row from to e p).1
  ];
  endings = λ on around inner row from to e p. ending_begun on around inner row from to e p;
}
