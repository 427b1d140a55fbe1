-- Leaves that are open, closed, or begin on a line.
use Rattle.std.proofs.Common.{inl, ◌≡◌, ℕ, true, false, List, [], ◌∷◌, Option}
use Rattle.std.proofs.Common.{refl, sym, ap, subst}
use Rattle.parse_laid.proofs.Prelude.{AreCode, AreFenced, AreHtml, AreLines, AreTable, AreTaken, At, AtEnding, Between, Block, block_and_ending, BlockLine}
use Rattle.parse_laid.proofs.Prelude.{BlockTree, close, Constructs, Container, definition_cut, Fenced, FencedCode, Html, InAll, Indented, IndentedCode, Inside}
use Rattle.parse_laid.proofs.Prelude.{InSome, is_blank, IsCodeLine, IsFenceLine, IsHtmlLine, IsInAll, IsRowLine, IsTextLine, join, last_ending, last_ending_or}
use Rattle.parse_laid.proofs.Prelude.{Leaf, LineEnding, LineRest, open_text, OpenHtml, Opening, OpenLeaf, OpenTable, outdent, own_lines, paragraph_of, Place}
use Rattle.parse_laid.proofs.Prelude.{Prefixed, rest_line, Starts, Table, Text}
use Rattle.definition_block.specs.Tree.{blanks, close_leaf, leaf_text}
use Rattle.parse_laid.proofs.Taken.{after_taken}
use Rattle.parse_laid.proofs.Trees.{IsBlockLaid, AreBlocksLaid, is_between, join_laid, ended_laid}
use Rattle.parse_laid.proofs.Containers.{hold_laid}
use Rattle.parse_laid.proofs.Definitions.{TextMayBegin, paragraph_laid, cut_laid}

-- a blank line after indented code, which may go on after it
abbrev pub IsBlankLine : Prefixed → BlockLine → Type 0
IsBlankLine (InAll here) line = (is_blank here.rest ≡ true) × (line ≡ rest_line (outdent 4 here.rest) here.beside)
IsBlankLine (InSome here) line = ⊥

module _ (on : Constructs) where
  -- ---- what is open

  -- an open paragraph, whose first line is in all of the containers around it
  abbrev pub OpenText : List Container → List BlockLine → Place → Place → Type 0
  OpenText around [] from to = from ≡ to
  OpenText around (line ∷ others) from to = AreTaken on around (IsTextLine on) (line ∷ others) from to × IsInAll on around from

  pub open_taken : (around : List Container) (ls : List BlockLine) (from to : Place) → OpenText around ls from to
      → AreTaken on around (IsTextLine on) ls from to
  open_taken around [] from to p = p
  open_taken around (line ∷ others) from to p = p.0

  pub open_may_begin : (around : List Container) (ls : List BlockLine) (from to : Place) → OpenText around ls from to → TextMayBegin on around ls from
  open_may_begin around [] from to p = tt
  open_may_begin around (line ∷ others) from to p = inl p.1

  -- an open leaf, whose lines so far are laid from a place to another
  abbrev pub LeafLaid : List Container → OpenLeaf → Place → Place → Type 0
  LeafLaid around (Text ls) from to = OpenText around ls from to
  LeafLaid around (Indented ls pending) from to =
      (under : Place) × AreCode on around ls from under × AreTaken on around IsBlankLine pending under to
  LeafLaid around (Fenced fence ending ls) from to = (here : LineRest) × (ending ≡ here.beside.ending) × AreFenced on around fence here ls from to
  LeafLaid around (OpenHtml kind ls) from to = AreHtml on around kind ls from to
  LeafLaid around (OpenTable ls) from to = AreTable on around ls from to

  abbrev pub OpeningLaid : List Container → Opening → Place → Place → Type 0
  OpeningLaid around (At leaf) from to = LeafLaid around leaf from to
  OpeningLaid around (Inside c kids inner) from to =
      (first under : Place) × Starts on around c from first × AreBlocksLaid on (c ∷ around) kids first under
      × OpeningLaid (c ∷ around) inner under to × (is_between to ≡ true)

  abbrev pub TreeLaid : List Container → BlockTree → Place → Place → Type 0
  TreeLaid around t from to = (under : Place) × AreBlocksLaid on around t.done from under × OpeningLaid around t.now under to

  module _ (around : List Container) where
    -- ---- after the lines of a leaf comes the next line

    after_code : (ls : List BlockLine) (from to : Place) → AreCode on around ls from to → (left : List LineRest) × (to ≡ Between left)
    after_code [] from to p = absurd p
    after_code (first ∷ others) from to p = after_taken on around (IsCodeLine on) others p.1 to p.5

    after_html : (kind : ℕ) (ls : List BlockLine) (from to : Place) → AreHtml on around kind ls from to → (left : List LineRest) × (to ≡ Between left)
    after_html kind [] from to p = absurd p
    after_html kind (first ∷ others) from to p = after_taken on around (IsHtmlLine kind) others p.1 to p.6

    after_table : (ls : List BlockLine) (from to : Place) → AreTable on around ls from to → (left : List LineRest) × (to ≡ Between left)
    after_table [] from to p = absurd p
    after_table (head ∷ []) from to p = absurd p
    after_table (head ∷ row ∷ others) from to p = after_taken on around (IsRowLine on) others p.2 to p.9

    -- ---- closing

    blanks_laid : (ls : List BlockLine) (from to : Place) → AreTaken on around IsBlankLine ls from to → AreBlocksLaid on around (blanks ls) from to
    blanks_laid [] from to p = p
    blanks_laid (line ∷ others) from to (InAll here, left, is, fits, more) =
        (Between left, (here, left, is, fits.0, ap (λ (l : BlockLine). l.ending) fits.1, refl), blanks_laid others (Between left) to more)
    blanks_laid (line ∷ others) from to (InSome here, left, is, fits, more) = absurd fits

    -- a leaf and its ending, which lead to the next line
    closed_laid : (b : Block) (ending : Option LineEnding) (from to : Place) (left : List LineRest) → to ≡ Between left
        → IsBlockLaid on around b from (AtEnding ending left) → AreBlocksLaid on around (block_and_ending b ending) from to
    closed_laid b ending from to left same p =
        subst (AreBlocksLaid on around (block_and_ending b ending) from) (sym same) (ended_laid on around b ending from left p)

    code_laid : (ls : List BlockLine) (from to : Place) → AreCode on around ls from to
        → AreBlocksLaid on around (block_and_ending (Leaf (IndentedCode (own_lines ls))) (last_ending ls)) from to
    code_laid ls from to p =
        let after = after_code ls from to p in
        closed_laid (Leaf (IndentedCode (own_lines ls))) (last_ending ls) from to after.0 after.1 (ls, to, p, refl, (after.0, after.1, refl))

    pub close_leaf_laid : (leaf : OpenLeaf) (from to : Place) → AreLines (leaf_text leaf) → LeafLaid around leaf from to
        → AreBlocksLaid on around (close_leaf on leaf) from to
    close_leaf_laid (Text ls) from to h p =
        let parts = cut_laid on around ls from to h (open_may_begin around ls from to p) (open_taken around ls from to p) in
        join_laid on around (definition_cut on ls).definitions (paragraph_of (definition_cut on ls).left) from parts.0 to parts.1
        (paragraph_laid on around (definition_cut on ls).left parts.0 to parts.3 parts.2)
    close_leaf_laid (Indented ls pending) from to h p =
        join_laid on around (block_and_ending (Leaf (IndentedCode (own_lines ls))) (last_ending ls)) (blanks pending) from p.0 to
        (code_laid ls from p.0 p.1) (blanks_laid pending p.0 to p.2)
    close_leaf_laid (Fenced fence ending ls) from to h (here, same, p) =
        let after = after_taken on around (IsFenceLine on fence) ls p.0 to p.3 in
        let b = Leaf (FencedCode fence.info false ls) in
        let now = last_ending_or here.beside.ending ls in
        let fenced : AreFenced on around fence here ls from (Between after.0) = subst (AreFenced on around fence here ls from) after.1 p in
        subst (λ e. AreBlocksLaid on around (block_and_ending b (last_ending_or e ls)) from to) (sym same)
        (closed_laid b now from to after.0 after.1 (fence, here, after.0, refl, fenced, refl))
    close_leaf_laid (OpenHtml kind ls) from to h p =
        let after = after_html kind ls from to p in
        closed_laid (Leaf (Html (own_lines ls))) (last_ending ls) from to after.0 after.1 (kind, ls, to, p, refl, (after.0, after.1, refl))
    close_leaf_laid (OpenTable ls) from to h p =
        let after = after_table ls from to p in
        closed_laid (Leaf (Table (own_lines ls))) (last_ending ls) from to after.0 after.1 (ls, to, p, refl, (after.0, after.1, refl))

  pub close_laid : (around : List Container) (now : Opening) (from to : Place) → AreLines (open_text now) → OpeningLaid around now from to
      → AreBlocksLaid on around (close on now) from to
  close_laid around (At leaf) from to h p = close_leaf_laid around leaf from to h p
  close_laid around (Inside c kids inner) from to h p =
      hold_laid on around c (join kids (close on inner)) from p.0 to p.2
      (join_laid on (c ∷ around) kids (close on inner) p.0 p.1 to p.3 (close_laid (c ∷ around) inner p.1 to h p.4)) p.5
