-- What rows say in a heading, one after another, is what their inline structure says.
use Rattle.std.proofs.Common.{◌≡◌, ◌<◌, ◌+◌, ◌-◌, ℕ, zero, suc, List, [], ◌∷◌, ◌++◌, map, refl, sym, ap, ◌∙◌, append_assoc, arith, get_or, length}
use Rattle.std.specs.Prelude.{◌≢◌}
use Rattle.std.specs.List.{flat_map, fold}
use Rattle.std.proofs.lemmas.Bool.{ne_eqb}
use Rattle.std.proofs.lemmas.List.{append-nil}
use Rattle.std.proofs.lemmas.List.Concat.{flat_map-append}
use Rattle.definition_text.specs.Encode.{plain_byte, plain}
use Rattle.definition_inline.specs.Inline.{InlineLeaf, Data, Escape, LineEnd, Target, LinkTexts, Link, Image}
use Rattle.definition_inline.specs.Inline.{Inline, Leaf, Span, Linked, Call, Inlines, Nil, Cons}
use Rattle.inline_rows.proofs.LineEnding.{byte_leaf, leaves_joined}
use Rattle.inline_rows.specs.InlineRows as spec
use Rattle.inline_rows.specs.InlineRows.{Part, Leave, part_rows, inline_rows}
use Rattle.inline_rows.specs.View.{data_rows, line_leaf, row_view, rows_view, spelled_view}
use Rattle.inline_rows.specs.declared.row.InlineRow.{InlineRow}
use Rattle.inline_rows.specs.declared.row.InlineRow.TheVariants as row
use Rattle.inline_leaves.specs.Leaves.{parts_of}
use Rattle.definition_page.specs.HeadingText.{leaf_text, part_text, heading_text}
use Rattle.html_heading_text.specs.HeadingLines.{ending_says, heading_says, leaf_says, lines_say, part_says}
use Rattle.html_heading_text.specs.HeadingRows.{one_less, one_more, row_says, rows_say, silent_after}
use Rattle.html_heading_text.specs.declared.heading_text.Endings.{Endings}
use Rattle.html_heading_text.specs.declared.heading_text.Endings.TheVariants.{Dropped}

-- ---- a heading without its line endings

leaf_same : (leaf : InlineLeaf) → leaf_says Dropped leaf ≡ leaf_text leaf
leaf_same (LineEnd code) = refl
leaf_same other = refl

mutual
  part_same : (i : Inline) → part_says Dropped i ≡ part_text i
  part_same (Leaf leaf) = leaf_same leaf
  part_same (Span kind kids) = text_same kids
  part_same (Linked Link target kids) = text_same kids
  part_same (Linked Image target kids) = refl
  part_same (Call label) = refl

  pub text_same : (is : Inlines) → heading_says Dropped is ≡ heading_text is
  text_same Nil = refl
  text_same (Cons i is) =
      ap (λ (s : List ℕ). s ++ heading_says Dropped is) (part_same i) ∙ ap (λ (s : List ℕ). part_text i ++ s) (text_same is)

-- ---- the number of open parts

-- rows of constructs that hold no other leave what is open as it is
parts_open : (silent : ℕ) (ls : List InlineLeaf) → fold silent_after silent (map Part ls) ≡ silent
parts_open silent [] = refl
parts_open silent (l ∷ ls) = parts_open silent ls

pub text_open : (silent : ℕ) (text : List ℕ) → silent ≡ fold silent_after silent (data_rows text)
text_open silent text = sym (parts_open silent (map Data text))

pub leaf_open : (silent : ℕ) (ls : List InlineLeaf) → silent ≡ fold silent_after silent (map Part ls)
leaf_open silent ls = sym (parts_open silent ls)

pub one_less_is : (n : ℕ) → n - 1 ≡ one_less n
one_less_is zero = refl
one_less_is (suc n) = omega arith

pub one_more_zero : (n : ℕ) → n ≡ 0 → 0 ≡ one_more n
one_more_zero zero h = refl
one_more_zero (suc n) h = absurd (omega (arith, h))

pub one_more_some : (n : ℕ) → 0 < n → n + 1 ≡ one_more n
one_more_some zero h = absurd (omega (arith, h))
one_more_some (suc n) h = omega arith

-- without LF
abbrev HasNoFeed : List ℕ → Type 0
HasNoFeed text = (k : ℕ) → k < length text → get_or text k 0 ≢ 10

module _ (endings : Endings) where
  -- ---- the rows of inline structure

  module _ (leads : Target → LinkTexts) where
    mutual
      -- in an image nothing is said
      part_silent : (i : Inline) (n : ℕ) (rest : List spec.InlineRow) → rows_say endings (suc n) (part_rows leads i ++ rest) ≡ rows_say endings (suc n) rest
      part_silent (Leaf part) n rest = refl
      part_silent (Span kind kids) n rest =
          ap (rows_say endings (suc (suc n))) (append_assoc (inline_rows leads kids) (Leave ∷ []) rest) ∙ all_silent kids (suc n) (Leave ∷ rest)
      part_silent (Linked Link target kids) n rest =
          ap (rows_say endings (suc (suc n))) (append_assoc (inline_rows leads kids) (Leave ∷ []) rest) ∙ all_silent kids (suc n) (Leave ∷ rest)
      part_silent (Linked Image target kids) n rest =
          ap (rows_say endings (suc (suc n))) (append_assoc (inline_rows leads kids) (Leave ∷ []) rest) ∙ all_silent kids (suc n) (Leave ∷ rest)
      part_silent (Call label) n rest = refl

      all_silent : (is : Inlines) (n : ℕ) (rest : List spec.InlineRow) → rows_say endings (suc n) (inline_rows leads is ++ rest) ≡ rows_say endings (suc n) rest
      all_silent Nil n rest = refl
      all_silent (Cons i is) n rest =
          ap (rows_say endings (suc n)) (append_assoc (part_rows leads i) (inline_rows leads is) rest)
          ∙ part_silent i n (inline_rows leads is ++ rest)
          ∙ all_silent is n rest

    mutual
      part_law : (i : Inline) (rest : List spec.InlineRow)
          → rows_say endings zero (part_rows leads i ++ rest) ≡ part_says endings i ++ rows_say endings zero rest
      part_law (Leaf part) rest = refl
      part_law (Span kind kids) rest =
          ap (rows_say endings zero) (append_assoc (inline_rows leads kids) (Leave ∷ []) rest) ∙ all_law kids (Leave ∷ rest)
      part_law (Linked Link target kids) rest =
          ap (rows_say endings zero) (append_assoc (inline_rows leads kids) (Leave ∷ []) rest) ∙ all_law kids (Leave ∷ rest)
      part_law (Linked Image target kids) rest =
          ap (rows_say endings (suc zero)) (append_assoc (inline_rows leads kids) (Leave ∷ []) rest) ∙ all_silent kids zero (Leave ∷ rest)
      part_law (Call label) rest = refl

      all_law : (is : Inlines) (rest : List spec.InlineRow)
          → rows_say endings zero (inline_rows leads is ++ rest) ≡ heading_says endings is ++ rows_say endings zero rest
      all_law Nil rest = refl
      all_law (Cons i is) rest =
          ap (rows_say endings zero) (append_assoc (part_rows leads i) (inline_rows leads is) rest)
          ∙ part_law i (inline_rows leads is ++ rest)
          ∙ ap (λ (s : List ℕ). part_says endings i ++ s) (all_law is rest)
          ∙ sym (append_assoc (part_says endings i) (heading_says endings is) (rows_say endings zero rest))

    -- the rows of a heading say what the heading says
    pub said_law : (is : Inlines) → rows_say endings 0 (inline_rows leads is) ≡ heading_says endings is
    said_law is = ap (rows_say endings zero) (sym (append-nil (inline_rows leads is))) ∙ all_law is [] ∙ append-nil (heading_says endings is)

  -- ---- row by row

  -- what is said of bytes as they are
  bytes_said : (leaf : ℕ → InlineLeaf) → ((b : ℕ) → leaf_says endings (leaf b) ≡ plain_byte b)
      → (text : List ℕ) → flat_map (leaf_says endings) (map leaf text) ≡ plain text
  bytes_said leaf same [] = refl
  bytes_said leaf same (b ∷ bs) =
      ap (λ (s : List ℕ). s ++ flat_map (leaf_says endings) (map leaf bs)) (same b) ∙ ap (λ (s : List ℕ). plain_byte b ++ s) (bytes_said leaf same bs)

  pub escapes_said : (text : List ℕ) → flat_map (leaf_says endings) (map Escape text) ≡ plain text
  escapes_said text = bytes_said Escape (λ b. refl) text

  pub data_said : (text : List ℕ) → flat_map (leaf_says endings) (map Data text) ≡ plain text
  data_said text = bytes_said Data (λ b. refl) text

  -- verbatim text without LF
  pub line_said : (line : List ℕ) → HasNoFeed line → lines_say endings line ≡ plain line
  line_said [] none = refl
  line_said (b ∷ bs) none =
      ap (λ (leaf : InlineLeaf). leaf_says endings leaf ++ lines_say endings bs) (byte_leaf b (ne_eqb b 10 (none zero (omega arith))))
      ∙ ap (λ (s : List ℕ). plain_byte b ++ s) (line_said bs (λ k lt. none (suc k) (omega arith)))

  -- up to the first LF in it
  pub lines_said : (text line others : List ℕ) → text ≡ line ++ (10 ∷ others) → HasNoFeed line
      → lines_say endings text ≡ plain line ++ (ending_says endings 10 ++ lines_say endings others)
  lines_said text line others is none =
      ap (lines_say endings) is
      ∙ ap (flat_map (leaf_says endings)) (leaves_joined line (10 ∷ others))
      ∙ flat_map-append (leaf_says endings) (map line_leaf line) (map line_leaf (10 ∷ others))
      ∙ ap (λ (s : List ℕ). s ++ lines_say endings (10 ∷ others)) (line_said line none)

  -- rows of constructs that hold no other
  pub parts_said : (ls : List InlineLeaf) → flat_map (row_says endings) (map Part ls) ≡ flat_map (leaf_says endings) ls
  parts_said [] = refl
  parts_said (l ∷ ls) = ap (λ (s : List ℕ). leaf_says endings l ++ s) (parts_said ls)

  parts_law : (ls : List InlineLeaf) (rest : List spec.InlineRow)
      → rows_say endings zero (map Part ls ++ rest) ≡ flat_map (row_says endings) (map Part ls) ++ rows_say endings (fold silent_after zero (map Part ls)) rest
  parts_law [] rest = refl
  parts_law (l ∷ ls) rest =
      ap (λ (s : List ℕ). leaf_says endings l ++ s) (parts_law ls rest)
      ∙ sym (append_assoc (leaf_says endings l) (flat_map (row_says endings) (map Part ls)) (rows_say endings (fold silent_after zero (map Part ls)) rest))

  parts_silent : (ls : List InlineLeaf) (n : ℕ) (rest : List spec.InlineRow)
      → rows_say endings (suc n) (map Part ls ++ rest) ≡ rows_say endings (fold silent_after (suc n) (map Part ls)) rest
  parts_silent [] n rest = refl
  parts_silent (l ∷ ls) n rest = parts_silent ls n rest

  module _ (at : ℕ → LinkTexts) where
    -- a row that isn't in an image, and those after it
    pub row_law : (r : InlineRow) (rest : List spec.InlineRow)
        → rows_say endings 0 (row_view at r ++ rest)
        ≡ flat_map (row_says endings) (row_view at r) ++ rows_say endings (fold silent_after 0 (row_view at r)) rest
    row_law (row.Text text) rest = parts_law (map Data text.now) rest
    row_law (row.Verbatim verbatim) rest = parts_law (map line_leaf verbatim.text.now) rest
    row_law (row.Leaf part) rest = parts_law (parts_of part) rest
    row_law (row.Spelled leaf) rest = parts_law (spelled_view leaf ∷ []) rest
    row_law (row.EnterSpan span) rest = refl
    row_law (row.EnterLink target) rest = refl
    row_law (row.EnterImage target) rest = refl
    row_law (row.Call label) rest = refl
    row_law row.Exit rest = refl

    -- one that is, and those after it
    pub row_silent : (r : InlineRow) (n : ℕ) (rest : List spec.InlineRow)
        → rows_say endings (suc n) (row_view at r ++ rest) ≡ rows_say endings (fold silent_after (suc n) (row_view at r)) rest
    row_silent (row.Text text) n rest = parts_silent (map Data text.now) n rest
    row_silent (row.Verbatim verbatim) n rest = parts_silent (map line_leaf verbatim.text.now) n rest
    row_silent (row.Leaf part) n rest = parts_silent (parts_of part) n rest
    row_silent (row.Spelled leaf) n rest = refl
    row_silent (row.EnterSpan span) n rest = refl
    row_silent (row.EnterLink target) n rest = refl
    row_silent (row.EnterImage target) n rest = refl
    row_silent (row.Call label) n rest = refl
    row_silent row.Exit n rest = refl

  -- ---- a walk over rows

  -- what was said, and what those that are left say, is what all say
  abbrev pub SaysAll : List ℕ → List ℕ → ℕ → List InlineRow → List InlineRow → Type 0
  SaysAll before out silent left rows =
      (at : ℕ → LinkTexts) → out ++ rows_say endings silent (rows_view at left) ≡ before ++ rows_say endings 0 (rows_view at rows)

  -- nothing is left
  pub all_said : (before out : List ℕ) (silent : ℕ) (rows : List InlineRow) → SaysAll before out silent [] rows
      → (at : ℕ → LinkTexts) → out ≡ before ++ rows_say endings 0 (rows_view at rows)
  all_said before out silent rows h at = sym (append-nil out) ∙ h at

  -- a row that isn't in an image
  pub one_said : (before out new : List ℕ) (next : ℕ) (r : InlineRow) (left rows : List InlineRow) → SaysAll before out 0 (r ∷ left) rows
      → ((at : ℕ → LinkTexts) → new ≡ out ++ flat_map (row_says endings) (row_view at r)) → ((at : ℕ → LinkTexts) → next ≡ fold silent_after 0 (row_view at r))
      → SaysAll before new next left rows
  one_said before out new next r left rows h is after at =
      let says = flat_map (row_says endings) (row_view at r) in
      let others = rows_say endings next (rows_view at left) in
      ap (λ (s : List ℕ). s ++ others) (is at)
      ∙ append_assoc out says others
      ∙ ap (λ (n : ℕ). out ++ (says ++ rows_say endings n (rows_view at left))) (after at)
      ∙ ap (λ (s : List ℕ). out ++ s) (sym (row_law at r (rows_view at left)))
      ∙ h at

  -- one that is
  silent_by : (n : ℕ) → 0 < n → (at : ℕ → LinkTexts) (r : InlineRow) (rest : List spec.InlineRow)
      → rows_say endings n (row_view at r ++ rest) ≡ rows_say endings (fold silent_after n (row_view at r)) rest
  silent_by zero some at r rest = absurd (omega (arith, some))
  silent_by (suc n) some at r rest = row_silent at r n rest

  pub none_said : (before out : List ℕ) (silent next : ℕ) (r : InlineRow) (left rows : List InlineRow) → 0 < silent → SaysAll before out silent (r ∷ left) rows
      → ((at : ℕ → LinkTexts) → next ≡ fold silent_after silent (row_view at r)) → SaysAll before out next left rows
  none_said before out silent next r left rows some h after at =
      ap (λ (n : ℕ). out ++ rows_say endings n (rows_view at left)) (after at)
      ∙ ap (λ (s : List ℕ). out ++ s) (sym (silent_by silent some at r (rows_view at left)))
      ∙ h at
