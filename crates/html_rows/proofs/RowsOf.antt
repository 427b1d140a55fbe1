-- The rows of blocks print what the blocks print.
use Rattle.std.proofs.Common.{◌≡◌, ℕ, Bool, false, List, [], ◌∷◌, ◌++◌, refl, sym, ap, ◌∙◌}
use Rattle.html_rows.proofs.Prelude.{All, All-head, ArePrintable, Blank, Block, block_rows, BlockRow, Blocks, CanBePrinted, children_bytes, Cons, Container}
use Rattle.html_rows.proofs.Prelude.{Definition, Document, Ending, ends_blank_rows, Exit, fold, fold-append, Footnote, group_items, Holds, is_blank_row}
use Rattle.html_rows.proofs.Prelude.{IsPrintable, IsPrintableContainer, IsPrintableRow, Items, lay, LayoutState, Leaf, LeafBlock, new_level, Nil, on_page}
use Rattle.html_rows.proofs.Prelude.{Place, print_all, printer_at, PrinterView, rows_of, Single, spaced_leaf}
use Rattle.std.proofs.lemmas.List.Elements.{All-nil, All-cons, All-tail}
use Rattle.html_bytes.specs.Layout.{with_footnotes, nothing_laid, page_layout}
use Rattle.definition_page.specs.Read.{ends_blank, is_blank_ending}
use Rattle.html_bytes.specs.Html.{last_piece, document_bytes}
use Rattle.block_rows.specs.Rows.{start_row}
use Rattle.html_looseness.specs.declared.level.Holder.TheVariants as holder
use Rattle.html_looseness.specs.Printable.{IsPrintableLeaf}
use Rattle.html_looseness.specs.Loose.{PassView}
use Rattle.html_rows.specs.Printing.{rows_html}
use Rattle.html_looseness.proofs.BlockPlaces.{blocks_passed}
use Rattle.html_rows.proofs.Children.{blocks_printed}

-- ---- whether the last row is the ending of a blank line

abbrev blank_after : Bool → List BlockRow → Bool
blank_after blank rows = fold (λ (before : Bool) row. is_blank_row row) blank rows

block_ends_blank : (b : Block) (blank : Bool) → IsPrintable b → blank_after blank (block_rows b) ≡ is_blank_ending b
block_ends_blank (Leaf leaf) blank h = refl
block_ends_blank (Holds c kids) blank h =
    fold-append (λ (before : Bool) row. is_blank_row row) (is_blank_row (start_row c)) (rows_of kids) (Exit ∷ [])
block_ends_blank (Items items) blank h = absurd h
block_ends_blank (Ending ending) blank h = refl
block_ends_blank (Blank ending) blank h = refl

rows_end_blank : (bs : Blocks) (blank : Bool) → CanBePrinted bs → blank_after blank (rows_of bs) ≡ ends_blank blank bs
rows_end_blank Nil blank h = refl
rows_end_blank (Cons b bs) blank h =
    fold-append (λ (before : Bool) row. is_blank_row row) blank (block_rows b) (rows_of bs)
    ∙ ap (λ x. blank_after x (rows_of bs)) (block_ends_blank b blank h.0)
    ∙ rows_end_blank bs (is_blank_ending b) h.1

-- ---- the page

pub rows_html_of : (d : Document) (default : List ℕ) (bs : Blocks) → CanBePrinted bs
    → rows_html d default (rows_of bs) ≡ page_layout d.options.compile default (document_bytes d bs)
rows_html_of d default bs h =
    let pieces = children_bytes d on_page false false (group_items bs) in
    let start = new_level holder.Document false in
    let o = d.options.compile in
    let last = λ (out : LayoutState) (blank : Bool). with_footnotes o default (fold (lay o default) out (last_piece blank)) in
    let blank = ends_blank_rows (rows_of bs) in
    ap (λ (ps : List Place). last (print_all d default (printer_at nothing_laid start [] ps) (rows_of bs)).out blank)
    (ap (λ (p : PassView). p.places) (blocks_passed bs h [] []))
    ∙ ap (λ (p : PrinterView). last p.out blank) ((blocks_printed d default bs h).children start nothing_laid [] [] refl)
    ∙ ap (last (fold (lay o default) nothing_laid pieces)) (rows_end_blank bs false h)
    ∙ sym (ap (with_footnotes o default) (fold-append (lay o default) nothing_laid pieces (last_piece (ends_blank false bs))))

-- ---- what can be printed

all_append : {X : Type 0} (P : X → Type 0) (xs ys : List X) → All P xs → All P ys → All P (xs ++ ys)
all_append P [] ys h k = k
all_append P (x ∷ xs) ys h k = All-cons P x (xs ++ ys) (All-head P x xs h) (all_append P xs ys (All-tail P x xs h) k)

all_one : (row : BlockRow) → IsPrintableRow row → ArePrintable (row ∷ [])
all_one row h = All-cons IsPrintableRow row [] h (All-nil IsPrintableRow)

entered_printable : (c : Container) → IsPrintableContainer c → IsPrintableRow (start_row c)
entered_printable (Footnote label) h = h
entered_printable c h = tt

spaced_printable : (leaf : LeafBlock) → IsPrintableLeaf leaf → IsPrintableLeaf (spaced_leaf leaf)
spaced_printable (Definition ls label destination title) h = tt
spaced_printable leaf h = h

mutual
  pub printable_block : (b : Block) → IsPrintable b → ArePrintable (block_rows b)
  printable_block (Leaf leaf) h = all_one (Single (Leaf (spaced_leaf leaf))) (spaced_printable leaf h)
  printable_block (Holds c kids) h =
      All-cons IsPrintableRow (start_row c) (rows_of kids ++ Exit ∷ []) (entered_printable c h.0)
      (all_append IsPrintableRow (rows_of kids) (Exit ∷ []) (printable_rows_of kids h.1) (all_one Exit tt))
  printable_block (Items items) h = absurd h
  printable_block (Ending ending) h = all_one (Single (Ending ending)) h
  printable_block (Blank ending) h = all_one (Single (Blank ending)) h

  pub printable_rows_of : (bs : Blocks) → CanBePrinted bs → ArePrintable (rows_of bs)
  printable_rows_of Nil h = All-nil IsPrintableRow
  printable_rows_of (Cons b bs) h = all_append IsPrintableRow (block_rows b) (rows_of bs) (printable_block b h.0) (printable_rows_of bs h.1)
