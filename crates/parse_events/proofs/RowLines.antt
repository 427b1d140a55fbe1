-- The lines that a row takes, alone and before others.
use Rattle.std.proofs.Common.{◌≡◌, ℕ, true, false, List, [], ◌∷◌, ◌++◌, refl, sym, ap, ◌∙◌, subst, arith, length, take}
use Rattle.std.proofs.Math.Seq.{take-length}
use Rattle.std.proofs.lemmas.List.{take-append-le}
use Rattle.parse_events.proofs.Prelude.{AreLinesOf, BlockLine, definition_on, definition_value, FencedCode, Heading, Html, IndentedCode}
use Rattle.parse_events.proofs.Prelude.{IsPrintableRow, Leaf, own_lines, Paragraph, Row, row_size, row_value, Single, Table}
use Rattle.text_pieces.specs.ParagraphLines.{AreLines}
use Rattle.inline_content.specs.Lines.{AreContentLines}
use Rattle.block_rows.specs.declared.row.Row.TheVariants as row
use Rattle.html_looseness.specs.Printable.{AreHeadingLines}
use Rattle.html_rows.proofs.Lines.{with_ending}
use Rattle.parse_leaves.specs.Rows.{AreOfRow}

front_taken : (count : ℕ) (xs ys : List BlockLine) → length xs ≡ count → take count (xs ++ ys) ≡ take count xs
front_taken count xs ys size = take-append-le count xs ys (omega (arith, size))

-- What a row stands for is told by the lines that it takes.
pub same_value : (r : Row) (xs ys : List BlockLine) → length xs ≡ row_size r → row_value r (xs ++ ys) ≡ row_value r xs
same_value (row.Paragraph count) xs ys size = ap (λ (ls : List BlockLine). Single (Leaf (Paragraph (own_lines ls)))) (front_taken count xs ys size)
same_value row.WholeParagraph [] ys size = absurd (omega (arith, size))
same_value row.WholeParagraph (x ∷ xs) ys size = refl
same_value (row.Heading rank) xs ys size = ap (λ (ls : List BlockLine). Single (Leaf (Heading rank (own_lines ls)))) (front_taken 1 xs ys size)
same_value (row.SetextHeading rank count) xs ys size = ap (λ (ls : List BlockLine). Single (Leaf (Heading rank (own_lines ls)))) (front_taken count xs ys size)
same_value row.Break xs ys size = refl
same_value (row.IndentedCode count) xs ys size = ap (λ (ls : List BlockLine). Single (Leaf (IndentedCode (own_lines ls)))) (front_taken count xs ys size)
same_value (row.FencedCode count) [] ys size = absurd (omega (arith, size))
same_value (row.FencedCode count) (x ∷ xs) ys size =
    ap (λ (ls : List BlockLine). Single (Leaf (FencedCode x.codes true ls))) (front_taken count xs ys (omega (arith, size)))
same_value (row.UnclosedCode count) [] ys size = absurd (omega (arith, size))
same_value (row.UnclosedCode count) (x ∷ xs) ys size =
    ap (λ (ls : List BlockLine). Single (Leaf (FencedCode x.codes false ls))) (front_taken count xs ys (omega (arith, size)))
same_value row.WholeCode [] ys size = absurd (omega (arith, size))
same_value row.WholeCode (x ∷ []) ys size = absurd (omega (arith, size))
same_value row.WholeCode (x ∷ y ∷ xs) ys size = refl
same_value (row.Html count) xs ys size = ap (λ (ls : List BlockLine). Single (Leaf (Html (own_lines ls)))) (front_taken count xs ys size)
same_value (row.Table count) xs ys size = ap (λ (ls : List BlockLine). Single (Leaf (Table (own_lines ls)))) (front_taken count xs ys size)
same_value (row.Definition count) xs ys size =
    ap (λ (ls : List BlockLine). Single (definition_value (own_lines ls) (definition_on ls))) (front_taken count xs ys size)
same_value row.EnterQuote xs ys size = refl
same_value (row.EnterItem marker number) xs ys size = refl
same_value row.EnterFootnote [] ys size = absurd (omega (arith, size))
same_value row.EnterFootnote (x ∷ xs) ys size = refl
same_value row.Exit xs ys size = refl
same_value (row.Ending ending) xs ys size = refl
same_value (row.Blank ending) xs ys size = refl

-- ---- what is known of these lines

heading_lines : (ls : List BlockLine) → AreHeadingLines (own_lines ls) → AreContentLines ls
heading_lines [] h = tt
heading_lines (a ∷ []) h = h
heading_lines (a ∷ b ∷ []) h = h
heading_lines (a ∷ b ∷ c ∷ others) h = with_ending (a ∷ b ∷ c ∷ others) h

all_taken : (count : ℕ) (ls : List BlockLine) → length ls ≡ count → take count ls ≡ ls
all_taken count ls size = ap (λ (k : ℕ). take k ls) (sym size) ∙ take-length ls

are_of_row : (r : Row) (ls : List BlockLine) → length ls ≡ row_size r → IsPrintableRow (row_value r ls) → AreOfRow r ls
are_of_row (row.Paragraph count) ls size h =
    with_ending ls (subst (λ (xs : List BlockLine). AreLines (own_lines xs)) (all_taken count ls size) h)
are_of_row (row.Heading rank) ls size h =
    heading_lines ls (subst (λ (xs : List BlockLine). AreHeadingLines (own_lines xs)) (all_taken 1 ls size) h.1)
are_of_row (row.SetextHeading rank count) ls size h =
    heading_lines ls (subst (λ (xs : List BlockLine). AreHeadingLines (own_lines xs)) (all_taken count ls size) h.1)
are_of_row r ls size h = tt

pub lines_of_row : (r : Row) (ls : List BlockLine) → length ls ≡ row_size r → IsPrintableRow (row_value r ls) → AreLinesOf r ls
lines_of_row r ls size h = record { size = size; lines = are_of_row r ls size h }
