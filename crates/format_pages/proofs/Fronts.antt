-- The lines that a text's byte order mark and frontmatter leave have the bytes that they leave.
use Rattle.std.proofs.Common.{◌≡◌, ℕ, ◌-◌, List, Option, None, Some, refl, sym, ap, ◌∙◌, length, take, arith}
use Rattle.std.specs.List.{slice_range}
use Rattle.markdown_options.specs.declared.configuration.Constructs.{Constructs}
use Rattle.definition_text.specs.Lines.{TextLine, lines, without_mark}
use Rattle.definition_block.specs.Frontmatter.{after_frontmatter}
use Rattle.block_rows.proofs.TextLines.{text_back, text_of}
use Rattle.format_pages.specs.Constructs.{every_construct}
use Rattle.format_pages.specs.Front.{front_size, lines_left}

-- the bytes after a frontmatter are those of the lines after it
left_bytes : (marked body : List ℕ) (o : Option (List TextLine)) → (o ≡ None → body ≡ marked)
    → ((others : List TextLine) → o ≡ Some others → lines body ≡ others) → text_of (lines_left (lines marked) o) ≡ body
left_bytes marked body None all left = text_back marked ∙ sym (all refl)
left_bytes marked body (Some others) all left = ap text_of (sym (left others refl)) ∙ text_back body

-- the bytes of the lines that are left of a text
abbrev left_of : Constructs → List ℕ → List ℕ
left_of on marked = text_of (lines_left (lines marked) (after_frontmatter on (lines marked)))

pub left_size : (on : Constructs) (text marked body : List ℕ) → on ≡ every_construct → marked ≡ without_mark text
    → (after_frontmatter on (lines marked) ≡ None → body ≡ marked)
    → ((others : List TextLine) → after_frontmatter on (lines marked) ≡ Some others → lines body ≡ others)
    → length text - length body ≡ front_size text
left_size on text marked body is marks all left =
    ap (λ (xs : List ℕ). length text - length xs)
    (sym (left_bytes marked body (after_frontmatter on (lines marked)) all left) ∙ ap (λ o. left_of o marked) is ∙ ap (left_of every_construct) marks)

pub from_start : (n : ℕ) (xs : List ℕ) → slice_range xs 0 n ≡ take n xs
from_start n xs = ap (λ k. take k xs) (omega arith)
