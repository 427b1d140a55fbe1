-- Inline structure laid out row by row is its pieces, or what it says in a description and the calls there.
use Rattle.std.proofs.Common.{◌≡◌, ℕ, Bool, true, false, cond, List, [], ◌∷◌, ◌++◌, Option, None, Some, refl, sym, ap, ◌∙◌, append_assoc}
use Rattle.html_inline.proofs.Prelude.{append-nil, Call, call_at, call_row, Cons, count_at, end_tag, enter, first_match, flat_map-append, fold, fold-append}
use Rattle.html_inline.proofs.Prelude.{image_end, image_start, image_tag, in_bytes, Inline, inline_counts, inline_rows, InlineLeaf, Inlines, is_described}
use Rattle.html_inline.proofs.Prelude.{laid_both, laid_out, lay, LayoutState, leads_to, Leaf, leaf_description, leaf_html, Leave, link_tag, Linked, LinkTexts}
use Rattle.html_inline.proofs.Prelude.{Meaning, new_part, Nil, normal_label, OpenElement, part_counts, part_rows, Piece, printed_at, said_bytes, say_bytes}
use Rattle.html_inline.proofs.Prelude.{Span, start_tag, void_tag, with_more, with_row, with_text}
use Rattle.definition_inline.specs.Inline.{Link, Image}
use Rattle.definition_page.specs.Tags.{Tag, bare_tag}
use Rattle.definition_page.specs.Pieces.{Close}
use Rattle.definition_page.specs.InlinePieces.{span_name, element, part_says, description}
use Rattle.definition_page.specs.InlinePieces.{part_pieces, inline_pieces}
use Rattle.html_bytes.proofs.WithoutCalls.{leaf_added}
use Rattle.inline_rows.specs.InlineRows.{InlineRow}
use Rattle.html_inline.proofs.OpenStack.{no_more}
use Rattle.html_inline.proofs.TagTexts as tag_texts

module _ (meaning : Meaning) (default : List ℕ) where
  -- pieces laid out
  abbrev laid_by : LayoutState → List Piece → LayoutState
  laid_by l pieces = fold (lay meaning.compile default) l (in_bytes pieces)

  laid_then : (l : LayoutState) (ps qs : List Piece) → laid_by l (ps ++ qs) ≡ laid_by (laid_by l ps) qs
  laid_then l ps qs = laid_both meaning.compile default l ps qs

  abbrev rows_of : Inlines → List InlineRow
  rows_of is = inline_rows (leads_to meaning.definition) is

  -- what is laid out after a part, and after parts: in a description what they say, and the calls there
  abbrev part_after : Bool → Inline → LayoutState → LayoutState
  part_after described i l =
      cond described (with_text (laid_by l (part_counts meaning i)) (l.text ++ say_bytes (part_says meaning.compile i))) (laid_by l (part_pieces meaning i))

  abbrev all_after : Bool → Inlines → LayoutState → LayoutState
  all_after described is l =
      cond described (with_text (laid_by l (inline_counts meaning is)) (l.text ++ say_bytes (description meaning.compile is)))
      (laid_by l (inline_pieces meaning is))

  -- parts that are printed as they should be, wherever they stand
  abbrev ArePrinted : Inlines → Type 0
  ArePrinted is = (l : LayoutState) (stack : List OpenElement) → fold (with_row meaning) (printed_at l stack) (rows_of is)
      ≡ printed_at (all_after (is_described stack) is l) stack

  -- ---- calls that count don't see the text

  count_beside : (label : List ℕ) (place : Option ℕ) (l : LayoutState) (text : List ℕ)
      → laid_by (with_text l text) (count_at place label) ≡ with_text (laid_by l (count_at place label)) text
  count_beside label None l text = refl
  count_beside label (Some place) l text = refl

  mutual
    part_counts_beside : (i : Inline) (l : LayoutState) (text : List ℕ) → laid_by (with_text l text) (part_counts meaning i)
        ≡ with_text (laid_by l (part_counts meaning i)) text
    part_counts_beside (Leaf part) l text = refl
    part_counts_beside (Span kind kids) l text = counts_beside kids l text
    part_counts_beside (Linked kind target kids) l text = counts_beside kids l text
    part_counts_beside (Call label) l text = count_beside (normal_label label) (first_match label meaning.footnotes) l text

    counts_beside : (is : Inlines) (l : LayoutState) (text : List ℕ) → laid_by (with_text l text) (inline_counts meaning is)
        ≡ with_text (laid_by l (inline_counts meaning is)) text
    counts_beside Nil l text = refl
    counts_beside (Cons i is) l text =
        laid_then (with_text l text) (part_counts meaning i) (inline_counts meaning is)
        ∙ ap (λ x. laid_by x (inline_counts meaning is)) (part_counts_beside i l text)
        ∙ counts_beside is (laid_by l (part_counts meaning i)) text
        ∙ ap (λ x. with_text x text) (sym (laid_then l (part_counts meaning i) (inline_counts meaning is)))

  -- ---- parts that hold others

  -- rows between a start and an end
  nested : (start : List ℕ) (o : OpenElement) (kids : Inlines) → ArePrinted kids → (l : LayoutState) (stack : List OpenElement)
      → fold (with_row meaning) (enter start o (printed_at l stack)) (rows_of kids ++ Leave ∷ [])
      ≡ printed_at (cond (is_described stack) (all_after true kids l) (with_more (all_after o.described kids (with_more l start)) o.ending)) stack
  nested start o kids are l stack = by_case (is_described stack)
    where
      by_case : (t : Bool) → fold (with_row meaning) (cond t (printed_at l (new_part true [] ∷ stack)) (printed_at (with_more l start) (o ∷ stack)))
          (rows_of kids ++ Leave ∷ [])
          ≡ printed_at (cond t (all_after true kids l) (with_more (all_after o.described kids (with_more l start)) o.ending)) stack
      by_case true =
          fold-append (with_row meaning) (printed_at l (new_part true [] ∷ stack)) (rows_of kids) (Leave ∷ [])
          ∙ ap (λ p. with_row meaning p Leave) (are l (new_part true [] ∷ stack))
          ∙ ap (λ x. printed_at x stack) (sym (no_more (all_after true kids l)))
      by_case false =
          fold-append (with_row meaning) (printed_at (with_more l start) (o ∷ stack)) (rows_of kids) (Leave ∷ [])
          ∙ ap (λ p. with_row meaning p Leave) (are (with_more l start) (o ∷ stack))

  -- a span or a link, which prints its content between two tags
  between : (t : Tag) (kids : Inlines) → ArePrinted kids → (l : LayoutState) (stack : List OpenElement)
      → fold (with_row meaning) (enter (start_tag t) (new_part false (end_tag t.name)) (printed_at l stack)) (rows_of kids ++ Leave ∷ [])
      ≡ printed_at (cond (is_described stack) (all_after true kids l) (laid_by l (element t (inline_pieces meaning kids)))) stack
  between t kids are l stack =
      nested (start_tag t) (new_part false (end_tag t.name)) kids are l stack
      ∙ ap (λ x. printed_at (cond (is_described stack) (all_after true kids l) x) stack)
      (sym (laid_then (with_more l (start_tag t)) (inline_pieces meaning kids) (Close t.name ∷ [])))

  -- an image, which prints its description inside its tag and counts the calls there
  described_between : (target : LinkTexts) (kids : Inlines) (l : LayoutState)
      → with_more (all_after true kids (with_more l (image_start meaning target))) (image_end meaning target)
      ≡ laid_by (with_more l (void_tag (image_tag meaning target (description meaning.compile kids)))) (inline_counts meaning kids)
  described_between target kids l =
      let start = image_start meaning target in
      let ending = image_end meaning target in
      let says = say_bytes (description meaning.compile kids) in
      ap (λ x. with_text x (((l.text ++ start) ++ says) ++ ending)) (counts_beside kids l (l.text ++ start))
      ∙ ap (with_text (laid_by l (inline_counts meaning kids)))
      (append_assoc (l.text ++ start) says ending ∙ append_assoc l.text start (says ++ ending)
      ∙ ap (λ s. l.text ++ s) (sym (tag_texts.image_printed meaning target (description meaning.compile kids))))
      ∙ sym (counts_beside kids l (l.text ++ void_tag (image_tag meaning target (description meaning.compile kids))))

  image_printed : (target : LinkTexts) (kids : Inlines) → ArePrinted kids → (l : LayoutState) (stack : List OpenElement)
      → fold (with_row meaning) (enter (image_start meaning target) (new_part true (image_end meaning target)) (printed_at l stack))
      (rows_of kids ++ Leave ∷ [])
      ≡ printed_at (cond (is_described stack) (all_after true kids l)
      (laid_by (with_more l (void_tag (image_tag meaning target (description meaning.compile kids)))) (inline_counts meaning kids))) stack
  image_printed target kids are l stack =
      nested (image_start meaning target) (new_part true (image_end meaning target)) kids are l stack
      ∙ ap (λ x. printed_at (cond (is_described stack) (all_after true kids l) x) stack) (described_between target kids l)

  -- ---- all parts

  -- a leaf that is printed, or said
  leaf_either : (described : Bool) (part : InlineLeaf) (l : LayoutState)
      → with_more l (cond described (leaf_description meaning.compile part) (leaf_html meaning.compile part)) ≡ part_after described (Leaf part) l
  leaf_either true part l = refl
  leaf_either false part l = sym (leaf_added meaning.compile default meaning.compile part l)

  counted_either : (label : List ℕ) (place : Option ℕ) (l : LayoutState) → laid_out meaning l (count_at place label)
      ≡ with_text (laid_by l (count_at place label)) (l.text ++ [])
  counted_either label None l = no_more l
  counted_either label (Some place) l = ap (with_text (laid_by l (count_at (Some place) label))) (sym (append-nil l.text))

  called_either : (label : List ℕ) (place : Option ℕ) (l : LayoutState) → laid_out meaning l (call_at place label) ≡ laid_by l (call_at place label)
  called_either label None l = refl
  called_either label (Some place) l = refl

  call_either : (label : List ℕ) (described : Bool) (l : LayoutState)
      → laid_out meaning l (call_row meaning described label) ≡ part_after described (Call label) l
  call_either label true l = counted_either (normal_label label) (first_match label meaning.footnotes) l
  call_either label false l = called_either (normal_label label) (first_match label meaning.footnotes) l

  -- a part, and parts after it
  more_printed : (described : Bool) (i : Inline) (is : Inlines) (l : LayoutState)
      → all_after described is (part_after described i l) ≡ all_after described (Cons i is) l
  more_printed true i is l =
      let says = say_bytes (part_says meaning.compile i) in
      let others = say_bytes (description meaning.compile is) in
      ap (λ x. with_text x ((l.text ++ says) ++ others)) (counts_beside is (laid_by l (part_counts meaning i)) (l.text ++ says))
      ∙ ap (λ x. with_text x ((l.text ++ says) ++ others)) (sym (laid_then l (part_counts meaning i) (inline_counts meaning is)))
      ∙ ap (with_text (laid_by l (part_counts meaning i ++ inline_counts meaning is)))
      (append_assoc l.text says others
      ∙ ap (λ s. l.text ++ s) (sym (flat_map-append said_bytes (part_says meaning.compile i) (description meaning.compile is))))
  more_printed false i is l = sym (laid_then l (part_pieces meaning i) (inline_pieces meaning is))

  nothing_printed : (described : Bool) (l : LayoutState) → l ≡ all_after described Nil l
  nothing_printed true l = no_more l
  nothing_printed false l = refl

  mutual
    part_rows_printed : (i : Inline) (l : LayoutState) (stack : List OpenElement)
        → fold (with_row meaning) (printed_at l stack) (part_rows (leads_to meaning.definition) i) ≡ printed_at (part_after (is_described stack) i l) stack
    part_rows_printed (Leaf part) l stack = ap (λ x. printed_at x stack) (leaf_either (is_described stack) part l)
    part_rows_printed (Span kind kids) l stack = between (bare_tag (span_name kind)) kids (rows_printed kids) l stack
    part_rows_printed (Linked Link target kids) l stack =
        between (link_tag meaning (leads_to meaning.definition target)) kids (rows_printed kids) l stack
    part_rows_printed (Linked Image target kids) l stack = image_printed (leads_to meaning.definition target) kids (rows_printed kids) l stack
    part_rows_printed (Call label) l stack = ap (λ x. printed_at x stack) (call_either label (is_described stack) l)

    rows_printed : (is : Inlines) (l : LayoutState) (stack : List OpenElement)
        → fold (with_row meaning) (printed_at l stack) (inline_rows (leads_to meaning.definition) is) ≡ printed_at (all_after (is_described stack) is l) stack
    rows_printed Nil l stack = ap (λ x. printed_at x stack) (nothing_printed (is_described stack) l)
    rows_printed (Cons i is) l stack =
        fold-append (with_row meaning) (printed_at l stack) (part_rows (leads_to meaning.definition) i) (rows_of is)
        ∙ ap (λ p. fold (with_row meaning) p (rows_of is)) (part_rows_printed i l stack)
        ∙ rows_printed is (part_after (is_described stack) i l) stack
        ∙ ap (λ x. printed_at x stack) (more_printed (is_described stack) i is l)

  -- a whole content
  pub content_printed : (is : Inlines) (l : LayoutState)
      → fold (with_row meaning) (printed_at l []) (inline_rows (leads_to meaning.definition) is)
      ≡ printed_at (fold (lay meaning.compile default) l (in_bytes (inline_pieces meaning is))) []
  content_printed is l = rows_printed is l []
