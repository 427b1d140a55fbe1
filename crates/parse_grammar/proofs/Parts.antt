-- Inline structure whose constructs are on: as it is read, and what is alike to it (CommonMark 6).
use Rattle.std.proofs.Common.{◌≡◌, Bool, true, List, [], ◌∷◌, map, refl, sym, subst}
use Rattle.std.specs.List.{flat_map}
use Rattle.std.proofs.lemmas.Bool.{true≢false}
use Rattle.markdown_options.specs.declared.configuration.Constructs.{Constructs}
use Rattle.definition_text.specs.Columns.{bare, Code as ContentCode}
use Rattle.definition_text.specs.InlineCode.{InlineCode}
use Rattle.definition_text.proofs.Each.{Each, each-append, each_map}
use Rattle.definition_inline.specs.EachPart.{EachOf, EachPart}
use Rattle.definition_inline.specs.Inline.{Autolink, Code, EscapedBreak, Html, InlineLeaf, LineEnd, Math, TaskCheck, TrailingBreak}
use Rattle.definition_inline.specs.Inline.{Inline, Leaf, Span, Linked, Call, Inlines, Nil, Cons}
use Rattle.definition_inline.specs.MayStand.{leaf_may_stand, linked_may_stand, part_may_stand, span_may_stand}
use Rattle.definition_inline.specs.Scan.{InlineContext, inlines_from}
use Rattle.definition_inline.proofs.MayStand.{may_stand, Stands}
use Rattle.definition_page.specs.GfmTable.{in_cell, part_in_cell}
use Rattle.definition_page.specs.InlinePieces.{html_lines, HtmlLine, Meaning}
use Rattle.event_meaning.specs.Texts.{append, leaves}
use Rattle.parse_alike.specs.HtmlText.{html_leaf, html_leaves, later_leaves, line_leaves, lines_leaves}
use Rattle.parse_alike.specs.Inline.{ArePartsAlike, IsPartAlike, leaf_parts}

module _ (on : Constructs) where
  -- Whether a part is of a construct that is on. Escapes, references, literals and raw HTML pass, since nodes aren't told by them.
  abbrev pub leaf_is_on : InlineLeaf → Bool
  leaf_is_on (Code text) = on.code_text
  leaf_is_on (Math text) = on.math_text
  leaf_is_on (Autolink is_email text) = on.autolink
  leaf_is_on EscapedBreak = on.hard_break_escape
  leaf_is_on TrailingBreak = on.hard_break_trailing
  leaf_is_on (TaskCheck done) = on.gfm_task_list_item
  leaf_is_on leaf = true

  abbrev pub part_is_on : Inline → Bool
  part_is_on (Leaf leaf) = leaf_is_on leaf
  part_is_on (Span kind kids) = span_may_stand on kind
  part_is_on (Linked kind target kids) = linked_may_stand on kind
  part_is_on (Call label) = part_may_stand on (Call label)

  abbrev pub IsPartOn : Inline → Type 0
  IsPartOn i = part_is_on i ≡ true

  -- each part of a text, at any depth
  abbrev pub TextIsOn : Inlines → Type 0
  TextIsOn is = EachOf IsPartOn is

  -- ---- as it is read

  leaf_stands : (leaf : InlineLeaf) → leaf_may_stand on leaf ≡ true → leaf_is_on leaf ≡ true
  leaf_stands (Code text) h = h
  leaf_stands (Math text) h = h
  leaf_stands (Autolink is_email text) h = h
  leaf_stands EscapedBreak h = h
  leaf_stands TrailingBreak h = h
  leaf_stands (TaskCheck done) h = absurd (true≢false (sym h))
  leaf_stands leaf h = refl

  mutual
    part_stands : (i : Inline) → EachPart (Stands on) i → EachPart IsPartOn i
    part_stands (Leaf leaf) h = leaf_stands leaf h
    part_stands (Span kind kids) h = (h.0, text_stands kids h.1)
    part_stands (Linked kind target kids) h = (h.0, text_stands kids h.1)
    part_stands (Call label) h = h

    text_stands : (is : Inlines) → EachOf (Stands on) is → TextIsOn is
    text_stands Nil h = tt
    text_stands (Cons i is) h = (part_stands i h.0, text_stands is h.1)

  -- ---- one after another

  both_on : (is js : Inlines) → TextIsOn is → TextIsOn js → TextIsOn (append is js)
  both_on Nil js first second = second
  both_on (Cons i is) js first second = (first.0, both_on is js first.1 second)

  pub parts_of_both : (is js : Inlines) → TextIsOn (append is js) → TextIsOn is × TextIsOn js
  parts_of_both Nil js h = (tt, h)
  parts_of_both (Cons i is) js h = let others = parts_of_both is js h.1 in ((h.0, others.0), others.1)

  -- ---- what is alike

  -- raw HTML is cut into raw HTML and line endings
  abbrev IsLeafOn : InlineLeaf → Type 0
  IsLeafOn leaf = leaf_is_on leaf ≡ true

  leaves_on : (ls : List InlineLeaf) → Each IsLeafOn ls → TextIsOn (leaves ls)
  leaves_on [] h = tt
  leaves_on (l ∷ ls) h = (h.0, leaves_on ls h.1)

  piece_on : (html : List ContentCode) → Each IsLeafOn (html_leaf html)
  piece_on [] = tt
  piece_on (c ∷ cs) = (refl, tt)

  line_on : (line ending : List ContentCode) → Each IsLeafOn (line_leaves line ending)
  line_on line ending =
      each-append IsLeafOn (html_leaf line) (map LineEnd ending) (piece_on line) (each_map IsLeafOn (λ c. LineEnd c) ending (λ c. refl))

  later_on : (ls : List HtmlLine) → Each IsLeafOn (flat_map later_leaves ls)
  later_on [] = tt
  later_on (l ∷ ls) = each-append IsLeafOn (later_leaves l) (flat_map later_leaves ls) (line_on (bare l.line) l.ending) (later_on ls)

  html_on : (ls : List HtmlLine) → Each IsLeafOn (lines_leaves ls)
  html_on [] = tt
  html_on (first ∷ others) =
      each-append IsLeafOn (line_leaves first.line first.ending) (flat_map later_leaves others) (line_on first.line first.ending) (later_on others)

  leaf_parts_on : (leaf : InlineLeaf) → IsLeafOn leaf → TextIsOn (leaf_parts leaf)
  leaf_parts_on (Html html) h = leaves_on (html_leaves html) (html_on (html_lines html))
  leaf_parts_on leaf h = (h, tt)

  module _ (m m' : Meaning) where
    mutual
      part_alike : (i : Inline) (js : Inlines) → EachPart IsPartOn i → IsPartAlike m m' i js → TextIsOn js
      part_alike (Leaf leaf) js h is = subst TextIsOn (sym is) (leaf_parts_on leaf h)
      part_alike (Span kind kids) js h is = subst TextIsOn (sym is.1) ((h.0, text_alike kids is.0 h.1 is.2), tt)
      part_alike (Linked kind target kids) js h is = subst TextIsOn (sym is.2) ((h.0, text_alike kids is.1 h.1 is.4), tt)
      part_alike (Call label) js h is = subst TextIsOn (sym is.1) (h, tt)

      pub text_alike : (is js : Inlines) → TextIsOn is → ArePartsAlike m m' is js → TextIsOn js
      text_alike Nil js h are = subst TextIsOn (sym are) tt
      text_alike (Cons i is) js h are =
          subst TextIsOn (sym are.2) (both_on are.0 are.1 (part_alike i are.0 h.0 are.3) (text_alike is are.1 h.1 are.4))

  -- ---- cells

  mutual
    part_of_cell : (i : Inline) → EachPart IsPartOn (part_in_cell i) → EachPart IsPartOn i
    part_of_cell (Leaf (Code text)) h = h
    part_of_cell (Leaf (Math text)) h = h
    part_of_cell (Leaf leaf) h = h
    part_of_cell (Span kind kids) h = (h.0, text_of_cell kids h.1)
    part_of_cell (Linked kind target kids) h = (h.0, text_of_cell kids h.1)
    part_of_cell (Call label) h = h

    pub text_of_cell : (is : Inlines) → TextIsOn (in_cell is) → TextIsOn is
    text_of_cell Nil h = tt
    text_of_cell (Cons i is) h = (part_of_cell i h.0, text_of_cell is h.1)

  mutual
    part_on_in_cell : (i : Inline) → EachPart IsPartOn i → EachPart IsPartOn (part_in_cell i)
    part_on_in_cell (Leaf (Code text)) h = h
    part_on_in_cell (Leaf (Math text)) h = h
    part_on_in_cell (Leaf leaf) h = h
    part_on_in_cell (Span kind kids) h = (h.0, cell_is_on kids h.1)
    part_on_in_cell (Linked kind target kids) h = (h.0, cell_is_on kids h.1)
    part_on_in_cell (Call label) h = h

    pub cell_is_on : (is : Inlines) → TextIsOn is → TextIsOn (in_cell is)
    cell_is_on Nil h = tt
    cell_is_on (Cons i is) h = (part_on_in_cell i h.0, cell_is_on is h.1)

pub content_is_on : (context : InlineContext) (content : List InlineCode) → TextIsOn context.options.constructs (inlines_from context content)
content_is_on context content =
    let on = context.options.constructs in text_stands on (inlines_from context content) (may_stand context content)
