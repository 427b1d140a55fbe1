-- What the inline structure of a content prints adds a safe page.
use Rattle.std.proofs.Common.{◌≡◌, ℕ, Bool, true, false, not, ◌&&◌, cond, Option, None, Some, List, [], ◌∷◌, ◌++◌, codes, sym, refl, subst}
use Rattle.std.specs.List.{flat_map}
use Rattle.std.proofs.lemmas.Bool.{cond_both, false≢true, and_parts}
use Rattle.markdown_compile_options.specs.RawHtml.{keeps_listed_html}
use Rattle.markdown_compile_options.specs.declared.configuration.CompileOptions.{CompileOptions}
use Rattle.definition_text.specs.Columns.{bytes_of, bare}
use Rattle.definition_text.specs.Content.{is_eol}
use Rattle.definition_inline.specs.Inline.{InlineLeaf, Code, Math, Autolink, Literal, Html, EscapedBreak, TrailingBreak, LineEnd, TaskCheck, SpanKind}
use Rattle.definition_inline.specs.Inline.{Emphasis, Strong, Link, Image, Inline, Leaf, Span, Linked, Call, Inlines, Nil, Cons}
use Rattle.definition_inline.specs.EachPart.{EachPart, EachOf}
use Rattle.definition_inline.specs.LabelMatch.{normal_label, first_match}
use Rattle.definition_page.specs.GfmTagfilter.{filter_if}
use Rattle.definition_page.specs.Tags.{Words, AsItIs, Marked, EndOfLine, attribute, Tag, tag, bare_tag}
use Rattle.definition_page.specs.Pieces.{Void, Says}
use Rattle.definition_page.specs.Destinations.{link_destination, image_source}
use Rattle.definition_page.specs.GfmTaskListItem.{checkable_attributes, done_attributes, check_tag}
use Rattle.definition_page.specs.InlinePieces.{Meaning, raw_html, HtmlLine, html_text_line, in_first_line, html_lines, html_line_says, later_line_says}
use Rattle.definition_page.specs.InlinePieces.{html_lines_say, html_says, url_of, link_tag, image_tag, math_tag, address, literal_address}
use Rattle.definition_inline.specs.Targets.{leads_to}
use Rattle.definition_page.specs.InlinePieces.{leaf_says, part_says, description, call_at, count_at, part_counts, inline_counts, element}
use Rattle.definition_page.specs.InlinePieces.{address_tag, leaf_pieces, span_name, part_pieces, inline_pieces}
use Rattle.html_safe_page.specs.Table.{start_rows, start_rows_of, void_rows}
use Rattle.html_safe_page.specs.declared.table.TagTable.{TagTable}
use Rattle.laws_safe_page.specs.SafeHtml.{AreSafe}
use Rattle.laws_safe_page.proofs.Values.{IsSafePart, AreTextParts}
use Rattle.laws_safe_page.proofs.Each.{Each, each-append, each_mapped}
use Rattle.laws_safe_page.proofs.Lays.{Lays, lays_nothing, lays_append, lays_says, lays_void, lays_void_by, lays_parts, lays_element, lays_element_by}
use Rattle.laws_safe_page.proofs.Lays.{lays_call, lays_count}
use Rattle.laws_safe_page.proofs.Tags.{IsTag, as_start}
use Rattle.laws_safe_page.proofs.Fits.{Fits}
use Rattle.laws_safe_page.proofs.Links.{link_is_tag, image_is_tag, words_text}
use Rattle.laws_safe_page.proofs.Footnotes.{call_adds}

-- the code of a line ending is one
abbrev pub LeafEndsLine : InlineLeaf → Type 0
LeafEndsLine (LineEnd code) = is_eol code ≡ true
LeafEndsLine part = Unit {0}

abbrev pub EndsLine : Inline → Type 0
EndsLine (Leaf part) = LeafEndsLine part
EndsLine i = Unit {0}

-- the same at any depth
abbrev pub EndsLines : Inline → Type 0
EndsLines i = EachPart EndsLine i

abbrev pub AllEndLines : Inlines → Type 0
AllEndLines is = EachOf EndsLine is

-- ---- raw HTML, which is printed as text or marked

abbrev IsEnding : ℕ → Type 0
IsEnding code = is_eol code ≡ true

abbrev LineEnds : HtmlLine → Type 0
LineEnds line = Each IsEnding line.ending

first_ends : (code : ℕ) (ls : List HtmlLine) → Each LineEnds ls → Each LineEnds (in_first_line code ls)
first_ends code [] p = (tt, tt)
first_ends code (line ∷ others) p = p

lines_end : (html : List ℕ) → Each LineEnds (html_lines html)
lines_end [] = tt
lines_end (c ∷ cs) =
    cond_both (is_eol c) (html_text_line [] (c ∷ []) ∷ html_lines cs) (in_first_line c (html_lines cs)) (Each LineEnds)
    (λ e. ((e, tt), lines_end cs)) (λ _. first_ends c (html_lines cs) (lines_end cs))

-- in the description of an image or not
module _ (marks described : Bool) (options : CompileOptions) (safe : AreSafe options)
    (raw : (keeps_listed_html options && not described) ≡ true → marks ≡ true) where
  html_is_safe : (html : List ℕ) → IsSafePart marks (raw_html described options html)
  html_is_safe html =
      let other = cond options.allow_dangerous_html (AsItIs (filter_if options html)) (Words html) in
      cond_both (keeps_listed_html options && not described) (Marked html) other (IsSafePart marks) raw
      (λ _. subst (λ b. IsSafePart marks (cond b (AsItIs (filter_if options html)) (Words html))) (sym safe.no_html) tt)

  line_is_safe : (line ending : List ℕ) → Each IsEnding ending → Each (IsSafePart marks) (html_line_says described options line ending)
  line_is_safe line ending p = (html_is_safe (bytes_of line), each_mapped IsEnding (IsSafePart marks) EndOfLine ending (λ code e. e) p)

  later_are_safe : (ls : List HtmlLine) → Each LineEnds ls → Each (IsSafePart marks) (flat_map (later_line_says described options) ls)
  later_are_safe [] p = tt
  later_are_safe (line ∷ others) p =
      each-append (IsSafePart marks) (later_line_says described options line) (flat_map (later_line_says described options) others)
      (line_is_safe (bare line.line) line.ending p.0) (later_are_safe others p.1)

  lines_are_safe : (ls : List HtmlLine) → Each LineEnds ls → Each (IsSafePart marks) (html_lines_say described options ls)
  lines_are_safe [] p = tt
  lines_are_safe (first ∷ others) p =
      each-append (IsSafePart marks) (html_line_says described options first.line first.ending) (flat_map (later_line_says described options) others)
      (line_is_safe first.line first.ending p.0) (later_are_safe others p.1)

  tags_are_safe : (html : List ℕ) → Each (IsSafePart marks) (html_says described options html)
  tags_are_safe html = lines_are_safe (html_lines html) (lines_end html)

-- raw HTML in a text
module _ (marks : Bool) (options : CompileOptions) (safe : AreSafe options) where
  module _ (raw : keeps_listed_html options ≡ true → marks ≡ true) where
    kept_raw : (keeps_listed_html options && not false) ≡ true → marks ≡ true
    kept_raw h = raw (and_parts (keeps_listed_html options) true h).0

    pub own_html : (html : List ℕ) → IsSafePart marks (raw_html false options html)
    own_html html = html_is_safe marks false options safe kept_raw html

    own_tags : (html : List ℕ) → Each (IsSafePart marks) (html_says false options html)
    own_tags html = tags_are_safe marks false options safe kept_raw html

  -- ---- descriptions, in which no raw HTML is marked

  never_marked : (keeps_listed_html options && not true) ≡ true → marks ≡ true
  never_marked h = absurd (false≢true (and_parts (keeps_listed_html options) false h).1)

  leaf_is_safe : (part : InlineLeaf) → LeafEndsLine part → Each (IsSafePart marks) (leaf_says options part)
  leaf_is_safe (Html html) h = tags_are_safe marks true options safe never_marked html
  leaf_is_safe EscapedBreak h = tt
  leaf_is_safe TrailingBreak h = tt
  leaf_is_safe (TaskCheck done) h = tt
  leaf_is_safe (LineEnd code) h = (h, tt)
  leaf_is_safe part h = (tt, tt)

module _ (options : CompileOptions) (safe : AreSafe options) where
  mutual
    part_is_text : (i : Inline) → EndsLines i → AreTextParts (part_says options i)
    part_is_text (Leaf part) h = leaf_is_safe false options safe part h
    part_is_text (Span kind kids) h = description_is_text kids h.1
    part_is_text (Linked kind target kids) h = description_is_text kids h.1
    part_is_text (Call label) h = tt

    description_is_text : (is : Inlines) → AllEndLines is → AreTextParts (description options is)
    description_is_text Nil h = tt
    description_is_text (Cons i is) h =
        each-append (IsSafePart false) (part_says options i) (description options is) (part_is_text i h.0) (description_is_text is h.1)

-- ---- pieces

math_is_tag : IsTag start_rows math_tag
unfolding start_rows
math_is_tag = ((words_text (codes "language-math math-inline"), tt), refl)

span_is_tag : (kind : SpanKind) → IsTag start_rows (bare_tag (span_name kind))
unfolding start_rows
span_is_tag Emphasis = (tt, refl)
span_is_tag Strong = (tt, refl)
span_is_tag kind = (tt, refl)

check_is_tag : (checkable done : Bool)
    → IsTag void_rows (tag (codes "input") (attribute (codes "type") (codes "checkbox") ∷ checkable_attributes checkable ++ done_attributes done))
unfolding void_rows
check_is_tag true true = ((words_text (codes "checkbox"), (words_text [], tt)), refl)
check_is_tag true false = ((words_text (codes "checkbox"), tt), refl)
check_is_tag false true = ((words_text (codes "checkbox"), (words_text [], (words_text [], tt))), refl)
check_is_tag false false = ((words_text (codes "checkbox"), (words_text [], tt)), refl)

module _ (marks : Bool) (table : TagTable) where
  module _ (default : List ℕ) (m : Meaning) where
    counts_at : (place : Option ℕ) (label : List ℕ) → Lays marks table m.compile default (count_at place label)
    counts_at None label = lays_nothing marks table m.compile default
    counts_at (Some place) label = lays_count marks table m.compile default place label

    calls_at : (place : Option ℕ) (label : List ℕ) → Lays marks table m.compile default (call_at place label)
    calls_at None label = lays_nothing marks table m.compile default
    calls_at (Some place) label = lays_call marks table m.compile default (call_adds marks table default m.compile) place label

    mutual
      part_counts_lay : (i : Inline) → Lays marks table m.compile default (part_counts m i)
      part_counts_lay (Leaf part) = lays_nothing marks table m.compile default
      part_counts_lay (Span kind kids) = counts_lay kids
      part_counts_lay (Linked kind target kids) = counts_lay kids
      part_counts_lay (Call label) = counts_at (first_match label m.footnotes) (normal_label label)

      pub counts_lay : (is : Inlines) → Lays marks table m.compile default (inline_counts m is)
      counts_lay Nil = lays_nothing marks table m.compile default
      counts_lay (Cons i is) = lays_append marks table m.compile default (part_counts m i) (inline_counts m is) (part_counts_lay i) (counts_lay is)

  module _ (default : List ℕ) (m : Meaning) (safe : AreSafe m.compile) (fits : Fits marks m.compile table) where
    -- an element around a text
    said_adds : (t : Tag) (text : List ℕ) → IsTag (start_rows_of table) t → Lays marks table m.compile default (element t (Says (Words text) ∷ []))
    said_adds t text is = lays_element_by marks table m.compile default t (Says (Words text) ∷ []) is (lays_says marks table m.compile default (Words text) tt)

    leaf_adds : (part : InlineLeaf) → LeafEndsLine part → Lays marks table m.compile default (leaf_pieces m.compile part)
    unfolding start_rows void_rows
    leaf_adds (Code text) h = said_adds (bare_tag (codes "code")) text (as_start table (bare_tag (codes "code")) (tt, refl))
    leaf_adds (Math text) h = said_adds math_tag text (as_start table math_tag math_is_tag)
    leaf_adds (Autolink is_email text) h =
        said_adds (address_tag m.compile (address is_email text)) text (link_is_tag m safe table marks fits (address is_email text) None)
    leaf_adds (Literal kind text) h =
        said_adds (address_tag m.compile (literal_address kind text)) text (link_is_tag m safe table marks fits (literal_address kind text) None)
    leaf_adds EscapedBreak h = lays_void marks table m.compile default (bare_tag (codes "br")) (tt, refl)
    leaf_adds TrailingBreak h = lays_void marks table m.compile default (bare_tag (codes "br")) (tt, refl)
    leaf_adds (TaskCheck done) h = lays_void marks table m.compile default (check_tag m.compile done) (check_is_tag m.compile.gfm_task_list_item_checkable done)
    leaf_adds (Html html) h = lays_parts marks table m.compile default (html_says false m.compile html) (own_tags marks m.compile safe fits.raw html)
    leaf_adds part h = lays_parts marks table m.compile default (leaf_says m.compile part) (leaf_is_safe marks m.compile safe part h)

    mutual
      part_adds : (i : Inline) → EndsLines i → Lays marks table m.compile default (part_pieces m i)
      part_adds (Leaf part) h = leaf_adds part h
      part_adds (Span kind kids) h =
          lays_element marks table m.compile default (bare_tag (span_name kind)) (inline_pieces m kids) (span_is_tag kind) (inline_adds kids h.1)
      part_adds (Linked Link target kids) h =
          let to = leads_to m.definition target in
          lays_element_by marks table m.compile default (link_tag m to) (inline_pieces m kids)
          (link_is_tag m safe table marks fits (link_destination m.compile (url_of m to)) to.title) (inline_adds kids h.1)
      part_adds (Linked Image target kids) h =
          let to = leads_to m.definition target in
          let image = image_tag m to (description m.compile kids) in
          lays_append marks table m.compile default (Void image ∷ []) (inline_counts m kids)
          (lays_void_by marks table m.compile default image
          (image_is_tag m safe table marks fits (image_source m.compile (url_of m to)) to.title (description m.compile kids)
          (description_is_text m.compile safe kids h.1)))
          (counts_lay default m kids)
      part_adds (Call label) h = calls_at default m (first_match label m.footnotes) (normal_label label)

      pub inline_adds : (is : Inlines) → AllEndLines is → Lays marks table m.compile default (inline_pieces m is)
      inline_adds Nil h = lays_nothing marks table m.compile default
      inline_adds (Cons i is) h = lays_append marks table m.compile default (part_pieces m i) (inline_pieces m is) (part_adds i h.0) (inline_adds is h.1)
