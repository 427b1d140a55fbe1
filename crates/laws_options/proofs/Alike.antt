-- Pages are the same by options that print raw HTML, links, images and ids of headings alike.
use Rattle.std.proofs.Common.{◌≡◌, ℕ, Bool, true, false, not, cond, List, [], ◌∷◌, ◌++◌, Option, None, Some, refl, sym, ap, ◌∙◌, map}
use Rattle.std.specs.Prelude.{codes, if◌then◌else◌}
use Rattle.std.specs.List.{flat_map}
use Rattle.markdown_compile_options.specs.declared.configuration.CompileOptions.{CompileOptions}
use Rattle.markdown_options.specs.declared.line_ending.LineEnding.{LineEnding}
use Rattle.definition_text.specs.BlockLines.{BlockLine}
use Rattle.definition_text.specs.Columns.{bytes_of, bare}
use Rattle.definition_text.specs.Lines.{ending_text}
use Rattle.definition_inline.specs.Inline.{LinkTexts, InlineLeaf, Autolink, Literal, Html, TaskCheck, Link, Image, Inline, Leaf, Span, Linked, Call}
use Rattle.definition_inline.specs.Inline.{Inlines, Nil, Cons}
use Rattle.definition_page.specs.Tags.{PrintedPart, Words, EndOfLine, Attribute, attribute, Tag, tag, bare_tag}
use Rattle.definition_page.specs.Pieces.{Piece, Open, Close, Void, Says, Eol, Fresh, Named, NoteStart, NoteEnd}
use Rattle.definition_page.specs.Destinations.{link_destination, image_source}
use Rattle.definition_page.specs.HeadingIds.{id_attributes, with_ids}
use Rattle.definition_page.specs.HeadingText.{heading_text}
use Rattle.definition_page.specs.Slug.{next_slug, with_slug}
use Rattle.definition_page.specs.InlinePieces.{Meaning, link_url, image_url, url_of, title_attribute, rel_attributes, loading_attributes, address}
use Rattle.definition_page.specs.InlinePieces.{literal_address, raw_html, HtmlLine, html_lines}
use Rattle.definition_page.specs.InlinePieces.{html_line_says, later_line_says, html_lines_say, link_tag, image_tag, leaf_says, part_says, description}
use Rattle.definition_inline.specs.Targets.{leads_to}
use Rattle.definition_page.specs.InlinePieces.{part_counts, inline_counts, element, address_tag, leaf_pieces, span_name, part_pieces, inline_pieces}
use Rattle.definition_page.specs.GfmTaskListItem.{checkable_attributes, done_attributes}
use Rattle.markdown_options.specs.declared.align_kind.AlignKind.{AlignKind}
use Rattle.definition_page.specs.GfmTable.{Table, TableRow, align_attributes, cell_pieces, cells_pieces, row_pieces, endings_pieces, body_row_pieces}
use Rattle.definition_page.specs.GfmTable.{head_pieces}
use Rattle.definition_page.specs.GfmTable.{body_pieces, table_pieces}
use Rattle.definition_page.specs.Page as page
use Rattle.definition_page.specs.Page.{Page}
use Rattle.definition_page.specs.BlockPieces.{Place, at_top, inside, html_line, says, heading_name, heading_start}
use Rattle.definition_page.specs.BlockPieces.{list_tag, last_visible, ends_plainly, fresh_unless, leaf_block_pieces, block_pieces, children_pieces}
use Rattle.definition_page.specs.BlockPieces.{document_pieces}
use Rattle.definition_page.proofs.HeadingIds.{ids_off}

-- options that print raw HTML, links, images and ids of headings alike
pub record Alike (one another : CompileOptions) : Type 0 where
  pub raw : (described : Bool) (html : List ℕ) → raw_html described one html ≡ raw_html described another html
  pub link : (url : List ℕ) → link_url one url ≡ link_url another url
  pub image : (url : List ℕ) → image_url one url ≡ image_url another url
  pub destination : (url : List ℕ) → link_destination one url ≡ link_destination another url
  pub source : (url : List ℕ) → image_source one url ≡ image_source another url
  pub rel : rel_attributes one.link_rel ≡ rel_attributes another.link_rel
  pub lazy : one.lazy_images ≡ another.lazy_images
  pub named : one.heading_ids ≡ another.heading_ids
  pub ids : another.heading_ids ≡ true → (slug : List ℕ) → id_attributes one slug ≡ id_attributes another slug
  pub checkable : one.gfm_task_list_item_checkable ≡ another.gfm_task_list_item_checkable

module _ (m : Meaning) (compile : CompileOptions) (alike : Alike compile m.compile) where
  abbrev other : Meaning
  other = record m { compile = compile }

  -- ---- raw HTML

  same_line : (described : Bool) (line ending : List ℕ) → html_line_says described compile line ending ≡ html_line_says described m.compile line ending
  same_line described line ending = ap (λ said. said ∷ map EndOfLine ending) (alike.raw described (bytes_of line))

  same_later : (described : Bool) (ls : List HtmlLine)
      → flat_map (later_line_says described compile) ls ≡ flat_map (later_line_says described m.compile) ls
  same_later described [] = refl
  same_later described (l ∷ ls) =
      ap (λ said. said ++ flat_map (later_line_says described compile) ls) (same_line described (bare l.line) l.ending)
      ∙ ap (λ said. later_line_says described m.compile l ++ said) (same_later described ls)

  same_lines : (described : Bool) (ls : List HtmlLine) → html_lines_say described compile ls ≡ html_lines_say described m.compile ls
  same_lines described [] = refl
  same_lines described (first ∷ others) =
      ap (λ said. said ++ flat_map (later_line_says described compile) others) (same_line described first.line first.ending)
      ∙ ap (λ said. html_line_says described m.compile first.line first.ending ++ said) (same_later described others)

  -- ---- inline structure

  same_leaf_says : (part : InlineLeaf) → leaf_says compile part ≡ leaf_says m.compile part
  same_leaf_says (Html html) = same_lines true (html_lines html)
  same_leaf_says part = refl

  mutual
    same_part_says : (i : Inline) → part_says compile i ≡ part_says m.compile i
    same_part_says (Leaf part) = same_leaf_says part
    same_part_says (Span kind kids) = same_description kids
    same_part_says (Linked kind target kids) = same_description kids
    same_part_says (Call label) = refl

    same_description : (is : Inlines) → description compile is ≡ description m.compile is
    same_description Nil = refl
    same_description (Cons i is) =
        ap (λ said. said ++ description compile is) (same_part_says i) ∙ ap (λ said. part_says m.compile i ++ said) (same_description is)

  same_link_tag : (target : LinkTexts) → link_tag other target ≡ link_tag m target
  same_link_tag target =
      let url = url_of m target in
      let title = title_attribute m target.title in
      let link : List ℕ → List Attribute → Tag = λ printed rel. tag (codes "a") (attribute (codes "href") printed ∷ title ++ rel) in
      ap (λ to. link (link_url compile to) (rel_attributes compile.link_rel)) (alike.destination url)
      ∙ ap (λ printed. link printed (rel_attributes compile.link_rel)) (alike.link (link_destination m.compile url))
      ∙ ap (link (link_url m.compile (link_destination m.compile url))) alike.rel

  same_image_tag : (target : LinkTexts) (text : List PrintedPart) → image_tag other target text ≡ image_tag m target text
  same_image_tag target text =
      let description : Attribute = record { name = codes "alt"; value = text } in
      let url = url_of m target in
      let title = title_attribute m target.title in
      let image : List ℕ → List Attribute → Tag = λ printed loading. tag (codes "img") (attribute (codes "src") printed ∷ description ∷ title ++ loading) in
      ap (λ from. image (image_url compile from) (loading_attributes compile.lazy_images)) (alike.source url)
      ∙ ap (λ printed. image printed (loading_attributes compile.lazy_images)) (alike.image (image_source m.compile url))
      ∙ ap (λ lazy. image (image_url m.compile (image_source m.compile url)) (loading_attributes lazy)) alike.lazy

  mutual
    same_part_counts : (i : Inline) → part_counts other i ≡ part_counts m i
    same_part_counts (Leaf part) = refl
    same_part_counts (Span kind kids) = same_counts kids
    same_part_counts (Linked kind target kids) = same_counts kids
    same_part_counts (Call label) = refl

    same_counts : (is : Inlines) → inline_counts other is ≡ inline_counts m is
    same_counts Nil = refl
    same_counts (Cons i is) = ap (λ ps. ps ++ inline_counts other is) (same_part_counts i) ∙ ap (λ ps. part_counts m i ++ ps) (same_counts is)

  same_address : (url text : List ℕ)
      → element (address_tag compile url) (Says (Words text) ∷ []) ≡ element (address_tag m.compile url) (Says (Words text) ∷ [])
  same_address url text =
      let link : List ℕ → List Attribute → List Piece = λ printed rel.
      element (tag (codes "a") (attribute (codes "href") printed ∷ rel)) (Says (Words text) ∷ []) in
      ap (λ printed. link printed (rel_attributes compile.link_rel)) (alike.link url) ∙ ap (link (link_url m.compile url)) alike.rel

  same_leaf : (part : InlineLeaf) → leaf_pieces compile part ≡ leaf_pieces m.compile part
  same_leaf (Autolink is_email text) = same_address (address is_email text) text
  same_leaf (Literal kind text) = same_address (literal_address kind text) text
  same_leaf (Html html) = ap (map Says) (same_lines false (html_lines html))
  same_leaf (TaskCheck done) =
      ap (λ checkable. Void (tag (codes "input") (attribute (codes "type") (codes "checkbox") ∷ checkable_attributes checkable ++ done_attributes done)) ∷ [])
      alike.checkable
  same_leaf part = refl

  mutual
    same_part : (i : Inline) → part_pieces other i ≡ part_pieces m i
    same_part (Leaf part) = same_leaf part
    same_part (Span kind kids) = ap (element (bare_tag (span_name kind))) (same_inlines kids)
    same_part (Linked Link target kids) =
        ap (λ t. element t (inline_pieces other kids)) (same_link_tag (leads_to m.definition target))
        ∙ ap (element (link_tag m (leads_to m.definition target))) (same_inlines kids)
    same_part (Linked Image target kids) =
        let image : List PrintedPart → Tag = image_tag m (leads_to m.definition target) in
        ap (λ t. Void t ∷ inline_counts other kids) (same_image_tag (leads_to m.definition target) (description compile kids))
        ∙ ap (λ said. Void (image said) ∷ inline_counts other kids) (same_description kids)
        ∙ ap (λ counts. Void (image (description m.compile kids)) ∷ counts) (same_counts kids)
    same_part (Call label) = refl

    same_inlines : (is : Inlines) → inline_pieces other is ≡ inline_pieces m is
    same_inlines Nil = refl
    same_inlines (Cons i is) = ap (λ ps. ps ++ inline_pieces other is) (same_part i) ∙ ap (λ ps. part_pieces m i ++ ps) (same_inlines is)

  -- ---- blocks

  same_html : (ls : List BlockLine) → flat_map (html_line compile) ls ≡ flat_map (html_line m.compile) ls
  same_html [] = refl
  same_html (l ∷ ls) =
      ap (λ said. (said ∷ Words (ending_text l.ending) ∷ []) ++ flat_map (html_line compile) ls) (alike.raw false (bytes_of l.codes))
      ∙ ap (λ said. html_line m.compile l ++ said) (same_html ls)

  -- ---- tables

  same_cell : (name : List ℕ) (align : AlignKind) (c : Inlines) → cell_pieces other name align c ≡ cell_pieces m name align c
  same_cell name align c = ap (λ ps. Fresh ∷ element (tag name (align_attributes align)) ps) (same_inlines c)

  same_beyond : (cells : List Inlines) → flat_map (inline_counts other) cells ≡ flat_map (inline_counts m) cells
  same_beyond [] = refl
  same_beyond (c ∷ cs) = ap (λ ps. ps ++ flat_map (inline_counts other) cs) (same_counts c) ∙ ap (λ ps. inline_counts m c ++ ps) (same_beyond cs)

  same_cells : (name : List ℕ) (aligns : List AlignKind) (cells : List Inlines) → cells_pieces other name aligns cells ≡ cells_pieces m name aligns cells
  same_cells name [] cells = same_beyond cells
  same_cells name (align ∷ aligns) [] = ap (λ ps. cell_pieces m name align Nil ++ ps) (same_cells name aligns [])
  same_cells name (align ∷ aligns) (c ∷ cs) =
      ap (λ ps. ps ++ cells_pieces other name aligns cs) (same_cell name align c) ∙ ap (λ ps. cell_pieces m name align c ++ ps) (same_cells name aligns cs)

  same_row : (name : List ℕ) (aligns : List AlignKind) (row : TableRow) → row_pieces other name aligns row ≡ row_pieces m name aligns row
  same_row name aligns row = ap (λ ps. Fresh ∷ element (bare_tag (codes "tr")) (ps ++ Fresh ∷ [])) (same_cells name aligns row.cells)

  same_rows : (aligns : List AlignKind) (rows : List TableRow) → flat_map (body_row_pieces other aligns) rows ≡ flat_map (body_row_pieces m aligns) rows
  same_rows aligns [] = refl
  same_rows aligns (row ∷ rows) =
      ap (λ ps. (ps ++ endings_pieces row.endings) ++ flat_map (body_row_pieces other aligns) rows) (same_row (codes "td") aligns row)
      ∙ ap (λ ps. body_row_pieces m aligns row ++ ps) (same_rows aligns rows)

  same_body : (aligns : List AlignKind) (endings : List LineEnding) (rows : List TableRow)
      → body_pieces other aligns endings rows ≡ body_pieces m aligns endings rows
  same_body aligns endings [] = refl
  same_body aligns endings (row ∷ rows) =
      ap (λ ps. endings_pieces endings ++ element (bare_tag (codes "tbody")) (ps ++ Fresh ∷ [])) (same_rows aligns (row ∷ rows))

  same_head : (aligns : List AlignKind) (head : TableRow) → head_pieces other aligns head ≡ head_pieces m aligns head
  same_head aligns head =
      ap (λ ps. element (bare_tag (codes "thead")) (ps ++ endings_pieces head.endings ++ Fresh ∷ [])) (same_row (codes "th") aligns head)

  same_table : (t : Table) → table_pieces other t ≡ table_pieces m t
  same_table t =
      let whole : List Piece → List Piece → List Piece = λ head body. Fresh ∷ element (bare_tag (codes "table")) (Fresh ∷ head ++ body ++ Fresh ∷ []) in
      ap (λ head. whole head (body_pieces other t.aligns t.endings t.rows)) (same_head t.aligns t.head)
      ∙ ap (whole (head_pieces m t.aligns t.head)) (same_body t.aligns t.endings t.rows)

  same_start : (rank : ℕ) (is : Inlines) → heading_start other rank is ≡ heading_start m rank is
  same_start rank is =
      let t = bare_tag (heading_name rank) in
      let start : Bool → Piece = λ named. if named then Named t (heading_text is) else Open t in
      ap start alike.named

  same_leaf_block : (place : Place) (leaf : page.PageLeaf) → leaf_block_pieces other place leaf ≡ leaf_block_pieces m place leaf
  same_leaf_block place (page.Paragraph is) = ap (λ ps. cond place.tight ps (Fresh ∷ element (bare_tag (codes "p")) ps)) (same_inlines is)
  same_leaf_block place (page.Heading rank is) =
      let end = Close (heading_name rank) ∷ [] in
      ap (λ start. Fresh ∷ start ∷ inline_pieces other is ++ end) (same_start rank is)
      ∙ ap (λ ps. Fresh ∷ heading_start m rank is ∷ ps ++ end) (same_inlines is)
  same_leaf_block place (page.Html ls) = ap (λ said. Fresh ∷ says said) (same_html ls)
  same_leaf_block place (page.Table t) = same_table t
  same_leaf_block place leaf = refl

  mutual
    same_block : (place : Place) (before : Option page.Block) (b : page.Block) → block_pieces other place before b ≡ block_pieces m place before b
    same_block place before (page.Leaf leaf) = same_leaf_block place leaf
    same_block place before (page.Holds page.Quote kids) =
        ap (λ ps. Fresh ∷ element (bare_tag (codes "blockquote")) (ps ++ Fresh ∷ [])) (same_children (inside false) None kids)
    same_block place before (page.ItemList number loose items) =
        ap (λ ps. Fresh ∷ element (list_tag number) (ps ++ Eol ∷ [])) (same_children (inside (not loose)) None items)
    same_block place before (page.Holds page.Item kids) =
        ap (λ ps. Fresh ∷ element (bare_tag (codes "li")) (ps ++ fresh_unless (ends_plainly place.tight (last_visible None kids))))
        (same_children (inside place.tight) None kids)
    same_block place before (page.Holds (page.Footnote label) kids) = ap (λ ps. NoteStart ∷ ps ++ NoteEnd ∷ []) (same_children (inside false) None kids)
    same_block place before b = refl

    same_children : (place : Place) (before : Option page.Block) (bs : page.Blocks) → children_pieces other place before bs ≡ children_pieces m place before bs
    same_children place before page.Nil = refl
    same_children place before (page.Cons b bs) =
        ap (λ ps. ps ++ children_pieces other place (Some b) bs) (same_block place before b)
        ∙ ap (λ ps. block_pieces m place before b ++ ps) (same_children place (Some b) bs)

  -- ---- ids

  same_ids : m.compile.heading_ids ≡ true → (taken : List (List ℕ)) (ps : List Piece) → with_ids compile taken ps ≡ with_ids m.compile taken ps
  same_ids on taken [] = refl
  same_ids on taken (Named t text ∷ ps) =
      let later = with_slug taken text in
      ap (λ ids. Open (tag t.name (ids ++ t.attributes)) ∷ with_ids compile later ps) (alike.ids on (next_slug taken text))
      ∙ ap (λ all. Open (tag t.name (id_attributes m.compile (next_slug taken text) ++ t.attributes)) ∷ all) (same_ids on later ps)
  same_ids on taken (p ∷ ps) = ap (λ all. p ∷ all) (same_ids on taken ps)

  -- where headings have none, none is named
  same_ids_by : (has : Bool) → m.compile.heading_ids ≡ has → (bs : page.Blocks) (said : Bool)
      → let ps = children_pieces m at_top None bs ++ fresh_unless said in with_ids compile [] ps ≡ with_ids m.compile [] ps
  same_ids_by true on bs said = same_ids on [] (children_pieces m at_top None bs ++ fresh_unless said)
  same_ids_by false off bs said = ids_off m off compile bs said ∙ sym (ids_off m off m.compile bs said)

  pub same_document : (p : Page) → document_pieces other p ≡ document_pieces m p
  same_document p =
      let said = not p.ends_blank in
      ap (λ ps. with_ids compile [] (ps ++ fresh_unless said)) (same_children at_top None p.blocks)
      ∙ same_ids_by m.compile.heading_ids refl p.blocks said
