-- If each piece that a page can print is good, so are all its pieces.
use Rattle.std.proofs.Common.{◌≡◌, ℕ, Bool, true, false, ◌||◌, ◌==◌, not, refl, if◌then◌else◌, List, [], ◌∷◌, ◌++◌, map, Option, None, Some, String, codes}
use Rattle.std.specs.List.{flat_map}
use Rattle.std.proofs.lemmas.Bool.{cond_both}
use Rattle.markdown_options.specs.declared.align_kind.AlignKind.{AlignKind}
use Rattle.markdown_options.specs.declared.line_ending.LineEnding.{LineEnding}
use Rattle.definition_text.specs.BlockLines.{BlockLine}
use Rattle.definition_text.specs.Columns.{Code as ContentCode}
use Rattle.definition_text.proofs.Each.{Each, each-append, each_map, each_flat_map}
use Rattle.std.specs.Str.{bytes_eq}
use Rattle.definition_inline.specs.Inline.{LinkTexts, InlineLeaf, Autolink, Literal, TaskCheck, Html as RawHtml}
use Rattle.definition_inline.specs.Inline.{Link, Image, Inline, Leaf as Part, Span, Linked, Call, Inlines, Nil as NoText, Cons as Text}
use Rattle.definition_inline.specs.LabelMatch.{normal_label, first_match}
use Rattle.definition_inline.specs.Targets.{leads_to}
use Rattle.markdown_options.specs.declared.align_kind.AlignKind.TheVariants as align
use Rattle.markdown_compile_options.specs.declared.configuration.CompileOptions.{CompileOptions}
use Rattle.definition_page.specs.GfmTaskListItem.{checkable_attributes, done_attributes, check_tag}
use Rattle.definition_page.specs.Tags.{PrintedPart, Words, Attribute, attribute, Tag, tag, bare_tag}
use Rattle.definition_page.specs.Pieces.{Piece, Open, Close, Void, Says, Eol, Fresh, Named, NoteStart, NoteEnd}
use Rattle.definition_page.specs.InlinePieces.{Meaning, element, html_says, title_attributes, title_attribute, rel_attributes, loading_attributes, link_tag}
use Rattle.definition_page.specs.InlinePieces.{image_tag}
use Rattle.definition_page.specs.InlinePieces.{address, literal_address, address_tag, description, span_name, call_at, count_at, part_counts, inline_counts}
use Rattle.definition_inline.specs.Strings.{string_text}
use Rattle.definition_page.specs.InlinePieces.{leaf_pieces, part_pieces, inline_pieces}
use Rattle.definition_page.specs.HeadingIds.{with_ids, tag_with_id}
use Rattle.definition_page.specs.HeadingText.{heading_text}
use Rattle.definition_page.specs.Slug.{next_slug, with_slug}
use Rattle.definition_page.specs.GfmTable.{TableRow, Table as TableOf, align_attributes, cell_pieces, cells_pieces, row_pieces, ending_piece, endings_pieces}
use Rattle.definition_page.specs.GfmTable.{body_row_pieces, head_pieces, body_pieces, table_pieces}
use Rattle.definition_page.specs.Page.{PageLeaf, Paragraph, Heading, Break, IndentedCode, FencedCode, Html, Table, Definition}
use Rattle.definition_page.specs.Page.{PageContainer, Quote, Item, Footnote, Block, Leaf, Holds, ItemList, Ending, Blank, Blocks, Nil, Cons}
use Rattle.definition_page.specs.BlockPieces.{Place, at_top, inside, code_line, html_line, says, heading_name, heading_start, info_attributes, list_tag}
use Rattle.definition_page.specs.BlockPieces.{is_silent}
use Rattle.definition_page.specs.BlockPieces.{last_visible, ends_plainly, fresh_unless, fenced_pieces, leaf_block_pieces, block_pieces, children_pieces}

-- ---- attributes without ids

abbrev pub IsNoId : Attribute → Type 0
IsNoId a = bytes_eq a.name (codes "id") ≡ false

-- no attribute of a tag is an id
abbrev pub HasNoId : Tag → Type 0
HasNoId t = Each IsNoId t.attributes

no_id_in_titles : (title : List ℕ) → Each IsNoId (title_attributes title)
no_id_in_titles [] = tt
no_id_in_titles (b ∷ bs) = (refl, tt)

no_id_in_title : (m : Meaning) (title : Option (List ContentCode)) → Each IsNoId (title_attribute m title)
no_id_in_title m None = tt
no_id_in_title m (Some title) = no_id_in_titles (string_text m.on m.names title)

no_id_in_rel : {A : Type 0} (rel : Option (String A)) → Each IsNoId (rel_attributes rel)
no_id_in_rel None = tt
no_id_in_rel (Some rel) = (refl, tt)

no_id_in_loading : (lazy : Bool) → Each IsNoId (loading_attributes lazy)
no_id_in_loading lazy = cond_both lazy (attribute (codes "loading") (codes "lazy") ∷ []) [] (Each IsNoId) (λ _. (refl, tt)) (λ _. tt)

no_id_in_link : (m : Meaning) (target : LinkTexts) → HasNoId (link_tag m target)
no_id_in_link m target = (
  refl,
  each-append IsNoId (title_attribute m target.title) (rel_attributes m.compile.link_rel) (no_id_in_title m target.title) (no_id_in_rel m.compile.link_rel),
)

no_id_in_image : (m : Meaning) (target : LinkTexts) (said : List PrintedPart) → HasNoId (image_tag m target said)
no_id_in_image m target said = (
  refl,
  (
    refl,
    each-append IsNoId (title_attribute m target.title) (loading_attributes m.compile.lazy_images) (no_id_in_title m target.title)
        (no_id_in_loading m.compile.lazy_images),
  ),
)

no_id_in_address : (options : CompileOptions) (url : List ℕ) → HasNoId (address_tag options url)
no_id_in_address options url = (refl, no_id_in_rel options.link_rel)

no_id_in_check : (options : CompileOptions) (done : Bool) → HasNoId (check_tag options done)
no_id_in_check options done =
    let checkable = options.gfm_task_list_item_checkable in (
      refl,
      each-append IsNoId (checkable_attributes checkable) (done_attributes done)
          (cond_both checkable [] (attribute (codes "disabled") [] ∷ []) (Each IsNoId) (λ _. tt) (λ _. (refl, tt)))
          (cond_both done (attribute (codes "checked") [] ∷ []) [] (Each IsNoId) (λ _. (refl, tt)) (λ _. tt)),
    )

no_id_in_align : (kind : AlignKind) → Each IsNoId (align_attributes kind)
no_id_in_align align.Left = (refl, tt)
no_id_in_align align.Right = (refl, tt)
no_id_in_align align.Center = (refl, tt)
no_id_in_align align.None = tt

no_id_in_info : (info : Option (List ℕ)) → Each IsNoId (info_attributes info)
no_id_in_info None = tt
no_id_in_info (Some info) = (refl, tt)

no_id_in_list : (number : Option ℕ) → HasNoId (list_tag number)
no_id_in_list None = tt
no_id_in_list (Some number) = cond_both (number == 1) [] _ (Each IsNoId) (λ _. tt) (λ _. (refl, tt))

module _ (good : Piece → Type 0) where
  abbrev pub PiecesGood : List Piece → Type 0
  PiecesGood ps = Each good ps

  -- what is good: tags without ids, the names of headings where these have ids, what is said, endings, and what each label calls
  pub record Prints (m : Meaning) : Type 0 where
    pub opens : (t : Tag) → HasNoId t → good (Open t)
    pub closes : (name : List ℕ) → good (Close name)
    pub voids : (t : Tag) → HasNoId t → good (Void t)
    pub said : (part : PrintedPart) → good (Says part)
    pub eol : good Eol
    pub fresh : good Fresh
    pub names : m.compile.heading_ids ≡ true → (t : Tag) (text : List ℕ) → HasNoId t → good (Named t text)
    pub calls : (label : List ContentCode) → PiecesGood (call_at (first_match label m.footnotes) (normal_label label))
    pub counts : (label : List ContentCode) → PiecesGood (count_at (first_match label m.footnotes) (normal_label label))

  -- which blocks there are: if there is a footnote among them, its start and its end are good
  pub record Holding (There : Blocks → Type 0) : Type 0 where
    pub others : (b : Block) (bs : Blocks) → There (Cons b bs) → There bs
    pub kids : (c : PageContainer) (kids bs : Blocks) → There (Cons (Holds c kids) bs) → There kids
    pub items : (number : Option ℕ) (loose : Bool) (items bs : Blocks) → There (Cons (ItemList number loose items) bs) → There items
    pub note : (label : List ContentCode) (kids bs : Blocks) → There (Cons (Holds (Footnote label) kids) bs) → good NoteStart × good NoteEnd

  -- any blocks, where the start and the end of a footnote are good
  pub any_blocks : good NoteStart → good NoteEnd → Holding (λ bs. Unit {0})
  any_blocks start end =
      record {
        others = λ b bs h. tt;
        kids = λ c kids bs h. tt;
        items = λ number loose items bs h. tt;
        note = λ label kids bs h. (start, end);
      }

  module _ (m : Meaning) (prints : Prints m) where
    -- ---- lists of pieces

    both_good : (ps qs : List Piece) → PiecesGood ps → PiecesGood qs → PiecesGood (ps ++ qs)
    both_good ps qs h k = each-append good ps qs h k

    says_good : (parts : List PrintedPart) → PiecesGood (map Says parts)
    says_good parts = each_map good Says parts prints.said

    element_good : (t : Tag) (ps : List Piece) → HasNoId t → PiecesGood ps → PiecesGood (element t ps)
    element_good t ps own h = (prints.opens t own, both_good ps (Close t.name ∷ []) h (prints.closes t.name, tt))

    bare_good : (name : List ℕ) (ps : List Piece) → PiecesGood ps → PiecesGood (element (bare_tag name) ps)
    bare_good name ps h = element_good (bare_tag name) ps tt h

    fresh_good : (said : Bool) → PiecesGood (fresh_unless said)
    fresh_good said = cond_both said [] (Fresh ∷ []) PiecesGood (λ _. tt) (λ _. (prints.fresh, tt))

    -- pieces that end on a line of their own
    ended_good : (ps : List Piece) → PiecesGood ps → PiecesGood (ps ++ Fresh ∷ [])
    ended_good ps h = both_good ps (Fresh ∷ []) h (prints.fresh, tt)

    -- ---- inline structure

    mutual
      part_counts_good : (i : Inline) → PiecesGood (part_counts m i)
      part_counts_good (Part part) = tt
      part_counts_good (Span kind kids) = counts_good kids
      part_counts_good (Linked kind target kids) = counts_good kids
      part_counts_good (Call label) = prints.counts label

      counts_good : (is : Inlines) → PiecesGood (inline_counts m is)
      counts_good NoText = tt
      counts_good (Text i is) = both_good (part_counts m i) (inline_counts m is) (part_counts_good i) (counts_good is)

    address_good : (url text : List ℕ) → PiecesGood (element (address_tag m.compile url) (Says (Words text) ∷ []))
    address_good url text = element_good (address_tag m.compile url) (Says (Words text) ∷ []) (no_id_in_address m.compile url) (prints.said (Words text), tt)

    leaf_good : (part : InlineLeaf) → PiecesGood (leaf_pieces m.compile part)
    leaf_good (RawHtml html) = says_good (html_says false m.compile html)
    leaf_good (Autolink is_email text) = address_good (address is_email text) text
    leaf_good (Literal kind text) = address_good (literal_address kind text) text
    leaf_good (TaskCheck done) = (prints.voids (check_tag m.compile done) (no_id_in_check m.compile done), tt)
    leaf_good part = search (prints.opens, prints.closes, prints.voids, prints.said)

    mutual
      part_good : (i : Inline) → PiecesGood (part_pieces m i)
      part_good (Part part) = leaf_good part
      part_good (Span kind kids) = bare_good (span_name kind) (inline_pieces m kids) (inlines_good kids)
      part_good (Linked Link target kids) =
          let to = leads_to m.definition target in element_good (link_tag m to) (inline_pieces m kids) (no_id_in_link m to) (inlines_good kids)
      part_good (Linked Image target kids) =
          let to = leads_to m.definition target in
          let said = description m.compile kids in
          (prints.voids (image_tag m to said) (no_id_in_image m to said), counts_good kids)
      part_good (Call label) = prints.calls label

      inlines_good : (is : Inlines) → PiecesGood (inline_pieces m is)
      inlines_good NoText = tt
      inlines_good (Text i is) = both_good (part_pieces m i) (inline_pieces m is) (part_good i) (inlines_good is)

    -- ---- tables

    cell_good : (name : List ℕ) (align : AlignKind) (is : Inlines) → PiecesGood (cell_pieces m name align is)
    cell_good name align is = (prints.fresh, element_good (tag name (align_attributes align)) (inline_pieces m is) (no_id_in_align align) (inlines_good is))

    cells_good : (name : List ℕ) (aligns : List AlignKind) (cells : List Inlines) → PiecesGood (cells_pieces m name aligns cells)
    cells_good name [] cells = each_flat_map good (inline_counts m) cells counts_good
    cells_good name (align ∷ aligns) [] =
        both_good (cell_pieces m name align NoText) (cells_pieces m name aligns []) (cell_good name align NoText) (cells_good name aligns [])
    cells_good name (align ∷ aligns) (c ∷ cs) =
        both_good (cell_pieces m name align c) (cells_pieces m name aligns cs) (cell_good name align c) (cells_good name aligns cs)

    row_good : (name : List ℕ) (aligns : List AlignKind) (row : TableRow) → PiecesGood (row_pieces m name aligns row)
    row_good name aligns row =
        let cells = cells_pieces m name aligns row.cells in
        (prints.fresh, bare_good (codes "tr") (cells ++ Fresh ∷ []) (ended_good cells (cells_good name aligns row.cells)))

    endings_good : (endings : List LineEnding) → PiecesGood (endings_pieces endings)
    endings_good endings = each_map good ending_piece endings (λ ending. prints.said _)

    body_row_good : (aligns : List AlignKind) (row : TableRow) → PiecesGood (body_row_pieces m aligns row)
    body_row_good aligns row =
        both_good (row_pieces m (codes "td") aligns row) (endings_pieces row.endings) (row_good (codes "td") aligns row) (endings_good row.endings)

    body_good : (aligns : List AlignKind) (endings : List LineEnding) (rows : List TableRow) → PiecesGood (body_pieces m aligns endings rows)
    body_good aligns endings [] = tt
    body_good aligns endings (row ∷ rows) =
        let all = flat_map (body_row_pieces m aligns) (row ∷ rows) in
        both_good (endings_pieces endings) (element (bare_tag (codes "tbody")) (all ++ Fresh ∷ [])) (endings_good endings)
        (bare_good (codes "tbody") (all ++ Fresh ∷ [])
        (ended_good all (each_flat_map good (body_row_pieces m aligns) (row ∷ rows) (body_row_good aligns))))

    head_good : (aligns : List AlignKind) (head : TableRow) → PiecesGood (head_pieces m aligns head)
    head_good aligns head =
        let row = row_pieces m (codes "th") aligns head in
        let ends = endings_pieces head.endings in
        bare_good (codes "thead") (row ++ ends ++ Fresh ∷ [])
        (ended_good (row ++ ends) (both_good row ends (row_good (codes "th") aligns head) (endings_good head.endings)))

    table_good : (t : TableOf) → PiecesGood (table_pieces m t)
    table_good t =
        let head = head_pieces m t.aligns t.head in
        let body = body_pieces m t.aligns t.endings t.rows in
        let rows = both_good head body (head_good t.aligns t.head) (body_good t.aligns t.endings t.rows) in
        (prints.fresh, bare_good (codes "table") (Fresh ∷ head ++ body ++ Fresh ∷ []) (prints.fresh, ended_good (head ++ body) rows))

    -- ---- leaf blocks

    fenced_good : (place : Place) (is_closed : Bool) (ls : List BlockLine) → PiecesGood (fenced_pieces place is_closed ls)
    fenced_good place is_closed [] = tt
    fenced_good place is_closed (line ∷ others) =
        let code = flat_map code_line (line ∷ others) in
        let last = if place.top || is_closed then [] else Eol ∷ [] in
        ended_good (says code ++ last)
        (both_good (says code) last (says_good code) (cond_both (place.top || is_closed) [] (Eol ∷ []) PiecesGood (λ _. tt) (λ _. (prints.eol, tt))))

    start_good : (rank : ℕ) (is : Inlines) → good (heading_start m rank is)
    start_good rank is =
        let t = bare_tag (heading_name rank) in
        cond_both m.compile.heading_ids (Named t (heading_text is)) (Open t) good (λ on. prints.names on t (heading_text is) tt) (λ _. prints.opens t tt)

    leaf_block_good : (place : Place) (leaf : PageLeaf) → PiecesGood (leaf_block_pieces m place leaf)
    leaf_block_good place (Paragraph is) =
        let text = inline_pieces m is in
        cond_both place.tight text (Fresh ∷ element (bare_tag (codes "p")) text) PiecesGood (λ _. inlines_good is)
        (λ _. (prints.fresh, bare_good (codes "p") text (inlines_good is)))
    leaf_block_good place (Heading rank is) =
        let name = heading_name rank in
        (prints.fresh, (start_good rank is, both_good (inline_pieces m is) (Close name ∷ []) (inlines_good is) (prints.closes name, tt)))
    leaf_block_good place Break = (prints.fresh, (prints.voids (bare_tag (codes "hr")) tt, tt))
    leaf_block_good place (IndentedCode ls) =
        let lines = says (flat_map code_line ls) ++ Fresh ∷ [] in
        let code = bare_good (codes "code") lines (ended_good (says (flat_map code_line ls)) (says_good (flat_map code_line ls))) in
        (prints.fresh, bare_good (codes "pre") (element (bare_tag (codes "code")) lines) code)
    leaf_block_good place (FencedCode info is_closed ls) =
        let lines = fenced_pieces place is_closed ls in
        let code = tag (codes "code") (info_attributes info) in
        let pre = bare_good (codes "pre") (element code lines) (element_good code lines (no_id_in_info info) (fenced_good place is_closed ls)) in
        (prints.fresh, both_good (element (bare_tag (codes "pre")) (element code lines)) (fresh_unless is_closed) pre (fresh_good is_closed))
    leaf_block_good place (Html ls) = (prints.fresh, says_good (flat_map (html_line m.compile) ls))
    leaf_block_good place (Table t) = table_good t
    leaf_block_good place Definition = tt

    -- ---- ids

    ids_good : ((t : Tag) → good (Open t)) → (taken : List (List ℕ)) (ps : List Piece) → PiecesGood ps → PiecesGood (with_ids m.compile taken ps)
    ids_good all taken [] h = tt
    ids_good all taken (Named t text ∷ ps) h =
        (all (tag_with_id m.compile (next_slug taken text) t), ids_good all (with_slug taken text) ps h.1)
    ids_good all taken (p ∷ ps) h = (h.0, ids_good all taken ps h.1)

    -- ---- blocks

    module _ (There : Blocks → Type 0) (holding : Holding There) where
      mutual
        block_good : (place : Place) (before : Option Block) (b : Block) (bs : Blocks) → There (Cons b bs) → PiecesGood (block_pieces m place before b)
        block_good place before (Leaf leaf) bs h = leaf_block_good place leaf
        block_good place before (Holds Quote kids) bs h =
            let inner = children_pieces m (inside false) None kids in
            let all = children_good (inside false) None kids (holding.kids Quote kids bs h) in
            (prints.fresh, bare_good (codes "blockquote") (inner ++ Fresh ∷ []) (ended_good inner all))
        block_good place before (Holds Item kids) bs h =
            let inner = children_pieces m (inside place.tight) None kids in
            let plainly = ends_plainly place.tight (last_visible None kids) in
            let all = children_good (inside place.tight) None kids (holding.kids Item kids bs h) in (
              prints.fresh,
              bare_good (codes "li") (inner ++ fresh_unless plainly)
                  (both_good inner (fresh_unless plainly) all (fresh_good plainly)),
            )
        block_good place before (Holds (Footnote label) kids) bs h =
            let inner = children_pieces m (inside false) None kids in
            let note = holding.note label kids bs h in
            let all = children_good (inside false) None kids (holding.kids (Footnote label) kids bs h) in
            (note.0, both_good inner (NoteEnd ∷ []) all (note.1, tt))
        block_good place before (ItemList number loose items) bs h =
            let inner = children_pieces m (inside (not loose)) None items in
            let all = children_good (inside (not loose)) None items (holding.items number loose items bs h) in
            (prints.fresh, element_good (list_tag number) (inner ++ Eol ∷ []) (no_id_in_list number) (both_good inner (Eol ∷ []) all (prints.eol, tt)))
        block_good place before (Ending ending) bs h =
            cond_both (is_silent place before) [] _ PiecesGood (λ _. tt) (λ _. (prints.said _, tt))
        block_good place before (Blank ending) bs h = tt

        pub children_good : (place : Place) (before : Option Block) (bs : Blocks) → There bs → PiecesGood (children_pieces m place before bs)
        children_good place before Nil h = tt
        children_good place before (Cons b bs) h =
            both_good (block_pieces m place before b) (children_pieces m place (Some b) bs) (block_good place before b bs h)
            (children_good place (Some b) bs (holding.others b bs h))

      -- blocks that end on a line of their own or not, such as those of a document
      pub named_page_good : (bs : Blocks) (said : Bool) → There bs → PiecesGood (children_pieces m at_top None bs ++ fresh_unless said)
      named_page_good bs said h =
          both_good (children_pieces m at_top None bs) (fresh_unless said) (children_good at_top None bs h) (fresh_good said)

      -- the same with the ids of their headings, where all start tags are good
      pub page_good : ((t : Tag) → good (Open t)) → (bs : Blocks) (said : Bool) → There bs
          → PiecesGood (with_ids m.compile [] (children_pieces m at_top None bs ++ fresh_unless said))
      page_good all bs said h = ids_good all [] (children_pieces m at_top None bs ++ fresh_unless said) (named_page_good bs said h)
