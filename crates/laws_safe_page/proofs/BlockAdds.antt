-- What the blocks of a page print adds a safe page.
use Rattle.std.proofs.Common.{◌≡◌, ℕ, zero, suc, map, Bool, true, false, eqb, ◌||◌, not, List, [], ◌∷◌, ◌++◌, Option, None, Some, codes, sym, refl, subst, inl}
use Rattle.std.proofs.Common.{inr, reverse}
use Rattle.std.specs.Prelude.{slice_index_or}
use Rattle.std.specs.List.{flat_map}
use Rattle.std.proofs.lemmas.Bool.{cond_both, or_cases, eqb-true}
use Rattle.markdown_options.specs.declared.line_ending.LineEnding.{LineEnding}
use Rattle.markdown_options.specs.declared.line_ending.LineEnding.TheVariants.{CarriageReturnLineFeed, CarriageReturn, LineFeed}
use Rattle.markdown_options.specs.LineEndings.{ending_bytes}
use Rattle.definition_text.specs.BlockLines.{BlockLine}
use Rattle.definition_text.specs.Columns.{bytes_of}
use Rattle.definition_inline.specs.Inline.{Inlines, Nil}
use Rattle.markdown_options.specs.declared.align_kind.AlignKind.{AlignKind}
use Rattle.markdown_options.specs.declared.align_kind.AlignKind.TheVariants as kind
use Rattle.definition_page.specs.GfmTable.{TableRow, Table as TableOf, align_attributes, cell_pieces, cells_pieces, row_pieces, ending_piece, endings_pieces}
use Rattle.definition_page.specs.GfmTable.{body_row_pieces}
use Rattle.definition_page.specs.GfmTable.{head_pieces, body_pieces, table_pieces}
use Rattle.definition_page.specs.Tags.{Words, Number, Attribute, Tag, tag, bare_tag}
use Rattle.definition_page.specs.Pieces.{Piece, Open, Close, Void, Says, Eol, Fresh, Named}
use Rattle.definition_page.specs.Page.{Page, PageLeaf, Paragraph, Heading, Break, IndentedCode, FencedCode, Html, Table, Definition, Quote, Item, Footnote}
use Rattle.definition_page.specs.Page.{Block, Leaf, Holds, ItemList, Ending, Blank, Blocks, Nil as NoBlocks, Cons}
use Rattle.definition_page.specs.InlinePieces.{Meaning, inline_counts, element, inline_pieces}
use Rattle.definition_page.specs.GfmFootnoteDefinition.{Footnote as NoteWithCalls, section_pieces}
use Rattle.definition_page.specs.Layout.{named_calls, first_calls, with_calls, content, contents, layout, footnote_of, called_footnotes, page_layout}
use Rattle.definition_page.proofs.Cuts.{outside_is, insides_are}
use Rattle.definition_page.specs.HeadingText.{heading_text}
use Rattle.definition_page.specs.HeadingIds.{is_note_id, tag_with_id}
use Rattle.definition_page.specs.Destinations.{heading_prefix}
use Rattle.markdown_compile_options.specs.declared.configuration.CompileOptions.{CompileOptions}
use Rattle.definition_page.specs.BlockPieces.{Place, at_top, inside, code_line, html_line, says}
use Rattle.definition_page.specs.BlockPieces.{heading_name, info_attributes, list_tag, is_silent, last_visible, ends_plainly, fresh_unless}
use Rattle.definition_page.specs.BlockPieces.{fenced_pieces}
use Rattle.definition_page.specs.BlockPieces.{leaf_block_pieces, block_pieces, children_pieces, document_pieces}
use Rattle.html_safe_page.specs.Table.{start_rows, start_rows_of, more_start_rows, void_rows}
use Rattle.html_safe_page.specs.declared.table.TagTable.{TagTable}
use Rattle.html_safe_page.specs.declared.table.TagTable.TheVariants.{Extended}
use Rattle.laws_safe_page.specs.SafeHtml.{AreSafe}
use Rattle.laws_safe_page.proofs.Marked.{IsPage, text_page}
use Rattle.laws_safe_page.proofs.Values.{IsText, IsSafePart, value_spelled}
use Rattle.laws_safe_page.proofs.Each.{Each, each_map, each_mapped, each_flat_map}
use Rattle.laws_safe_page.proofs.Tags.{HaveTexts, IsTag, as_start, as_more_start}
use Rattle.laws_safe_page.proofs.Fits.{Fits}
use Rattle.laws_safe_page.proofs.Pieces.{Adds, adds_append}
use Rattle.laws_safe_page.proofs.Lays.{IsPrinted, Lays, lays_nothing, lays_append, lays_says, lays_void, lays_parts, lays_element, lays_heading, lays_eol}
use Rattle.laws_safe_page.proofs.Lays.{lays_fresh}
use Rattle.laws_safe_page.proofs.Lays.{lays_note}
use Rattle.laws_safe_page.proofs.Links.{words_text}
use Rattle.laws_safe_page.proofs.Footnotes.{section_adds}
use Rattle.laws_safe_page.proofs.InlineAdds.{AllEndLines, own_html, counts_lay, inline_adds}

-- ---- what a page holds

-- 1 to 6 (CommonMark 4.2 and 4.3)
abbrev pub is_rank : ℕ → Bool
is_rank rank = (eqb rank 1 || eqb rank 2 || eqb rank 3) || (eqb rank 4 || eqb rank 5 || eqb rank 6)

-- cells of tables
abbrev pub CellsEndLines : List Inlines → Type 0
CellsEndLines cells = Each AllEndLines cells

abbrev pub RowsEndLines : List TableRow → Type 0
RowsEndLines rows = Each (λ (row : TableRow). CellsEndLines row.cells) rows

-- a heading has such a rank, and the codes of line endings are those
abbrev pub IsReadableLeaf : PageLeaf → Type 0
IsReadableLeaf (Paragraph is) = AllEndLines is
IsReadableLeaf (Heading rank is) = (is_rank rank ≡ true) × AllEndLines is
IsReadableLeaf (Table t) = CellsEndLines t.head.cells × RowsEndLines t.rows
IsReadableLeaf leaf = Unit {0}

-- of leaves at any depth
abbrev mutual
  pub IsReadable : Block → Type 0
  IsReadable (Leaf leaf) = IsReadableLeaf leaf
  IsReadable (Holds c kids) = AreReadable kids
  IsReadable (ItemList number loose items) = AreReadable items
  IsReadable b = Unit {0}

  pub AreReadable : Blocks → Type 0
  AreReadable NoBlocks = Unit {0}
  AreReadable (Cons b bs) = IsReadable b × AreReadable bs

-- ---- tags

-- a fact of each of the six ranks
by_rank : (P : ℕ → Type 0) (rank : ℕ) → is_rank rank ≡ true → P 1 → P 2 → P 3 → P 4 → P 5 → P 6 → P rank
by_rank P rank h one two three four five six =
    let at = λ (n : ℕ) (e : eqb rank n ≡ true) (p : P n). subst P (sym (eqb-true rank n e)) p in
    elim (or_cases (eqb rank 1 || eqb rank 2 || eqb rank 3) (eqb rank 4 || eqb rank 5 || eqb rank 6) h) [
      | inl low ↦ elim (or_cases (eqb rank 1 || eqb rank 2) (eqb rank 3) low) [
        | inl lower ↦ elim (or_cases (eqb rank 1) (eqb rank 2) lower) [ inl e ↦ at 1 e one | inr e ↦ at 2 e two ]
        | inr e ↦ at 3 e three
      ]
      | inr high ↦ elim (or_cases (eqb rank 4 || eqb rank 5) (eqb rank 6) high) [
        | inl lower ↦ elim (or_cases (eqb rank 4) (eqb rank 5) lower) [ inl e ↦ at 4 e four | inr e ↦ at 5 e five ]
        | inr e ↦ at 6 e six
      ]
    ]

heading_is_tag : (rank : ℕ) → is_rank rank ≡ true → IsTag start_rows (bare_tag (heading_name rank))
unfolding start_rows
heading_is_tag rank h =
    by_rank (λ n. IsTag start_rows (bare_tag (heading_name n))) rank h (tt, refl) (tt, refl) (tt, refl) (tt, refl) (tt, refl) (tt, refl)

-- a heading with an id
abbrev id_of : List ℕ → List ℕ → Attribute
id_of prefix slug = record { name = codes "id"; value = Words prefix ∷ Words slug ∷ [] }

named_is_tag : (prefix slug : List ℕ) (rank : ℕ) → is_rank rank ≡ true → IsTag more_start_rows (tag (heading_name rank) (id_of prefix slug ∷ []))
unfolding more_start_rows
named_is_tag prefix slug rank h =
    let id : HaveTexts (id_of prefix slug ∷ []) = (value_spelled (Words prefix ∷ Words slug ∷ []) (tt, (tt, tt)), tt) in
    by_rank (λ n. IsTag more_start_rows (tag (heading_name n) (id_of prefix slug ∷ []))) rank h (id, refl) (id, refl) (id, refl) (id, refl) (id, refl)
    (id, refl)

with_id_is_tag : (table : TagTable) (options : CompileOptions) (rank : ℕ) → table ≡ Extended → is_rank rank ≡ true → (slug : List ℕ)
    → IsTag (start_rows_of table) (tag_with_id options slug (bare_tag (heading_name rank)))
with_id_is_tag table options rank e h [] = as_start table (bare_tag (heading_name rank)) (heading_is_tag rank h)
with_id_is_tag table options rank e h (b ∷ bs) =
    let prefix = heading_prefix options in
    let name = heading_name rank in
    cond_both (is_note_id options (prefix ++ b ∷ bs)) [] (id_of prefix (b ∷ bs) ∷ []) (λ id. IsTag (start_rows_of table) (tag name (id ++ [])))
    (λ _. as_start table (bare_tag name) (heading_is_tag rank h))
    (λ _. as_more_start table (tag name (id_of prefix (b ∷ bs) ∷ [])) e (named_is_tag prefix (b ∷ bs) rank h))

code_is_tag : (info : Option (List ℕ)) → IsTag start_rows (tag (codes "code") (info_attributes info))
unfolding start_rows
code_is_tag None = (tt, refl)
code_is_tag (Some info) = ((words_text (codes "language-" ++ info), tt), refl)

list_is_tag : (number : Option ℕ) → IsTag start_rows (list_tag number)
unfolding start_rows
list_is_tag None = (tt, refl)
list_is_tag (Some number) =
    cond_both (eqb number 1) [] _ (λ attributes. IsTag start_rows (tag (codes "ol") attributes)) (λ _. (tt, refl))
    (λ _. ((value_spelled (Number number ∷ []) (tt, tt), tt), refl))

-- the parts of a table
table_is_tag : IsTag start_rows (bare_tag (codes "table"))
unfolding start_rows
table_is_tag = (tt, refl)

head_is_tag : IsTag start_rows (bare_tag (codes "thead"))
unfolding start_rows
head_is_tag = (tt, refl)

body_is_tag : IsTag start_rows (bare_tag (codes "tbody"))
unfolding start_rows
body_is_tag = (tt, refl)

row_is_tag : IsTag start_rows (bare_tag (codes "tr"))
unfolding start_rows
row_is_tag = (tt, refl)

-- a cell, aligned or not
head_cell_is_tag : (align : AlignKind) → IsTag start_rows (tag (codes "th") (align_attributes align))
unfolding start_rows
head_cell_is_tag kind.Left = ((words_text (codes "left"), tt), refl)
head_cell_is_tag kind.Right = ((words_text (codes "right"), tt), refl)
head_cell_is_tag kind.Center = ((words_text (codes "center"), tt), refl)
head_cell_is_tag kind.None = (tt, refl)

body_cell_is_tag : (align : AlignKind) → IsTag start_rows (tag (codes "td") (align_attributes align))
unfolding start_rows
body_cell_is_tag kind.Left = ((words_text (codes "left"), tt), refl)
body_cell_is_tag kind.Right = ((words_text (codes "right"), tt), refl)
body_cell_is_tag kind.Center = ((words_text (codes "center"), tt), refl)
body_cell_is_tag kind.None = (tt, refl)

pub ending_is_text : (ending : LineEnding) → IsText (ending_bytes ending)
ending_is_text CarriageReturnLineFeed = (13 ∷ 10 ∷ [], refl, refl)
ending_is_text CarriageReturn = (13 ∷ [], refl, refl)
ending_is_text LineFeed = (10 ∷ [], refl, refl)

-- ---- pieces

module _ (marks : Bool) (table : TagTable) where
  module _ (default : List ℕ) (ending : IsText default) (m : Meaning) (safe : AreSafe m.compile) (fits : Fits marks m.compile table) where
    fresh_line : (pieces : List Piece) → Lays marks table m.compile default pieces → Lays marks table m.compile default (Fresh ∷ pieces)
    fresh_line pieces p = lays_append marks table m.compile default (Fresh ∷ []) pieces (lays_fresh marks table m.compile default ending) p

    and_fresh : (pieces : List Piece) → Lays marks table m.compile default pieces → Lays marks table m.compile default (pieces ++ Fresh ∷ [])
    and_fresh pieces p = lays_append marks table m.compile default pieces (Fresh ∷ []) p (lays_fresh marks table m.compile default ending)

    adds_fresh_unless : (said : Bool) → Lays marks table m.compile default (fresh_unless said)
    adds_fresh_unless said =
        cond_both said [] (Fresh ∷ []) (Lays marks table m.compile default) (λ _. lays_nothing marks table m.compile default)
        (λ _. lays_fresh marks table m.compile default ending)

    -- an element that begins a line
    block_element : (t : Tag) (pieces : List Piece) → IsTag start_rows t → Lays marks table m.compile default pieces
        → Lays marks table m.compile default (Fresh ∷ element t pieces)
    block_element t pieces i p = fresh_line (element t pieces) (lays_element marks table m.compile default t pieces i p)

    code_adds : (ls : List BlockLine) → Lays marks table m.compile default (says (flat_map code_line ls))
    code_adds ls = lays_parts marks table m.compile default (flat_map code_line ls) (each_flat_map (IsSafePart marks) code_line ls (λ line. (tt, (tt, tt))))

    fenced_adds : (place : Place) (is_closed : Bool) (ls : List BlockLine) → Lays marks table m.compile default (fenced_pieces place is_closed ls)
    fenced_adds place is_closed [] = lays_nothing marks table m.compile default
    fenced_adds place is_closed (line ∷ others) =
        and_fresh (says (flat_map code_line (line ∷ others)) ++ _)
        (lays_append marks table m.compile default (says (flat_map code_line (line ∷ others))) _ (code_adds (line ∷ others))
        (cond_both (place.top || is_closed) [] (Eol ∷ []) (Lays marks table m.compile default) (λ _. lays_nothing marks table m.compile default)
        (λ _. lays_eol marks table m.compile default ending)))

    -- the cells of a row
    module _ (name : List ℕ) (is_tag : (align : AlignKind) → IsTag start_rows (tag name (align_attributes align))) where
      cell_adds : (align : AlignKind) (c : Inlines) → AllEndLines c → Lays marks table m.compile default (cell_pieces m name align c)
      cell_adds align c h =
          block_element (tag name (align_attributes align)) (inline_pieces m c) (is_tag align) (inline_adds marks table default m safe fits c h)

      cells_add : (aligns : List AlignKind) (cells : List Inlines) → CellsEndLines cells → Lays marks table m.compile default (cells_pieces m name aligns cells)
      cells_add [] [] h = lays_nothing marks table m.compile default
      cells_add [] (c ∷ cs) h =
          lays_append marks table m.compile default (inline_counts m c) (flat_map (inline_counts m) cs) (counts_lay marks table default m c)
          (cells_add [] cs h.1)
      cells_add (align ∷ aligns) [] h =
          lays_append marks table m.compile default (cell_pieces m name align Nil) (cells_pieces m name aligns []) (cell_adds align Nil tt)
          (cells_add aligns [] tt)
      cells_add (align ∷ aligns) (c ∷ cs) h =
          lays_append marks table m.compile default (cell_pieces m name align c) (cells_pieces m name aligns cs) (cell_adds align c h.0)
          (cells_add aligns cs h.1)

      row_adds : (aligns : List AlignKind) (row : TableRow) → CellsEndLines row.cells → Lays marks table m.compile default (row_pieces m name aligns row)
      row_adds aligns row h =
          let cells = cells_pieces m name aligns row.cells in
          block_element (bare_tag (codes "tr")) (cells ++ Fresh ∷ []) row_is_tag (and_fresh cells (cells_add aligns row.cells h))

    endings_add : (endings : List LineEnding) → Lays marks table m.compile default (endings_pieces endings)
    endings_add [] = lays_nothing marks table m.compile default
    endings_add (ending ∷ others) =
        lays_append marks table m.compile default (ending_piece ending ∷ []) (endings_pieces others)
        (lays_says marks table m.compile default (Words (ending_bytes ending)) tt)
        (endings_add others)

    -- tables
    body_rows_add : (aligns : List AlignKind) (rows : List TableRow) → RowsEndLines rows
        → Lays marks table m.compile default (flat_map (body_row_pieces m aligns) rows)
    body_rows_add aligns [] h = lays_nothing marks table m.compile default
    body_rows_add aligns (row ∷ rows) h =
        lays_append marks table m.compile default (body_row_pieces m aligns row) (flat_map (body_row_pieces m aligns) rows)
        (lays_append marks table m.compile default (row_pieces m (codes "td") aligns row) (endings_pieces row.endings)
        (row_adds (codes "td") body_cell_is_tag aligns row h.0)
        (endings_add row.endings))
        (body_rows_add aligns rows h.1)

    body_adds : (aligns : List AlignKind) (endings : List LineEnding) (rows : List TableRow) → RowsEndLines rows
        → Lays marks table m.compile default (body_pieces m aligns endings rows)
    body_adds aligns endings [] h = lays_nothing marks table m.compile default
    body_adds aligns endings (row ∷ rows) h =
        let all = flat_map (body_row_pieces m aligns) (row ∷ rows) ++ Fresh ∷ [] in
        lays_append marks table m.compile default (endings_pieces endings) (element (bare_tag (codes "tbody")) all) (endings_add endings)
        (lays_element marks table m.compile default (bare_tag (codes "tbody")) all body_is_tag
        (and_fresh (flat_map (body_row_pieces m aligns) (row ∷ rows)) (body_rows_add aligns (row ∷ rows) h)))

    head_adds : (aligns : List AlignKind) (head : TableRow) → CellsEndLines head.cells → Lays marks table m.compile default (head_pieces m aligns head)
    head_adds aligns head h =
        let row = row_pieces m (codes "th") aligns head in
        let ends = endings_pieces head.endings in
        lays_element marks table m.compile default (bare_tag (codes "thead")) (row ++ ends ++ Fresh ∷ []) head_is_tag
        (and_fresh (row ++ ends)
        (lays_append marks table m.compile default row ends (row_adds (codes "th") head_cell_is_tag aligns head h) (endings_add head.endings)))

    table_adds : (t : TableOf) → CellsEndLines t.head.cells → RowsEndLines t.rows → Lays marks table m.compile default (table_pieces m t)
    table_adds t h k =
        let head = head_pieces m t.aligns t.head in
        let body = body_pieces m t.aligns t.endings t.rows in
        block_element (bare_tag (codes "table")) (Fresh ∷ head ++ body ++ Fresh ∷ []) table_is_tag
        (fresh_line (head ++ body ++ Fresh ∷ [])
        (and_fresh (head ++ body) (lays_append marks table m.compile default head body (head_adds t.aligns t.head h) (body_adds t.aligns t.endings t.rows k))))

    leaf_block_adds : (place : Place) (leaf : PageLeaf) → IsReadableLeaf leaf → Lays marks table m.compile default (leaf_block_pieces m place leaf)
    unfolding start_rows void_rows
    leaf_block_adds place (Paragraph is) h =
        let text = inline_pieces m is in
        let p = inline_adds marks table default m safe fits is h in
        cond_both place.tight text _ (Lays marks table m.compile default) (λ _. p) (λ _. block_element (bare_tag (codes "p")) text (tt, refl) p)
    leaf_block_adds place (Heading rank is) h =
        let t = bare_tag (heading_name rank) in
        let text = inline_pieces m is in
        let p = inline_adds marks table default m safe fits is h.1 in
        cond_both m.compile.heading_ids (Named t (heading_text is)) (Open t)
        (λ start. Lays marks table m.compile default (Fresh ∷ start ∷ text ++ Close t.name ∷ []))
        (λ e. fresh_line (Named t (heading_text is) ∷ text ++ Close t.name ∷ [])
        (lays_heading marks table m.compile default t (heading_text is) text (with_id_is_tag table m.compile rank (fits.ids e) h.0) p))
        (λ _. block_element t text (heading_is_tag rank h.0) p)
    leaf_block_adds place Break h = fresh_line (Void (bare_tag (codes "hr")) ∷ []) (lays_void marks table m.compile default (bare_tag (codes "hr")) (tt, refl))
    leaf_block_adds place (IndentedCode ls) h =
        let lines = says (flat_map code_line ls) ++ Fresh ∷ [] in
        block_element (bare_tag (codes "pre")) (element (bare_tag (codes "code")) lines) (tt, refl)
        (lays_element marks table m.compile default (bare_tag (codes "code")) lines (tt, refl) (and_fresh (says (flat_map code_line ls)) (code_adds ls)))
    leaf_block_adds place (FencedCode info is_closed ls) h =
        let code = tag (codes "code") (info_attributes info) in
        let lines = fenced_pieces place is_closed ls in
        lays_append marks table m.compile default (Fresh ∷ element (bare_tag (codes "pre")) (element code lines)) (fresh_unless is_closed)
        (block_element (bare_tag (codes "pre")) (element code lines) (tt, refl)
        (lays_element marks table m.compile default code lines (code_is_tag info) (fenced_adds place is_closed ls)))
        (adds_fresh_unless is_closed)
    leaf_block_adds place (Html ls) h =
        fresh_line (says (flat_map (html_line m.compile) ls))
        (lays_parts marks table m.compile default (flat_map (html_line m.compile) ls)
        (each_flat_map (IsSafePart marks) (html_line m.compile) ls (λ line. (own_html marks m.compile safe fits.raw (bytes_of line.codes), (tt, tt)))))
    leaf_block_adds place (Table t) h = table_adds t h.0 h.1
    leaf_block_adds place Definition h = lays_nothing marks table m.compile default

    mutual
      unfolding start_rows

      block_adds : (place : Place) (before : Option Block) (b : Block) → IsReadable b → Lays marks table m.compile default (block_pieces m place before b)
      block_adds place before (Leaf leaf) h = leaf_block_adds place leaf h
      block_adds place before (Holds Quote kids) h =
          let lines = children_pieces m (inside false) None kids in
          block_element (bare_tag (codes "blockquote")) (lines ++ Fresh ∷ []) (tt, refl) (and_fresh lines (children_add (inside false) None kids h))
      block_adds place before (Holds Item kids) h =
          let lines = children_pieces m (inside place.tight) None kids in
          let plainly = ends_plainly place.tight (last_visible None kids) in
          block_element (bare_tag (codes "li")) (lines ++ fresh_unless plainly) (tt, refl)
          (lays_append marks table m.compile default lines (fresh_unless plainly) (children_add (inside place.tight) None kids h) (adds_fresh_unless plainly))
      block_adds place before (Holds (Footnote label) kids) h =
          lays_note marks table m.compile default (children_pieces m (inside false) None kids) (children_add (inside false) None kids h)
      block_adds place before (ItemList number loose items) h =
          let lines = children_pieces m (inside (not loose)) None items in
          block_element (list_tag number) (lines ++ Eol ∷ []) (list_is_tag number)
          (lays_append marks table m.compile default lines (Eol ∷ []) (children_add (inside (not loose)) None items h)
          (lays_eol marks table m.compile default ending))
      block_adds place before (Ending ending) h =
          cond_both (is_silent place before) [] (Says (Words (ending_bytes ending)) ∷ []) (Lays marks table m.compile default)
          (λ _. lays_nothing marks table m.compile default)
          (λ _. lays_says marks table m.compile default (Words (ending_bytes ending)) tt)
      block_adds place before (Blank ending) h = lays_nothing marks table m.compile default

      children_add : (place : Place) (before : Option Block) (bs : Blocks) → AreReadable bs
          → Lays marks table m.compile default (children_pieces m place before bs)
      children_add place before NoBlocks h = lays_nothing marks table m.compile default
      children_add place before (Cons b bs) h =
          lays_append marks table m.compile default (block_pieces m place before b) (children_pieces m place (Some b) bs) (block_adds place before b h.0)
          (children_add place (Some b) bs h.1)

    -- a page without its section
    document_adds : (page : Page) → AreReadable page.blocks
        → Lays marks table m.compile default (children_pieces m at_top None page.blocks ++ fresh_unless (not page.ends_blank))
    document_adds page h =
        lays_append marks table m.compile default (children_pieces m at_top None page.blocks) (fresh_unless (not page.ends_blank))
        (children_add at_top None page.blocks h)
        (adds_fresh_unless (not page.ends_blank))

    note_printed : (notes : List (List ℕ)) (place : ℕ) → Each (IsPrinted marks table) notes → IsPrinted marks table (slice_index_or notes place [])
    note_printed [] place p = (text_page marks table [], refl)
    note_printed (note ∷ notes) zero p = p.0
    note_printed (note ∷ notes) (suc place) p = note_printed notes place p.1

    pub page_is_safe : (page : Page) → AreReadable page.blocks → IsPage marks table (page_layout m.compile default (document_pieces m page))
    page_is_safe page h =
        let ps = document_pieces m page in
        let calls = named_calls ps in
        let shown = with_calls m.compile (first_calls calls) [] ps in
        let lines = document_adds page h [] (first_calls calls) [] in
        let around : Adds marks table default (content zero (reverse shown)) =
        subst (Adds marks table default) (sym (outside_is shown lines.outside lines.insides lines.cut)) lines.outside_adds in
        let notes = map (layout default) (contents [] shown) in
        let printed : Each (IsPrinted marks table) notes =
        subst (λ cs. Each (IsPrinted marks table) (map (layout default) cs)) (sym (insides_are shown lines.outside lines.insides lines.cut))
        (each_mapped (λ c. IsPrinted marks table (layout default c)) (IsPrinted marks table) (layout default) lines.insides (λ c p. p) lines.insides_safe) in
        let footnotes = called_footnotes calls notes in
        let section =
        section_adds marks table default ending m.compile safe footnotes
        (each_map (λ (note : NoteWithCalls). IsPrinted marks table note.html) (footnote_of calls notes) (first_calls calls)
        (λ c. note_printed notes c.place printed)) in
        let whole = adds_append marks table default (content zero (reverse shown)) (section_pieces m.compile footnotes) around section [] in
        subst (IsPage marks table) (sym whole.is_after) whole.is_safe
