-- What the blocks of a page print, with another line ending in place of each LF.
use Rattle.std.proofs.Common.{◌≡◌, ℕ, ◌+◌, Bool, true, false, true≢false, cond, eqb, not, ◌&&◌, ◌||◌, List, [], ◌∷◌, ◌++◌, Option, None, Some, refl, sym, ap}
use Rattle.std.proofs.Common.{◌∙◌, subst, arith, map, flat_map, append-nil, ◌⊎◌}
use Rattle.laws_endings.proofs.Prelude.{AlignKind, attribute, Attribute, bare_tag, BlockLine, bytes_of, children_pieces, code_byte, codes, codes_with}
use Rattle.laws_endings.proofs.Prelude.{Close, cond_both, element, encode, ending_bytes, ending_with, Eol, Fresh, fresh_unless, HaveNoFeeds, if_ending_with}
use Rattle.laws_endings.proofs.Prelude.{inline_counts, inline_pieces, Inlines, inlines_with, is_byte, line_with, LineEnding, lines_with, LinkTexts, Meaning}
use Rattle.laws_endings.proofs.Prelude.{ne_eqb, Number, option_map, Piece, raw_html, Says, TableRow, tag, Void, with_ending, Words}
use Rattle.markdown_options.specs.declared.line_ending.LineEnding.TheVariants.{CarriageReturnLineFeed, CarriageReturn, LineFeed}
use Rattle.definition_text.specs.Lines.{ending_text}
use Rattle.definition_inline.specs.Inline.{Nil as NoText}
use Rattle.markdown_options.specs.declared.align_kind.AlignKind.TheVariants as kind
use Rattle.definition_page.specs.GfmTable.{Table as TableOf, align_attributes, cell_pieces, cells_pieces, row_pieces, ending_piece, endings_pieces}
use Rattle.definition_page.specs.GfmTable.{body_row_pieces}
use Rattle.definition_page.specs.GfmTable.{head_pieces, body_pieces, table_pieces}
use Rattle.definition_page.specs.Page.{PageLeaf, Paragraph, Heading, Break, IndentedCode, FencedCode, Html, Table, Definition, Quote, Item, Footnote}
use Rattle.definition_page.specs.Page.{Block, Leaf, Holds, ItemList, Ending, Blank, Blocks, Nil, Cons}
use Rattle.definition_page.specs.BlockPieces.{Place, inside, code_line, html_line, says, heading_name, heading_start}
use Rattle.definition_page.specs.HeadingText.{heading_text}
use Rattle.definition_page.specs.Pieces.{Open, Named}
use Rattle.laws_endings.specs.PageLaws.{LinksHoldNoFeed}
use Rattle.laws_endings.proofs.HeadingIds.{heading_text-with, id-with}
use Rattle.definition_page.specs.BlockPieces.{info_attributes, start_attributes, list_tag, is_silent, last_visible, ends_plainly, fenced_pieces}
use Rattle.definition_page.specs.BlockPieces.{is_paragraph, is_definition, is_visible, leaf_block_pieces, block_pieces}
use Rattle.laws_endings.proofs.Codes.{cond-under}
use Rattle.laws_endings.proofs.Each.{Each, WhereSome, each_filter, each_map}
use Rattle.laws_endings.proofs.Fits.{Plain, space_plain}
use Rattle.laws_endings.proofs.Parts.{AreFit}
use Rattle.laws_endings.proofs.BlockReads.{IsFed, LineFits, LinesFit}
use Rattle.laws_endings.proofs.Bytes.{IsNoFeed, decimal_no_feed, with-append, kept, encode-with}
use Rattle.laws_endings.proofs.Saids.{plains_no_feed, codes-kept, SaidWith, SaidsWith, says_more, says_one, says_append, words-kept, raw-kept}
use Rattle.laws_endings.proofs.Pieces.{BytesWith, AttributesWith, attribute-with, more_attributes, PiecesWith, no_pieces, append-with, more-with}
use Rattle.laws_endings.proofs.Pieces.{said-with, void_piece-with, eol_piece-with, fresh_piece-with, element-with, saids-with, note-with, named-with}
use Rattle.laws_endings.proofs.Pieces.{open-with, close-with}
use Rattle.laws_endings.proofs.Printed.{LinkedFits, linked_with, counts-with, inlines-with}
use Rattle.laws_endings.proofs.PrintedTable.{AreFed, RowFits, TableFits, row_with, table_with}
use Rattle.laws_endings.proofs.Pages.{page_leaf_with, page_block_with, page_blocks_with, InfoFits, PageLeafFits, PageBlockFits, PageFits}

module _ (e : LineEnding) where
  -- ---- lines

  ending-words : (ending : Option LineEnding) → IsFed ending → SaidWith e (Words (ending_text (if_ending_with e ending))) (Words (ending_text ending))
  ending-words None f = refl
  ending-words (Some LineFeed) f = ap encode (sym (append-nil (ending_bytes e))) ∙ encode-with e (10 ∷ [])
  ending-words (Some CarriageReturn) f = absurd (true≢false f)
  ending-words (Some CarriageReturnLineFeed) f = absurd (true≢false f)

  code_line-with : (line : BlockLine) → LineFits line → SaidsWith e (code_line (line_with e line)) (code_line line)
  code_line-with line p =
      let bytes = map code_byte line.codes in
      let ending' = Words (ending_text (if_ending_with e line.ending)) in
      let ending = Words (ending_text line.ending) in
      says_more e (Words (map code_byte (codes_with e line.codes))) (Words bytes) (ending' ∷ []) (ending ∷ [])
      (ap (λ cs. encode (map code_byte cs)) (codes-kept e line.codes (plains_no_feed line.codes p.0))
      ∙ words-kept e bytes (plains_no_feed bytes (each_map Plain Plain code_byte line.codes space_plain p.0)))
      (says_one e ending' ending (ending-words line.ending p.1.0))

  code_lines-with : (ls : List BlockLine) → LinesFit ls → SaidsWith e (flat_map code_line (lines_with e ls)) (flat_map code_line ls)
  code_lines-with [] p = refl
  code_lines-with (line ∷ ls) p =
      says_append e (code_line (line_with e line)) (code_line line) (flat_map code_line (lines_with e ls)) (flat_map code_line ls) (code_line-with line p.0)
      (code_lines-with ls p.1)

  module _ (m : Meaning) (other : List ℕ → Option LinkTexts)
      (leads : (label : List ℕ) → other (codes_with e label) ≡ option_map (linked_with e) (m.definition label))
      (fits : (label : List ℕ) → WhereSome LinkedFits (m.definition label)) (notes : (m.footnotes ≡ []) ⊎ HaveNoFeeds m.compile)
      (texts : LinksHoldNoFeed m.compile) where
    abbrev m' : Meaning
    m' = record m { definition = other }

    html_line-with : (line : BlockLine) → LineFits line → SaidsWith e (html_line m.compile (line_with e line)) (html_line m.compile line)
    html_line-with line p =
        let html = raw_html false m.compile (bytes_of line.codes) in
        let ending' = Words (ending_text (if_ending_with e line.ending)) in
        let ending = Words (ending_text line.ending) in
        let clear = plains_no_feed line.codes p.0 in
        says_more e (raw_html false m.compile (bytes_of (codes_with e line.codes))) html (ending' ∷ []) (ending ∷ [])
        (subst (λ cs. SaidWith e (raw_html false m.compile (bytes_of cs)) html) (sym (codes-kept e line.codes clear))
        (raw-kept e false m.compile (bytes_of line.codes) (each_filter IsNoFeed is_byte line.codes clear)))
        (says_one e ending' ending (ending-words line.ending p.1.0))

    html_lines-with : (ls : List BlockLine) → LinesFit ls → SaidsWith e (flat_map (html_line m.compile) (lines_with e ls)) (flat_map (html_line m.compile) ls)
    html_lines-with [] p = refl
    html_lines-with (line ∷ ls) p =
        says_append e (html_line m.compile (line_with e line)) (html_line m.compile line) (flat_map (html_line m.compile) (lines_with e ls))
        (flat_map (html_line m.compile) ls) (html_line-with line p.0) (html_lines-with ls p.1)

    -- ---- tags

    heading-kept : (rank : ℕ) → BytesWith e (heading_name rank) (heading_name rank)
    heading-kept rank = sym (kept e (heading_name rank) (refl, (ne_eqb (48 + rank) 10 (λ is. omega (arith, is)), tt)))

    info-with : (info : Option (List ℕ)) → InfoFits e info → AttributesWith e (info_attributes info) (info_attributes info)
    info-with None p = refl
    info-with (Some info) p =
        let text = codes "language-" ++ info in
        let class = attribute (codes "class") text in
        let same : with_ending e text ≡ text = with-append e (codes "language-") info ∙ ap (λ x. codes "language-" ++ x) p in
        more_attributes e class class [] []
        (attribute-with e (codes "class") (Words text ∷ []) (Words text ∷ []) refl
        (says_one e (Words text) (Words text) (ap encode (sym same) ∙ encode-with e text))) refl

    start-attributes : (number : ℕ) → AttributesWith e (start_attributes number) (start_attributes number)
    start-attributes number =
        let start : Attribute = record { name = codes "start"; value = Number number ∷ [] } in
        cond_both (eqb number 1) [] (start ∷ []) (λ all. AttributesWith e all all) (λ _. refl)
        (λ _. more_attributes e start start [] []
        (attribute-with e (codes "start") (Number number ∷ []) (Number number ∷ []) refl
        (says_one e (Number number) (Number number) (sym (kept e _ (decimal_no_feed number))))) refl)

    list-with : (number : Option ℕ) (inside' inside : List Piece) → PiecesWith e m.compile inside' inside
        → PiecesWith e m.compile (element (list_tag number) inside') (element (list_tag number) inside)
    list-with None inside' inside p = element-with e m.compile (codes "ul") [] [] inside' inside refl refl p
    list-with (Some number) inside' inside p =
        element-with e m.compile (codes "ol") (start_attributes number) (start_attributes number) inside' inside refl (start-attributes number) p

    bare-with : (name : List ℕ) (inside' inside : List Piece) → BytesWith e name name → PiecesWith e m.compile inside' inside
        → PiecesWith e m.compile (element (bare_tag name) inside') (element (bare_tag name) inside)
    bare-with name inside' inside p q = element-with e m.compile name [] [] inside' inside p refl q

    -- ---- siblings

    abbrev sibling_with : Option Block → Option Block
    sibling_with b = option_map (page_block_with e) b

    is_paragraph-with : (leaf : PageLeaf) → is_paragraph (page_leaf_with e leaf) ≡ is_paragraph leaf
    is_paragraph-with (Paragraph is) = refl
    is_paragraph-with leaf = refl

    is_definition-with : (leaf : PageLeaf) → is_definition (page_leaf_with e leaf) ≡ is_definition leaf
    is_definition-with Definition = refl
    is_definition-with leaf = refl

    is_silent-with : (place : Place) (b : Option Block) → is_silent place (sibling_with b) ≡ is_silent place b
    is_silent-with place None = refl
    is_silent-with place (Some (Leaf leaf)) =
        ap (λ is. (place.tight && is) || is_definition (page_leaf_with e leaf)) (is_paragraph-with leaf)
        ∙ ap (λ is. (place.tight && is_paragraph leaf) || is) (is_definition-with leaf)
    is_silent-with place (Some b) = refl

    is_visible-with : (b : Block) → is_visible (page_block_with e b) ≡ is_visible b
    is_visible-with (Leaf leaf) = ap not (is_definition-with leaf)
    is_visible-with b = refl

    last_shown-with : (b : Option Block) (bs : Blocks) → last_visible (sibling_with b) (page_blocks_with e bs) ≡ sibling_with (last_visible b bs)
    last_shown-with b Nil = refl
    last_shown-with b (Cons c bs) =
        let shown : Bool → Option Block = λ is. cond is (Some (page_block_with e c)) (sibling_with b) in
        ap (λ is. last_visible (shown is) (page_blocks_with e bs)) (is_visible-with c)
        ∙ ap (λ now. last_visible now (page_blocks_with e bs)) (cond-under sibling_with (is_visible c) refl refl)
        ∙ last_shown-with (cond (is_visible c) (Some c) b) bs

    ends_plainly-with : (tight : Bool) (b : Option Block) → ends_plainly tight (sibling_with b) ≡ ends_plainly tight b
    ends_plainly-with tight None = refl
    ends_plainly-with tight (Some (Leaf leaf)) = ap (λ is. tight && is) (is_paragraph-with leaf)
    ends_plainly-with tight (Some b) = refl

    pub fresh_unless-with : (said : Bool) → PiecesWith e m.compile (fresh_unless said) (fresh_unless said)
    fresh_unless-with true = no_pieces e m.compile
    fresh_unless-with false = fresh_piece-with e m.compile

    -- ---- blocks

    fresh-then : (others ones : List Piece) → PiecesWith e m.compile others ones → PiecesWith e m.compile (Fresh ∷ others) (Fresh ∷ ones)
    fresh-then others ones p = more-with e m.compile Fresh Fresh others ones (fresh_piece-with e m.compile) p

    eol_unless : (said : Bool) → PiecesWith e m.compile (cond said [] (Eol ∷ [])) (cond said [] (Eol ∷ []))
    eol_unless true = no_pieces e m.compile
    eol_unless false = eol_piece-with e m.compile

    code-says : (ls : List BlockLine) → LinesFit ls → PiecesWith e m.compile (says (flat_map code_line (lines_with e ls))) (says (flat_map code_line ls))
    code-says ls p = saids-with e m.compile (flat_map code_line (lines_with e ls)) (flat_map code_line ls) (code_lines-with ls p)

    fenced-with : (place : Place) (is_closed : Bool) (ls : List BlockLine) → LinesFit ls
        → PiecesWith e m.compile (fenced_pieces place is_closed (lines_with e ls)) (fenced_pieces place is_closed ls)
    fenced-with place is_closed [] p = no_pieces e m.compile
    fenced-with place is_closed (line ∷ ls) p =
        let all' = says (flat_map code_line (lines_with e (line ∷ ls))) in
        let all = says (flat_map code_line (line ∷ ls)) in
        let eol : List Piece = cond (place.top || is_closed) [] (Eol ∷ []) in
        append-with e m.compile (all' ++ eol) (all ++ eol) (Fresh ∷ []) (Fresh ∷ [])
        (append-with e m.compile all' all eol eol (code-says (line ∷ ls) p) (eol_unless (place.top || is_closed))) (fresh_piece-with e m.compile)

    ending-with : (place : Place) (before : Option Block) (ending : LineEnding) (silent : Bool) → IsFed (Some ending)
        → PiecesWith e m.compile (cond silent [] (Says (Words (ending_bytes (ending_with e ending))) ∷ []))
        (cond silent [] (Says (Words (ending_bytes ending)) ∷ []))
    ending-with place before ending true f = no_pieces e m.compile
    ending-with place before LineFeed false f =
        said-with e m.compile (Words (ending_bytes e)) (Words (ending_bytes LineFeed)) (ending-words (Some LineFeed) tt)
    ending-with place before CarriageReturn false f = absurd (true≢false f)
    ending-with place before CarriageReturnLineFeed false f = absurd (true≢false f)

    text-with : (is : Inlines) → AreFit is → PiecesWith e m.compile (inline_pieces m' (inlines_with e is)) (inline_pieces m is)
    text-with is p = inlines-with e m other leads fits notes texts is p

    paragraph-with : (tight : Bool) (ps' ps : List Piece) → PiecesWith e m.compile ps' ps
        → PiecesWith e m.compile (cond tight ps' (Fresh ∷ element (bare_tag (codes "p")) ps')) (cond tight ps (Fresh ∷ element (bare_tag (codes "p")) ps))
    paragraph-with true ps' ps p = p
    paragraph-with false ps' ps p =
        fresh-then (element (bare_tag (codes "p")) ps') (element (bare_tag (codes "p")) ps) (bare-with (codes "p") ps' ps refl p)

    -- tables
    align-with : (align : AlignKind) → AttributesWith e (align_attributes align) (align_attributes align)
    align-with kind.Left = refl
    align-with kind.Right = refl
    align-with kind.Center = refl
    align-with kind.None = refl

    ends-with : (endings : List LineEnding) → AreFed endings
        → PiecesWith e m.compile (endings_pieces (map (ending_with e) endings)) (endings_pieces endings)
    ends-with [] f = no_pieces e m.compile
    ends-with (ending ∷ others) f =
        append-with e m.compile (ending_piece (ending_with e ending) ∷ []) (ending_piece ending ∷ []) (endings_pieces (map (ending_with e) others))
        (endings_pieces others)
        (said-with e m.compile (Words (ending_text (Some (ending_with e ending)))) (Words (ending_text (Some ending))) (ending-words (Some ending) f.0))
        (ends-with others f.1)

    module _ (name : List ℕ) (same : BytesWith e name name) where
      cell-with : (align : AlignKind) (is : Inlines) → AreFit is
          → PiecesWith e m.compile (cell_pieces m' name align (inlines_with e is)) (cell_pieces m name align is)
      cell-with align is p =
          let ps' = inline_pieces m' (inlines_with e is) in
          let ps = inline_pieces m is in
          fresh-then (element (tag name (align_attributes align)) ps') (element (tag name (align_attributes align)) ps)
          (element-with e m.compile name (align_attributes align) (align_attributes align) ps' ps same (align-with align) (text-with is p))

      -- the calls in cells that aren't printed
      more_cells : (cells : List Inlines) → PiecesWith e m.compile (flat_map (inline_counts m') (map (inlines_with e) cells)) (flat_map (inline_counts m) cells)
      more_cells [] = no_pieces e m.compile
      more_cells (c ∷ cs) =
          append-with e m.compile (inline_counts m' (inlines_with e c)) (inline_counts m c) (flat_map (inline_counts m') (map (inlines_with e) cs))
          (flat_map (inline_counts m) cs) (counts-with e m other leads fits notes texts c) (more_cells cs)

      cells-with : (aligns : List AlignKind) (cells : List Inlines) → Each AreFit cells
          → PiecesWith e m.compile (cells_pieces m' name aligns (map (inlines_with e) cells)) (cells_pieces m name aligns cells)
      cells-with [] cells p = more_cells cells
      cells-with (align ∷ aligns) [] p =
          append-with e m.compile (cell_pieces m' name align NoText) (cell_pieces m name align NoText) (cells_pieces m' name aligns [])
          (cells_pieces m name aligns [])
          (cell-with align NoText tt) (cells-with aligns [] tt)
      cells-with (align ∷ aligns) (c ∷ cs) p =
          append-with e m.compile (cell_pieces m' name align (inlines_with e c)) (cell_pieces m name align c)
          (cells_pieces m' name aligns (map (inlines_with e) cs)) (cells_pieces m name aligns cs) (cell-with align c p.0) (cells-with aligns cs p.1)

      row-with : (aligns : List AlignKind) (row : TableRow) → RowFits row
          → PiecesWith e m.compile (row_pieces m' name aligns (row_with e row)) (row_pieces m name aligns row)
      row-with aligns row p =
          let ps' = cells_pieces m' name aligns (map (inlines_with e) row.cells) in
          let ps = cells_pieces m name aligns row.cells in
          fresh-then (element (bare_tag (codes "tr")) (ps' ++ Fresh ∷ [])) (element (bare_tag (codes "tr")) (ps ++ Fresh ∷ []))
          (bare-with (codes "tr") (ps' ++ Fresh ∷ []) (ps ++ Fresh ∷ []) refl
          (append-with e m.compile ps' ps (Fresh ∷ []) (Fresh ∷ []) (cells-with aligns row.cells p.0) (fresh_piece-with e m.compile)))

    rows-with : (aligns : List AlignKind) (rows : List TableRow) → Each RowFits rows
        → PiecesWith e m.compile (flat_map (body_row_pieces m' aligns) (map (row_with e) rows)) (flat_map (body_row_pieces m aligns) rows)
    rows-with aligns [] p = no_pieces e m.compile
    rows-with aligns (row ∷ rows) p =
        append-with e m.compile (body_row_pieces m' aligns (row_with e row)) (body_row_pieces m aligns row)
        (flat_map (body_row_pieces m' aligns) (map (row_with e) rows)) (flat_map (body_row_pieces m aligns) rows)
        (append-with e m.compile (row_pieces m' (codes "td") aligns (row_with e row)) (row_pieces m (codes "td") aligns row)
        (endings_pieces (map (ending_with e) row.endings)) (endings_pieces row.endings)
        (row-with (codes "td") refl aligns row p.0) (ends-with row.endings p.0.1))
        (rows-with aligns rows p.1)

    body-with : (aligns : List AlignKind) (endings : List LineEnding) (rows : List TableRow) → AreFed endings → Each RowFits rows
        → PiecesWith e m.compile (body_pieces m' aligns (map (ending_with e) endings) (map (row_with e) rows)) (body_pieces m aligns endings rows)
    body-with aligns endings [] f p = no_pieces e m.compile
    body-with aligns endings (row ∷ rows) f p =
        let ps' = flat_map (body_row_pieces m' aligns) (map (row_with e) (row ∷ rows)) in
        let ps = flat_map (body_row_pieces m aligns) (row ∷ rows) in
        append-with e m.compile (endings_pieces (map (ending_with e) endings)) (endings_pieces endings)
        (element (bare_tag (codes "tbody")) (ps' ++ Fresh ∷ [])) (element (bare_tag (codes "tbody")) (ps ++ Fresh ∷ [])) (ends-with endings f)
        (bare-with (codes "tbody") (ps' ++ Fresh ∷ []) (ps ++ Fresh ∷ []) refl
        (append-with e m.compile ps' ps (Fresh ∷ []) (Fresh ∷ []) (rows-with aligns (row ∷ rows) p) (fresh_piece-with e m.compile)))

    head-with : (aligns : List AlignKind) (head : TableRow) → RowFits head
        → PiecesWith e m.compile (head_pieces m' aligns (row_with e head)) (head_pieces m aligns head)
    head-with aligns head p =
        let ps' = row_pieces m' (codes "th") aligns (row_with e head) in
        let ps = row_pieces m (codes "th") aligns head in
        let end' = endings_pieces (map (ending_with e) head.endings) in
        let end = endings_pieces head.endings in
        bare-with (codes "thead") (ps' ++ end' ++ Fresh ∷ []) (ps ++ end ++ Fresh ∷ []) refl
        (append-with e m.compile (ps' ++ end') (ps ++ end) (Fresh ∷ []) (Fresh ∷ [])
        (append-with e m.compile ps' ps end' end (row-with (codes "th") refl aligns head p) (ends-with head.endings p.1)) (fresh_piece-with e m.compile))

    table-printed : (t : TableOf) → TableFits t → PiecesWith e m.compile (table_pieces m' (table_with e t)) (table_pieces m t)
    table-printed t p =
        let head' = head_pieces m' t.aligns (row_with e t.head) in
        let head = head_pieces m t.aligns t.head in
        let body' = body_pieces m' t.aligns (map (ending_with e) t.endings) (map (row_with e) t.rows) in
        let body = body_pieces m t.aligns t.endings t.rows in
        let all' = head' ++ body' ++ Fresh ∷ [] in
        let all = head ++ body ++ Fresh ∷ [] in
        fresh-then (element (bare_tag (codes "table")) (Fresh ∷ all')) (element (bare_tag (codes "table")) (Fresh ∷ all))
        (bare-with (codes "table") (Fresh ∷ all') (Fresh ∷ all) refl
        (fresh-then all' all
        (append-with e m.compile (head' ++ body') (head ++ body) (Fresh ∷ []) (Fresh ∷ [])
        (append-with e m.compile head' head body' body (head-with t.aligns t.head p.0) (body-with t.aligns t.endings t.rows p.1 p.2))
        (fresh_piece-with e m.compile))))

    heading_start-with : (rank : ℕ) (is : Inlines) → AreFit is
        → PiecesWith e m.compile (heading_start m' rank (inlines_with e is) ∷ []) (heading_start m rank is ∷ [])
    heading_start-with rank is p =
        let name = heading_name rank in
        let text = heading_text is in
        let start : List ℕ → Piece = λ said. cond m.compile.heading_ids (Named (bare_tag name) said) (Open (bare_tag name)) in
        subst (λ said. PiecesWith e m.compile (start said ∷ []) (start text ∷ [])) (sym (heading_text-with e is p))
        (cond_both m.compile.heading_ids (Named (bare_tag name) text) (Open (bare_tag name)) (λ s. PiecesWith e m.compile (s ∷ []) (s ∷ []))
        (λ _. named-with e m.compile name text (heading-kept rank) (λ taken. id-with e m.compile texts taken text))
        (λ _. open-with e m.compile name [] [] (heading-kept rank) refl))

    leaf_block-with : (place : Place) (leaf : PageLeaf) → PageLeafFits e leaf
        → PiecesWith e m.compile (leaf_block_pieces m' place (page_leaf_with e leaf)) (leaf_block_pieces m place leaf)
    leaf_block-with place (Paragraph is) p =
        paragraph-with place.tight (inline_pieces m' (inlines_with e is)) (inline_pieces m is) (text-with is p)
    leaf_block-with place (Heading rank is) p =
        let ps' = inline_pieces m' (inlines_with e is) in
        let ps = inline_pieces m is in
        let end = Close (heading_name rank) ∷ [] in
        let start' = heading_start m' rank (inlines_with e is) in
        let start = heading_start m rank is in
        fresh-then (start' ∷ ps' ++ end) (start ∷ ps ++ end)
        (more-with e m.compile start' start (ps' ++ end) (ps ++ end) (heading_start-with rank is p)
        (append-with e m.compile ps' ps end end (text-with is p) (close-with e m.compile (heading_name rank) (heading-kept rank))))
    leaf_block-with place Break p =
        let hr = Void (bare_tag (codes "hr")) ∷ [] in fresh-then hr hr (void_piece-with e m.compile (codes "hr") [] [] refl refl)
    leaf_block-with place (IndentedCode ls) p =
        let all' = says (flat_map code_line (lines_with e ls)) ++ Fresh ∷ [] in
        let all = says (flat_map code_line ls) ++ Fresh ∷ [] in
        let code' = element (bare_tag (codes "code")) all' in
        let code = element (bare_tag (codes "code")) all in
        fresh-then (element (bare_tag (codes "pre")) code') (element (bare_tag (codes "pre")) code)
        (bare-with (codes "pre") code' code refl
        (bare-with (codes "code") all' all refl
        (append-with e m.compile (says (flat_map code_line (lines_with e ls))) (says (flat_map code_line ls)) (Fresh ∷ []) (Fresh ∷ []) (code-says ls p)
        (fresh_piece-with e m.compile))))
    leaf_block-with place (FencedCode info is_closed ls) p =
        let all' = fenced_pieces place is_closed (lines_with e ls) in
        let all = fenced_pieces place is_closed ls in
        let code' = element (tag (codes "code") (info_attributes info)) all' in
        let code = element (tag (codes "code") (info_attributes info)) all in
        let pre' = element (bare_tag (codes "pre")) code' in
        let pre = element (bare_tag (codes "pre")) code in
        append-with e m.compile (Fresh ∷ pre') (Fresh ∷ pre) (fresh_unless is_closed) (fresh_unless is_closed)
        (fresh-then pre' pre
        (bare-with (codes "pre") code' code refl
        (element-with e m.compile (codes "code") (info_attributes info) (info_attributes info) all' all refl (info-with info p.0)
        (fenced-with place is_closed ls p.1))))
        (fresh_unless-with is_closed)
    leaf_block-with place (Html ls) p =
        fresh-then (says (flat_map (html_line m.compile) (lines_with e ls))) (says (flat_map (html_line m.compile) ls))
        (saids-with e m.compile (flat_map (html_line m.compile) (lines_with e ls)) (flat_map (html_line m.compile) ls) (html_lines-with ls p))
    leaf_block-with place (Table t) p = table-printed t p
    leaf_block-with place Definition p = no_pieces e m.compile

    mutual
      block-with : (place : Place) (before : Option Block) (b : Block) → PageBlockFits e b
          → PiecesWith e m.compile (block_pieces m' place (sibling_with before) (page_block_with e b)) (block_pieces m place before b)
      block-with place before (Leaf leaf) p = leaf_block-with place leaf p
      block-with place before (Holds Quote kids) p =
          let kids' = children_pieces m' (inside false) None (page_blocks_with e kids) in
          let ps = children_pieces m (inside false) None kids in
          fresh-then (element (bare_tag (codes "blockquote")) (kids' ++ Fresh ∷ [])) (element (bare_tag (codes "blockquote")) (ps ++ Fresh ∷ []))
          (bare-with (codes "blockquote") (kids' ++ Fresh ∷ []) (ps ++ Fresh ∷ []) refl
          (append-with e m.compile kids' ps (Fresh ∷ []) (Fresh ∷ []) (children-with (inside false) None kids p) (fresh_piece-with e m.compile)))
      block-with place before (Holds Item kids) p =
          let kids' = children_pieces m' (inside place.tight) None (page_blocks_with e kids) in
          let ps = children_pieces m (inside place.tight) None kids in
          let end = fresh_unless (ends_plainly place.tight (last_visible None kids)) in
          let same : ends_plainly place.tight (last_visible None (page_blocks_with e kids)) ≡ ends_plainly place.tight (last_visible None kids) =
          ap (ends_plainly place.tight) (last_shown-with None kids) ∙ ends_plainly-with place.tight (last_visible None kids) in
          subst (λ plainly. PiecesWith e m.compile (Fresh ∷ element (bare_tag (codes "li")) (kids' ++ fresh_unless plainly))
          (Fresh ∷ element (bare_tag (codes "li")) (ps ++ end)))
          (sym same)
          (fresh-then (element (bare_tag (codes "li")) (kids' ++ end)) (element (bare_tag (codes "li")) (ps ++ end))
          (bare-with (codes "li") (kids' ++ end) (ps ++ end) refl
          (append-with e m.compile kids' ps end end (children-with (inside place.tight) None kids p)
          (fresh_unless-with (ends_plainly place.tight (last_visible None kids))))))
      block-with place before (Holds (Footnote label) kids) p =
          let kids' = children_pieces m' (inside false) None (page_blocks_with e kids) in
          let ps = children_pieces m (inside false) None kids in
          note-with e m.compile kids' ps (children-with (inside false) None kids p)
      block-with place before (ItemList number loose items) p =
          let items' = children_pieces m' (inside (not loose)) None (page_blocks_with e items) in
          let ps = children_pieces m (inside (not loose)) None items in
          fresh-then (element (list_tag number) (items' ++ Eol ∷ [])) (element (list_tag number) (ps ++ Eol ∷ []))
          (list-with number (items' ++ Eol ∷ []) (ps ++ Eol ∷ [])
          (append-with e m.compile items' ps (Eol ∷ []) (Eol ∷ []) (children-with (inside (not loose)) None items p) (eol_piece-with e m.compile)))
      block-with place before (Ending ending) p =
          subst (λ silent. PiecesWith e m.compile (cond silent [] (Says (Words (ending_bytes (ending_with e ending))) ∷ []))
          (cond (is_silent place before) [] (Says (Words (ending_bytes ending)) ∷ [])))
          (sym (is_silent-with place before)) (ending-with place before ending (is_silent place before) p)
      block-with place before (Blank ending) p = no_pieces e m.compile

      pub children-with : (place : Place) (before : Option Block) (bs : Blocks) → PageFits e bs
          → PiecesWith e m.compile (children_pieces m' place (sibling_with before) (page_blocks_with e bs)) (children_pieces m place before bs)
      children-with place before Nil p = no_pieces e m.compile
      children-with place before (Cons b bs) p =
          append-with e m.compile (block_pieces m' place (sibling_with before) (page_block_with e b)) (block_pieces m place before b)
          (children_pieces m' place (Some (page_block_with e b)) (page_blocks_with e bs)) (children_pieces m place (Some b) bs)
          (block-with place before b p.0) (children-with place (Some b) bs p.1)
