-- With `+ ` before its first line and two spaces before every other, a text prints a list of one item around what it prints alone.
use Rattle.std.proofs.Common.{◌≡◌, ℕ, List, [], ◌∷◌, ◌++◌, Bool, true, false, None, ◌||◌, refl, sym, ap, ◌∙◌, map}
use Rattle.std.specs.Prelude.{codes, unwrap_or}
use Rattle.std.proofs.lemmas.Bool.{and_parts}
use Rattle.std.proofs.lemmas.List.Sums.{fold-append}
use Rattle.markdown_options.specs.declared.line_ending.LineEnding.{LineEnding}
use Rattle.markdown_compile_options.specs.declared.configuration.Options.{Options}
use Rattle.markdown_options.specs.declared.beside.Kind.TheVariants.{Whitespace}
use Rattle.definition_text.specs.Lines.{TextLine, lines, first_of, has_mark}
use Rattle.definition_block.specs.Tree as tree
use Rattle.definition_block.specs.Lists.{group_items, has_gap, is_loose}
use Rattle.definition_inline.specs.Definition.{Definition}
use Rattle.definition_page.specs.TextTables.{TextTables}
use Rattle.definition_block.specs.Definitions.{document_definitions, with_spaces}
use Rattle.definition_page.specs.Page as page
use Rattle.definition_page.specs.Pieces.{Piece, Close, Eol}
use Rattle.definition_page.specs.BlockPieces.{inside, last_visible, ends_plainly, fresh_unless, children_pieces}
use Rattle.definition_page.specs.Read.{in_container, in_item, read_blocks}
use Rattle.laws_list.proofs.GfmTaskListItem.{read_in_item}
use Rattle.laws_block.proofs.Looseness.{line_gap}
use Rattle.laws_block.proofs.TextLines.{join-front}
use Rattle.laws_quote.specs.Squeeze.{SqueezeState, kept_and_run, with_byte, with_bytes, nothing_yet, squeeze}
use Rattle.laws_quote.proofs.Bytes.{bytes_after_text, dropped_ending}
use Rattle.laws_quote.proofs.Printed.{PrintState, nothing_printed, state_after_text, with_piece, with_pieces, pieces_after_text, kept_at_fresh}
use Rattle.laws_quote.proofs.Lists.{grouped-join}
use Rattle.laws_quote.proofs.Siblings.{print_siblings, keep_join}
use Rattle.laws_quote.proofs.PageLaw.{join-nil, reading, meaning, page_bytes, squeezed_kids, squeeze_page, added_ending, html_unmarked}
use Rattle.laws_list.specs.Listed.{list_lines}
use Rattle.laws_list.specs.Laws.{listed_lines, plus_item, item_of}
use Rattle.laws_list.proofs.Lines.{listed_lines_law}
use Rattle.laws_list.proofs.Items.{list_law, list_definitions_law}
use Rattle.laws_options.proofs.Unlisted.{unlisted_law}
use Rattle.laws_list.specs.PageLaws.{list_around, ListPageLaw, PrintedListLaw}
use Rattle.laws_list.proofs.Gaps.{trailing_ends, join_next, gap_endings}

-- ---- tags of a list around what is squeezed

abbrev list_start : List ℕ
list_start = codes "<ul><li>"

abbrev list_end : List ℕ
list_end = codes "</li></ul>"

-- what is kept of a list around what is kept
abbrev kept_around : List ℕ → List ℕ
kept_around kept = (with_bytes (kept_and_run (list_start ++ kept) None) list_end).kept

squeeze_around : (bytes : List ℕ) → squeeze (list_around bytes) ≡ kept_around (squeeze bytes)
squeeze_around bytes =
    ap (λ s. s.kept) (fold-append with_byte nothing_yet (list_start ++ bytes) list_end)
    ∙ ap (λ s. (with_bytes s list_end).kept)
    (fold-append with_byte nothing_yet list_start bytes ∙ bytes_after_text list_start bytes nothing_yet)

-- ---- the page of children of a document, with these definitions

module _ (tables : TextTables) (options : Options) (default : LineEnding) (ds : List Definition) where
  abbrev kids_of : tree.Blocks → SqueezeState
  kids_of bs = squeezed_kids tables options default ds bs

  -- endings at the end make no difference
  one_ending : (bs : tree.Blocks) (last : tree.Block) → tree.is_ending last ≡ true → (kids_of (tree.join bs (tree.one last))).kept ≡ (kids_of bs).kept
  one_ending bs last ends =
      let r = reading tables options default ds in
      let m = meaning tables options default ds in
      ap (λ all. (print_siblings default m (inside false) None (read_blocks r in_container all) nothing_printed).squeezed.kept) (grouped-join bs last ends)
      ∙ keep_join default m r (group_items bs) last ends None nothing_printed

  endings : (bs ends : tree.Blocks) → tree.all_endings ends ≡ true → (kids_of (tree.join bs ends)).kept ≡ (kids_of bs).kept
  endings bs tree.Nil h = ap (λ all. (kids_of all).kept) (join-nil bs)
  endings bs (tree.Cons last ends) h =
      let p = and_parts (tree.is_ending last) (tree.all_endings ends) h in
      ap (λ all. (kids_of all).kept) (join_next bs last ends) ∙ endings (tree.join bs (tree.one last)) ends p.1 ∙ one_ending bs last p.0

  -- ---- a list of one item that is loose

  fresh_keeps : (said : Bool) (s : PrintState) → (with_pieces options.compile default s (fresh_unless said)).squeezed.kept ≡ s.squeezed.kept
  fresh_keeps true s = refl
  fresh_keeps false s = kept_at_fresh default s.squeezed

  -- after what stands in the item: its end, an ending, and the list's end
  ends_list : (s t : PrintState) → s.squeezed.kept ≡ t.squeezed.kept
      → (with_pieces options.compile default s (Close (codes "li") ∷ Eol ∷ Close (codes "ul") ∷ [])).squeezed.kept
      ≡ (with_bytes (kept_and_run t.squeezed.kept None) list_end).kept
  ends_list s t e =
      let item_end = codes "</li>" in
      let u = with_bytes (kept_and_run s.squeezed.kept None) item_end in
      ap (λ v. (with_bytes v (codes "</ul>")).kept) (dropped_ending u default refl)
      ∙ ap (λ kept. (with_bytes (kept_and_run kept None) list_end).kept) e

  abbrev pieces_here : Bool → page.Blocks → List Piece
  pieces_here loose items = children_pieces (meaning tables options default ds) (inside false) None (page.Cons (page.ItemList None loose items) page.Nil)

  abbrev read_here : tree.Blocks → page.Blocks
  read_here bs = read_blocks (reading tables options default ds) in_container bs

  -- a list of one item with these children, squeezed
  item_kept : (kids : page.Blocks)
      → (with_pieces options.compile default nothing_printed (pieces_here true (page.Cons (page.Holds page.Item kids) page.Nil))).squeezed.kept
      ≡ kept_around (print_siblings default (meaning tables options default ds) (inside false) None kids nothing_printed).squeezed.kept
  item_kept kids =
      let f = with_piece options.compile default in
      let s = state_after_text list_start nothing_printed in
      let inner = children_pieces (meaning tables options default ds) (inside false) None kids in
      let plainly = ends_plainly false (last_visible None kids) in
      let inside_item = inner ++ fresh_unless plainly in
      let item = inside_item ++ Close (codes "li") ∷ [] in
      let in_list = (item ++ []) ++ Eol ∷ [] in
      let whole = in_list ++ Close (codes "ul") ∷ [] in
      let t = state_after_text list_start (with_pieces options.compile default nothing_printed inner) in
      let kept = (ap (λ u. u.squeezed.kept) (fold-append f s inner (fresh_unless plainly))
      ∙ fresh_keeps plainly (with_pieces options.compile default s inner)
      ∙ ap (λ u. u.squeezed.kept) (pieces_after_text default options.compile list_start inner nothing_printed)) in
      ap (λ u. u.squeezed.kept) (fold-append f s whole [])
      ∙ ap (λ u. u.squeezed.kept) (fold-append f s in_list (Close (codes "ul") ∷ []))
      ∙ ap (λ u. (with_pieces options.compile default u (Close (codes "ul") ∷ [])).squeezed.kept) (fold-append f s (item ++ []) (Eol ∷ []))
      ∙ ap (λ u. (with_pieces options.compile default u (Eol ∷ Close (codes "ul") ∷ [])).squeezed.kept)
      (fold-append f s item [] ∙ fold-append f s inside_item (Close (codes "li") ∷ []))
      ∙ ends_list (with_pieces options.compile default s inside_item) t kept

  squeeze_item : options.parse.constructs.gfm_task_list_item ≡ false → (kids : tree.Blocks) → has_gap (group_items kids) ≡ true
      → (kids_of (item_of kids)).kept ≡ kept_around (kids_of kids).kept
  squeeze_item off kids h =
      let all = group_items kids in
      let r = reading tables options default ds in
      let loose : is_loose (tree.one (tree.Holds plus_item all)) ≡ true = ap (λ gap. gap || false) h in
      let list : Bool → page.Blocks → List ℕ = λ is inner.
      (with_pieces options.compile default nothing_printed (pieces_here is (page.Cons (page.Holds page.Item inner) page.Nil))).squeezed.kept in
      ap (λ is. list is (read_blocks r in_item all)) loose
      ∙ ap (list true) (read_in_item r off true all)
      ∙ item_kept (read_here all)

  -- children in a list, with the endings at their end after it, and alone
  squeeze_both : options.parse.constructs.gfm_task_list_item ≡ false → (kids : tree.Blocks) → has_gap (group_items kids) ≡ true
      → squeeze (page_bytes tables options default ds (tree.join (item_of (tree.front kids)) (tree.trailing kids)))
      ≡ squeeze (list_around (page_bytes tables options default ds kids))
  squeeze_both off kids h =
      let inner = tree.front kids in
      let ends = tree.trailing kids in
      let only = trailing_ends kids in
      let same = join-front kids in
      let gap = (sym (gap_endings inner ends only) ∙ ap (λ all. has_gap (group_items all)) same) in
      squeeze_page tables options default ds (tree.join (item_of inner) ends)
      ∙ endings (item_of inner) ends only
      ∙ squeeze_item off inner (gap ∙ h)
      ∙ sym (ap kept_around (endings inner ends only))
      ∙ ap (λ all. kept_around (kids_of all).kept) same
      ∙ sym (ap kept_around (squeeze_page tables options default ds kids))
      ∙ sym (squeeze_around (page_bytes tables options default ds kids))

-- ---- the text

first_ending : (ls : List TextLine) → (first_of (listed_lines ls)).ending ≡ (first_of ls).ending
first_ending [] = refl
first_ending (line ∷ ls) = refl

added_ending-listed : (options : Options) (text : List ℕ) → added_ending options (list_lines text) ≡ added_ending options text
added_ending-listed options text =
    ap (λ ls. unwrap_or (first_of ls).ending options.compile.default_line_ending) (listed_lines_law text)
    ∙ ap (λ ending. unwrap_or ending options.compile.default_line_ending) (first_ending (lines text))

listed_unmarked : (text : List ℕ) → has_mark (list_lines text) ≡ false
listed_unmarked [] = refl
listed_unmarked (b ∷ bs) = refl

pub printed_list_law : PrintedListLaw
printed_list_law tables text options h =
    let on = options.parse.constructs in
    let kids = tree.blocks on Whitespace text in
    let list = tree.blocks on Whitespace (list_lines text) in
    let default = added_ending options text in
    let print = page_bytes tables options in
    ap squeeze
    (html_unmarked tables (list_lines text) options (listed_unmarked text) h.5
    ∙ ap (λ ending. print ending (document_definitions list) list) (added_ending-listed options text)
    ∙ ap (λ ds. print default (map with_spaces ds) list) (list_definitions_law on Whitespace text h.3 h.4 h.0 h.1)
    ∙ ap (print default (document_definitions kids)) (list_law on Whitespace text h.3 h.4 h.0 h.1))
    ∙ squeeze_both tables options default (document_definitions kids) h.6 kids (line_gap on (group_items kids) h.7)
    ∙ sym (ap (λ bytes. squeeze (list_around bytes)) (html_unmarked tables text options h.2 h.5))

-- where raw HTML isn't kept by the list of tags
pub list_page_law : ListPageLaw
list_page_law tables text options off h =
    ap squeeze (unlisted_law tables (list_lines text) options off)
    ∙ printed_list_law tables text options h
    ∙ sym (ap (λ page. squeeze (list_around page)) (unlisted_law tables text options off))
