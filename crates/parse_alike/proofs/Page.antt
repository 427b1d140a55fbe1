-- Pages that are alike print the same.
use Rattle.std.proofs.Common.{◌≡◌, ◌⊎◌, inl, inr, ℕ, Bool, true, false, ◌&&◌, ◌||◌, not, if◌then◌else◌, List, [], ◌∷◌, ◌++◌, Option, None, Some, codes}
use Rattle.std.proofs.Common.{flat_map, refl, sym, ap, ◌∙◌}
use Rattle.parse_alike.proofs.Prelude.{AreAlikeAfterFront, AreBlocksAlike, AreCodeLinesAlike, AreContainersAlike, AreMeaningsAlike, ArePagesAlike, bare_tag}
use Rattle.parse_alike.proofs.Prelude.{ArePartsAlike, BlockLine, Blocks, Close, code_line, CompileOptions, element, ending_bytes, false≢true, Fresh, has_lines, html_line}
use Rattle.parse_alike.proofs.Prelude.{inline_pieces, IsBlockAlike, LineEnding, Meaning, NoteEnd, NoteStart, Page, Piece, says, Says, tag, true≢false, Words}
use Rattle.definition_page.specs.BlockPieces.{Place, at_top, inside, heading_name, heading_start, info_attributes, list_tag, is_paragraph}
use Rattle.definition_page.specs.BlockPieces.{is_definition, is_footnote, is_silent, is_visible, last_visible, ends_plainly, fresh_unless, fenced_pieces}
use Rattle.definition_page.specs.BlockPieces.{leaf_block_pieces, block_pieces, children_pieces, document_pieces}
use Rattle.definition_page.specs.Page.{PageLeaf, Paragraph, Heading, Break, IndentedCode, FencedCode, Html, Table, Definition}
use Rattle.definition_page.specs.Page.{PageContainer, Quote, Item, Footnote, Block, Leaf, Holds, ItemList, Ending, Blank, Nil, Cons}
use Rattle.definition_inline.specs.Inline.{Inlines}
use Rattle.definition_page.specs.HeadingText.{heading_text}
use Rattle.definition_page.specs.Pieces.{Open, Named, Eol}
use Rattle.parse_alike.specs.Laws.{AlikePagesPrintTheSame}
use Rattle.parse_alike.specs.Page.{AreLeavesAlike}
use Rattle.parse_alike.proofs.BlockLines.{code_lines-printed, html_lines-printed}
use Rattle.parse_alike.proofs.GfmTable.{fresh-printed, ended-printed, table-printed}
use Rattle.parse_alike.proofs.Inline.{parts-printed, parts-text}
use Rattle.parse_alike.proofs.Printed.{Other, piece_printed, printed, ids_in, ids-printed, page_same}
use Rattle.parse_alike.proofs.Said.{both-printed, element-printed}

-- ---- siblings

module _ (m m' : Meaning) where
  leaf_kind : (l l' : PageLeaf) → AreLeavesAlike m m' l l' → (is_paragraph l ≡ is_paragraph l') × (is_definition l ≡ is_definition l')
  leaf_kind (Paragraph is) (Paragraph js) p = (refl, refl)
  leaf_kind (Heading rank is) (Heading rank' js) p = (refl, refl)
  leaf_kind Break Break p = (refl, refl)
  leaf_kind (IndentedCode ls) (IndentedCode ls') p = (refl, refl)
  leaf_kind (FencedCode info is_closed ls) (FencedCode info' is_closed' ls') p = (refl, refl)
  leaf_kind (Html ls) (Html ls') p = (refl, refl)
  leaf_kind (Table t) (Table t') p = (refl, refl)
  leaf_kind Definition Definition p = (refl, refl)
  leaf_kind l l' p = absurd p

  container_kind : (c d : PageContainer) → AreContainersAlike c d → is_footnote c ≡ is_footnote d
  container_kind Quote Quote p = refl
  container_kind Item Item p = refl
  container_kind (Footnote label) (Footnote label') p = refl
  container_kind c d p = absurd p

  -- what siblings look at in a block
  abbrev IsSeenSame : Block → Block → Type 0
  IsSeenSame b c =
      ((place : Place) → is_silent place (Some b) ≡ is_silent place (Some c))
      × (is_visible b ≡ is_visible c)
      × ((tight : Bool) → ends_plainly tight (Some b) ≡ ends_plainly tight (Some c))

  seen_same : (b c : Block) → IsBlockAlike m m' b c → IsSeenSame b c
  seen_same (Leaf l) (Leaf l') p =
      let kind = leaf_kind l l' p in (
        (λ (place : Place). ap (λ is. (place.tight && is) || is_definition l) kind.0 ∙ ap (λ is. (place.tight && is_paragraph l') || is) kind.1),
        ap not kind.1,
        (λ tight. ap (λ is. tight && is) kind.0),
      )
  seen_same (Holds c kids) (Holds d kids') p =
      let kind = container_kind c d p.0 in ((λ place. kind), ap not kind, (λ tight. refl))
  seen_same (ItemList number loose items) (ItemList number' loose' items') p = ((λ place. refl), refl, (λ tight. refl))
  seen_same (Ending ending) (Ending ending') p = ((λ place. refl), refl, (λ tight. refl))
  seen_same (Blank ending) (Blank ending') p = ((λ place. refl), refl, (λ tight. refl))
  seen_same b c p = absurd p

  visible_same : (tight visible : Bool) (b c : Block) (before before' : Option Block) → ends_plainly tight (Some b) ≡ ends_plainly tight (Some c)
      → ends_plainly tight before ≡ ends_plainly tight before'
      → ends_plainly tight (if visible then Some b else before) ≡ ends_plainly tight (if visible then Some c else before')
  visible_same tight true b c before before' p q = p
  visible_same tight false b c before before' p q = q

  -- an item ends on the same line, or doesn't
  plainly_same : (tight : Bool) (before before' : Option Block) (bs cs : Blocks) → ends_plainly tight before ≡ ends_plainly tight before'
      → AreBlocksAlike m m' bs cs → ends_plainly tight (last_visible before bs) ≡ ends_plainly tight (last_visible before' cs)
  plainly_same tight before before' Nil Nil e p = e
  plainly_same tight before before' Nil (Cons c cs) e p = absurd p
  plainly_same tight before before' (Cons b bs) Nil e p = absurd p
  plainly_same tight before before' (Cons b bs) (Cons c cs) e p =
      let seen = seen_same b c p.0 in
      plainly_same tight (if is_visible b then Some b else before) (if is_visible c then Some c else before') bs cs
      (visible_same tight (is_visible b) b c before before' (seen.2 tight) e
      ∙ ap (λ visible. ends_plainly tight (if visible then Some c else before')) seen.1) p.1

module _ (m m' : Meaning) (alike : AreMeaningsAlike m m') where
  -- ---- leaves

  paragraph-printed : (tight : Bool) (ps qs : List Piece) → printed ps ≡ printed qs
      → printed (if tight then ps else Fresh ∷ element (bare_tag (codes "p")) ps) ≡ printed (if tight then qs else Fresh ∷ element (bare_tag (codes "p")) qs)
  paragraph-printed true ps qs p = p
  paragraph-printed false ps qs p =
      let t = bare_tag (codes "p") in fresh-printed (element t ps) (element t qs) (element-printed t ps qs p)

  fenced-printed : (place : Place) (is_closed : Bool) (ls ls' : List BlockLine) → AreCodeLinesAlike ls ls' → has_lines ls ≡ has_lines ls'
      → printed (fenced_pieces place is_closed ls) ≡ printed (fenced_pieces place is_closed ls')
  fenced-printed place is_closed [] [] p e = refl
  fenced-printed place is_closed [] (line' ∷ ls') p e = absurd (false≢true e)
  fenced-printed place is_closed (line ∷ ls) [] p e = absurd (true≢false e)
  fenced-printed place is_closed (line ∷ ls) (line' ∷ ls') p e =
      let end = if place.top || is_closed then [] else Eol ∷ [] in
      let code = says (flat_map code_line (line ∷ ls)) in
      let code' = says (flat_map code_line (line' ∷ ls')) in
      ended-printed (code ++ end) (code' ++ end) (both-printed code end code' end (code_lines-printed (line ∷ ls) (line' ∷ ls') p) refl)

  -- fenced code with one info, closed or not
  fence-printed : (place : Place) (info : Option (List ℕ)) (is_closed : Bool) (ls ls' : List BlockLine) → AreCodeLinesAlike ls ls'
      → has_lines ls ≡ has_lines ls'
      → printed (leaf_block_pieces m place (FencedCode info is_closed ls)) ≡ printed (leaf_block_pieces m' place (FencedCode info is_closed ls'))
  fence-printed place info is_closed ls ls' p e =
      let pre = bare_tag (codes "pre") in
      let t = tag (codes "code") (info_attributes info) in
      let code = element t (fenced_pieces place is_closed ls) in
      let code' = element t (fenced_pieces place is_closed ls') in
      let end = fresh_unless is_closed in
      fresh-printed (element pre code ++ end) (element pre code' ++ end)
      (both-printed (element pre code) end (element pre code') end
      (element-printed pre code code'
      (element-printed t (fenced_pieces place is_closed ls) (fenced_pieces place is_closed ls') (fenced-printed place is_closed ls ls' p e))) refl)

  -- headings that say the same have one start
  heading_start-same : (rank : ℕ) (is js : Inlines) → ArePartsAlike m m' is js → heading_start m rank is ≡ heading_start m' rank js
  heading_start-same rank is js p =
      let t = bare_tag (heading_name rank) in
      ap (λ (options : CompileOptions). if options.heading_ids then Named t (heading_text is) else Open t) alike.compile
      ∙ ap (λ text. if m'.compile.heading_ids then Named t text else Open t) (parts-text m m' alike is js p)

  leaf-printed : (place : Place) (l l' : PageLeaf) → AreLeavesAlike m m' l l'
      → printed (leaf_block_pieces m place l) ≡ printed (leaf_block_pieces m' place l')
  leaf-printed place (Paragraph is) (Paragraph js) p =
      paragraph-printed place.tight (inline_pieces m is) (inline_pieces m' js) (parts-printed m m' alike is js p)
  leaf-printed place (Heading rank is) (Heading rank' js) p =
      let end = Close (heading_name rank') ∷ [] in
      ap (λ r. printed (leaf_block_pieces m place (Heading r is))) p.0
      ∙ ap (λ first. printed (Fresh ∷ first ∷ inline_pieces m is ++ end)) (heading_start-same rank' is js p.1)
      ∙ ap (λ xs. Other Fresh ∷ (piece_printed (heading_start m' rank' js) ++ xs))
      (both-printed (inline_pieces m is) end (inline_pieces m' js) end (parts-printed m m' alike is js p.1) refl)
  leaf-printed place Break Break p = refl
  leaf-printed place (IndentedCode ls) (IndentedCode ls') p =
      let pre = bare_tag (codes "pre") in
      let t = bare_tag (codes "code") in
      let code = says (flat_map code_line ls) in
      let code' = says (flat_map code_line ls') in
      fresh-printed (element pre (element t (code ++ Fresh ∷ []))) (element pre (element t (code' ++ Fresh ∷ [])))
      (element-printed pre (element t (code ++ Fresh ∷ [])) (element t (code' ++ Fresh ∷ []))
      (element-printed t (code ++ Fresh ∷ []) (code' ++ Fresh ∷ []) (ended-printed code code' (code_lines-printed ls ls' p))))
  leaf-printed place (FencedCode info is_closed ls) (FencedCode info' is_closed' ls') p =
      ap (λ i. printed (leaf_block_pieces m place (FencedCode i is_closed ls))) p.0
      ∙ ap (λ closed. printed (leaf_block_pieces m place (FencedCode info' closed ls))) p.1
      ∙ fence-printed place info' is_closed' ls ls' p.2 p.3
  leaf-printed place (Html ls) (Html ls') p =
      ap (λ (options : CompileOptions). printed (Fresh ∷ says (flat_map (html_line options) ls))) alike.compile
      ∙ fresh-printed (says (flat_map (html_line m'.compile) ls)) (says (flat_map (html_line m'.compile) ls')) (html_lines-printed m'.compile ls ls' p)
  leaf-printed place (Table t) (Table t') p = table-printed m m' alike t t' p
  leaf-printed place Definition Definition p = refl
  leaf-printed place l l' p = absurd p

  -- ---- blocks

  ending-printed : (silent silent' : Bool) (ending ending' : LineEnding) → silent ≡ silent' → ending ≡ ending'
      → printed (if silent then [] else Says (Words (ending_bytes ending)) ∷ []) ≡ printed (if silent' then [] else Says (Words (ending_bytes ending')) ∷ [])
  ending-printed silent silent' ending ending' p q =
      ap (λ s. printed (if s then [] else Says (Words (ending_bytes ending)) ∷ [])) p
      ∙ ap (λ e. printed (if silent' then [] else Says (Words (ending_bytes e)) ∷ [])) q

  -- children that print the same, wherever they stand in a container
  abbrev PrintSame : Blocks → Blocks → Type 0
  PrintSame bs cs = (tight : Bool) → printed (children_pieces m (inside tight) None bs) ≡ printed (children_pieces m' (inside tight) None cs)

  holds-printed : (place : Place) (before before' : Option Block) (c d : PageContainer) (bs cs : Blocks) → AreContainersAlike c d
      → AreBlocksAlike m m' bs cs → PrintSame bs cs
      → printed (block_pieces m place before (Holds c bs)) ≡ printed (block_pieces m' place before' (Holds d cs))
  holds-printed place before before' Quote Quote bs cs k p same =
      let t = bare_tag (codes "blockquote") in
      let ps = children_pieces m (inside false) None bs in
      let qs = children_pieces m' (inside false) None cs in
      fresh-printed (element t (ps ++ Fresh ∷ [])) (element t (qs ++ Fresh ∷ []))
      (element-printed t (ps ++ Fresh ∷ []) (qs ++ Fresh ∷ []) (ended-printed ps qs (same false)))
  holds-printed place before before' Item Item bs cs k p same =
      let t = bare_tag (codes "li") in
      let ps = children_pieces m (inside place.tight) None bs in
      let qs = children_pieces m' (inside place.tight) None cs in
      let end = fresh_unless (ends_plainly place.tight (last_visible None bs)) in
      let end' = fresh_unless (ends_plainly place.tight (last_visible None cs)) in
      fresh-printed (element t (ps ++ end)) (element t (qs ++ end'))
      (element-printed t (ps ++ end) (qs ++ end')
      (both-printed ps end qs end' (same place.tight)
      (ap (λ plainly. printed (fresh_unless plainly)) (plainly_same m m' place.tight None None bs cs refl p))))
  holds-printed place before before' (Footnote label) (Footnote label') bs cs k p same =
      ap (λ xs. Other NoteStart ∷ xs)
      (both-printed (children_pieces m (inside false) None bs) (NoteEnd ∷ []) (children_pieces m' (inside false) None cs) (NoteEnd ∷ []) (same false) refl)
  holds-printed place before before' c d bs cs k p same = absurd k

  list-printed : (place : Place) (before before' : Option Block) (number : Option ℕ) (loose : Bool) (bs cs : Blocks) → PrintSame bs cs
      → printed (block_pieces m place before (ItemList number loose bs)) ≡ printed (block_pieces m' place before' (ItemList number loose cs))
  list-printed place before before' number loose bs cs same =
      let t = list_tag number in
      let ps = children_pieces m (inside (not loose)) None bs in
      let qs = children_pieces m' (inside (not loose)) None cs in
      fresh-printed (element t (ps ++ Eol ∷ [])) (element t (qs ++ Eol ∷ []))
      (element-printed t (ps ++ Eol ∷ []) (qs ++ Eol ∷ []) (both-printed ps (Eol ∷ []) qs (Eol ∷ []) (same (not loose)) refl))

  mutual
    block-printed : (place : Place) (before before' : Option Block) (b c : Block) → is_silent place before ≡ is_silent place before' → IsBlockAlike m m' b c
        → printed (block_pieces m place before b) ≡ printed (block_pieces m' place before' c)
    block-printed place before before' (Leaf l) (Leaf l') e p = leaf-printed place l l' p
    block-printed place before before' (Holds c bs) (Holds d cs) e p =
        holds-printed place before before' c d bs cs p.0 p.1 (λ tight. children-printed (inside tight) None None bs cs refl p.1)
    block-printed place before before' (ItemList number loose bs) (ItemList number' loose' cs) e p =
        ap (λ n. printed (block_pieces m place before (ItemList n loose bs))) p.0
        ∙ ap (λ is_loose. printed (block_pieces m place before (ItemList number' is_loose bs))) p.1
        ∙ list-printed place before before' number' loose' bs cs (λ tight. children-printed (inside tight) None None bs cs refl p.2)
    block-printed place before before' (Ending ending) (Ending ending') e p =
        ending-printed (is_silent place before) (is_silent place before') ending ending' e p
    block-printed place before before' (Blank ending) (Blank ending') e p = refl
    block-printed place before before' b c e p = absurd p

    -- children that are alike print the same, after siblings after which an ending prints the same
    children-printed : (place : Place) (before before' : Option Block) (bs cs : Blocks) → is_silent place before ≡ is_silent place before'
        → AreBlocksAlike m m' bs cs → printed (children_pieces m place before bs) ≡ printed (children_pieces m' place before' cs)
    children-printed place before before' Nil Nil e p = refl
    children-printed place before before' Nil (Cons c cs) e p = absurd p
    children-printed place before before' (Cons b bs) Nil e p = absurd p
    children-printed place before before' (Cons b bs) (Cons c cs) e p =
        both-printed (block_pieces m place before b) (children_pieces m place (Some b) bs) (block_pieces m' place before' c)
        (children_pieces m' place (Some c) cs) (block-printed place before before' b c e p.0)
        (children-printed place (Some b) (Some c) bs cs ((seen_same m m' b c p.0).0 place) p.1)

  -- ---- pages

  -- a definition at the front, and its ending, print nothing
  front-printed : (bs cs : Blocks) → AreAlikeAfterFront m m' bs cs → printed (children_pieces m at_top None bs) ≡ printed (children_pieces m' at_top None cs)
  front-printed bs (Cons (Leaf Definition) (Cons (Ending ending) cs)) p = children-printed at_top None (Some (Ending ending)) bs cs refl p
  front-printed bs (Cons (Leaf Definition) (Cons (Holds Quote kids) cs)) p = children-printed at_top None None bs (Cons (Holds Quote kids) cs) refl p
  front-printed bs (Cons (Leaf Definition) (Cons (Holds Item kids) cs)) p = children-printed at_top None None bs (Cons (Holds Item kids) cs) refl p
  front-printed bs (Cons (Leaf Definition) (Cons (Holds (Footnote label) kids) cs)) p =
      children-printed at_top None None bs (Cons (Holds (Footnote label) kids) cs) refl p
  front-printed bs (Cons (Leaf Definition) cs) p = children-printed at_top None None bs cs refl p
  front-printed bs cs p = absurd p

  top-printed : (bs cs : Blocks) → AreBlocksAlike m m' bs cs ⊎ AreAlikeAfterFront m m' bs cs
      → printed (children_pieces m at_top None bs) ≡ printed (children_pieces m' at_top None cs)
  top-printed bs cs (inl p) = children-printed at_top None None bs cs refl p
  top-printed bs cs (inr p) = front-printed bs cs p

document-printed : (m m' : Meaning) (p p' : Page) → ArePagesAlike m m' p p' → printed (document_pieces m p) ≡ printed (document_pieces m' p')
document-printed m m' p p' alike =
    let ps = children_pieces m at_top None p.blocks ++ fresh_unless (not p.ends_blank) in
    let qs = children_pieces m' at_top None p'.blocks ++ fresh_unless (not p'.ends_blank) in
    let same : printed ps ≡ printed qs =
    both-printed (children_pieces m at_top None p.blocks) (fresh_unless (not p.ends_blank)) (children_pieces m' at_top None p'.blocks)
    (fresh_unless (not p'.ends_blank)) (top-printed m m' alike.meanings p.blocks p'.blocks alike.blocks)
    (ap (λ ends_blank. printed (fresh_unless (not ends_blank))) alike.ends_blank) in
    ids-printed m.compile [] ps
    ∙ ap (λ options. ids_in options [] (printed ps)) alike.meanings.compile
    ∙ ap (ids_in m'.compile []) same
    ∙ sym (ids-printed m'.compile [] qs)

pub alike_pages_print_the_same : AlikePagesPrintTheSame
alike_pages_print_the_same =
    record {
      same = λ m m' p p' alike options ending.
          page_same ending options (document_pieces m p) (document_pieces m' p') (document-printed m m' p p' alike);
    }
