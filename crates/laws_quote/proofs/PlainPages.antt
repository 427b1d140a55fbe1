-- Where footnote definitions are off, no text has one, and a page has no piece that footnotes need.
use Rattle.std.proofs.Common.{◌≡◌, ℕ, eqb, List, [], ◌++◌, Bool, false, None, refl, ap, subst, sym, ◌∙◌}
use Rattle.std.proofs.lemmas.Bool.{cond_both, both_ways}
use Rattle.markdown_options.specs.declared.configuration.Constructs.{Constructs}
use Rattle.markdown_options.specs.declared.beside.Kind.{Kind}
use Rattle.definition_inline.specs.LabelMatch.{normal_label, first_match}
use Rattle.definition_block.specs.Container.{Container, Footnote}
use Rattle.definition_block.specs.Blocks as tree
use Rattle.definition_block.specs.Tree.{is_ending, one, blocks}
use Rattle.definition_block.specs.Definitions.{block_footnotes, footnotes}
use Rattle.definition_block.specs.Lists.{endings_of, after_endings, list_items, list_marker, rest_of, item_marker, before_list, put_before, grouped_block}
use Rattle.definition_block.specs.Lists.{group_items}
use Rattle.definition_page.specs.HeadingIds.{with_ids}
use Rattle.definition_page.specs.InlinePieces.{Meaning, call_at, count_at}
use Rattle.definition_page.specs.Page as page
use Rattle.definition_page.specs.BlockPieces.{at_top}
use Rattle.definition_page.specs.BlockPieces.{fresh_unless, children_pieces}
use Rattle.definition_page.specs.Read.{Reading, on_page}
use Rattle.definition_page.specs.Read.{read_container, read_blocks}
use Rattle.definition_page.proofs.PagePieces.{Prints, Holding, page_good}
use Rattle.definition_page.proofs.PageReads.{Reads, blocks_read}
use Rattle.definition_page.proofs.PlainLayout.{IsPlain, ArePlain}
use Rattle.laws_block.proofs.Occurs.{ContainerMayStand, BlockMayStand, MayStand, may_stand}

-- ---- blocks without footnote definitions, at any depth

-- any container but a footnote definition
abbrev IsNoNote : Container → Type 0
IsNoNote (Footnote label) = ⊥
IsNoNote c = Unit {0}

abbrev mutual
  HasNoNote : tree.Block → Type 0
  HasNoNote (tree.Holds c kids) = IsNoNote c × HaveNoNotes kids
  HasNoNote (tree.Items items) = HaveNoNotes items
  HasNoNote b = Unit {0}

  pub HaveNoNotes : tree.Blocks → Type 0
  HaveNoNotes tree.Nil = Unit {0}
  HaveNoNotes (tree.Cons b bs) = HasNoNote b × HaveNoNotes bs

-- where footnote definitions are off, no text has one
module _ (on : Constructs) (off : on.gfm_footnote_definition ≡ false) where
  is_no_note : (c : Container) → ContainerMayStand on c → IsNoNote c
  is_no_note (Footnote label) p = absurd (both_ways on.gfm_footnote_definition off p)
  is_no_note c p = tt

  mutual
    has_no_note : (b : tree.Block) → BlockMayStand on b → HasNoNote b
    has_no_note (tree.Holds c kids) p = (is_no_note c p.0, have_no_notes kids p.1)
    has_no_note (tree.Items items) p = absurd p
    has_no_note b p = tt

    have_no_notes : (bs : tree.Blocks) → MayStand on bs → HaveNoNotes bs
    have_no_notes tree.Nil p = tt
    have_no_notes (tree.Cons b bs) p = (has_no_note b p.0, have_no_notes bs p.1)

  pub text_without_notes : (kind : Kind) (text : List ℕ) → HaveNoNotes (blocks on kind text)
  text_without_notes kind text = have_no_notes (blocks on kind text) (may_stand on kind text)

-- blocks that have none have no labels of them
mutual
  block_labels : (b : tree.Block) → HasNoNote b → block_footnotes b ≡ []
  block_labels (tree.Holds (Footnote label) kids) p = absurd p.0
  block_labels (tree.Holds c kids) p = ap (λ labels. labels ++ []) (no_labels kids p.1)
  block_labels (tree.Items items) p = no_labels items p
  block_labels b p = refl

  pub no_labels : (bs : tree.Blocks) → HaveNoNotes bs → footnotes bs ≡ []
  no_labels tree.Nil p = refl
  no_labels (tree.Cons b bs) p = ap (λ labels. labels ++ footnotes bs) (block_labels b p.0) ∙ no_labels bs p.1

-- ---- and none once items are put into lists

notes-join : (bs cs : tree.Blocks) → HaveNoNotes bs → HaveNoNotes cs → HaveNoNotes (tree.join bs cs)
notes-join tree.Nil cs p q = q
notes-join (tree.Cons b bs) cs p q = (p.0, notes-join bs cs p.1 q)

notes_in_endings : (bs : tree.Blocks) → HaveNoNotes bs → HaveNoNotes (endings_of bs)
notes_in_endings tree.Nil p = tt
notes_in_endings (tree.Cons b bs) p =
    cond_both (is_ending b) (tree.Cons b (endings_of bs)) tree.Nil HaveNoNotes (λ _. (p.0, notes_in_endings bs p.1)) (λ _. tt)

notes_after_endings : (bs : tree.Blocks) → HaveNoNotes bs → HaveNoNotes (after_endings bs)
notes_after_endings tree.Nil p = tt
notes_after_endings (tree.Cons b bs) p =
    cond_both (is_ending b) (after_endings bs) (tree.Cons b bs) HaveNoNotes (λ _. notes_after_endings bs p.1) (λ _. p)

notes_in_list : (bs : tree.Blocks) → HaveNoNotes bs → HaveNoNotes (list_items bs)
notes_in_list (tree.Cons (tree.Items items) bs) p = p.0
notes_in_list bs p = tt

notes_in_rest : (bs : tree.Blocks) → HaveNoNotes bs → HaveNoNotes (rest_of bs)
notes_in_rest tree.Nil p = tt
notes_in_rest (tree.Cons b bs) p = p.1

notes-before : (b : tree.Block) (bs : tree.Blocks) → HasNoNote b → HaveNoNotes bs → HaveNoNotes (put_before b bs)
notes-before b bs p q =
    let others = after_endings bs in
    let r = notes_after_endings bs q in
    cond_both (eqb (item_marker b) 0) (tree.Cons b bs) (before_list (item_marker b) b bs) HaveNoNotes (λ _. (p, q))
    (λ _. cond_both (eqb (list_marker others) (item_marker b))
    (tree.Cons (tree.Items (tree.Cons b (tree.join (endings_of bs) (list_items others)))) (rest_of others))
    (tree.Cons (tree.Items (one b)) bs) HaveNoNotes
    (λ _. ((p, notes-join (endings_of bs) (list_items others) (notes_in_endings bs q) (notes_in_list others r)), notes_in_rest others r))
    (λ _. ((p, tt), q)))

mutual
  note_grouped : (b : tree.Block) → HasNoNote b → HasNoNote (grouped_block b)
  note_grouped (tree.Holds c kids) p = (p.0, notes_grouped kids p.1)
  note_grouped b p = p

  notes_grouped : (bs : tree.Blocks) → HaveNoNotes bs → HaveNoNotes (group_items bs)
  notes_grouped tree.Nil p = tt
  notes_grouped (tree.Cons b bs) p = notes-before (grouped_block b) (group_items bs) (note_grouped b p.0) (notes_grouped bs p.1)

-- ---- the blocks of a page

abbrev IsNoNoteOnPage : page.PageContainer → Type 0
IsNoNoteOnPage (page.Footnote label) = ⊥
IsNoNoteOnPage c = Unit {0}

abbrev mutual
  ReadsNoNote : page.Block → Type 0
  ReadsNoNote (page.Holds c kids) = IsNoNoteOnPage c × ReadNoNotes kids
  ReadsNoNote (page.ItemList number loose items) = ReadNoNotes items
  ReadsNoNote b = Unit {0}

  ReadNoNotes : page.Blocks → Type 0
  ReadNoNotes page.Nil = Unit {0}
  ReadNoNotes (page.Cons b bs) = ReadsNoNote b × ReadNoNotes bs

no_note_read : (c : Container) → IsNoNote c → IsNoNoteOnPage (read_container c)
no_note_read (Footnote label) p = absurd p
no_note_read c p = tt

module _ (r : Reading) where
  no_notes_read : Reads r ReadNoNotes HaveNoNotes
  no_notes_read =
      record {
        none = tt;
        ending = λ ending bs p. (tt, p);
        blank = λ ending bs p. (tt, p);
        after = λ ending bs p. p.1;
        others = λ b bs h. h.1;
        leaf = λ s leaf bs shown h p. (tt, p);
        inside = λ c kids bs h. h.0.1;
        container = λ c kids bs held shown h q p. ((no_note_read c h.0.0, q), p);
        listed = λ items bs h. h.0;
        list = λ number loose held shown q p. (q, p);
      }

-- ---- what they print

-- blocks of a page without footnotes
no_notes : Holding IsPlain ReadNoNotes
no_notes =
    record {
      others = λ b bs h. h.1;
      kids = λ c kids bs h. h.0.1;
      items = λ number loose items bs h. h.0;
      note = λ label kids bs h. absurd h.0.0;
    }

module _ (m : Meaning) (none : m.footnotes ≡ []) where
  plain : Prints IsPlain m
  plain =
      record {
        opens = λ t own. tt;
        closes = λ name. tt;
        voids = λ t own. tt;
        said = λ part. tt;
        eol = tt;
        fresh = tt;
        names = λ on t text own. tt;
        calls = λ label. subst (λ labels. ArePlain (call_at (first_match label labels) (normal_label label))) (sym none) tt;
        counts = λ label. subst (λ labels. ArePlain (count_at (first_match label labels) (normal_label label))) (sym none) tt;
      }

  -- the page of such blocks has no piece that footnotes need
  pub document_plain : (r : Reading) (bs : tree.Blocks) (said : Bool) → HaveNoNotes bs
      → ArePlain (with_ids m.compile [] (children_pieces m at_top None (read_blocks r on_page (group_items bs)) ++ fresh_unless said))
  document_plain r bs said p =
      let read = read_blocks r on_page (group_items bs) in
      page_good IsPlain m plain ReadNoNotes no_notes (λ t. tt) read said
      (blocks_read r ReadNoNotes HaveNoNotes (no_notes_read r) on_page (group_items bs) (notes_grouped bs p))
