-- Blocks printed as pieces are the blocks printed as bytes.
use Rattle.std.proofs.Common.{◌≡◌, ℕ, Bool, true, false, cond, ◌&&◌, ◌||◌, not, List, [], ◌∷◌, ◌++◌, Option, None, Some, refl, sym, ap, ◌∙◌}
use Rattle.std.proofs.Common.{append_assoc, codes, eqb}
use Rattle.std.specs.Fmt.{decimal}
use Rattle.std.specs.List.{fold}
use Rattle.std.proofs.Math.Bool.{and-true, and-false}
use Rattle.std.proofs.lemmas.List.{append-nil}
use Rattle.markdown_options.specs.declared.line_ending.LineEnding.{LineEnding}
use Rattle.markdown_options.specs.declared.line_ending.LineEnding.TheVariants.{CarriageReturnLineFeed, CarriageReturn, LineFeed}
use Rattle.markdown_options.specs.LineEndings.{ending_bytes}
use Rattle.markdown_compile_options.specs.declared.configuration.CompileOptions.{CompileOptions}
use Rattle.markdown_compile_options.specs.declared.configuration.Options.{Options}
use Rattle.definition_text.specs.Encode.{encode}
use Rattle.definition_text.specs.Lines.{ending_text}
use Rattle.definition_block.specs.Container.{Container, Quote, Item, Footnote}
use Rattle.definition_block.specs.Blocks as tree
use Rattle.definition_block.specs.Lists.{is_loose}
use Rattle.definition_inline.specs.Targets.{Targets}
use Rattle.definition_page.specs.TextTables.{TextTables}
use Rattle.definition_page.specs.Tags.{Words, Number, Attribute, tag, bare_tag, start_tag, end_tag, attribute_bytes}
use Rattle.definition_page.specs.Pieces.{Piece, Says, Eol, Fresh, NoteEnd}
use Rattle.definition_page.specs.InlinePieces.{Meaning}
use Rattle.definition_page.specs.Page as page
use Rattle.definition_page.specs.Read.{Reading, Standing, on_page, in_container, next_standing, read_leaf, after_leaf, read_container, standing_in, read_blocks}
use Rattle.definition_page.specs.Read.{without_ending, list_number}
use Rattle.definition_page.specs.BlockPieces.{Place, list_tag, is_definition, is_footnote, is_silent, last_visible, ends_plainly, fresh_unless}
use Rattle.definition_page.specs.BlockPieces.{leaf_block_pieces, block_pieces, children_pieces}
use Rattle.html_bytes.specs.Document.{Document, document, reading_of, document_meaning}
use Rattle.html_bytes.specs.Layout as bytes_layout
use Rattle.html_bytes.specs.Layout.{LayoutState, layout_state}
use Rattle.html_bytes.specs.Pieces as bytes
use Rattle.html_bytes.specs.Html as old
use Rattle.html_bytes.specs.Html.{place_in}
use Rattle.html_bytes.proofs.LayoutSteps.{lay}
use Rattle.html_bytes.proofs.SameLayout.{Same, add, fresh, add_nil, joined, element_with}
use Rattle.html_bytes.proofs.SameText.{pieces_same}

-- ---- endings

ending_said : (ending : LineEnding) → encode (ending_bytes ending) ≡ ending_bytes ending
ending_said LineFeed = refl
ending_said CarriageReturn = refl
ending_said CarriageReturnLineFeed = refl

pub end_said : (ending : Option LineEnding) → encode (ending_text ending) ≡ ending_text ending
end_said None = refl
end_said (Some ending) = ending_said ending

-- ---- tags

-- the start of a list
abbrev number_attribute : ℕ → Attribute
number_attribute number = record { name = codes "start"; value = Number number ∷ [] }

start_said : (number : ℕ) → attribute_bytes (number_attribute number) ++ [] ≡ codes " start=\"" ++ decimal number ++ codes "\""
start_said number =
    append-nil (codes " start=\"" ++ (decimal number ++ []) ++ codes "\"") ∙ ap (λ x. codes " start=\"" ++ x ++ codes "\"") (append-nil (decimal number))

-- ---- siblings

-- whether an ending after a leaf prints nothing
paragraph_silences : (tight : Bool) → ((tight && true) || false) ≡ tight
paragraph_silences true = refl
paragraph_silences false = refl

definition_silences : (tight : Bool) → ((tight && false) || true) ≡ true
definition_silences true = refl
definition_silences false = refl

none_silences : (tight : Bool) → ((tight && false) || false) ≡ false
none_silences true = refl
none_silences false = refl

holds_silences : (top tight silent : Bool) (c : Container) (kids : tree.Blocks)
    → is_footnote (read_container c) ≡ old.silences top tight silent (tree.Holds c kids)
holds_silences top tight silent Quote kids = refl
holds_silences top tight silent (Item item) kids = refl
holds_silences top tight silent (Footnote label) kids = refl

module _ (options : CompileOptions) (default : List ℕ) where
  fresh_same : (said : Bool) → Same options default (fresh_unless said) (old.fresh_unless said)
  fresh_same true l = refl
  fresh_same false l = refl

  ending_same : (ending : LineEnding) (silent : Bool)
      → Same options default (cond silent [] (Says (Words (ending_bytes ending)) ∷ [])) (cond silent [] (bytes.Bytes (ending_bytes ending) ∷ []))
  ending_same ending true l = refl
  ending_same ending false l = ap (add l) (ending_said ending)

  -- an ending that isn't there
  no_ending : (silent : Bool) (more : List bytes.Piece) (l : LayoutState)
      → fold (bytes_layout.lay options default) l more ≡ fold (bytes_layout.lay options default) l (cond silent [] (bytes.Bytes [] ∷ []) ++ more)
  no_ending true more l = refl
  no_ending false more l = ap (λ x. fold (bytes_layout.lay options default) x more) (sym (add_nil l))

-- ---- lists

start_same : (number : Option ℕ) → start_tag (list_tag number) ≡ old.number_tag number
start_same None = refl
start_same (Some number) = by_case (eqb number 1)
  where
    by_case : (t : Bool) → start_tag (tag (codes "ol") (cond t [] (number_attribute number ∷ [])))
        ≡ codes "<ol" ++ cond t [] (codes " start=\"" ++ decimal number ++ codes "\"") ++ codes ">"
    by_case true = refl
    by_case false = ap (λ x. codes "<ol" ++ x ++ codes ">") (start_said number)

end_same : (number : Option ℕ) → end_tag (list_tag number).name ≡ old.number_end number
end_same None = refl
end_same (Some number) = refl

-- whether the children of a container are those of a tight item
abbrev kids_tight : Container → Bool → Bool
kids_tight (Item item) tight = tight
kids_tight c tight = false

module _ (default : List ℕ) (options : Options) (tables : TextTables) (ds : Targets) where
  abbrev pub d : Document
  d = document options tables ds

  abbrev pub r : Reading
  r = reading_of d

  abbrev pub m : Meaning
  m = document_meaning d

  -- pieces that lay out the same
  abbrev Alike : List Piece → List bytes.Piece → Type 0
  Alike ps bs = Same options.compile default ps bs

  -- ---- the last child of an item

  -- a leaf in a container, before others
  after_inside : (leaf : tree.LeafBlock) (others : page.Blocks) → after_leaf false leaf others ≡ others
  after_inside (tree.FencedCode info is_closed ls) others = refl
  after_inside leaf others = refl

  -- the last that is visible, after one more block
  abbrev visible_after : Option page.Block → Bool → page.Block → Option page.Block
  visible_after before hidden b = cond (not hidden) (Some b) before

  leaf_plain : (s : Standing) (tight : Bool) (before : Option page.Block) (said : Bool) (leaf : tree.LeafBlock) → ends_plainly tight before ≡ said
      → ends_plainly tight (visible_after before (is_definition (read_leaf r s leaf)) (page.Leaf (read_leaf r s leaf)))
      ≡ old.plain_after tight said (tree.Leaf leaf)
  leaf_plain s tight before said (tree.Paragraph ls) h = and-true tight
  leaf_plain s tight before said (tree.Definition ls label destination title) h = h
  leaf_plain s tight before said leaf h = and-false tight

  holds_plain : (tight : Bool) (before : Option page.Block) (said : Bool) (c : Container) (kids : tree.Blocks) (shown : page.Blocks)
      → ends_plainly tight before ≡ said
      → ends_plainly tight (visible_after before (is_footnote (read_container c)) (page.Holds (read_container c) shown))
      ≡ old.plain_after tight said (tree.Holds c kids)
  holds_plain tight before said (Footnote label) kids shown h = h
  holds_plain tight before said c kids shown h = refl

  plain_same : (first tight : Bool) (before : Option page.Block) (said : Bool) (bs : tree.Blocks) → ends_plainly tight before ≡ said
      → ends_plainly tight (last_visible before (read_blocks r (record { top = false; first = first }) bs)) ≡ old.ends_tight tight said bs
  plain_same first tight before said tree.Nil h = h
  plain_same first tight before said (tree.Cons (tree.Leaf leaf) bs) h =
      let shown = read_leaf r (record { top = false; first = first }) leaf in
      let now = visible_after before (is_definition shown) (page.Leaf shown) in
      ap (λ (others : page.Blocks). ends_plainly tight (last_visible now others))
      (after_inside leaf (read_blocks r (record { top = false; first = first && false }) bs))
      ∙ plain_same (first && false) tight now (old.plain_after tight said (tree.Leaf leaf)) bs
      (leaf_plain (record { top = false; first = first }) tight before said leaf h)
  plain_same first tight before said (tree.Cons (tree.Holds c kids) bs) h =
      let shown = read_blocks r (standing_in c) kids in
      plain_same (first && false) tight (visible_after before (is_footnote (read_container c)) (page.Holds (read_container c) shown))
      (old.plain_after tight said (tree.Holds c kids)) bs (holds_plain tight before said c kids shown h)
  plain_same first tight before said (tree.Cons (tree.Items items) bs) h =
      plain_same (first && false) tight (Some (page.ItemList (list_number items) (is_loose items) (read_blocks r in_container items))) false bs refl
  plain_same first tight before said (tree.Cons (tree.Ending None) bs) h = plain_same (first && true) tight before said bs h
  plain_same first tight before said (tree.Cons (tree.Ending (Some ending)) bs) h = plain_same (first && true) tight before said bs h
  plain_same first tight before said (tree.Cons (tree.Blank None) bs) h = plain_same (first && true) tight before said bs h
  plain_same first tight before said (tree.Cons (tree.Blank (Some ending)) bs) h = plain_same (first && true) tight before said bs h

  -- what an item ends with
  item_last : (tight : Bool) (kids : tree.Blocks)
      → Alike (fresh_unless (ends_plainly tight (last_visible None (read_blocks r (record { top = false; first = true }) kids))))
      (old.fresh_unless (old.ends_tight tight true kids))
  item_last tight kids l =
      ap (λ t. fold (lay options.compile default) l (fresh_unless t)) (plain_same true tight None true kids refl)
      ∙ fresh_same options.compile default (old.ends_tight tight true kids) l

  -- ---- containers and lists

  holds_same : (c : Container) (s : Standing) (tight silent : Bool) (before : Option page.Block) (kids : tree.Blocks)
      → Alike (children_pieces m (place_in (standing_in c) (kids_tight c tight)) None (read_blocks r (standing_in c) kids))
      (old.children_bytes d (standing_in c) (kids_tight c tight) false kids)
      → Alike (block_pieces m (place_in s tight) before (page.Holds (read_container c) (read_blocks r (standing_in c) kids)))
      (old.block_bytes d s tight silent (tree.Holds c kids))
  holds_same Quote s tight silent before kids same l =
      element_with options.compile default (bare_tag (codes "blockquote")) (codes "<blockquote>") (codes "</blockquote>")
      (children_pieces m (place_in in_container false) None (read_blocks r in_container kids)) (Fresh ∷ [])
      (old.children_bytes d in_container false false kids) (bytes.Fresh ∷ []) refl refl same (λ o. refl) (fresh default l)
  holds_same (Item item) s tight silent before kids same l =
      let standing = standing_in (Item item) in
      let inside = children_pieces m (place_in standing tight) None (read_blocks r standing kids) in
      let shown = old.children_bytes d standing tight false kids in
      let last = old.fresh_unless (old.ends_tight tight true kids) in
      element_with options.compile default (bare_tag (codes "li")) (codes "<li>") (codes "</li>") inside
      (fresh_unless (ends_plainly tight (last_visible None (read_blocks r standing kids)))) shown last refl refl same (item_last tight kids) (fresh default l)
      ∙ ap (λ x. fold (bytes_layout.lay options.compile default) (add (fresh default l) (codes "<li>")) x)
      (sym (append_assoc shown last (bytes.Bytes (codes "</li>") ∷ [])))
  holds_same (Footnote label) s tight silent before kids same l =
      joined options.compile default (children_pieces m (place_in in_container false) None (read_blocks r in_container kids)) (NoteEnd ∷ [])
      (old.children_bytes d in_container false false kids) (bytes.NoteEnd ∷ []) same (λ o. refl) (layout_state [] (l.text ∷ l.outer) l.notes l.called l.taken)

  list_same : (s : Standing) (tight silent : Bool) (before : Option page.Block) (items : tree.Blocks)
      → Alike (children_pieces m (place_in in_container (not (is_loose items))) None (read_blocks r in_container items))
      (old.children_bytes d in_container (not (is_loose items)) false items)
      → Alike (block_pieces m (place_in s tight) before
      (page.ItemList (list_number items) (is_loose items) (read_blocks r in_container items)))
      (old.block_bytes d s tight silent (tree.Items items))
  list_same s tight silent before items same l =
      let number = list_number items in
      let inside = children_pieces m (place_in in_container (not (is_loose items))) None (read_blocks r in_container items) in
      element_with options.compile default (list_tag number) (old.number_tag number) (old.number_end number) inside (Eol ∷ [])
      (old.children_bytes d in_container (not (is_loose items)) false items) (bytes.Eol ∷ []) (start_same number) (end_same number) same (λ o. refl)
      (fresh default l)

  -- ---- all blocks

  -- a block and the siblings after it
  siblings : (place : Place) (before : Option page.Block) (b : page.Block) (others : page.Blocks) (one more : List bytes.Piece)
      → Alike (block_pieces m place before b) one → Alike (children_pieces m place (Some b) others) more
      → Alike (children_pieces m place before (page.Cons b others)) (one ++ more)
  siblings place before b others one more block rest =
      joined options.compile default (block_pieces m place before b) (children_pieces m place (Some b) others) one more block rest

  -- siblings print the same, where an ending that comes first is as silent
  abbrev AreSame : Standing → Bool → tree.Blocks → Type 0
  AreSame s tight bs = (silent : Bool) (before : Option page.Block) → is_silent (place_in s tight) before ≡ silent
      → Alike (children_pieces m (place_in s tight) before (read_blocks r s bs)) (old.children_bytes d s tight silent bs)

  -- the same after fenced code at the top that isn't closed, the last ending of which is its own
  abbrev AreSameAfter : Standing → Bool → tree.Blocks → Type 0
  AreSameAfter s tight bs = (before : Option page.Block) → is_silent (place_in s tight) before ≡ false
      → Alike (children_pieces m (place_in s tight) before (without_ending (read_blocks r s bs))) (old.children_bytes d s tight true bs)

  -- both, by the same steps
  abbrev AreSameTwice : Standing → Bool → tree.Blocks → Type 0
  AreSameTwice s tight bs = AreSame s tight bs × AreSameAfter s tight bs

  -- siblings that begin with a block, before which no ending is silent
  abbrev EachSame : Standing → Bool → tree.Blocks → Type 0
  EachSame s tight bs = (silent : Bool) (before : Option page.Block)
      → Alike (children_pieces m (place_in s tight) before (read_blocks r s bs)) (old.children_bytes d s tight silent bs)

  -- what follows fenced code
  code_followed : (s : Standing) (tight without : Bool) (bs : tree.Blocks) → AreSameTwice s tight bs
      → (before : Option page.Block) → is_silent (place_in s tight) before ≡ false
      → Alike (children_pieces m (place_in s tight) before (cond without (without_ending (read_blocks r s bs)) (read_blocks r s bs)))
      (old.children_bytes d s tight without bs)
  code_followed s tight true bs same before h = same.1 before h
  code_followed s tight false bs same before h = same.0 false before h

  -- what follows a leaf that stands here, where the next block stands there
  leaf_followed : (here s : Standing) (tight silent : Bool) (leaf : tree.LeafBlock) (bs : tree.Blocks) → AreSameTwice s tight bs
      → Alike (children_pieces m (place_in s tight) (Some (page.Leaf (read_leaf r here leaf))) (after_leaf s.top leaf (read_blocks r s bs)))
      (old.children_bytes d s tight (old.silences s.top tight silent (tree.Leaf leaf)) bs)
  leaf_followed here s tight silent (tree.Paragraph ls) bs same =
      same.0 tight (Some (page.Leaf (read_leaf r here (tree.Paragraph ls)))) (paragraph_silences tight)
  leaf_followed here s tight silent (tree.FencedCode info is_closed ls) bs same =
      code_followed s tight (s.top && not is_closed) bs same (Some (page.Leaf (read_leaf r here (tree.FencedCode info is_closed ls)))) (none_silences tight)
  leaf_followed here s tight silent (tree.Definition ls label destination title) bs same =
      same.0 true (Some (page.Leaf page.Definition)) (definition_silences tight)
  leaf_followed here s tight silent leaf bs same = same.0 false (Some (page.Leaf (read_leaf r here leaf))) (none_silences tight)

  twice : (s : Standing) (tight : Bool) (bs : tree.Blocks) → AreSameTwice s tight bs
  twice s tight tree.Nil = (λ silent before h l. refl, λ before h l. refl)
  twice s tight (tree.Cons (tree.Leaf leaf) bs) =
      let b = tree.Leaf leaf in
      let shown = read_leaf r s leaf in
      let each : EachSame s tight (tree.Cons b bs) = λ silent before.
      siblings (place_in s tight) before (page.Leaf shown) (after_leaf s.top leaf (read_blocks r (next_standing s b) bs))
      (old.block_bytes d s tight silent b) (old.children_bytes d (next_standing s b) tight (old.silences s.top tight silent b) bs)
      (pieces_same options.compile default (leaf_block_pieces m (place_in s tight) shown))
      (leaf_followed s (next_standing s b) tight silent leaf bs (twice (next_standing s b) tight bs)) in
      (λ silent before h. each silent before, λ before h. each true before)
  twice s tight (tree.Cons (tree.Holds c kids) bs) =
      let b = tree.Holds c kids in
      let shown = page.Holds (read_container c) (read_blocks r (standing_in c) kids) in
      let each : EachSame s tight (tree.Cons b bs) = λ silent before.
      siblings (place_in s tight) before shown (read_blocks r (next_standing s b) bs)
      (old.block_bytes d s tight silent b) (old.children_bytes d (next_standing s b) tight (old.silences s.top tight silent b) bs)
      (holds_same c s tight silent before kids ((twice (standing_in c) (kids_tight c tight) kids).0 false None refl))
      ((twice (next_standing s b) tight bs).0 (old.silences s.top tight silent b) (Some shown) (holds_silences s.top tight silent c kids)) in
      (λ silent before h. each silent before, λ before h. each true before)
  twice s tight (tree.Cons (tree.Items items) bs) =
      let b = tree.Items items in
      let shown = page.ItemList (list_number items) (is_loose items) (read_blocks r in_container items) in
      let each : EachSame s tight (tree.Cons b bs) = λ silent before.
      siblings (place_in s tight) before shown (read_blocks r (next_standing s b) bs)
      (old.block_bytes d s tight silent b) (old.children_bytes d (next_standing s b) tight false bs)
      (list_same s tight silent before items ((twice in_container (not (is_loose items)) items).0 false None refl))
      ((twice (next_standing s b) tight bs).0 false (Some shown) refl) in
      (λ silent before h. each silent before, λ before h. each true before)
  twice s tight (tree.Cons (tree.Ending None) bs) = (
    λ silent before h l. (twice (next_standing s (tree.Ending None)) tight bs).0 silent before h l ∙ no_ending options.compile default silent
        (old.children_bytes d (next_standing s (tree.Ending None)) tight silent bs) l,
    (twice (next_standing s (tree.Ending None)) tight bs).1,
  )
  twice s tight (tree.Cons (tree.Ending (Some ending)) bs) = (
    λ silent before h l.
        siblings (place_in s tight) before (page.Ending ending) (read_blocks r (next_standing s (tree.Ending (Some ending))) bs)
        (old.block_bytes d s tight silent (tree.Ending (Some ending))) (old.children_bytes d (next_standing s (tree.Ending (Some ending))) tight false bs)
        (λ o. ap (λ t. fold (lay options.compile default) o (cond t [] (Says (Words (ending_bytes ending)) ∷ []))) h
        ∙ ending_same options.compile default ending silent o)
        ((twice (next_standing s (tree.Ending (Some ending))) tight bs).0 false (Some (page.Ending ending)) refl) l,
    (twice (next_standing s (tree.Ending (Some ending))) tight bs).0 false,
  )
  twice s tight (tree.Cons (tree.Blank None) bs) = twice (next_standing s (tree.Blank None)) tight bs
  twice s tight (tree.Cons (tree.Blank (Some ending)) bs) = (
    λ silent before h l. (twice (next_standing s (tree.Blank (Some ending))) tight bs).0 false (Some (page.Blank ending)) refl l,
    λ before h l. (twice (next_standing s (tree.Blank (Some ending))) tight bs).0 false (Some (page.Blank ending)) refl l,
  )

  -- the children of a document
  pub document_same : (bs : tree.Blocks)
      → Alike (children_pieces m (record { top = true; tight = false }) None (read_blocks r on_page bs)) (old.children_bytes d on_page false false bs)
  document_same bs = (twice on_page false bs).0 false None refl
