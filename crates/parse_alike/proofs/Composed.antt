-- Parts of texts and blocks, one after another, are alike if each is.
use Rattle.std.proofs.Common.{◌≡◌, Bool, true, false, ◌++◌, ◌&&◌, not, if◌then◌else◌, List, [], ◌∷◌, None, Some, refl, sym, ap, ◌∙◌, subst}
use Rattle.parse_alike.proofs.Prelude.{after_leaf, append, AreBlocksAlike, AreDefinitionsAlike, ArePartsAlike, Blocks, Call, Cons, Definition, Each, Html}
use Rattle.parse_alike.proofs.Prelude.{html_leaves, in_container, Inline, InlineLeaf, Inlines, IsPartAlike, Leaf, leaf_parts, leaves, Linked, Meaning}
use Rattle.parse_alike.proofs.Prelude.{next_standing, Nil, read_block, read_blocks, read_container, Reading, Span, Standing, standing_in, without_ending}
use Rattle.definition_block.specs.Blocks as tree
use Rattle.definition_block.specs.Lists.{is_loose}
use Rattle.definition_page.specs.GfmTable.{leaf_in_cell, part_in_cell, in_cell}
use Rattle.definition_page.specs.Page as page
use Rattle.definition_page.specs.Read.{list_number}
use Rattle.definition_page.specs.Read.{read_leaf}
use Rattle.event_meaning.specs.Blocks.{join}
use Rattle.parse_alike.specs.Composed.{is_unclosed, ends_unclosed, after_unclosed, standing_after, AlikePartsCompose, AlikeBlocksCompose}
use Rattle.parse_alike.proofs.HtmlText.{each_piece}

append_assoc : (is js ks : Inlines) → append (append is js) ks ≡ append is (append js ks)
append_assoc Nil js ks = refl
append_assoc (Cons i is) js ks = ap (Cons i) (append_assoc is js ks)

cell-append : (is js : Inlines) → in_cell (append is js) ≡ append (in_cell is) (in_cell js)
cell-append Nil js = refl
cell-append (Cons i is) js = ap (Cons (part_in_cell i)) (cell-append is js)

-- a leaf that a cell doesn't change
abbrev IsKept : InlineLeaf → Type 0
IsKept l = leaf_in_cell l ≡ l

leaves_kept : (ls : List InlineLeaf) → Each IsKept ls → in_cell (leaves ls) ≡ leaves ls
leaves_kept [] p = refl
leaves_kept (l ∷ ls) p = ap (λ first. Cons (Leaf first) (in_cell (leaves ls))) p.0 ∙ ap (Cons (Leaf l)) (leaves_kept ls p.1)

leaf-cell : (l : InlineLeaf) → in_cell (leaf_parts l) ≡ leaf_parts (leaf_in_cell l)
leaf-cell (Html html) = leaves_kept (html_leaves html) (each_piece IsKept (λ own. refl) (λ c. refl) html)
leaf-cell other = refl

module _ (m m' : Meaning) where
  parts_joined : (is is' js js' : Inlines) → ArePartsAlike m m' is is' → ArePartsAlike m m' js js' → ArePartsAlike m m' (append is js) (append is' js')
  parts_joined Nil is' js js' p q = subst (λ front. ArePartsAlike m m' js (append front js')) (sym p) q
  parts_joined (Cons i is) is' js js' p q =
      (p.0, append p.1 js', ap (λ all. append all js') p.2 ∙ append_assoc p.0 p.1 js', p.3, parts_joined is p.1 js js' p.4 q)

  mutual
    part-cell : (i : Inline) (is' : Inlines) → IsPartAlike m m' i is' → IsPartAlike m m' (part_in_cell i) (in_cell is')
    part-cell (Leaf l) is' p = ap in_cell p ∙ leaf-cell l
    part-cell (Span kind kids) is' p = (in_cell p.0, ap in_cell p.1, parts-cell kids p.0 p.2)
    part-cell (Linked kind target kids) is' p = (p.0, in_cell p.1, ap in_cell p.2, p.3, parts-cell kids p.1 p.4)
    part-cell (Call label) is' p = (p.0, ap in_cell p.1, p.2)

    parts-cell : (is is' : Inlines) → ArePartsAlike m m' is is' → ArePartsAlike m m' (in_cell is) (in_cell is')
    parts-cell Nil is' p = ap in_cell p
    parts-cell (Cons i is) is' p =
        (in_cell p.0, in_cell p.1, ap in_cell p.2 ∙ cell-append p.0 p.1, part-cell i p.0 p.3, parts-cell is p.1 p.4)

pub alike_parts_compose : AlikePartsCompose
alike_parts_compose =
    record {
      joined = λ m m' is is' js js' p q. parts_joined m m' is is' js js' p q;
      in_cells = λ m m' is is' p. parts-cell m m' is is' p;
    }

-- ---- blocks

module _ (m m' : Meaning) where
  blocks_joined : (bs bs' cs cs' : Blocks) → AreBlocksAlike m m' bs bs' → AreBlocksAlike m m' cs cs' → AreBlocksAlike m m' (join bs cs) (join bs' cs')
  blocks_joined page.Nil page.Nil cs cs' p q = q
  blocks_joined page.Nil (page.Cons b' bs') cs cs' p q = absurd p
  blocks_joined (page.Cons b bs) page.Nil cs cs' p q = absurd p
  blocks_joined (page.Cons b bs) (page.Cons b' bs') cs cs' p q = (p.0, blocks_joined bs bs' cs cs' p.1 q)

-- in a container nothing is left out after a leaf
after_leaf_all : (top : Bool) (leaf : tree.LeafBlock) (bs : Blocks) → top ≡ false → after_leaf top leaf bs ≡ bs
after_leaf_all top (tree.FencedCode info is_closed ls) bs h = ap (λ t. if t && not is_closed then without_ending bs else bs) h
after_leaf_all top leaf bs h = refl

module _ (r : Reading) where
  read_before : (standing : Standing) (b : tree.Block) (bs cs : Blocks) → standing.top ≡ false
      → read_block r standing b (join bs cs) ≡ join (read_block r standing b bs) cs
  read_before standing (tree.Leaf leaf) bs cs h =
      let first = page.Leaf (read_leaf r standing leaf) in
      ap (page.Cons first) (after_leaf_all standing.top leaf (join bs cs) h)
      ∙ ap (λ others. page.Cons first (join others cs)) (sym (after_leaf_all standing.top leaf bs h))
  read_before standing (tree.Holds c kids) bs cs h = refl
  read_before standing (tree.Items items) bs cs h = refl
  read_before standing (tree.Ending None) bs cs h = refl
  read_before standing (tree.Ending (Some ending)) bs cs h = refl
  read_before standing (tree.Blank None) bs cs h = refl
  read_before standing (tree.Blank (Some ending)) bs cs h = refl

  read_joined : (standing : Standing) (bs cs : tree.Blocks) → standing.top ≡ false
      → read_blocks r standing (tree.join bs cs) ≡ join (read_blocks r standing bs) (read_blocks r (standing_after standing bs) cs)
  read_joined standing tree.Nil cs h = refl
  read_joined standing (tree.Cons b bs) cs h =
      let next = next_standing standing b in
      ap (read_block r standing b) (read_joined next bs cs h)
      ∙ read_before standing b (read_blocks r next bs) (read_blocks r (standing_after next bs) cs) h

-- at the top an ending may be left out after a leaf
after_leaf_top : (top : Bool) (leaf : tree.LeafBlock) (bs : Blocks) → top ≡ true → after_leaf top leaf bs ≡ after_unclosed (is_unclosed leaf) bs
after_leaf_top top (tree.FencedCode info is_closed ls) bs h = ap (λ t. if t && not is_closed then without_ending bs else bs) h
after_leaf_top top leaf bs h = refl

-- what isn't an ending stays
kept : (t : Bool) (bs : Blocks) → without_ending bs ≡ bs → after_unclosed t bs ≡ bs
kept true bs h = h
kept false bs h = refl

module _ (r : Reading) where
  -- blocks at the top, after others of which the last is unclosed code or isn't
  top_joined : (before : Bool) (standing : Standing) (bs cs : tree.Blocks) → standing.top ≡ true
      → after_unclosed before (read_blocks r standing (tree.join bs cs))
      ≡ join (after_unclosed before (read_blocks r standing bs)) (after_unclosed (ends_unclosed before bs) (read_blocks r (standing_after standing bs) cs))
  top_joined true standing tree.Nil cs h = refl
  top_joined false standing tree.Nil cs h = refl
  top_joined before standing (tree.Cons (tree.Leaf leaf) bs) cs h =
      let first = page.Leaf (read_leaf r standing leaf) in
      let next = next_standing standing (tree.Leaf leaf) in
      kept before (page.Cons first (after_leaf standing.top leaf (read_blocks r next (tree.join bs cs)))) refl
      ∙ ap (page.Cons first) (after_leaf_top standing.top leaf (read_blocks r next (tree.join bs cs)) h ∙ top_joined (is_unclosed leaf) next bs cs h)
      ∙ ap (λ others. page.Cons first (join others (after_unclosed (ends_unclosed (is_unclosed leaf) bs) (read_blocks r (standing_after next bs) cs))))
      (sym (after_leaf_top standing.top leaf (read_blocks r next bs) h))
      ∙ ap (λ all. join all (after_unclosed (ends_unclosed (is_unclosed leaf) bs) (read_blocks r (standing_after next bs) cs)))
      (sym (kept before (page.Cons first (after_leaf standing.top leaf (read_blocks r next bs))) refl))
  top_joined true standing (tree.Cons (tree.Ending (Some ending)) bs) cs h = top_joined false (next_standing standing (tree.Ending (Some ending))) bs cs h
  top_joined false standing (tree.Cons (tree.Ending (Some ending)) bs) cs h =
      ap (page.Cons (page.Ending ending)) (top_joined false (next_standing standing (tree.Ending (Some ending))) bs cs h)
  top_joined before standing (tree.Cons (tree.Ending None) bs) cs h = top_joined before (next_standing standing (tree.Ending None)) bs cs h
  top_joined before standing (tree.Cons (tree.Blank None) bs) cs h = top_joined before (next_standing standing (tree.Blank None)) bs cs h
  top_joined true standing (tree.Cons (tree.Blank (Some ending)) bs) cs h =
      ap (page.Cons (page.Blank ending)) (top_joined false (next_standing standing (tree.Blank (Some ending))) bs cs h)
  top_joined false standing (tree.Cons (tree.Blank (Some ending)) bs) cs h =
      ap (page.Cons (page.Blank ending)) (top_joined false (next_standing standing (tree.Blank (Some ending))) bs cs h)
  top_joined true standing (tree.Cons (tree.Holds c kids) bs) cs h =
      ap (page.Cons (page.Holds (read_container c) (read_blocks r (standing_in c) kids)))
      (top_joined false (next_standing standing (tree.Holds c kids)) bs cs h)
  top_joined false standing (tree.Cons (tree.Holds c kids) bs) cs h =
      ap (page.Cons (page.Holds (read_container c) (read_blocks r (standing_in c) kids)))
      (top_joined false (next_standing standing (tree.Holds c kids)) bs cs h)
  top_joined true standing (tree.Cons (tree.Items items) bs) cs h =
      ap (page.Cons (page.ItemList (list_number items) (is_loose items) (read_blocks r in_container items)))
      (top_joined false (next_standing standing (tree.Items items)) bs cs h)
  top_joined false standing (tree.Cons (tree.Items items) bs) cs h =
      ap (page.Cons (page.ItemList (list_number items) (is_loose items) (read_blocks r in_container items)))
      (top_joined false (next_standing standing (tree.Items items)) bs cs h)

-- ---- definitions

module _ (m m' : Meaning) where
  definitions_joined : (ds ds' es es' : List Definition) → AreDefinitionsAlike m m' ds ds' → AreDefinitionsAlike m m' es es'
      → AreDefinitionsAlike m m' (ds ++ es) (ds' ++ es')
  definitions_joined [] [] es es' p q = q
  definitions_joined [] (d' ∷ ds') es es' p q = absurd p
  definitions_joined (d ∷ ds) [] es es' p q = absurd p
  definitions_joined (d ∷ ds) (d' ∷ ds') es es' p q = (p.0, definitions_joined ds ds' es es' p.1 q)

pub alike_blocks_compose : AlikeBlocksCompose
alike_blocks_compose =
    record {
      joined = λ m m' bs bs' cs cs' p q. blocks_joined m m' bs bs' cs cs' p q;
      read = λ r standing bs cs h. read_joined r standing bs cs h;
      read_top = λ r standing bs cs h. top_joined r false standing bs cs h;
      defined = definitions_joined;
    }
