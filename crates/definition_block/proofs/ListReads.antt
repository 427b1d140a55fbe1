-- If blocks are good, so are they once items of one marker are put into lists (CommonMark 5.3).
use Rattle.std.proofs.Common.{ℕ, eqb}
use Rattle.std.proofs.lemmas.Bool.{cond_both}
use Rattle.definition_block.specs.Tree.{Block, Holds, Items, Blocks, Nil, Cons, is_ending}
use Rattle.definition_block.specs.Lists.{endings_of, after_endings, item_marker, list_marker, list_items, rest_of, before_list, put_before, grouped_block}
use Rattle.definition_block.specs.Lists.{group_items}
use Rattle.definition_block.proofs.BlockReads.{Property, BlockGood, BlocksGood, join_good}

module _ (good : Property) where
  endings_good : (bs : Blocks) → BlocksGood good bs → BlocksGood good (endings_of bs)
  endings_good Nil p = tt
  endings_good (Cons b bs) p = cond_both (is_ending b) _ _ (BlocksGood good) (λ _. (p.0, endings_good bs p.1)) (λ _. tt)

  after_endings_good : (bs : Blocks) → BlocksGood good bs → BlocksGood good (after_endings bs)
  after_endings_good Nil p = tt
  after_endings_good (Cons b bs) p = cond_both (is_ending b) _ _ (BlocksGood good) (λ _. after_endings_good bs p.1) (λ _. p)

  items_good : (bs : Blocks) → BlocksGood good bs → BlocksGood good (list_items bs)
  items_good (Cons (Items items) bs) p = p.0
  items_good bs p = tt

  rest_good : (bs : Blocks) → BlocksGood good bs → BlocksGood good (rest_of bs)
  rest_good Nil p = tt
  rest_good (Cons b bs) p = p.1

  before_list_good : (marker : ℕ) (item : Block) (bs : Blocks) → BlockGood good item → BlocksGood good bs → BlocksGood good (before_list marker item bs)
  before_list_good marker item bs h p =
      let others = after_endings bs in
      let q = after_endings_good bs p in
      cond_both (eqb (list_marker others) marker) _ _ (BlocksGood good)
      (λ _. ((h, join_good good (endings_of bs) (list_items others) (endings_good bs p) (items_good others q)), rest_good others q))
      (λ _. ((h, tt), p))

  before_good : (b : Block) (bs : Blocks) → BlockGood good b → BlocksGood good bs → BlocksGood good (put_before b bs)
  before_good b bs h p =
      cond_both (eqb (item_marker b) 0) _ _ (BlocksGood good) (λ _. (h, p)) (λ _. before_list_good (item_marker b) b bs h p)

  mutual
    grouped_block_good : (b : Block) → BlockGood good b → BlockGood good (grouped_block b)
    grouped_block_good (Holds c kids) h = grouped_good kids h
    grouped_block_good b h = h

    pub grouped_good : (bs : Blocks) → BlocksGood good bs → BlocksGood good (group_items bs)
    grouped_good Nil p = tt
    grouped_good (Cons b bs) p = before_good (grouped_block b) (group_items bs) (grouped_block_good b p.0) (grouped_good bs p.1)
