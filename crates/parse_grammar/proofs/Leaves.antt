-- What holds of all leaves and containers among blocks: as they are read, and as others are alike to them.
use Rattle.std.proofs.Common.{inl, inr, ◌⊎◌, Bool, ◌&&◌, None, Some}
use Rattle.std.proofs.lemmas.Bool.{cond_both}
use Rattle.std.specs.Prelude.{not}
use Rattle.definition_block.specs.Blocks as tree
use Rattle.definition_page.specs.InlinePieces.{Meaning}
use Rattle.definition_page.specs.Page as page
use Rattle.definition_page.specs.Read.{after_leaf, in_container, next_standing, read_block, read_blocks, read_leaf, Reading, Standing, standing_in, without_ending}
use Rattle.event_meaning.specs.Blocks.{join}
use Rattle.parse_alike.specs.Page.{AreAlikeAfterFront, AreBlocksAlike, AreContainersAlike, AreLeavesAlike, IsBlockAlike}

-- ---- on a page

-- nothing is asked of what holds others
abbrev pub Any : page.PageContainer → Type 0
Any c = Unit {0}

-- All leaves among these, at any depth, have this, and so do all containers. A list is one of items.
module _ (P : page.PageLeaf → Type 0) (C : page.PageContainer → Type 0) where
  abbrev mutual
    pub LeavesOf : page.Block → Type 0
    LeavesOf (page.Leaf l) = P l
    LeavesOf (page.Holds c kids) = C c × AllLeaves kids
    LeavesOf (page.ItemList number loose items) = C page.Item × AllLeaves items
    LeavesOf b = Unit {0}

    pub AllLeaves : page.Blocks → Type 0
    AllLeaves page.Nil = Unit {0}
    AllLeaves (page.Cons b bs) = LeavesOf b × AllLeaves bs

  -- each of two parts
  pub leaves_parts : (bs cs : page.Blocks) → AllLeaves (join bs cs) → AllLeaves bs × AllLeaves cs
  leaves_parts page.Nil cs all = (tt, all)
  leaves_parts (page.Cons b bs) cs all = let parts = leaves_parts bs cs all.1 in ((all.0, parts.0), parts.1)

  -- an ending in front is no leaf
  less_ending : (bs : page.Blocks) → AllLeaves bs → AllLeaves (without_ending bs)
  less_ending (page.Cons (page.Ending ending) bs) all = all.1
  less_ending bs all = all

  more_ending : (bs : page.Blocks) → AllLeaves (without_ending bs) → AllLeaves bs
  more_ending (page.Cons (page.Ending ending) bs) all = (tt, all)
  more_ending bs all = all

  pub leaves_after : (top : Bool) (leaf : tree.LeafBlock) (bs : page.Blocks) → AllLeaves bs → AllLeaves (after_leaf top leaf bs)
  leaves_after top (tree.FencedCode info is_closed ls) bs all =
      cond_both (top && not is_closed) (without_ending bs) bs AllLeaves (λ _. less_ending bs all) (λ _. all)
  leaves_after top leaf bs all = all

-- ---- as they are read

module _ (Q : tree.LeafBlock → Type 0) where
  abbrev mutual
    pub ReadLeavesOf : tree.Block → Type 0
    ReadLeavesOf (tree.Leaf l) = Q l
    ReadLeavesOf (tree.Holds c kids) = AllReadLeaves kids
    ReadLeavesOf (tree.Items items) = AllReadLeaves items
    ReadLeavesOf b = Unit {0}

    pub AllReadLeaves : tree.Blocks → Type 0
    AllReadLeaves tree.Nil = Unit {0}
    AllReadLeaves (tree.Cons b bs) = ReadLeavesOf b × AllReadLeaves bs

  -- what each leaf has
  module _ (each : (l : tree.LeafBlock) → Q l) where
    mutual
      each_of : (b : tree.Block) → ReadLeavesOf b
      each_of (tree.Leaf l) = each l
      each_of (tree.Holds c kids) = each_leaf kids
      each_of (tree.Items items) = each_leaf items
      each_of (tree.Ending ending) = tt
      each_of (tree.Blank ending) = tt

      pub each_leaf : (bs : tree.Blocks) → AllReadLeaves bs
      each_leaf tree.Nil = tt
      each_leaf (tree.Cons b bs) = (each_of b, each_leaf bs)

  module _ (P : page.PageLeaf → Type 0) (r : Reading) (leaf : (standing : Standing) (l : tree.LeafBlock) → Q l → P (read_leaf r standing l)) where
    mutual
      leaves_read_of : (standing : Standing) (b : tree.Block) (others : page.Blocks) → ReadLeavesOf b → AllLeaves P Any others
          → AllLeaves P Any (read_block r standing b others)
      leaves_read_of standing (tree.Leaf l) others own all = (leaf standing l own, leaves_after P Any standing.top l others all)
      leaves_read_of standing (tree.Holds c kids) others own all = ((tt, leaves_read (standing_in c) kids own), all)
      leaves_read_of standing (tree.Items items) others own all = ((tt, leaves_read in_container items own), all)
      leaves_read_of standing (tree.Ending None) others own all = all
      leaves_read_of standing (tree.Ending (Some ending)) others own all = (tt, all)
      leaves_read_of standing (tree.Blank None) others own all = all
      leaves_read_of standing (tree.Blank (Some ending)) others own all = (tt, all)

      pub leaves_read : (standing : Standing) (bs : tree.Blocks) → AllReadLeaves bs → AllLeaves P Any (read_blocks r standing bs)
      leaves_read standing tree.Nil all = tt
      leaves_read standing (tree.Cons b bs) all =
          leaves_read_of standing b (read_blocks r (next_standing standing b) bs) all.0 (leaves_read (next_standing standing b) bs all.1)

-- ---- as they are alike

module _ (P P' : page.PageLeaf → Type 0) (C C' : page.PageContainer → Type 0) (m m' : Meaning)
    (leaf : (l l' : page.PageLeaf) → P l → AreLeavesAlike m m' l l' → P' l')
    (container : (c c' : page.PageContainer) → C c → AreContainersAlike c c' → C' c') where
  mutual
    leaves_alike_of : (b c : page.Block) → LeavesOf P C b → IsBlockAlike m m' b c → LeavesOf P' C' c
    leaves_alike_of (page.Leaf l) (page.Leaf l') own alike = leaf l l' own alike
    leaves_alike_of (page.Holds c kids) (page.Holds d kids') own alike = (container c d own.0 alike.0, leaves_alike kids kids' own.1 alike.1)
    leaves_alike_of (page.ItemList number loose items) (page.ItemList number' loose' items') own alike =
        (container page.Item page.Item own.0 tt, leaves_alike items items' own.1 alike.2)
    leaves_alike_of (page.Ending ending) (page.Ending ending') own alike = tt
    leaves_alike_of (page.Blank ending) (page.Blank ending') own alike = tt
    leaves_alike_of b c own alike = absurd alike

    leaves_alike : (bs cs : page.Blocks) → AllLeaves P C bs → AreBlocksAlike m m' bs cs → AllLeaves P' C' cs
    leaves_alike page.Nil page.Nil all alike = tt
    leaves_alike (page.Cons b bs) (page.Cons c cs) all alike = (leaves_alike_of b c all.0 alike.0, leaves_alike bs cs all.1 alike.1)
    leaves_alike bs cs all alike = absurd alike

  leaves_after_front : (bs cs : page.Blocks) → P' page.Definition → AllLeaves P C bs → AreAlikeAfterFront m m' bs cs → AllLeaves P' C' cs
  leaves_after_front bs (page.Cons (page.Leaf page.Definition) cs) front all alike =
      (front, more_ending P' C' cs (leaves_alike bs (without_ending cs) all alike))
  leaves_after_front bs cs front all alike = absurd alike

  pub leaves_spelled : (bs cs : page.Blocks) → P' page.Definition → AllLeaves P C bs → AreBlocksAlike m m' bs cs ⊎ AreAlikeAfterFront m m' bs cs
      → AllLeaves P' C' cs
  leaves_spelled bs cs front all (inl alike) = leaves_alike bs cs all alike
  leaves_spelled bs cs front all (inr alike) = leaves_after_front bs cs front all alike
