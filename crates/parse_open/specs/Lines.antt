-- Which lists are loose, by how many lines end between their events (CommonMark 5.3).
use Rattle.std.specs.Prelude.{◌≡◌, ℕ, suc, ◌+◌, ◌-◌, ◌≤◌, true, false, if◌then◌else◌, List, ◌++◌, Option, None, Some, length, take, get_or, ◌<◌}
use Rattle.std.specs.List.{list_any}
use Rattle.std.specs.Option.{option_map}
use Rattle.markdown_options.specs.declared.line_ending.LineEnding.{LineEnding}
use Rattle.definition_text.specs.Lines.{ends_line, ending_text}
use Rattle.definition_block.specs.Lists.{has_gap, has_gap_inside}
use Rattle.definition_block.specs.Tree.{Block, Holds, Blocks, Nil as NoBlock, Cons as ConsBlock, is_ending, join, one as one_block}
use Rattle.definition_block.specs.Container.{Container}
use Rattle.engine_events.specs.declared.event.Event.{Event}
use Rattle.engine_events.specs.declared.event.Name.TheVariants as n
use Rattle.event_check.specs.Loose.{are_apart, has_loose_item, is_loose_item, lines_in}
use Rattle.event_grammar.specs.declared.slot.Child.{Child}
use Rattle.event_grammar.specs.declared.spot.Spot.{Spot}
use Rattle.event_grammar.specs.Points.{spot_of}
use Rattle.event_grammar.specs.InGrammar.{node_name}
use Rattle.event_grammar.specs.Slots.{has}
use Rattle.event_grammar.specs.Trees.{Node, Nodes, Around, Nil, Cons, followed_by}

-- how many lines end before an index
abbrev pub line_at : List ℕ → ℕ → ℕ
line_at text index = lines_in false 0 (take index text)

-- where the last of the children ends that may stand at a place; `last` says it of those before these
abbrev pub last_end : Child → Option Spot → Nodes → Option Spot
last_end child last Nil = last
last_end child last (Cons (Around enter kids exit) ns) = last_end child (if has child enter.name then Some (spot_of exit) else last) ns

-- how many endings follow the last block, if there is one; `before` says it of the blocks before these
abbrev pub since : Option ℕ → Blocks → Option ℕ
since before NoBlock = before
since before (ConsBlock b bs) = since (if is_ending b then option_map suc before else Some 0) bs

-- so many lines ended after the last block, where this many ended in all
abbrev pub IsSince : List ℕ → Option Spot → Option ℕ → ℕ → Type 0
IsSince text None None line = Unit {0}
IsSince text (Some last) (Some count) line = line_at text last.index + count ≡ line
IsSince text last count line = ⊥

-- Neighbours among nodes are more than a line apart where a blank line is between the blocks, and as many lines ended after the last one as endings follow it.
pub record AreSpread (text : List ℕ) (child : Child) (bs : Blocks) (ns : Nodes) (line : ℕ) : Type 0 where
  pub apart : are_apart text child None ns ≡ has_gap bs
  pub ended : IsSince text (last_end child None ns) (since None bs) line

-- Blocks and their nodes stay so with one more of each.
pub record SpreadBlocksCompose : Type 0 where
  pub none : (text : List ℕ) (child : Child) (line : ℕ) → AreSpread text child NoBlock Nil line
  pub quiet : (text : List ℕ) (child : Child) (bs : Blocks) (ns : Nodes) (line : ℕ) (node : Node) → has child (node_name node) ≡ false
      → AreSpread text child bs ns line → AreSpread text child bs (followed_by ns node) line
  pub ending : (text : List ℕ) (child : Child) (bs : Blocks) (ns : Nodes) (line : ℕ) (b : Block) → is_ending b ≡ true
      → AreSpread text child bs ns line → AreSpread text child (join bs (one_block b)) ns (line + 1)
  pub block : (text : List ℕ) (child : Child) (bs : Blocks) (ns : Nodes) (b : Block) (enter exit : Event) (kids : Nodes) → is_ending b ≡ false
      → has child enter.name ≡ true → (spot_of enter).index ≤ length text → AreSpread text child bs ns (line_at text (spot_of enter).index)
      → AreSpread text child (join bs (one_block b)) (followed_by ns (Around enter kids exit)) (line_at text (spot_of exit).index)
  -- of the items of a list
  pub item : (text : List ℕ) (bs kids : Blocks) (c : Container) (ns inner : Nodes) (enter exit : Event) → enter.name ≡ n.ListItem
      → is_loose_item text inner ≡ has_gap kids → has_loose_item text ns ≡ has_gap_inside bs
      → has_loose_item text (followed_by ns (Around enter inner exit)) ≡ has_gap_inside (join bs (one_block (Holds c kids)))
  pub other : (text : List ℕ) (bs : Blocks) (ns : Nodes) (node : Node) → has_loose_item text ns ≡ has_gap_inside bs
      → (node_name node ≡ n.ListItem → ⊥) → has_loose_item text (followed_by ns node) ≡ has_gap_inside bs
  pub between : (text : List ℕ) (bs : Blocks) (ns : Nodes) (b : Block) → has_loose_item text ns ≡ has_gap_inside bs → is_ending b ≡ true
      → has_loose_item text ns ≡ has_gap_inside (join bs (one_block b))

-- How many lines end before an index in a line, and after its ending. The ending isn't the second half of another.
pub record LinesAreCounted : Type 0 where
  pub same : (text before content after : List ℕ) (i : ℕ) → text ≡ before ++ (content ++ after) → list_any ends_line content ≡ false
      → length before ≤ i → i ≤ length before + length content → line_at text i ≡ line_at text (length before + length content)
  pub next : (text front after : List ℕ) (ending : LineEnding) → text ≡ front ++ (ending_text (Some ending) ++ after)
      → (0 < length front → get_or text (length front) 0 ≡ 10 → get_or text (length front - 1) 0 ≡ 13 → ⊥)
      → line_at text (length front + length (ending_text (Some ending))) ≡ line_at text (length front) + 1
