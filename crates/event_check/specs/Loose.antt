-- Which lists and items are loose, by the lines that their children stand on.
use Rattle.std.specs.Prelude.{◌≡◌, ℕ, ◌+◌, ◌-◌, Bool, true, false, not, ◌==◌, ◌&&◌, ◌||◌, nat_lt, if◌then◌else◌, List, [], ◌∷◌, ◌++◌, length, slice_index, Option, None, Some}
use Rattle.engine_events.specs.Columns.{between}
use Rattle.engine_events.specs.Names.{same_name}
use Rattle.engine_events.specs.declared.event.Event.{Event}
use Rattle.engine_events.specs.declared.event.Kind.{Kind}
use Rattle.engine_events.specs.declared.event.Kind.TheVariants.{Enter, Exit}
use Rattle.engine_events.specs.declared.event.Name.{Name}
use Rattle.engine_events.specs.declared.event.Name.TheVariants as n
use Rattle.event_grammar.specs.declared.slot.Child.{Child}
use Rattle.event_grammar.specs.declared.slot.Child.TheVariants.{Only, Block}
use Rattle.event_grammar.specs.declared.spot.Spot.{Spot}
use Rattle.event_grammar.specs.Slots.{has}
use Rattle.event_grammar.specs.Points.{spot_of}
use Rattle.event_grammar.specs.Trees.{Node, Nodes, Around, Nil, Cons, node_events, IsNode}

-- ---- lines

-- whether a line ends at a byte: an LF ends none after a CR, which ended it
abbrev pub ends_line : Bool → ℕ → Bool
ends_line return b = (b == 13) || ((b == 10) && not return)

-- how many lines end in bytes, of which the byte before is a CR or not
abbrev pub lines_in : Bool → ℕ → List ℕ → ℕ
lines_in return count [] = count
lines_in return count (b ∷ bs) = lines_in (b == 13) (if ends_line return b then count + 1 else count) bs

-- whether the byte before an index is a CR
abbrev pub is_return : List ℕ → ℕ → Bool
is_return bytes index = nat_lt 0 index && nat_lt (index - 1) (length bytes) && (slice_index bytes (index - 1) == 13)

-- two places are more than a line apart
abbrev pub is_apart : List ℕ → ℕ → ℕ → Bool
is_apart bytes from to = nat_lt 1 (lines_in (is_return bytes from) 0 (between from to bytes))

-- ---- children of a node

module _ (bytes : List ℕ) where
  abbrev pub is_far : Option Spot → Spot → Bool
  is_far None at = false
  is_far (Some last) at = is_apart bytes last.index at.index

  -- some two neighbours among the children that may stand at a place are more than a line apart; the last before these ended here
  abbrev pub are_apart : Child → Option Spot → Nodes → Bool
  are_apart child last Nil = false
  are_apart child last (Cons (Around enter kids exit) ns) =
      if has child enter.name then is_far last (spot_of enter) || are_apart child (Some (spot_of exit)) ns else are_apart child last ns

  -- an item is loose by its blocks
  abbrev pub is_loose_item : Nodes → Bool
  is_loose_item kids = are_apart Block None kids

  abbrev pub has_loose_item : Nodes → Bool
  has_loose_item Nil = false
  has_loose_item (Cons (Around enter kids exit) ns) = (same_name enter.name n.ListItem && is_loose_item kids) || has_loose_item ns

  -- a list is loose by its items, or because one of them is
  abbrev pub is_loose_list : Bool → Nodes → Bool
  is_loose_list include_items kids = are_apart (Only n.ListItem) None kids || (include_items && has_loose_item kids)

  -- ---- the same by the events in a node

  abbrev pub apart_next : Kind → Name → Spot → Child → ℕ → Option Spot → (ℕ → Option Spot → Bool) → Bool
  apart_next Enter name at child depth last others =
      if (depth == 0) && has child name && is_far last at then true else others (depth + 1) last
  apart_next Exit name at child depth last others =
      if depth == 0 then false else others (depth - 1) (if (depth - 1 == 0) && has child name then Some at else last)

  abbrev pub apart_after : Child → ℕ → Option Spot → List Event → Bool
  apart_after child depth last [] = false
  apart_after child depth last (e ∷ es) = apart_next e.kind e.name (spot_of e) child depth last (λ d l. apart_after child d l es)

  abbrev pub item_next : Kind → Name → Bool → ℕ → (ℕ → Bool) → Bool
  item_next Enter name loose depth others = if (depth == 0) && same_name name n.ListItem && loose then true else others (depth + 1)
  item_next Exit name loose depth others = if depth == 0 then false else others (depth - 1)

  abbrev pub item_after : ℕ → List Event → Bool
  item_after depth [] = false
  item_after depth (e ∷ es) = item_next e.kind e.name (apart_after Block 0 None es) depth (λ d. item_after d es)

-- ---- a node in a list of events

-- the event at this index is the enter of this node
abbrev pub IsAt : List Event → ℕ → Node → Type 0
IsAt events index node = (front : List Event) × (back : List Event) × (events ≡ front ++ (node_events node ++ back)) × (length front ≡ index) × IsNode node

abbrev pub kids_of : Node → Nodes
kids_of (Around enter kids exit) = kids
