-- Which lists are loose: a pass over events from the last to the first (CommonMark 5.3).
use Rattle.std.specs.Prelude.{ℕ, zero, suc, Bool, true, false, ◌&&◌, ◌||◌, if◌then◌else◌, List, [], ◌∷◌, ◌++◌, Option, None, Some, drop, reverse}
use Rattle.engine_events.specs.Names.{same_name}
use Rattle.engine_events.specs.declared.event.Event.{Event}
use Rattle.engine_events.specs.declared.event.Kind.{Kind}
use Rattle.engine_events.specs.declared.event.Kind.TheVariants.{Enter, Exit}
use Rattle.engine_events.specs.declared.event.Name.{Name}
use Rattle.engine_events.specs.declared.event.Name.TheVariants as n
use Rattle.event_check.specs.Loose.{is_apart, is_loose_list}
use Rattle.event_grammar.specs.declared.slot.Child.{Child}
use Rattle.event_grammar.specs.declared.slot.Child.TheVariants.{Only, Block}
use Rattle.event_grammar.specs.declared.spot.Spot.{Spot}
use Rattle.event_grammar.specs.Points.{spot_of}
use Rattle.event_grammar.specs.Slots.{has}
use Rattle.event_grammar.specs.Trees.{Node, Nodes, Around, Nil, Cons}
use Rattle.compile_written.specs.declared.list.Level.{Level}
use Rattle.compile_written.specs.declared.list.OpenLevel.{OpenLevel}
use Rattle.compile_written.specs.declared.list.Pass.{Pass}

abbrev pub is_list : Name → Bool
is_list name = same_name name n.ListOrdered || same_name name n.ListUnordered

-- ---- by the tree

module _ (bytes : List ℕ) where
  abbrev mutual
    -- for each list, in the order of their enters, whether it is loose
    pub node_lists : Node → List Bool
    node_lists (Around enter kids exit) =
        if is_list enter.name then is_loose_list bytes true kids ∷ loose_lists kids else loose_lists kids

    pub loose_lists : Nodes → List Bool
    loose_lists Nil = []
    loose_lists (Cons node ns) = node_lists node ++ loose_lists ns

-- ---- by the events, from the last on

abbrev pub compared_in : Name → Option Child
compared_in name = if is_list name then Some (Only n.ListItem) else (if same_name name n.ListItem then Some Block else None)

abbrev pub compares : Option Child → Name → Bool
compares None name = false
compares (Some child) name = has child name

abbrev pub level : Option Child → Option Spot → Bool → Bool → Level
level child next apart loose = record { child = child; next = next; apart = apart; loose = loose }

abbrev pub new_level : Option Child → Level
new_level child = level child None false false

-- whether a place is more than a line before the next
abbrev pub is_before : List ℕ → Spot → Option Spot → Bool
is_before bytes at None = false
is_before bytes at (Some next) = is_apart bytes at.index next.index

abbrev pub before_exit : List ℕ → Name → Spot → Level → Level
before_exit bytes name at l = level l.child l.next ((compares l.child name && is_before bytes at l.next) || l.apart) l.loose

abbrev pub before_enter : Name → Spot → Bool → Level → Level
before_enter name at apart l =
    if compares l.child name then level l.child (Some at) l.apart (apart || l.loose) else l

-- the innermost level, those around it, and the lists so far, that of the first enter first
pub record PassView : Type 0 where
  pub level : Level
  pub outer : List Level
  pub lists : List Bool

abbrev pub pass_at : Level → List Level → List Bool → PassView
pass_at level outer lists = record { level = level; outer = outer; lists = lists }

abbrev pub first_level : List Level → Level
first_level [] = new_level None
first_level (l ∷ ls) = l

abbrev pub more_lists : Name → Level → List Bool → List Bool
more_lists name l lists = if is_list name then (l.apart || l.loose) ∷ lists else lists

abbrev pub pass_next : List ℕ → Kind → Name → Spot → PassView → PassView
pass_next bytes Exit name at p = pass_at (new_level (compared_in name)) (before_exit bytes name at p.level ∷ p.outer) p.lists
pass_next bytes Enter name at p =
    pass_at (before_enter name at p.level.apart (first_level p.outer)) (drop 1 p.outer) (more_lists name p.level p.lists)

abbrev pub pass_start : PassView
pass_start = pass_at (new_level None) [] []

abbrev pub pass_event : List ℕ → PassView → Event → PassView
pass_event bytes p e = pass_next bytes e.kind e.name (spot_of e) p

abbrev pub passed : List ℕ → PassView → List Event → PassView
passed bytes p [] = p
passed bytes p (e ∷ es) = pass_event bytes (passed bytes p es) e

-- ---- what the code holds

-- so many levels of events that are neither lists nor items, which are all alike, before others
abbrev pub nones : ℕ → List Level → List Level
nones zero ls = ls
nones (suc depth) ls = new_level None ∷ nones depth ls

-- the levels that stand open in a list or an item, before those around it
abbrev pub levels_of : OpenLevel → List Level → List Level
levels_of o ls = nones o.depth (o.level ∷ ls)

-- what is passed where so many others are open in a list or an item
abbrev pub level_view : ℕ → Level → List Level → List Bool → PassView
level_view depth l ls lists = pass_at (first_level (nones depth (l ∷ ls))) (drop 1 (nones depth (l ∷ ls))) lists

abbrev pub around : List OpenLevel → List Level
around [] = []
around (o ∷ others) = levels_of o (around others)

abbrev pub levels_in : {A : Type 0} → Pass A → List Level
levels_in p = levels_of p.inner (around (reverse p.outer.items))

abbrev pub pass_view : {A : Type 0} → Pass A → PassView
pass_view p = pass_at (first_level (levels_in p)) (drop 1 (levels_in p)) (reverse p.lists.items)
