-- Events that are siblings, by the events after an enter.
use Rattle.std.specs.Prelude.{◌≡◌, ℕ, Bool, true, false, suc, ◌+◌, ◌-◌, ◌==◌, if◌then◌else◌, List, [], ◌∷◌, take, drop}
use Rattle.engine_events.specs.declared.event.Event.{Event}
use Rattle.engine_events.specs.declared.event.Kind.{Kind}
use Rattle.engine_events.specs.declared.event.Kind.TheVariants.{Enter, Exit}
use Rattle.event_grammar.specs.Points.{spot_of}
use Rattle.event_grammar.specs.Trees as tree
use Rattle.event_grammar.specs.Trees.{Around, events_of}
use Rattle.compile_levels.specs.declared.node.Node.{Node}

abbrev pub size_next : Kind → ℕ → (ℕ → ℕ) → ℕ
size_next Enter depth others = suc (others (depth + 1))
size_next Exit depth others = if depth == 0 then 0 else suc (others (depth - 1))

-- how many events come before the exit of the event that these are in
abbrev pub size_inside : ℕ → List Event → ℕ
size_inside depth [] = 0
size_inside depth (e ∷ es) = size_next e.kind depth (λ d. size_inside d es)

abbrev pub is_exit : Kind → Bool
is_exit Enter = false
is_exit Exit = true

-- the events before that exit
abbrev pub inside : List Event → List Event
inside es = take (size_inside 0 es) es

-- the first of these, or this one where there is none
abbrev pub first_or : Event → List Event → Event
first_or e [] = e
first_or e (x ∷ xs) = x

-- the first of these siblings, and those after it
abbrev pub IsFirst : List Event → Node → List Event → Type 0
IsFirst [] node after = ⊥
IsFirst (e ∷ es) node after =
    (node.name ≡ e.name) × (node.start ≡ spot_of e) × (node.end ≡ spot_of (first_or e (drop (size_inside 0 es) es))) × (node.inside.now ≡ inside es)
    × (after ≡ drop 1 (drop (size_inside 0 es) es))

-- an event with those in it is that of the tree
abbrev pub Reads : Node → tree.Node → Type 0
Reads node (Around enter kids exit) =
    (node.name ≡ enter.name) × (node.start ≡ spot_of enter) × (node.end ≡ spot_of exit) × (node.inside.now ≡ events_of kids)
