-- Whether events are nested, with none open at the end, and in order of place: a test.
use Rattle.std.specs.Prelude.{◌-◌, Bool, true, false, not, nat_le, ◌==◌, ◌&&◌, ◌||◌, List, [], ◌∷◌, ◌++◌, length, take, slice_get, Option, None, Some}
use Rattle.engine_events.specs.declared.event.Event.{Event}
use Rattle.engine_events.specs.declared.event.Kind.{Kind}
use Rattle.engine_events.specs.declared.event.Kind.TheVariants.{Enter, Exit}
use Rattle.engine_events.specs.declared.event.Name.{Name}
use Rattle.engine_events.specs.declared.place.Point.{Point}
use Rattle.engine_events.specs.Events.{point_of}
use Rattle.engine_events.specs.Names.{same_name}
use Rattle.markdown_engine.specs.Order.{text_start}

-- of the names that are open the innermost is the last
abbrev pub innermost : List Name → Option Name
innermost names = slice_get names (length names - 1)

abbrev pub without_innermost : List Name → List Name
without_innermost names = take (length names - 1) names

abbrev pub is_it : Name → Option Name → Bool
is_it name None = false
is_it name (Some other) = same_name other name

abbrev pub may_stand : Kind → Name → List Name → Bool
may_stand Enter name names = true
may_stand Exit name names = is_it name (innermost names)

abbrev pub names_after : Kind → Name → List Name → List Name
names_after Enter name names = names ++ name ∷ []
names_after Exit name names = without_innermost names

abbrev pub are_none : List Name → Bool
are_none [] = true
are_none (n ∷ ns) = false

abbrev pub is_nested : List Name → List Event → Bool
is_nested names [] = are_none names
is_nested names (e ∷ es) = may_stand e.kind e.name names && is_nested (names_after e.kind e.name names) es

abbrev pub reaches : Point → Point → Bool
reaches p q = nat_le p.index q.index && (not (p.index == q.index) || nat_le p.vs q.vs)

abbrev pub is_in_order : Point → List Event → Point → Bool
is_in_order from [] to = reaches from to
is_in_order from (e ∷ es) to = reaches from (point_of e) && is_in_order (point_of e) es to

-- all of it, of the events of a text that was read up to a place
unfoldable pub is_whole : List Event → Point → Bool
is_whole events to = is_nested [] events && is_in_order text_start events to
