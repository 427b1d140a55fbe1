-- A child that was looked for among events.
use Rattle.std.specs.Prelude.{◌≡◌, Option, None}
use Rattle.std.specs.Option.{MatchOption}
use Rattle.engine_events.specs.declared.event.Name.{Name}
use Rattle.event_grammar.specs.Trees.{Nodes, events_of}
use Rattle.compile_levels.specs.Children.{IsChildOf}
use Rattle.compile_levels.specs.declared.node.Sibling.{Sibling}
use Rattle.event_meaning.specs.Children.{child}

-- what was found is the first of these nodes that has a name, or none has it
abbrev pub IsFound : Name → Nodes → Option Sibling → Type 0
IsFound name ns found = MatchOption found (child name ns ≡ None) (λ sibling. IsChildOf name (events_of ns) ns sibling)
