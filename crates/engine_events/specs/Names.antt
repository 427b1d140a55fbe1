-- Names of events, compared.
use Rattle.std.specs.Prelude.{Bool, List}
use Rattle.std.specs.List.{list_any}
use denote.Enum.Bare.{sameb}
use Rattle.engine_events.specs.contracts.event.Name.{the_type}
use Rattle.engine_events.specs.declared.event.Name.{Name}

-- whether two names are one
abbrev pub same_name : Name → Name → Bool
same_name = sameb the_type

-- whether a name is in a list
abbrev pub is_listed : List Name → Name → Bool
is_listed names name = list_any (λ n. same_name n name) names
