-- The info of a fence, which code has and math has not.
use Rattle.std.specs.Prelude.{Bool, true, List, Option, None, Some}
use Rattle.engine_events.specs.declared.event.Name.{Name}
use Rattle.parse_output.specs.Open.{Mark}
use Rattle.parse_output.specs.Children.{has_string, may_enter, may_hold}

-- whether an event may hold one of this name, if there is a name
abbrev pub may_hold_any : Name → Option Name → Bool
may_hold_any own None = true
may_hold_any own (Some name) = may_hold own name

-- whether one of this name may be entered, if there is a name
abbrev pub may_enter_any : List Mark → Option Name → Bool
may_enter_any marks None = true
may_enter_any marks (Some name) = may_enter marks name

-- whether a string may stand in it, if there is a name
abbrev pub has_strings : Option Name → Bool
has_strings None = true
has_strings (Some name) = has_string name
