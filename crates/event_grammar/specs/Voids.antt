-- What is asked of an event that holds no other, by its name.
use Rattle.std.specs.Prelude.{Bool, true, false, ◌||◌, if◌then◌else◌}
use Rattle.engine_events.specs.Names.{same_name, is_listed}
use Rattle.engine_events.specs.declared.event.Name.{Name}
use Rattle.engine_events.specs.declared.event.Name.TheVariants as n
use Rattle.event_grammar.specs.declared.names.Void.{Void}
use Rattle.event_grammar.specs.declared.names.Void.TheVariants.{Not, Space, Ending, Asking, Plain}
use Rattle.event_grammar.specs.declared.slot.Between.{Between}
use Rattle.event_grammar.specs.declared.slot.Between.TheVariants.{Nothing, Spaces, Lines}
use Rattle.event_grammar.specs.Grammar.{space_names}
use Rattle.event_grammar.specs.Facts.{ending_names}
use Rattle.event_grammar.specs.Void.{is_void}

-- whether anything is asked of its bytes
abbrev pub asks : Void → Bool
asks Not = false
asks Space = false
asks Ending = true
asks Asking = true
asks Plain = false

-- whether bytes are asked that are no line ending
abbrev pub asks_others : Name → Bool
asks_others name = same_name name n.ListItemValue || (same_name name n.HeadingAtxSequence || same_name name n.CharacterReferenceValue)

abbrev pub void_by : Bool → Bool → Bool → Bool → Void
void_by is_void ending others space =
    if is_void then (if ending then Ending else if others then Asking else if space then Space else Plain) else Not

abbrev pub void_of : Name → Void
void_of name = void_by (is_void name) (is_listed ending_names name) (asks_others name) (is_listed space_names name)

-- whether it holds others, or is one of MDX
abbrev pub is_not : Void → Bool
is_not Not = true
is_not Space = false
is_not Ending = false
is_not Asking = false
is_not Plain = false

-- whether an event may stand between children by what is asked of it
abbrev pub is_between : Between → Void → Bool
is_between Nothing void = false
is_between Spaces Not = false
is_between Spaces Space = true
is_between Spaces Ending = false
is_between Spaces Asking = false
is_between Spaces Plain = false
is_between Lines Not = false
is_between Lines Space = true
is_between Lines Ending = true
is_between Lines Asking = false
is_between Lines Plain = false
