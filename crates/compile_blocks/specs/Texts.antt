-- The children that hold the text of an event.
use Rattle.std.specs.Prelude.{if◌then◌else◌}
use Rattle.engine_events.specs.Names.{same_name, is_listed}
use Rattle.engine_events.specs.declared.event.Name.TheVariants as n
use Rattle.event_grammar.specs.Trees.{Nodes, Around, Nil, Cons}
use Rattle.event_meaning.specs.Texts.{text_names}

-- the nodes in the first of these that holds a text, or none; that of a link is in its label
abbrev pub text_kids : Nodes → Nodes
text_kids Nil = Nil
text_kids (Cons (Around enter kids exit) ns) =
    if is_listed text_names enter.name then kids else (if same_name enter.name n.Label then text_kids kids else text_kids ns)
