-- Rows that are filled, and rows that aren't.
use Rattle.std.specs.Prelude.{◌≡◌, ◌∷◌, [], None}
use Rattle.engine_events.specs.Events.{event}
use Rattle.engine_events.specs.declared.event.Kind.TheVariants.{Enter, Exit}
use Rattle.engine_events.specs.declared.event.Name.{Name}
use Rattle.engine_events.specs.declared.event.Name.TheVariants as n
use Rattle.event_grammar.specs.declared.slot.Between.TheVariants.{Lines}
use Rattle.event_grammar.specs.declared.slot.Child.TheVariants.{Block}
use Rattle.event_grammar.specs.declared.slot.Slot.TheVariants.{Many}
use Rattle.event_grammar.specs.Grammar.{document_row}
use Rattle.event_grammar.specs.Trees.{Node, Nodes, Around, Nil, Cons}
use Rattle.parse_output.specs.Forest.{byte_point}
use Rattle.parse_slots.specs.Left.{Fill, left_by}

-- an event without bytes that holds these
abbrev holder : Name → Nodes → Node
holder name ns = Around (event Enter name (byte_point 0) None) ns (event Exit name (byte_point 0) None)

abbrev void : Name → Node
void name = holder name Nil

-- a quote of a paragraph with data, a line ending, and data again behind the prefix of the quote
abbrev prefix : Node
prefix = holder n.BlockQuotePrefix (Cons (void n.BlockQuoteMarker) (Cons (void n.SpaceOrTab) Nil))

abbrev pub paragraph : Node
paragraph = holder n.Paragraph (Cons (void n.Data) (Cons (void n.LineEnding) (Cons prefix (Cons (void n.Data) Nil))))

abbrev pub quote : Node
quote = holder n.BlockQuote (Cons prefix (Cons paragraph Nil))

-- Its rows are filled, and then blocks may follow. Without its marker the prefix of a quote isn't, and a break without a sequence isn't.
pub record FilledExamples : Type 0 where
  pub filled : Fill Lines document_row (Cons quote Nil) (Many Block ∷ [])
  pub no_marker : left_by Lines document_row (Cons (holder n.BlockQuote (Cons (void n.BlockQuotePrefix) Nil)) Nil) ≡ None
  pub no_sequence : left_by Lines document_row (Cons (holder n.ThematicBreak (Cons (void n.SpaceOrTab) Nil)) Nil) ≡ None
