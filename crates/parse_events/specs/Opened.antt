-- What is open in a document, without the walk that wrote it.
use Rattle.std.specs.Prelude.{◌≡◌, Bool, true, false, List, [], ◌∷◌}
use Rattle.engine_events.specs.declared.event.Name.{Name}
use Rattle.engine_events.specs.declared.event.Name.TheVariants as n
use Rattle.parse_output.specs.Open.{Mark, Entered, closed}
use Rattle.parse_output.specs.Children.{holds_blocks}
use Rattle.parse_events.specs.declared.opened.Opened.{Opened}
use Rattle.parse_events.specs.declared.opened.Opened.TheVariants as held

abbrev pub opened_name : Opened → Name
opened_name held.Quote = n.BlockQuote
opened_name held.Item = n.ListItem
opened_name held.Footnote = n.GfmFootnoteDefinition
opened_name held.OrderedList = n.ListOrdered
opened_name held.UnorderedList = n.ListUnordered

abbrev pub is_list : Opened → Bool
is_list held.Quote = false
is_list held.Item = false
is_list held.Footnote = false
is_list held.OrderedList = true
is_list held.UnorderedList = true

-- whether the innermost of these, which is the last, is a list
abbrev pub is_last_list : Opened → List Opened → Bool
is_last_list o [] = is_list o
is_last_list o (next ∷ os) = is_last_list next os

abbrev pub ends_in_list : List Opened → Bool
ends_in_list [] = false
ends_in_list (o ∷ os) = is_last_list o os

-- after the exits of all of these
abbrev pub close_all : List Opened → List Mark → List Mark
close_all [] marks = marks
close_all (o ∷ os) marks = closed (opened_name o) (close_all os marks)

-- after the enters of all of these
abbrev pub enter_all : List Opened → List Mark → List Mark
enter_all [] marks = marks
enter_all (o ∷ os) marks = enter_all os (Entered (opened_name o) ∷ marks)

-- these are the innermost that are open, in what may hold blocks
pub record AreHeld (os : List Opened) (marks : List Mark) : Type 0 where
  pub entered : marks ≡ enter_all os (close_all os marks)
  pub blocks : holds_blocks (close_all os marks) ≡ true
