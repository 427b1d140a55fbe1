-- What an output has written.
use Rattle.std.specs.Prelude.{◌≡◌, ℕ, true, List}
use Rattle.std.specs.Str.{is_utf8}
use Rattle.engine_events.specs.declared.event.Name.{Name}
use Rattle.event_grammar.specs.Trees.{Growth, Nodes}
use Rattle.parse_output.specs.declared.end.End.{End}
use Rattle.parse_output.specs.declared.output.Output.{Output}
use Rattle.parse_output.specs.Drafts.{unmatched_in}
use Rattle.parse_output.specs.Ends.{enter_at, exit_at, first_end}
use Rattle.parse_output.specs.Forest.{AreInOrder, entered, exited, forest, with_nodes}
use Rattle.parse_output.specs.Open.{Mark}

-- what was entered and not exited, the innermost first, and any exit that fits nothing
abbrev pub open_in : {A : Type 0} → Output A → List Mark
open_in o = unmatched_in o.drafts.items

-- where it is
abbrev pub end_in : {A : Type 0} → Output A → End
end_in o = o.end

-- what it says of a text: the nodes written so far in the innermost event that is open, and around it
abbrev pub forest_in : {A : Type 0} → List ℕ → Output A → Growth
forest_in text o = forest text o.drafts.items

-- its drafts go onward in a text of characters
abbrev pub IsInOrder : {A : Type 0} → List ℕ → Output A → Type 0
IsInOrder text o = (is_utf8 text ≡ true) × AreInOrder text first_end o.drafts.items

-- these nodes are written
pub record Writes {A : Type 0} (text : List ℕ) (old new : Output A) (ns : Nodes) : Type 0 where
  pub order : IsInOrder text new
  pub forest : forest_in text new ≡ with_nodes (forest_in text old) ns

-- an event of a name is entered
pub record Enters {A : Type 0} (text : List ℕ) (name : Name) (old new : Output A) : Type 0 where
  pub order : IsInOrder text new
  pub forest : forest_in text new ≡ entered (forest_in text old) (enter_at text name (end_in old))

-- an event of a name is exited
pub record Exits {A : Type 0} (text : List ℕ) (name : Name) (old new : Output A) : Type 0 where
  pub order : IsInOrder text new
  pub forest : forest_in text new ≡ exited (forest_in text old) (exit_at text name (end_in old))
