-- What is open in a parser.
use Rattle.std.specs.Prelude.{◌≡◌, Bool, true, false, List, [], ◌∷◌, ◌++◌}
use Rattle.parse_output.specs.Open.{Mark}
use Rattle.parse_lines.specs.Open.{still_open}
use Rattle.parse_events.specs.declared.opened.Opened.{Opened}
use Rattle.parse_events.specs.declared.parser.Parser.{Parser}
use Rattle.parse_events.specs.Opened.{AreHeld, close_all}

-- what is open, but for the containers and lists of the parser
abbrev pub open_around : {A : Type 0} → Parser A → List Mark
open_around p = close_all p.open.items (still_open p.walk)

-- these containers and lists are the innermost that are open
abbrev pub HasOpen : {A : Type 0} → Parser A → Type 0
HasOpen p = AreHeld p.open.items (still_open p.walk)

-- what is open around the containers and lists of a parser is as before, and these are the innermost
pub record Keeps {A : Type 0} (old new : Parser A) : Type 0 where
  pub around : open_around new ≡ open_around old
  pub held : HasOpen new

-- one more of these, if it starts
abbrev pub more_if : Bool → Opened → List Opened → List Opened
more_if true o os = os ++ o ∷ []
more_if false o os = os

-- one more is open in a parser, if it starts
pub record OpensIf {A : Type 0} (starts : Bool) (o : Opened) (old new : Parser A) : Type 0 where
  pub walk : new.walk ≡ old.walk
  pub lists : new.open.items ≡ more_if starts o old.open.items
  pub items : new.items.items ≡ old.items.items
  pub places : new.places.items ≡ old.places.items
  pub first : new.first ≡ old.first
