-- What is written of white space between the parts of a link (CommonMark 6.3).
use Rattle.std.specs.Prelude.{◌≡◌, ℕ, Bool, true, false, nat_lt, List, [], ◌∷◌, ◌++◌, None}
use Rattle.std.specs.List.{list_all}
use Rattle.engine_events.specs.Names.{is_listed}
use Rattle.engine_events.specs.declared.event.Name.{Name}
use Rattle.engine_events.specs.declared.event.Name.TheVariants as n
use Rattle.event_grammar.specs.declared.slot.Between.{Between}
use Rattle.event_grammar.specs.declared.slot.Slot.{Slot}
use Rattle.event_grammar.specs.Trees.{Nodes}
use Rattle.event_meaning.specs.Children.{child}
use Rattle.parse_lines.specs.declared.walk.Walk.{Walk}
use Rattle.parse_lines.specs.InContent.{IsWhole, Stop, WritesInContent}
use Rattle.parse_slots.specs.Left.{Fill, MayEndLines, TakesNoBetween}
use Rattle.parse_strings.specs.Plain.{ArePlain}

abbrev pub is_ascii_byte : ℕ → Bool
is_ascii_byte b = nat_lt b 128

abbrev pub white_names : List Name
white_names = n.SpaceOrTab ∷ n.LineEnding ∷ n.BlockQuotePrefix ∷ []

-- the white space is written that a content begins with, and the rest is ahead
pub record WritesWhite {A : Type 0} (text content rest : List ℕ) (stop : Stop) (old new : Walk A) : Type 0 where
  pub front : List ℕ
  pub parts : content ≡ front ++ rest
  pub ascii : list_all is_ascii_byte front ≡ true
  pub nodes : Nodes
  pub writes : WritesInContent text front nodes rest stop old new
  pub whole : IsWhole new
  pub plain : ArePlain nodes
  pub fill : (around : Between) (slots : List Slot) → MayEndLines around front → TakesNoBetween slots → Fill around slots nodes slots
  -- among them are only spaces and tabs, line endings and the prefixes of quotes
  pub others : (name : Name) → is_listed white_names name ≡ false → child name nodes ≡ None
