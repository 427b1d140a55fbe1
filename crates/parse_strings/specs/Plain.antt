-- Nodes in which neither a definition, nor the tail of a link, nor the delimiter of a column is looked for (CommonMark 4.7 and 6.3, GFM 4.10).
use Rattle.std.specs.Prelude.{◌≡◌, true, List, [], ◌∷◌, None}
use Rattle.engine_events.specs.Names.{is_listed}
use Rattle.engine_events.specs.declared.event.Name.{Name}
use Rattle.engine_events.specs.declared.event.Name.TheVariants as n
use Rattle.event_grammar.specs.References.{named, own}
use Rattle.event_grammar.specs.Trees.{Nodes}

-- what is looked for in the children of a link, an image or a call
abbrev pub tail_names : List Name
tail_names = n.Resource ∷ n.ReferenceString ∷ n.ResourceDestinationString ∷ n.ResourceTitleString ∷ n.LabelText ∷ []

-- none of these, outside of links, images and calls among them, and no definition and no delimiter of a column
pub record ArePlain (ns : Nodes) : Type 0 where
  pub tails : (name : Name) → is_listed tail_names name ≡ true → own name ns ≡ None
  pub definitions : named n.Definition ns ≡ []
  pub columns : named n.GfmTableDelimiterCellValue ns ≡ []
