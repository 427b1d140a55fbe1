-- Containers on a line of which nothing is left (CommonMark 5.1 and 5.2).
use Rattle.std.specs.Prelude.{◌≡◌, Bool, true, false, List, [], ◌++◌}
use Rattle.std.specs.List.{list_any}
use Rattle.markdown_options.specs.declared.configuration.Constructs.{Constructs}
use Rattle.definition_block.specs.Container.{Container, Quote, Item, Footnote}
use Rattle.parse_laid.specs.Places.{LineRest, InAll, prefixed}

abbrev pub is_quote : Container → Bool
is_quote Quote = true
is_quote (Item item) = false
is_quote (Footnote label) = false

-- Where some containers leave nothing of a line, those inside them go on and leave nothing, if no quote is among these.
abbrev pub NothingStaysNothing : Type 0
NothingStaysNothing =
    (on : Constructs) (inner around : List Container) (line here : LineRest) → list_any is_quote inner ≡ false
    → prefixed on around line ≡ InAll here → here.rest ≡ [] → (left : LineRest) × (prefixed on (inner ++ around) line ≡ InAll left) × (left.rest ≡ [])
