-- Whether what is written outside of containers ends with the ending of a blank line where the blocks do (CommonMark 4.9).
use Rattle.std.specs.Prelude.{◌≡◌, ◌⊎◌, false, [], None}
use Rattle.definition_block.specs.Tree.{Blocks}
use Rattle.definition_page.specs.Read.{ends_blank}
use Rattle.event_grammar.specs.Trees.{Nodes}
use Rattle.parse_laid.specs.Places.{LineRest, Place, Between, Within, AtEnding}
use Rattle.parse_open.specs.Fronts.{ends_in_blank}

-- something of a line is left, if it has no ending
abbrev pub HasMore : LineRest → Type 0
HasMore here = here.rest ≡ [] → here.beside.ending ≡ None → ⊥

-- Between lines both end with it, or neither does, and at the ending of a line neither does. In a line white space may be written already after the ending of
-- a blank line.
abbrev pub AreEndsAlike : Place → Blocks → Nodes → Type 0
AreEndsAlike (Between left) bs ns = ends_in_blank ns ≡ ends_blank false bs
AreEndsAlike (Within here left) bs ns = (ends_in_blank ns ≡ false) ⊎ (HasMore here × (ends_in_blank ns ≡ ends_blank false bs))
AreEndsAlike (AtEnding ending left) bs ns = (ends_in_blank ns ≡ false) × (ends_blank false bs ≡ false)
