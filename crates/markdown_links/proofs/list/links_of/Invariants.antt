use Rattle.std.proofs.Common.{ℕ, List}
use Rattle.markdown_links.specs.Definition.{HasDefinitions, Labelled}
use Rattle.markdown_links.specs.Listed.{HasParts, listed_from}
use Rattle.markdown_links.proofs.ListedLinks.{HasFrontLinks}
use Rattle.markdown_links.proofs.list.links_of.Given as goal

abbrev pub invariant-loop-index : goal.invariant-loop-index
invariant-loop-index g l =
    (out : List ℕ) (targets : List (List ℕ)) (ds : List Labelled) → HasParts out l.ranges targets → HasDefinitions l.definitions ds
    → HasFrontLinks out l.links.items (listed_from l.bytes l.events targets ds) l.spans l.index
