use Rattle.std.proofs.Common.{◌≡◌, take}
use Rattle.compile_written.proofs.Prelude.{map, target_view}
use Rattle.inline_links.specs.View.{link_texts_view}
use Rattle.compile_written.proofs.definition.Definitions.links.Given as goal

-- the links of the targets before
abbrev pub invariant-loop-target : goal.invariant-loop-target
invariant-loop-target g l = map link_texts_view l.links.items ≡ map target_view (take l.target-index l.target-items)
