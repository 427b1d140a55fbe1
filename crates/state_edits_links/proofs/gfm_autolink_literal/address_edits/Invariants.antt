use Rattle.std.proofs.Common.{◌≡◌}
use Rattle.engine_edits.specs.Edits.{edits_of}
use Rattle.state_edits_links.specs.GfmAutolinkLiteral.{address_edits, links_before}
use Rattle.state_edits_links.proofs.gfm_autolink_literal.address_edits.Given as goal

-- links and edits are those up to the index
abbrev pub invariant-loop-index : goal.invariant-loop-index
invariant-loop-index g l = record {
  links : l.links ≡ links_before l.events l.index;
  edits : edits_of l.edits ≡ address_edits l.bytes l.events l.index;
}
