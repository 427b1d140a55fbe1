use Rattle.std.proofs.Common.{◌∙◌, ℕ, slice_get, sym, ap}
use Rattle.engine_edits.specs.Edits.{edits_of}
use Rattle.state_edits_links.specs.GfmAutolinkLiteral.{address_edit, links_after, links_before}
use Rattle.state_edits_links.proofs.Steps.{addresses_more, links_more}
use Rattle.state_edits_links.proofs.gfm_autolink_literal.address_edits.Goals as goal

pub loop-index-preserved : goal.loop-index-preserved
loop-index-preserved g c =
    let events = c.args.events.now in
    let bytes = c.args.bytes.now in
    let i = c.loop-index.index in
    let before = c.loop-index.invariant in
    record {
      links = c.links_past-links.ensures ∙ ap (links_after (slice_get events i)) before.links ∙ sym (links_more events i);
      edits = c.in_ok-add_addresses.ensures.edits
          ∙ ap (λ (n : ℕ). address_edit bytes events n i (edits_of c.loop-index.edits)) before.links
          ∙ ap (address_edit bytes events (links_before events i) i) before.edits
          ∙ sym (addresses_more bytes events i);
    }
