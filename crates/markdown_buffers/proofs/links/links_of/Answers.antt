use Rattle.std.proofs.Common.{◌≡◌, ℕ, List, string_bytes, subst}
use Rattle.engine_events.specs.declared.event.Event.{Event}
use Rattle.markdown_tables.specs.Builtin.{builtin_tables}
use Rattle.markdown_links.specs.Listed.{HasLinks, destinations_of, links_of}
use Rattle.markdown_buffers.proofs.ListedLinks.{from_both}
use Rattle.markdown_buffers.proofs.links.links_of.Goals as goal

pub returns : goal.returns
returns g c =
    let events = c.in_ok-events.events.items in
    let names = builtin_tables.names in
    from_both c.links.result _ _ _ (λ found listed whole. record {
      events = events;
      are = c.in_ok-events.ensures;
      listed =
          subst (λ (it : List ℕ). HasLinks (string_bytes found.destinations) found.links.items (links_of names it events)) c.as_bytes.ensures.value
          (subst (λ (it : List Event). HasLinks (string_bytes found.destinations) found.links.items (links_of names c.as_bytes.result.now it))
          c.deref.ensures.value listed);
      whole =
          subst (λ (it : List ℕ). string_bytes found.destinations ≡ destinations_of names it events) c.as_bytes.ensures.value
          (subst (λ (it : List Event). string_bytes found.destinations ≡ destinations_of names c.as_bytes.result.now it) c.deref.ensures.value whole);
    }) c.links.ensures.listed c.links.ensures.whole
