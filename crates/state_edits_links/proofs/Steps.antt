-- Edits, event by event.
use Rattle.std.proofs.Common.{◌≡◌, ℕ, ◌+◌, List, [], slice_get, refl, ap, add-one}
use Rattle.engine_events.specs.declared.event.Event.{Event}
use Rattle.state_edits_links.specs.Autolink.{email_edit, email_edits}
use Rattle.state_edits_links.specs.GfmAutolinkLiteral.{address_edit, address_edits, links_after, links_before}

pub emails_start : (bytes : List ℕ) (events : List Event) → email_edits bytes events 0 ≡ []
unfolding email_edits
emails_start bytes events = refl

pub emails_more : (bytes : List ℕ) (events : List Event) (i : ℕ) → email_edits bytes events (i + 1) ≡ email_edit bytes events i (email_edits bytes events i)
unfolding email_edits
emails_more bytes events i = ap (email_edits bytes events) (add-one i)

pub links_start : (events : List Event) → links_before events 0 ≡ 0
unfolding links_before
links_start events = refl

pub links_more : (events : List Event) (i : ℕ) → links_before events (i + 1) ≡ links_after (slice_get events i) (links_before events i)
unfolding links_before
links_more events i = ap (links_before events) (add-one i)

pub addresses_start : (bytes : List ℕ) (events : List Event) → address_edits bytes events 0 ≡ []
unfolding address_edits
addresses_start bytes events = refl

pub addresses_more : (bytes : List ℕ) (events : List Event) (i : ℕ) → address_edits bytes events (i + 1)
    ≡ address_edit bytes events (links_before events i) i (address_edits bytes events i)
unfolding address_edits
addresses_more bytes events i = ap (address_edits bytes events) (add-one i)

-- both counts, at the start and one event further
pub ruleset address_steps = (addresses_more, addresses_start, links_more, links_start)
