-- What a call for links leaves in an array and a buffer, status by status.
use Rattle.std.proofs.Common.{◌≡◌, ◌≤◌, ◌<◌, ◌++◌, ℕ, List, length, map, drop, refl, string_bytes, arith}
use Rattle.std.specs.Prelude.{IfOk, Result, Ok, Err}
use Rattle.markdown_options.specs.declared.configuration.ParseOptions.{ParseOptions}
use Rattle.markdown_links.specs.declared.link.Link.{Link}
use Rattle.markdown_links.specs.declared.link.Links.{Links}
use Rattle.markdown_buffers.specs.declared.flat_link.FlatLink.{FlatLink}
use Rattle.markdown_buffers.specs.Events.{OfEvents}
use Rattle.markdown_buffers.specs.FlatLinks.{flat_link}
use Rattle.markdown_buffers.specs.Links.{AreLinksOf, HoldsLinks, OfLinks, StoresLinks}
use Rattle.markdown_buffers.specs.Pages.{HoldsPage}
use Rattle.markdown_buffers.proofs.Listed.{of_meant}

-- what follows from two facts of the value, if there is one
pub from_both : {T E : Type 0} (r : Result T E) (P Q R : T → Type 0) → ((t : T) → P t → Q t → R t) → IfOk r P → IfOk r Q → IfOk r R
from_both (Ok t) P Q R f p q = f t p q
from_both (Err e) P Q R f p q = tt

-- nothing is stored
pub no_links : (Meant : ParseOptions → Type 0) (text : List ℕ) (old new : List FlatLink) (count : ℕ) (before after : List ℕ) (size status : ℕ)
    → 1 < status → new ≡ old → after ≡ before → count ≡ 0 → size ≡ 0 → StoresLinks Meant text old new count before after size status
no_links Meant text old new count before after size status more same kept none nothing = record {
  ok = λ e. absurd (omega (arith, more, e));
  unchanged = λ _. (same, kept);
  stored = λ e. absurd (omega (arith, more, e));
  room = λ e. absurd (omega (arith, more, e));
  none = λ _. (none, nothing);
}

of_links : {A : Type 0} (options : ParseOptions) (text : List ℕ) (found : Links A) (P : List Link → List ℕ → Type 0) → AreLinksOf options text found
    → P found.links.items (string_bytes found.destinations) → OfEvents (λ it. it ≡ options) text (OfLinks text P)
of_links options text found P are p = record {
  options = options;
  meant = refl;
  events = are.events;
  are = are.are;
  holds = record { links = found.links.items; destinations = string_bytes found.destinations; listed = are.listed; whole = are.whole; holds = p };
}

module _ {A : Type 0} (options : ParseOptions) (text : List ℕ) (found : Links A) (old new : List FlatLink) (count : ℕ) (before after : List ℕ) (size status : ℕ)
    (are : AreLinksOf options text found) (has : count ≡ length found.links.items) (long : size ≡ length (string_bytes found.destinations)) where
  stored : OfEvents (λ it. it ≡ options) text (OfLinks text (λ links destinations. (count ≡ length links) × (size ≡ length destinations)))
  stored = of_links options text found (λ links destinations. (count ≡ length links) × (size ≡ length destinations)) are (has, long)

  -- the links have no room
  pub links_without_room : status ≡ 1 → new ≡ old → after ≡ before → length old < count
      → StoresLinks (λ it. it ≡ options) text old new count before after size status
  links_without_room one same kept more = record {
    ok = λ e. absurd (omega (arith, one, e));
    unchanged = λ _. (same, kept);
    stored = λ _. stored;
    room = λ _. ((λ e. absurd (omega (arith, one, e))), (λ fits. absurd (omega (arith, more, fits.0))));
    none = λ e. absurd (omega (arith, one, e));
  }

  -- their destinations have no room
  pub destinations_without_room : status ≤ 1 → ¬ (status ≡ 0) → new ≡ old → after ≡ before → (size ≤ length before → status ≡ 0)
      → StoresLinks (λ it. it ≡ options) text old new count before after size status
  destinations_without_room one other same kept room = record {
    ok = λ e. absurd (other e);
    unchanged = λ _. (same, kept);
    stored = λ _. stored;
    room = λ _. ((λ e. absurd (other e)), (λ fits. absurd (other (room fits.1))));
    none = λ e. absurd (omega (arith, one, e));
  }

  -- the links are in the array, and their destinations in the buffer
  pub links_in_array : status ≡ 0 → new ≡ map flat_link found.links.items ++ drop (length found.links.items) old → count ≤ length old
      → HoldsPage (string_bytes found.destinations) before after → size ≤ length before
      → StoresLinks (λ it. it ≡ options) text old new count before after size status
  links_in_array ok holds fits written short = record {
    ok = λ _. of_links options text found
        (λ links destinations. (count ≡ length links) × HoldsLinks links old new × (size ≡ length destinations) × HoldsPage destinations before after) are
        (has, holds, long, written);
    unchanged = λ h. absurd (h ok);
    stored = λ _. stored;
    room = λ _. ((λ _. (fits, short)), (λ _. ok));
    none = λ e. absurd (omega (arith, ok, e));
  }

-- the options are what was meant
pub links_meant : (Meant : ParseOptions → Type 0) (options : ParseOptions) (text : List ℕ) (old new : List FlatLink) (count : ℕ) (before after : List ℕ)
    (size status : ℕ) → Meant options → StoresLinks (λ it. it ≡ options) text old new count before after size status
    → StoresLinks Meant text old new count before after size status
links_meant Meant options text old new count before after size status meant h = record {
  ok = λ e. of_meant Meant options text _ meant (h.ok e);
  unchanged = h.unchanged;
  stored = λ e. of_meant Meant options text _ meant (h.stored e);
  room = h.room;
  none = h.none;
}

-- array and buffer, for each status that a text leads to, but for 0
pub ruleset stored_links = (no_links, links_without_room, destinations_without_room)
