-- What a call for headings leaves in an array and a buffer, status by status.
use Rattle.std.proofs.Common.{◌≡◌, ◌≤◌, ◌<◌, ◌++◌, ℕ, List, length, map, drop, refl, string_bytes, arith}
use Rattle.std.specs.Prelude.{IfOk, Result, Ok, Err}
use Rattle.markdown_options.specs.declared.configuration.ParseOptions.{ParseOptions}
use Rattle.markdown_outline.specs.declared.heading.Heading.{Heading}
use Rattle.markdown_outline.specs.declared.heading.Outline.{Outline}
use Rattle.markdown_buffers.specs.declared.flat_heading.FlatHeading.{FlatHeading}
use Rattle.markdown_buffers.specs.Events.{OfEvents}
use Rattle.markdown_buffers.specs.FlatHeadings.{flat_heading}
use Rattle.markdown_buffers.specs.Outline.{HoldsHeadings, IsOutlineOf, OfHeadings, StoresOutline}
use Rattle.markdown_buffers.specs.Pages.{HoldsPage}
use Rattle.markdown_buffers.proofs.Listed.{of_meant}

-- what follows from a fact of the value, if there is one
pub from_ok : {T E : Type 0} (r : Result T E) (P Q : T → Type 0) → ((t : T) → P t → Q t) → IfOk r P → IfOk r Q
from_ok (Ok t) P Q f p = f t p
from_ok (Err e) P Q f p = tt

-- nothing is stored
pub no_outline : (Meant : ParseOptions → Type 0) (text : List ℕ) (old new : List FlatHeading) (count : ℕ) (before after : List ℕ) (size status : ℕ)
    → 1 < status → new ≡ old → after ≡ before → count ≡ 0 → size ≡ 0 → StoresOutline Meant text old new count before after size status
no_outline Meant text old new count before after size status more same kept none nothing = record {
  ok = λ e. absurd (omega (arith, more, e));
  unchanged = λ _. (same, kept);
  stored = λ e. absurd (omega (arith, more, e));
  room = λ e. absurd (omega (arith, more, e));
  none = λ _. (none, nothing);
}

of_headings : {A : Type 0} (options : ParseOptions) (text : List ℕ) (found : Outline A) (P : List Heading → List ℕ → Type 0)
    → IsOutlineOf options text found → P found.headings.items (string_bytes found.texts) → OfEvents (λ it. it ≡ options) text (OfHeadings text P)
of_headings options text found P are p = record {
  options = options;
  meant = refl;
  events = are.events;
  are = are.are;
  holds = record { headings = found.headings.items; texts = string_bytes found.texts; listed = are.listed; holds = p };
}

module _ {A : Type 0} (options : ParseOptions) (text : List ℕ) (found : Outline A) (old new : List FlatHeading) (count : ℕ) (before after : List ℕ)
    (size status : ℕ) (are : IsOutlineOf options text found) (has : count ≡ length found.headings.items) (long : size ≡ length (string_bytes found.texts)) where
  stored : OfEvents (λ it. it ≡ options) text (OfHeadings text (λ headings texts. (count ≡ length headings) × (size ≡ length texts)))
  stored = of_headings options text found (λ headings texts. (count ≡ length headings) × (size ≡ length texts)) are (has, long)

  -- the headings have no room
  pub headings_without_room : status ≡ 1 → new ≡ old → after ≡ before → length old < count
      → StoresOutline (λ it. it ≡ options) text old new count before after size status
  headings_without_room one same kept more = record {
    ok = λ e. absurd (omega (arith, one, e));
    unchanged = λ _. (same, kept);
    stored = λ _. stored;
    room = λ _. ((λ e. absurd (omega (arith, one, e))), (λ fits. absurd (omega (arith, more, fits.0))));
    none = λ e. absurd (omega (arith, one, e));
  }

  -- their texts and slugs have no room
  pub texts_without_room : status ≤ 1 → ¬ (status ≡ 0) → new ≡ old → after ≡ before → (size ≤ length before → status ≡ 0)
      → StoresOutline (λ it. it ≡ options) text old new count before after size status
  texts_without_room one other same kept room = record {
    ok = λ e. absurd (other e);
    unchanged = λ _. (same, kept);
    stored = λ _. stored;
    room = λ _. ((λ e. absurd (other e)), (λ fits. absurd (other (room fits.1))));
    none = λ e. absurd (omega (arith, one, e));
  }

  -- the headings are in the array, and their texts and slugs in the buffer
  pub headings_in_array : status ≡ 0 → new ≡ map flat_heading found.headings.items ++ drop (length found.headings.items) old → count ≤ length old
      → HoldsPage (string_bytes found.texts) before after → size ≤ length before
      → StoresOutline (λ it. it ≡ options) text old new count before after size status
  headings_in_array ok holds fits written short = record {
    ok = λ _. of_headings options text found
        (λ headings texts. (count ≡ length headings) × HoldsHeadings headings old new × (size ≡ length texts) × HoldsPage texts before after) are
        (has, holds, long, written);
    unchanged = λ h. absurd (h ok);
    stored = λ _. stored;
    room = λ _. ((λ _. (fits, short)), (λ _. ok));
    none = λ e. absurd (omega (arith, ok, e));
  }

-- the options are what was meant
pub outline_meant : (Meant : ParseOptions → Type 0) (options : ParseOptions) (text : List ℕ) (old new : List FlatHeading) (count : ℕ) (before after : List ℕ)
    (size status : ℕ) → Meant options → StoresOutline (λ it. it ≡ options) text old new count before after size status
    → StoresOutline Meant text old new count before after size status
outline_meant Meant options text old new count before after size status meant h = record {
  ok = λ e. of_meant Meant options text _ meant (h.ok e);
  unchanged = h.unchanged;
  stored = λ e. of_meant Meant options text _ meant (h.stored e);
  room = h.room;
  none = h.none;
}

-- array and buffer, for each status that a text leads to, but for 0
pub ruleset stored_outline = (no_outline, headings_without_room, texts_without_room)
