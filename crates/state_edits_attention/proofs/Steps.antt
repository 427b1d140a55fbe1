-- Edits run by run, and what is found event by event.
use Rattle.std.proofs.Common.{◌≡◌, ℕ, ◌+◌, Bool, List, slice_get, refl, ap, add-one}
use Rattle.definition_inline.specs.Attention.{Run}
use Rattle.engine_events.specs.declared.event.Event.{Event}
use Rattle.engine_edits.specs.Edits.{EditAt}
use Rattle.markdown_engine.specs.Context.{Context}
use Rattle.state_edits_attention.specs.Attention.{empty_search, run_edit, run_edits, search_to, with_index}

pub runs_start : (events : List Event) (entries : List ℕ) (runs : List Run) (edits : List EditAt) → run_edits events entries runs 0 edits ≡ edits
unfolding run_edits
runs_start events entries runs edits = refl

pub runs_more : (events : List Event) (entries : List ℕ) (runs : List Run) (k : ℕ) (edits : List EditAt)
    → run_edits events entries runs (k + 1) edits ≡ run_edit events entries runs k (run_edits events entries runs k edits)
unfolding run_edits
runs_more events entries runs k edits = ap (λ (n : ℕ). run_edits events entries runs n edits) (add-one k)

module _ {T : Type 0} (is_punctuation : ℕ → Bool) (x : Context T) (events : List Event) where
  pub sought_start : search_to is_punctuation x events 0 ≡ empty_search
  unfolding search_to
  sought_start = refl

  pub sought_more : (i : ℕ) → search_to is_punctuation x events (i + 1) ≡ with_index is_punctuation x events i (slice_get events i)
      (search_to is_punctuation x events i)
  unfolding search_to
  sought_more i = ap (search_to is_punctuation x events) (add-one i)
