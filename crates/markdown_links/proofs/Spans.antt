-- Events, read from the last to the first.
use Rattle.std.proofs.Common.{◌≡◌, ◌<◌, ◌+◌, ℕ, List, drop, length, get_or, sym, ap, ◌∙◌}
use Rattle.std.proofs.lemmas.List.{drop_more}
use Rattle.engine_events.specs.declared.event.Event.{Event}
use Rattle.markdown_links.specs.Span.{Scanned, scan_from, scan_next}

-- an event before those that were read
pub scan_more : (events : List Event) (end i : ℕ) (d : Event) (old new : Scanned) → end ≡ i + 1 → i < length events
    → old ≡ scan_from end (drop end events) → new ≡ scan_next (get_or events i d) i old → new ≡ scan_from i (drop i events)
scan_more events end i d old new next before is read =
    read
    ∙ ap (scan_next (get_or events i d) i) (is ∙ ap (λ (k : ℕ). scan_from k (drop k events)) next)
    ∙ sym (ap (scan_from i) (drop_more events i d before))
