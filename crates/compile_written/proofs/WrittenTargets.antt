-- The codes of written destinations and titles are their bytes.
use Rattle.std.proofs.Common.{◌≡◌, ℕ, List, [], ◌++◌, sym, ap, ◌∙◌}
use Rattle.compile_written.proofs.Prelude.{content_codes, destination_written, Event, flat_map-append, Names, parts_after, title_written, written}
use Rattle.compile_written.proofs.Prelude.{written_byte}
use Rattle.compile_written.specs.Definition.{literal_events, raw_events, title_events}
use Rattle.event_meaning.proofs.Written.{written_codes}

both_codes : (a b : List ℕ) → content_codes (written a ++ written b) ≡ written a ++ written b
both_codes a b =
    let joined : written (a ++ b) ≡ written a ++ written b = flat_map-append written_byte a b in
    ap content_codes (sym joined) ∙ written_codes (a ++ b) ∙ joined

pub destination_codes : (names : Names) (bytes : List ℕ) (events : List Event) (text : List ℕ) → text ≡ [] ++ destination_written names bytes events
    → content_codes text ≡ destination_written names bytes events
destination_codes names bytes events text h =
    ap content_codes h ∙ both_codes (parts_after names bytes 0 (literal_events events)) (parts_after names bytes 0 (raw_events events))

pub title_codes : (names : Names) (bytes : List ℕ) (events : List Event) (text : List ℕ) → text ≡ [] ++ title_written names bytes events
    → content_codes text ≡ title_written names bytes events
title_codes names bytes events text h = ap content_codes h ∙ written_codes (parts_after names bytes 0 (title_events events))
