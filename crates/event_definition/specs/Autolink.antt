-- Autolinks in angle brackets (CommonMark 6.5).
use Rattle.std.specs.Prelude.{ℕ, ◌+◌, Bool, if◌then◌else◌, List, [], ◌∷◌, drop, take}
use Rattle.definition_text.specs.Columns.{Code}
use Rattle.engine_events.specs.declared.event.Name.TheVariants as n
use Rattle.event_definition.specs.Pieces.{around, join_all, token}
use Rattle.event_definition.specs.Sized.{Sized, sized}

-- `<`, an email address or a URL of this size, and `>`
abbrev pub autolink_pieces : Bool → ℕ → List Code → Sized
autolink_pieces email size content =
    sized
    (around n.Autolink (join_all (
    token n.AutolinkMarker (take 1 content) ∷ token (if email then n.AutolinkEmail else n.AutolinkProtocol) (take size (drop 1 content))
    ∷ token n.AutolinkMarker (take 1 (drop (size + 1) content)) ∷ []
    )))
    (size + 2)
