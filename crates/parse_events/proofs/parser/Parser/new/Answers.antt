use Rattle.std.proofs.Common.{refl}
use Rattle.parse_events.proofs.parser.Parser.new.Goals as goal

pub returns : goal.returns
returns g c =
    record { walk = refl; lists = c.new-open.ensures.items; items = c.new-items.ensures.items; places = c.in_ok-places.ensures.rows; first = refl }
