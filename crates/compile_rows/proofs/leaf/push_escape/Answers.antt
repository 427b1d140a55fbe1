use Rattle.std.proofs.Common.{ℕ, List, ap, map}
use Rattle.compile_rows.proofs.Prelude.{Escape, Part, rows_view, value_of}
use Rattle.compile_rows.proofs.Pushed.{along}
use Rattle.engine_events.specs.declared.event.Name.TheVariants as n
use Rattle.compile_rows.proofs.leaf.push_escape.Goals as goal

pub returns : goal.returns
returns g c at =
    along c.push_part.result (rows_view at c.push_part.new.rows.items) (rows_view at c.args.rows.now.items) _
    (map Part (map Escape (value_of c.args.bytes.now n.CharacterEscapeValue c.args.events.now)))
    (ap (λ (z : List ℕ). map Part (map Escape z)) c.value_of-value.ensures) (c.push_part.ensures at)
