use Rattle.std.proofs.Common.{ℕ, ◌+◌, drop, sym, ◌∙◌, ap}
use Rattle.engine_events.specs.Columns.{column_past}
use Rattle.engine_events.proofs.Columns.{step, fits, whole}
use Rattle.engine_events.proofs.place.column_past.Goals as goal

pub column_after-column-requires : goal.column_after-column-requires
column_after-column-requires c = fits c.loop-byte.byte-index c.loop-byte.column
    (column_past c.args.bytes.now c.args.column) c.args.bytes.now c.loop-byte-test.true c.loop-byte.invariant c.requires

pub loop-byte-preserved : goal.loop-byte-preserved
loop-byte-preserved c =
    ap (λ (z : ℕ). column_past (drop (c.loop-byte.byte-index + 1) c.args.bytes.now) z) c.column_after-column.ensures
    ∙ (sym (step c.loop-byte.byte-index c.loop-byte.column c.args.bytes.now c.loop-byte-test.true) ∙ c.loop-byte.invariant)

pub returns : goal.returns
returns c = whole c.loop-byte.byte-index c.loop-byte.column (column_past c.args.bytes.now c.args.column) c.args.bytes.now c.loop-byte-test.false
    c.loop-byte.invariant
