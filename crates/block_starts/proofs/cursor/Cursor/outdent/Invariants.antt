use Rattle.std.proofs.Common.{◌≡◌, drop}
use Rattle.block_starts.specs.View.{rest_of}
use Rattle.block_starts.proofs.cursor.Cursor.outdent.Given as goal

-- so many columns are taken
abbrev pub invariant-loop : goal.invariant-loop
invariant-loop l = rest_of l.rest ≡ drop l.counter (rest_of l.fn.self)
