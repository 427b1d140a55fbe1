use Rattle.std.proofs.Common.{◌≡◌, ◌++◌}
use Rattle.std.specs.Prelude.{string_bytes, replicate}
use Rattle.engine_text.proofs.slice.push_spaces.Given as goal

-- a space for each turn
abbrev pub invariant-loop : goal.invariant-loop
invariant-loop g l = string_bytes l.text ≡ string_bytes l.fn.text ++ replicate l.counter 32
