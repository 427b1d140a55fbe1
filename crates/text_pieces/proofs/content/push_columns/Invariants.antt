use Rattle.std.proofs.Common.{◌≡◌, ◌++◌, string_bytes}
use Rattle.std.specs.Prelude.{replicate}
use Rattle.text_pieces.proofs.content.push_columns.Given as goal

-- a space for each column so far
abbrev pub invariant-loop : goal.invariant-loop
invariant-loop g l = string_bytes l.content ≡ string_bytes l.initial.content ++ replicate l.counter 32
