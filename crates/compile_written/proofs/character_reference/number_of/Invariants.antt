use Rattle.std.proofs.Common.{◌≡◌, min, take}
use Rattle.compile_written.proofs.Prelude.{number_of}
use Rattle.compile_written.proofs.Numbers.{greatest}
use Rattle.compile_written.proofs.character_reference.number_of.Given as goal

-- the number that the digits so far spell
abbrev pub invariant-loop-digit : goal.invariant-loop-digit
invariant-loop-digit l = l.number ≡ min (number_of l.radix (take l.digit-index l.digits)) greatest
