use Rattle.std.proofs.Common.{◌≡◌, take}
use Rattle.compile_html.proofs.Prelude.{min, number_of}
use Rattle.compile_written.proofs.Numbers.{greatest}
use Rattle.compile_html.proofs.list.number_of.Given as goal

abbrev pub invariant-loop-digit : goal.invariant-loop-digit
invariant-loop-digit l = l.number ≡ min (number_of (take l.digit-index l.digits)) greatest
