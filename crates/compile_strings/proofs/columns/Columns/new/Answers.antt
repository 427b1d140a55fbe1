use Rattle.std.proofs.Common.{arith}
use Rattle.compile_strings.proofs.ColumnsLaw.{start_phase}
use Rattle.compile_strings.proofs.columns.Columns.new.Goals as goal

pub returns-clause-counted : goal.returns-clause-counted
returns-clause-counted c = λ bytes. record { within = omega arith; phase = start_phase bytes }
