-- Which pages have no other ending, by computation.
use Rattle.std.proofs.Common.{refl}
use Rattle.laws_endings.specs.Refused.{RefusedRows}

pub refused_rows : RefusedRows
refused_rows = (refl, refl, refl)
