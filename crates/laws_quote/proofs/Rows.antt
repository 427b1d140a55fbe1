-- What is squeezed, and which pages are no quotes, by computation.
use Rattle.std.proofs.Common.{refl}
use Rattle.laws_quote.specs.PageLaws.{SqueezeRows}
use Rattle.laws_quote.specs.Refused.{RefusedRows}

pub squeeze_rows : SqueezeRows
squeeze_rows = (refl, refl, refl, refl, refl, refl)

pub refused_rows : RefusedRows
refused_rows = (refl, refl, refl, refl)
