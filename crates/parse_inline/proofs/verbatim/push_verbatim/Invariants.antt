use Rattle.std.proofs.Common.{◌≡◌, length}
use Rattle.parse_inline.proofs.Prelude.{IsUtf8, still_open}
use Rattle.parse_inline.specs.Rows.{PassesLines}
use Rattle.parse_inline.proofs.verbatim.push_verbatim.Given as goal

abbrev pub invariant-by_line : goal.invariant-by_line
invariant-by_line g l = record {
  opened : still_open l.walk ≡ still_open l.fn.walk;
  utf8 : IsUtf8 l.rest;
  passed : PassesLines l.reading.on.now (g.T.Tables.reference_of l.reading.tables.now) l.reading.content.now l.text l.rest l.fn.walk l.walk;
}

abbrev pub decreases-by_line : goal.decreases-by_line
decreases-by_line g l = length l.rest
