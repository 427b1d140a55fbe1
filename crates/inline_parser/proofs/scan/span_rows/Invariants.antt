use Rattle.std.proofs.Common.{length}
use Rattle.inline_parser.specs.Scanned.{IsScanning}
use Rattle.inline_parser.proofs.scan.span_rows.Given as goal

abbrev pub invariant-loop-source : goal.invariant-loop-source
invariant-loop-source g l = IsScanning l.options (g.T.Tables.reference_of l.tables)
    (g.T.Tables.punctuation_of l.tables) l.labels l.footnotes l.content l.start l.scanner

abbrev pub decreases-loop-source : goal.decreases-loop-source
decreases-loop-source g l = length l.scanner.rest.now
