-- Which label starts and `]` go together.
use Rattle.definition_inline.proofs.LabelPairs.{scan_reads}
use Rattle.laws_inline.specs.LabelPairs.{ScanReads}

pub scan_reads_by_pairs : ScanReads
scan_reads_by_pairs context content = scan_reads context content
