-- Which label starts and `]` go together (CommonMark 6.3).
use Rattle.std.specs.Prelude.{false, List, []}
use Rattle.definition_text.specs.InlineCode.{InlineCode}
use Rattle.definition_inline.specs.Scan.{InlineContext, text, reading, scan, whole_text}
use Rattle.definition_inline.specs.LabelPairs.{Reads}

-- the scan of a content reads the text that its stretches stand for by the grammar of label starts and `]`, which has no stack
abbrev pub ScanReads : Type 0
ScanReads = (context : InlineContext) (content : List InlineCode) → Reads context content (whole_text (scan context 0 (reading (text [] false) []) content))
