use Rattle.std.proofs.Common.{string_bytes}
use Rattle.event_check.specs.Matches.{MatchesGrammar}
use Rattle.compile_strings.specs.Columns.{AreCounted}
use Rattle.markdown_outline.proofs.ListedHeadings.{HasFront}
use Rattle.markdown_outline.proofs.list.outline.Given as goal

-- the headings before an index are listed
abbrev pub invariant-loop-index : goal.invariant-loop-index
invariant-loop-index g l =
    let names = g.T.Tables.reference_of l.tables in
    AreCounted l.bytes l.reader.columns
    × (MatchesGrammar names l.bytes l.events → HasFront names l.bytes l.events l.reader.slugs (string_bytes l.reader.texts) l.headings.items l.index)
