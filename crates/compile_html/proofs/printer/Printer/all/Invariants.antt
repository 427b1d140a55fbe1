use Rattle.std.proofs.Common.{◌≡◌, ◌≤◌, List, length}
use Rattle.definition_inline.specs.Definition.{Definition}
use Rattle.compile_html.proofs.Prelude.{GoesOn, KeepsEnding, LayoutState, Meaning}
use Rattle.compile_blocks.specs.Meant.{IsMeant}
use Rattle.compile_rows.specs.Columns.{AreCounted}
use Rattle.compile_html.proofs.printer.Printer.all.Given as goal

-- what is left to print is what is left of the page
abbrev pub invariant-loop-rest : goal.invariant-loop-rest
invariant-loop-rest g l = record {
  same_default : KeepsEnding l.initial.self.leaves.page l.self.leaves.page;
  counted : AreCounted l.source.checked.bytes.now l.self.leaves.columns;
  shorter : length l.rest ≤ length l.events;
  printed : (m : Meaning) (ds : List Definition) (whole : LayoutState) →
      let names = g.T.Tables.reference_of l.source.tables.now in
      IsMeant names l.source ds m → l.events ≡ l.source.checked.events.now →
      GoesOn names l.source.checked.bytes.now m l.events whole l.initial.self l.events →
      GoesOn names l.source.checked.bytes.now m l.events whole l.self l.rest;
}

abbrev pub decreases-loop-rest : goal.decreases-loop-rest
decreases-loop-rest g l = length l.rest
