use Rattle.std.proofs.Common.{ap}
use Rattle.parse_events.proofs.Prelude.{blocks, blocks_printable, document_definitions, document_targets, IfOk-weaker, printable_rows_of, rows_of, RowsValue}
use Rattle.laws_endings.proofs.NoFootnotes.{no_footnotes}
use Rattle.parse_events.proofs.Targets.{bare_rows, knows_targets}
use Rattle.parse_events.proofs.document.push_blocks.Goals as goal

pub returns-clause-written : goal.returns-clause-written
returns-clause-written g c =
    let on = c.args.options.now.constructs in
    IfOk-weaker c.push_rows.result _ _
    (λ after writes. λ text before rest start bytes same.
    let bs = blocks on before rest in
    let are = ap (λ (v : RowsValue). v.rows) same in
    writes (document_targets bs)
    (knows_targets c.in_ok-definitions.definitions c.in_ok-footnotes.footnotes bs
    (c.in_ok-definitions.ensures (document_definitions bs) (c.in_ok-contents.ensures bs are))
    (c.in_ok-footnotes.ensures bs are (bare_rows (rows_of bs) (printable_rows_of bs (blocks_printable on before rest bytes))) (no_footnotes on before rest)))
    text before rest start bytes same)
    c.push_rows.ensures.written
