use Rattle.std.proofs.Common.{◌∙◌}
use Rattle.parse_raw.proofs.Prelude.{on_ok_weaker}
use Rattle.parse_raw.proofs.code_fenced.push_whole_code.Goals as goal

pub returns-clause-written : goal.returns-clause-written
returns-clause-written g c =
    on_ok_weaker c.push_fenced_code.result
    (λ written. λ r first info ls read.
    written r first info ls (record { constructs = read.constructs; same_names = read.same_names; lines = c.line_count.ensures ∙ read.lines }))
    c.push_fenced_code.ensures.written
