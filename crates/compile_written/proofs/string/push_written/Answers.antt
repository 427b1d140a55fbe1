use Rattle.std.proofs.Common.{◌++◌, ◌∙◌, ap, ℕ, List, string_bytes}
use Rattle.compile_written.proofs.Prelude.{written}
use Rattle.compile_written.proofs.StringLaw.{string_law}
use Rattle.compile_written.proofs.string.push_written.Goals as goal

pub returns-clause-spelled : goal.returns-clause-spelled
returns-clause-spelled g c = λ ns within texts.
    c.in_ok-push_parts.ensures
    ∙ ap (λ (z : List ℕ). string_bytes c.args.out.now ++ written z)
    (string_law (g.T.Tables.reference_of c.args.tables.now) c.args.bytes.now ns c.args.events.now within texts)
