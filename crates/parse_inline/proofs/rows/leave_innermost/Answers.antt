use Rattle.std.proofs.Common.{◌≡◌, ◌-◌, [], ◌∷◌, take, ap, subst, ◌∙◌}
use Rattle.parse_inline.proofs.Prelude.{append-nil, IsInRows}
use Rattle.inline_rows.specs.InlineRows.{Leave}
use Rattle.parse_inline.proofs.Exits.{none_exits}
use Rattle.parse_inline.proofs.rows.leave_innermost.Goals as goal

pub returns-in-None-clause-written : goal.returns-in-None-clause-written
returns-in-None-clause-written g c =
    let items = c.args.open.now.items in
    let none : items ≡ [] =
    c.in-None.ensures.items ∙ append-nil c.pop.new.self.items ∙ c.in-None.ensures.rest ∙ ap (λ n. take (n - 1) items) c.in-None.ensures.cases.0 in
    record {
      passes = λ s first rows by st.
          absurd (none_exits s first rows c.args.walk.now (subst (λ os. IsInRows s first (Leave ∷ rows) os c.args.walk.now) none st));
    }
