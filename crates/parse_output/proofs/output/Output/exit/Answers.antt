use Rattle.std.proofs.Common.{sym, subst, ap, ◌∙◌}
use Rattle.parse_output.specs.declared.draft.Draft.TheVariants as draft
use Rattle.parse_output.proofs.Prelude.{AreInOrder, first_end, forest}
use Rattle.parse_output.proofs.Forests.{exited_forest, order_more}
use Rattle.parse_output.proofs.output.Output.exit.Goals as goal

pub returns-clause-written : goal.returns-clause-written
returns-clause-written g c =
    let self = c.args.self.now in
    λ text order. record {
      order = (
        order.0,
        subst (AreInOrder text first_end) (sym c.in_ok-push.ensures.items)
            (order_more text self.drafts.items (draft.Exit c.args.name) order.1 tt),
      );
      forest = ap (forest text) c.in_ok-push.ensures.items ∙ exited_forest text self.drafts.items c.args.name self.end self.ends;
    }
