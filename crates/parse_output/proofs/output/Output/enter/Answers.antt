use Rattle.std.proofs.Common.{sym, subst, ap, ◌∙◌}
use Rattle.parse_output.specs.declared.draft.Draft.TheVariants as draft
use Rattle.parse_output.proofs.Prelude.{AreInOrder, first_end, forest}
use Rattle.parse_output.proofs.Forests.{entered_forest, order_more}
use Rattle.parse_output.proofs.output.Output.enter.Goals as goal

pub returns-clause-written : goal.returns-clause-written
returns-clause-written g c =
    let self = c.args.self.now in
    λ text order. record {
      order = (
        order.0,
        subst (AreInOrder text first_end) (sym c.in_ok-push.ensures.items)
            (order_more text self.drafts.items (draft.Enter c.args.name) order.1 c.requires.row),
      );
      forest = ap (forest text) c.in_ok-push.ensures.items ∙ entered_forest text self.drafts.items c.args.name self.end self.ends;
    }
