use Rattle.std.proofs.Common.{◌≡◌, true, false, sym, subst, ap, ◌∙◌, ◌++◌, ◌∷◌, [], rules}
use Rattle.parse_output.proofs.Prelude.{AreInOrder, first_end, forest, same_end}
use Rattle.parse_output.proofs.Forests.{same_forest, void_forest, void_order}
use Rattle.parse_output.proofs.output.Output.push.Goals as goal

pub returns-then-eq-clause-written : goal.returns-then-eq-clause-written
returns-then-eq-clause-written g c =
    let self = c.args.self.now in
    let same : same_end c.args.end self.end ≡ true = search rules in
    λ text order token. record { order = order; forest = same_forest text self.drafts.items c.args.name self.end c.args.end same }

pub returns-clause-written : goal.returns-clause-written
returns-clause-written g c =
    let self = c.args.self.now in
    let other : same_end c.args.end self.end ≡ false = search rules in
    let items = c.in_ok-push.ensures.items ∙ ap (λ d. self.drafts.items ++ d ∷ []) c.draft_to.ensures.same in
    λ text order token. record {
      order = (
        order.0,
        subst (AreInOrder text first_end) (sym items)
            (void_order text self.drafts.items c.args.name self.end c.args.end self.ends other order.1 token),
      );
      forest = ap (forest text) items ∙ void_forest text self.drafts.items c.args.name self.end c.args.end self.ends other;
    }
