use Rattle.std.proofs.Common.{◌≡◌, ◌+◌, ◌-◌, length, get_or, set, arith, false, refl, rules, sym, subst, ap, ◌∙◌}
use Rattle.parse_output.proofs.Prelude.{AreInOrder, first_end, forest, IsData}
use Rattle.engine_events.specs.declared.event.Name.TheVariants.{Data}
use Rattle.parse_output.specs.Whole.{is_data}
use Rattle.parse_output.proofs.Forests.{longer}
use Rattle.parse_output.proofs.Whole.{after_other}
use Rattle.parse_output.proofs.output.Output.data.Goals as goal

pub returns-clause-written : goal.returns-clause-written
returns-clause-written g c =
    let self = c.args.self.now in
    let ds = self.drafts.items in
    let i = c.len-count.result - 1 in
    let end = c.args.end in
    let d = c.index.result.now in
    let is : i + 1 ≡ length ds = omega (arith, c.len-count.ensures, c.if-count-eq0.false) in
    let of_data : IsData (get_or ds i d) = subst IsData c.index.ensures (c.if-not-is_data.ensures.data refl) in
    λ text order token.
    let long = longer text ds i d self.end end is of_data self.ends order.1 token in
    record {
      order = (order.0, subst (λ e. AreInOrder text first_end (set ds i e)) (sym c.draft_to.ensures.same) long.order);
      forest = ap (λ e. forest text (set ds i e)) c.draft_to.ensures.same ∙ long.forest;
    }

pub push-requires-then-not-is_data-clause-next : goal.push-requires-then-not-is_data-clause-next
push-requires-then-not-is_data-clause-next g c =
    let ds = c.args.self.now.drafts.items in
    let i = c.len-count.result - 1 in
    let other : c.is_data.result ≡ false = search rules in
    after_other ds i c.index.result.now Data (omega (arith, c.len-count.ensures, c.if-count-eq0.false))
    (ap is_data (sym c.index.ensures) ∙ (sym c.is_data.ensures.is ∙ other))
