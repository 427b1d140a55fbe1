use Rattle.std.proofs.Common.{rules, string_bytes}
use Rattle.markdown_links.proofs.Parts.{targets_more}
use Rattle.markdown_links.proofs.list.push_targets.Goals as goal

pub loop-span-preserved : goal.loop-span-preserved
loop-span-preserved g c =
    targets_more (g.T.Tables.reference_of c.args.tables.now) c.args.bytes.now c.args.events.now c.args.spans.now c.loop-span.span-index _
    (string_bytes c.loop-span.out) (string_bytes c.push_target.new.out) _ _ _ _ (search rules) c.loop-span.invariant c.in_ok-push_target.ensures
    (search rules) (search rules) c.in_ok-push.ensures.items
