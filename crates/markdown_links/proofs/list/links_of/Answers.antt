use Rattle.std.proofs.Common.{refl}
use Rattle.markdown_links.specs.Listed.{listed_from}
use Rattle.markdown_links.proofs.ListedLinks.{all_links, front_link}
use Rattle.markdown_links.proofs.list.links_of.Goals as goal

pub loop-index-preserved : goal.loop-index-preserved
loop-index-preserved g c = λ out targets ds parts has.
    front_link out c.args.ranges.now targets c.args.bytes.now c.args.events.now ds c.args.spans.now c.loop-index.index _ _ _ _ _ _ _ parts
    c.loop-index-test.true (c.in_ok-definition.ensures ds has) c.unwrap_or.ensures c.range_at-destination.ensures c.link_of.ensures
    c.in_ok-push.ensures.items (c.loop-index.invariant out targets ds parts has)

pub returns : goal.returns
returns g c = λ out targets ds parts has.
    all_links out _ (listed_from c.args.bytes.now c.args.events.now targets ds) c.args.spans.now c.loop-index.index refl c.loop-index-test.false
    (c.loop-index.invariant out targets ds parts has)
