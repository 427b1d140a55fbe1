use Rattle.std.proofs.Common.{◌≡◌, rules}
use Rattle.markdown_engine.specs.Context.{context}
use Rattle.state_resolvers.specs.Whole.{is_whole}
use Rattle.state_block_resolvers.specs.Content.{ReadsContents}
use Rattle.state_block_resolvers.proofs.Readings.{told}
use Rattle.state_block_resolvers.proofs.content.read_whole.Goals as goal

pub returns-clause-read : goal.returns-clause-read
returns-clause-read g c =
    let x = context c.args.parse_state.now in
    let old = c.args.events.now.items in
    let new = c.read_contents.new.events.items in
    let e : c.in_ok-is_whole.field-0 ≡ is_whole new c.args.to = search rules in
    let reads : ReadsContents x old new = search rules in
    told x old c.args.to new c.in_ok-is_whole.field-0 e reads
