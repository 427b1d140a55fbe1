use Rattle.std.proofs.Common.{◌≡◌, length, rules}
use Rattle.markdown_engine.specs.Context.{context}
use Rattle.markdown_engine.specs.Resolving.{found_in}
use Rattle.state_edits_blocks.specs.Content.{CanJoin, joined}
use Rattle.state_block_resolvers.specs.Content.{AreLinesReadable}
use Rattle.state_block_resolvers.proofs.Readings.{may_begin, read_of}
use Rattle.state_block_resolvers.proofs.content.read_contents.Goals as goal

pub subtokenize-requires-clause-begins : goal.subtokenize-requires-clause-begins
subtokenize-requires-clause-begins g c = may_begin (length c.args.parse_state.now.bytes.now) (record {}) c.join_lines.new.events.items

pub returns-clause-read : goal.returns-clause-read
returns-clause-read g c =
    let old = c.args.events.now.items in
    let all = c.join_lines.new.events.items in
    let joins : CanJoin old × (all ≡ joined old) = search rules in
    let readable : AreLinesReadable c.args.parse_state.now.bytes.now all = search rules in
    read_of (context c.args.parse_state.now) old all c.subtokenize.new.events.items (found_in c.in_ok-subtokenize.field-0) joins readable
    c.in_ok-subtokenize.ensures.read c.in_ok-subtokenize.ensures.links
