use Rattle.std.proofs.Common.{length}
use Rattle.state_parser.specs.TextLaws.{strings_begin}
use Rattle.state_parser.proofs.texts.replace_strings.Goals as goal

pub subtokenize-requires-clause-begins : goal.subtokenize-requires-clause-begins
subtokenize-requires-clause-begins g c = strings_begin (length c.args.parse_state.now.bytes.now) c.args.machine c.args.events.now.items
