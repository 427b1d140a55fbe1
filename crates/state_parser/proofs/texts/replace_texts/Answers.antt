use Rattle.std.proofs.Common.{length}
use Rattle.state_parser.specs.TextLaws.{texts_begin}
use Rattle.state_parser.proofs.texts.replace_texts.Goals as goal

pub subtokenize-requires-clause-begins : goal.subtokenize-requires-clause-begins
subtokenize-requires-clause-begins g c = texts_begin (length c.args.parse_state.now.bytes.now) c.args.machine c.args.events.now.items
