use Rattle.std.proofs.lemmas.Simd.{pick_l_whole}
use Rattle.text_search.specs.Sets.{ends}
use Rattle.inline_text.proofs.LetterRuns.{ends_long}
use Rattle.inline_text.proofs.letters.ends.Goals as goal

pub returns : goal.returns
returns c = pick_l_whole 0 (ends c.args.bytes.now) 16 (ends_long c.args.bytes.now c.requires)
