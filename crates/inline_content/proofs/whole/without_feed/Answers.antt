use lib.Utf8.{encode}
use Rattle.std.proofs.Common.{sym}
use Rattle.inline_content.proofs.WholeLines.{none_cut, cut_at}
use Rattle.inline_content.proofs.whole.without_feed.Goals as goal

pub returns-in-Some : goal.returns-in-Some
unfolding lib.Utf8.encode
returns-in-Some c =
    let found = c.in-Some.ensures.cases in
    sym (cut_at 10 found.0 c.args.text.now c.in-Some.front.now found.2 found.1.1.split)

pub returns-in-None : goal.returns-in-None
unfolding lib.Utf8.encode
returns-in-None c = sym (none_cut 10 c.args.text.now c.in-None.ensures.cases)
