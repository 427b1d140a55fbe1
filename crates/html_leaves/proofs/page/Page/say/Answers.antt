use Rattle.std.proofs.Common.{string_bytes}
use Rattle.html_leaves.proofs.Prelude.{output_view}
use Rattle.html_leaves.proofs.Laid.{pushed}
use Rattle.html_leaves.proofs.page.Page.say.Goals as goal

pub returns-clause-printed : goal.returns-clause-printed
returns-clause-printed g c =
    pushed c.push_str.result (output_view c.args.self.now.out) (string_bytes c.push_str.new.self)
    (string_bytes c.args.self.now.out.html) c.args.text.now c.push_str.ensures.bytes
