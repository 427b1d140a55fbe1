use Rattle.std.proofs.Common.{refl}
use Rattle.parse_lines.proofs.ContentLines.{begins_content}
use Rattle.parse_lines.proofs.walk.Walk.begin_content.Goals as goal

pub returns-clause-begun : goal.returns-clause-begun
returns-clause-begun g c =
    let old = c.args.self.now in
    begins_content old (record old { place = 0; line_place = 0; line_start = c.start_of-self.result }) refl refl refl refl c.start_of-self.ensures
