use Rattle.std.proofs.Common.{string_bytes}
use Rattle.html_sanitizer.specs.Page.{level_of}
use Rattle.html_sanitizer.proofs.Levels.{level_left}
use Rattle.html_sanitizer.proofs.page.Page.leave.Goals as goal

pub returns-in-Some : goal.returns-in-Some
returns-in-Some g c =
    level_left (string_bytes c.args.self.now.out) (level_of c.args.self.now.level) c.args.self.now.around.items c.pop.new.self.items c.in-Some.level
    c.in-Some.ensures.items
