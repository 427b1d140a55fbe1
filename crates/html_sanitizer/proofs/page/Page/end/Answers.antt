use Rattle.std.proofs.Common.{arith, string_bytes, sym, ◌∙◌}
use Rattle.definition_html.specs.State.{ended}
use Rattle.html_sanitizer.specs.Page.{page_state}
use Rattle.html_sanitizer.proofs.Ends.{popped, all_popped}
use Rattle.html_sanitizer.proofs.page.Page.end.Goals as goal

pub returns-in_default : goal.returns-in_default
returns-in_default g c =
    all_popped (page_state c.loop-left.self) c.loop-left.left (string_bytes c.loop-left.self.out) c.loop-left.self.level.names.items c.pop.new.self.items
    (ended c.args.count (page_state c.args.self.now)) (sym c.pop.new.self.ok.0 ∙ c.in_default.ensures.cases.1) c.in_default.ensures.items c.loop-left.invariant

pub loop-left-preserved : goal.loop-left-preserved
loop-left-preserved g c =
    popped (page_state c.loop-left.self) c.loop-left.left (string_bytes c.loop-left.self.out) (string_bytes c.push_end_tag.new.out) c.loop-left.self.level.names.items c.pop.new.self.items
    c.in-Some.name (ended c.args.count (page_state c.args.self.now)) (omega arith) c.in-Some.ensures.items c.in_ok-push_end_tag.ensures c.loop-left.invariant
