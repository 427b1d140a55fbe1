use Rattle.std.proofs.Common.{◌∙◌, sym, ap}
use Rattle.compile_blocks.proofs.Prelude.{events_of}
use Rattle.compile_raw.proofs.Children.{no_child_before}
use Rattle.compile_blocks.proofs.gfm_table.before_child.Goals as goal

pub returns-in-None : goal.returns-in-None
returns-in-None c = λ kids k e. e ∙ ap events_of (sym (no_child_before c.args.name kids (c.in-None.ensures.nodes kids k e)))

pub returns-in-Some : goal.returns-in-Some
returns-in-Some c = λ kids k e. c.up_to.ensures ∙ (c.in-Some.ensures.nodes kids k e).before
