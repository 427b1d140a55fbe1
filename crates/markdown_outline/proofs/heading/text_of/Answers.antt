use Rattle.std.proofs.Common.{◌∙◌, [], sym}
use Rattle.compile_written.proofs.FormedTexts.{no_valid, text_valid}
use Rattle.compile_written.specs.declared.string.Form.TheVariants.{Plain}
use Rattle.markdown_outline.proofs.heading.text_of.Goals as goal

pub returns-in-Ok : goal.returns-in-Ok
returns-in-Ok c = c.in-Ok.ensures.cases.0 ∙ sym (text_valid c.args.bytes.now c.in-Ok.ensures.cases.1)

pub returns-in-Err : goal.returns-in-Err
returns-in-Err c = no_valid Plain [] c.args.bytes.now c.in-Err.ensures.cases.0
