use Rattle.std.proofs.Common.{◌∙◌, sym}
use Rattle.compile_strings.proofs.ValidTexts.{valid_text, no_text}
use Rattle.compile_raw.proofs.piece.text_of.Goals as goal

pub returns-in-Ok : goal.returns-in-Ok
returns-in-Ok c = c.in-Ok.ensures.cases.0 ∙ sym (valid_text c.args.bytes.now c.in-Ok.ensures.cases.1)

pub returns-in-Err : goal.returns-in-Err
returns-in-Err c = sym (no_text c.args.bytes.now c.in-Err.ensures.cases.0)
