use Rattle.std.proofs.Common.{◌∙◌, ap, sym, length}
use Rattle.std.specs.Prelude.{◌==◌}
use Rattle.html_safe_page.proofs.Passed.{text_letters}
use Rattle.html_safe_page.proofs.letters.is_text.Goals as goal

pub returns : goal.returns
returns c = c.is_empty.ensures ∙ ap (λ x. length x == 0) c.after_letters.ensures ∙ sym (text_letters c.args.bytes.now)
