use Rattle.std.proofs.Common.{[], ap, ◌∙◌}
use Rattle.markdown_options.specs.declared.beside.Kind.TheVariants.{Whitespace}
use Rattle.inline_content.proofs.Prelude.{codes_with_marks}
use Rattle.inline_content.proofs.Utf8Bytes.{utf8_bytes}
use Rattle.inline_content.proofs.WholeLines.{whole_view}
use Rattle.inline_content.proofs.whole.whole_content.Goals as goal

pub returns : goal.returns
returns c = λ p. ap (codes_with_marks p Whitespace []) c.without_ending.ensures
    ∙ whole_view p Whitespace c.args.text.now (utf8_bytes c.args.text.now c.utf8.text)
