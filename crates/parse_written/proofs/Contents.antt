-- Inline structure is written in its content.
use Rattle.std.proofs.Common.{[]}
use Rattle.parse_written.proofs.Prelude.{AreWritten, cond_both, spans_from, with_literals}
use Rattle.definition_inline.specs.Scan.{without_indent}
use Rattle.parse_written.specs.Laws.{WrittenLaw, WrittenFromLaw}
use Rattle.parse_written.proofs.GfmAutolinkLiteral.{literals_read}
use Rattle.parse_written.proofs.LinkedLiterals.{literals_written}
use Rattle.parse_written.proofs.Scanned.{scan_written}

pub written_from_law : WrittenFromLaw
written_from_law context content =
    let spans = spans_from context content in
    let p = scan_written context (literals_read context) content in
    cond_both context.options.constructs.gfm_autolink_literal (with_literals [] spans) spans (λ is. AreWritten context is content [])
    (λ is_on. literals_written context is_on spans content [] p) (λ _. p)

pub written_law : WrittenLaw
written_law context content = written_from_law context (without_indent content)
