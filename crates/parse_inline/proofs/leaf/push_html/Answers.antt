use Rattle.std.proofs.Common.{inr, refl}
use Rattle.parse_inline.proofs.Prelude.{both_ok}
use Rattle.parse_inline.proofs.RawTexts.{html_front}
use Rattle.parse_inline.proofs.leaf.push_html.Goals as goal

pub returns-clause-written : goal.returns-clause-written
returns-clause-written g c =
    both_ok c.exit.result
    (λ exits stays on names text front content stop is_on closed opened utf8 cut st whole.
    html_front names text on _ _ _ _ front c.args.bytes.now content stop is_on closed opened st whole c.in_ok-enter.ensures.stays
    (c.in_ok-enter.ensures.written text)
    (c.in_ok-push_lines.ensures.written names text content stop (inr refl) utf8 cut) stays (exits text))
    c.exit.ensures.written c.exit.ensures.stays
