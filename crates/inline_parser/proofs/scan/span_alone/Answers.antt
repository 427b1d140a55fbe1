use Rattle.std.proofs.Common.{◌≡◌, ◌==◌, false, sym, subst, arith}
use Rattle.std.specs.List.{list_any}
use Rattle.inline_parser.proofs.Prelude.{encode, front_bare, front_same}
use Rattle.inline_parser.proofs.PlainText.{front_row}
use Rattle.inline_parser.proofs.scan.span_alone.Goals as goal

pub text_row-requires-clause-same : goal.text_row-requires-clause-same
text_row-requires-clause-same c verbatim =
    subst (λ bytes. encode bytes ≡ bytes) (sym c.text_before-text.ensures)
    (front_same c.args.options.now.constructs.gfm_autolink_literal c.args.start.now c.args.front.size (c.requires.verbatim verbatim))

pub text_row-requires-clause-bare : goal.text_row-requires-clause-bare
text_row-requires-clause-bare c verbatim on =
    subst (λ bytes. list_any (λ b. b == 64) bytes ≡ false) (sym c.text_before-text.ensures)
    (front_bare c.args.options.now.constructs.gfm_autolink_literal c.args.start.now c.args.front.size (c.requires.verbatim verbatim) on)

pub returns-then-is_blank_from-clause-rows : goal.returns-then-is_blank_from-clause-rows
returns-then-is_blank_from-clause-rows c = λ names p ds leads at content place.
    front_row c.args.options.now names p ds content c.args.start.now c.args.front c.requires (omega (arith, c.if-front-eq0.false))
    (sym c.if-is_blank_from.ensures.blank) c.is_blank_from.ensures.bytes leads at c.text_row.result c.text_before-text.result.now
    c.text_before-text.ensures (c.text_row.ensures.rows at) place
