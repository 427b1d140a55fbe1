use Rattle.std.proofs.Common.{◌≡◌, subst}
use Rattle.inline_parser.proofs.Prelude.{content_codes, is_white, IsPlace, prefix_len, size_before}
use Rattle.inline_parser.proofs.Whole.{first_view}
use Rattle.inline_parser.proofs.scan.content_start.Goals as goal

pub returns-clause-place : goal.returns-clause-place
returns-clause-place c = subst (λ t. IsPlace t.now c.after_white.result.now) c.text.ensures c.after_white.ensures.place

pub returns-clause-view : goal.returns-clause-view
returns-clause-view c p =
    first_view p c.args.content c.after_white.result.now
    (subst (λ t. size_before t.now c.after_white.result.now ≡ prefix_len is_white (content_codes t.now)) c.text.ensures c.after_white.ensures.size)
