use Rattle.std.proofs.Common.{◌≡◌, ap, sym, drop, false, ◌∙◌, arith}
use Rattle.parse_inline.proofs.Prelude.{position_or_len, run, run_of}
use Rattle.parse_inline.proofs.Runs.{is_mark, mark_within, others_passed, mark_first}
use Rattle.parse_inline.proofs.code_text.from_byte.Goals as goal

pub from-requires : goal.from-requires
from-requires c =
    let place : c.next_of.result ≡ position_or_len (is_mark c.args.marker) c.args.bytes.now = c.next_of.ensures in
    omega (arith, place, mark_within c.args.marker c.args.bytes.now)

pub returns-clause-same : goal.returns-clause-same
returns-clause-same c size some =
    let m = c.args.marker in
    ap (run_of m size false) (c.from.ensures ∙ ap (λ k. drop k c.args.bytes.now) c.next_of.ensures) ∙ others_passed m size c.args.bytes.now some

pub returns-clause-first : goal.returns-clause-first
returns-clause-first c none =
    let m = c.args.marker in
    let rest = c.from.ensures ∙ ap (λ k. drop k c.args.bytes.now) c.next_of.ensures in
    rest ∙ mark_first m c.args.bytes.now (ap (run m) (sym rest) ∙ none)
