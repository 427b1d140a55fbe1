use Rattle.std.proofs.Common.{Fits, w8, arith}
use Rattle.std.proofs.lemmas.Simd.{Each1-get_or}
use Rattle.inline_text.proofs.LetterRuns.{letter_run}
use Rattle.inline_text.proofs.letters.letters_before.Goals as goal

pub returns : goal.returns
returns c =
    letter_run c.args.extra c.args.here c.args.next c.fits-here.0 c.fits-next.0
    (λ k lt. (Each1-get_or (Fits w8) c.args.here k 0 (omega (arith, c.fits-here.0, lt)) c.fits-here.1).fits)
    (λ k lt. (Each1-get_or (Fits w8) c.args.next k 0 (omega (arith, c.fits-next.0, lt)) c.fits-next.1).fits)
    c.first_lane.result c.first_lane.ensures
