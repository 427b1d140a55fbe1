use Rattle.std.proofs.Common.{refl, inl, inr}
use Rattle.inline_text.proofs.LetterRuns.{run_of}
use Rattle.inline_text.proofs.letters.lanes_before.Goals as goal

pub returns-then-letters-stop : goal.returns-then-letters-stop
returns-then-letters-stop c =
    run_of c.args.stops c.args.here c.args.next c.lanes_before-stop.result c.letters_before-letters.result c.fits-here.0
    c.lanes_before-stop.ensures c.letters_before-letters.ensures c.letters_before-letters.result (inl (c.if-letters-stop.true, refl))

pub returns-else-letters-stop : goal.returns-else-letters-stop
returns-else-letters-stop c =
    run_of c.args.stops c.args.here c.args.next c.lanes_before-stop.result c.letters_before-letters.result c.fits-here.0
    c.lanes_before-stop.ensures c.letters_before-letters.ensures c.lanes_before-stop.result (inr (c.if-letters-stop.false, refl))
