use Rattle.parse_leaves.proofs.Prelude.{both_ok}
use Rattle.parse_leaves.proofs.Entered.{text_entered}
use Rattle.parse_leaves.proofs.text.enter_text.Goals as goal

pub returns-clause-written : goal.returns-clause-written
returns-clause-written g c =
    both_ok c.enter.result
    (λ stays enters. λ text here left after others at to_rest order taken.
    text_entered text c.args.walk.now c.begin_content.new.self c.text.new.self c.enter.new.self c.args.name c.white_ahead-white.result here left after others
    c.begin_content.ensures.stays c.begin_content.ensures.begun c.white_ahead-white.ensures c.in_ok-text.ensures.stays (c.in_ok-text.ensures.written text)
    stays (enters text) at to_rest order taken)
    c.enter.ensures.stays c.enter.ensures.written
