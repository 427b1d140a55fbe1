use Rattle.std.proofs.Common.{refl}
use Rattle.markdown_engine.proofs.Prelude.{IfOk-weaker}
use Rattle.std.proofs.lemmas.Result.{on_ok_weaker}
use Rattle.markdown_engine.proofs.Resolves.{completed_as, halts_as}
use Rattle.markdown_engine.proofs.tokenizer.Tokenizer.flush_to.Goals as goal

pub returns-clause-completed : goal.returns-clause-completed
returns-clause-completed g c =
    IfOk-weaker c.complete-result.result _ _ (λ found h. completed_as g.M.Machine.seen _ _ _ _ _ _ c.complete-result.new.self _ _ refl h)
    c.complete-result.ensures.completed

pub returns-clause-halts : goal.returns-clause-halts
returns-clause-halts g c e =
    on_ok_weaker c.complete-result.result (λ h. halts_as g.M.Machine.seen _ _ _ _ _ c.complete-result.new.self _ refl
    (record { parse_state = refl; skips = refl }) h) (c.complete-result.ensures.halts e)
