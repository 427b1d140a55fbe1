use Rattle.std.proofs.Common.{◌≡◌, ◌≤◌, ℕ, ◌-◌, List, length, take, drop, min, max, sym, ap, ◌∙◌}
use Rattle.event_grammar.proofs.Prelude.{fold, mark_size, phase_at, phase_on}
use Rattle.event_grammar.proofs.Phases.{phase_more}
use Rattle.event_grammar.proofs.phase.phase_after.Goals as goal

-- the phase that was found is that of the index
next_phase : (bs : List ℕ) (from to p mark most start next : ℕ) → from ≤ to → to ≤ length bs → p ≡ phase_at bs from
    → mark ≡ mark_size bs → most ≡ max from mark → start ≡ min most to
    → next ≡ fold phase_on p (take (to - start) (drop start bs)) → next ≡ phase_at bs to
next_phase bs from to p mark most start next r l h m x s e =
    let start_is : start ≡ min (max from (mark_size bs)) to = s ∙ ap (λ (z : ℕ). min z to) (x ∙ ap (λ (z : ℕ). max from z) m) in
    e ∙ ap (λ (z : ℕ). fold phase_on z (take (to - start) (drop start bs))) h
    ∙ ap (λ (z : ℕ). fold phase_on (phase_at bs from) (take (to - z) (drop z bs))) start_is
    ∙ sym (phase_more bs from to r l)

pub returns-clause-phase : goal.returns-clause-phase
returns-clause-phase c =
    next_phase c.args.bytes.now c.args.from c.args.to c.args.phase c.mark_size.result c.max.result c.min-start.result c.phase_past.result
    c.requires.order c.requires.within c.requires.phase c.mark_size.ensures c.max.ensures c.min-start.ensures c.phase_past.ensures.phase
