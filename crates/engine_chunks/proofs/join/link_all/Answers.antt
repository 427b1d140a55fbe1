use Rattle.std.proofs.Common.{◌≡◌, ◌∙◌, Option, None, Some, refl, sym, ℕ, arith}
use Rattle.engine_chunks.proofs.Joining.{joined_all, joins_on, none_joined, past_joined, stays_joined}
use Rattle.engine_chunks.proofs.join.link_all.Goals as goal
use Rattle.engine_chunks.proofs.join.link_all.Goals.{in-Some+then-previous-events, in-Some+else-previous-events, in_default}

is_none : (b : Option ℕ) → ((p : ℕ) → b ≡ Some p → ⊥) → b ≡ None
is_none None h = refl
is_none (Some p) h = absurd (h p refl)

pub loop-index-init : goal.loop-index-init
loop-index-init c = sym (none_joined 0 c.args.events.now)

pub loop-index-preserved : goal.loop-index-preserved
loop-index-preserved c =
    let old = c.args.events.now in
    let now = c.loop-index.events in
    let i = c.loop-index.index in
    elim c.match-previous_chunk.branch [
      | in-Some+then-previous-events w ↦ rw w.events-is
          (joins_on old now w.join_next.new.events i w.in-Some.previous _ c.loop-index-test.true c.loop-index.invariant
          (sym c.previous_chunk.ensures ∙ w.in-Some.is) w.join_next.ensures)
      | in-Some+else-previous-events w ↦ rw w.events-is (past_joined old now i w.in-Some.previous _ c.loop-index-test.true c.loop-index.invariant
          (sym c.previous_chunk.ensures ∙ w.in-Some.is) (let low = w.if-previous-events.false in omega (arith, low)))
      | in_default w ↦ rw w.events-is (stays_joined old now i _ c.loop-index-test.true c.loop-index.invariant
          (sym c.previous_chunk.ensures ∙ is_none c.previous_chunk.result w.in_default.not-Some))
    ]

pub returns : goal.returns
returns c = joined_all c.args.events.now c.loop-index.events c.loop-index.index (let low = c.loop-index-test.false in omega (arith, low)) c.loop-index.invariant
