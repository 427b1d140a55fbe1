use Rattle.std.proofs.Common.{◌≡◌, ◌<◌, ◌++◌, List, sym, ap, ap₂, ◌∙◌, arith, subst}
use Rattle.std.proofs.lemmas.Result.{on_ok_weaker}
use Rattle.inline_runs.proofs.Prelude.{IsSound, nearest, next_run, openers_view, pairing, PairingOf, PairOf, pairs_view, placed_view, PlacedOf, state}
use Rattle.inline_runs.proofs.Prelude.{taken_by, up_to_nearest, with_pair, without}
use Rattle.definition_inline.specs.Pairing.{openers_of}
use Rattle.inline_runs.proofs.ClosingRuns.{next_run_pairs, next_run_opens}
use Rattle.inline_runs.proofs.pairing.Pairing.next_run.Goals as goal

-- one pair of a run
one_pair : (start after : PairingOf) (openers same : List PlacedOf) (ps : List PairOf) (run closer rest : PlacedOf)
    → next_run start run ≡ next_run (pairing openers ps) closer → same ≡ openers → 0 < up_to_nearest openers closer
    → after ≡ with_pair (pairing same ps) (nearest same closer) closer → rest ≡ without (taken_by (nearest same closer) closer) closer
    → next_run start run ≡ next_run after rest
one_pair start after openers same ps run closer rest before is some pairs_one is_rest =
    let found : 0 < up_to_nearest same closer = subst (λ os. 0 < up_to_nearest os closer) (sym is) some in
    before ∙ ap (λ os. next_run (pairing os ps) closer) (sym is) ∙ next_run_pairs (pairing same ps) closer found ∙ ap₂ next_run (sym pairs_one) (sym is_rest)

pub loop-count-preserved : goal.loop-count-preserved
loop-count-preserved g c =
    let s = c.loop-count.self in
    let closer = placed_view c.loop-count.closer in
    let some : 0 < up_to_nearest (openers_view s.openers) closer = subst (λ n. 0 < n) c.in_ok-count.ensures.nearest (omega (arith, c.if-count-eq0.false)) in
    let place = ap (λ (p : PlacedOf). p.place) c.in_ok-closer.ensures.closer in
    record {
      same =
          one_pair (state c.args.self.now) (state c.close.new.self) (openers_view s.openers) (openers_view c.up_to_nearest.new.self)
          (pairs_view s.pairs.pairs.items) (placed_view c.args.run) closer
          (placed_view c.in_ok-closer.closer) c.loop-count.invariant.same c.in_ok-count.ensures.openers some c.in_ok-closer.ensures.state
          c.in_ok-closer.ensures.closer;
      sound = subst (λ n. IsSound c.close.new.self n) c.loop-count.invariant.place c.in_ok-closer.ensures.sound;
      place = place ∙ c.loop-count.invariant.place;
    }

-- a run that closes nothing more
no_pair : (start : PairingOf) (openers same more : List PlacedOf) (ps others : List PairOf) (run closer : PlacedOf)
    → next_run start run ≡ next_run (pairing openers ps) closer → same ≡ openers
    → 0 ≡ up_to_nearest openers closer → others ≡ ps → more ≡ same ++ openers_of closer → pairing more others ≡ next_run start run
no_pair start openers same more ps others run closer before is none are is_more =
    ap₂ pairing (is_more ∙ ap (λ os. os ++ openers_of closer) is) are ∙ sym (before ∙ next_run_opens (pairing openers ps) closer (sym none))

pub returns-then-count-eq0-clause-state : goal.returns-then-count-eq0-clause-state
returns-then-count-eq0-clause-state g c =
    let s = c.loop-count.self in
    on_ok_weaker c.open.result
    (no_pair (state c.args.self.now) (openers_view s.openers) (openers_view c.up_to_nearest.new.self) (openers_view c.open.new.self)
    (pairs_view s.pairs.pairs.items) (pairs_view c.finish.new.self.pairs.items)
    (placed_view c.args.run) (placed_view c.loop-count.closer) c.loop-count.invariant.same c.in_ok-count.ensures.openers
    (sym c.if-count-eq0.true ∙ c.in_ok-count.ensures.nearest)
    (ap pairs_view c.in_ok-finish.ensures.pairs))
    c.open.ensures.openers
