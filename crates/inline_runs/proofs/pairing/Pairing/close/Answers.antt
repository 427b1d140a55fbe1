use Rattle.std.proofs.Common.{◌≡◌, ℕ, List, ◌-◌, ◌≤◌, ◌<◌, sym, ap, ◌∙◌, arith, true, subst, slice_index_or}
use Rattle.inline_runs.proofs.Prelude.{is_eligible, openers_view, placed_view, PlacedOf, taken_by, takes_left, takes_some, up_to_nearest}
use Rattle.inline_runs.proofs.NearestOpener.{nearest_eligible}
use Rattle.definition_inline.proofs.PairBytes.{takes_opener}
use Rattle.inline_runs.specs.View.{bytes_by}
use Rattle.inline_runs.proofs.pairing.Pairing.close.Goals as goal

-- the nearest opener may pair with the run
nearest_may : (openers : List PlacedOf) (opener closer : PlacedOf) (count : ℕ) → count ≡ up_to_nearest openers closer → 0 < count
    → opener ≡ slice_index_or openers (count - 1) closer
    → is_eligible opener closer ≡ true
nearest_may openers opener closer count is some there =
    ap (λ (o : PlacedOf). is_eligible o closer) (there ∙ ap (λ n. slice_index_or openers (n - 1) closer) is)
    ∙ nearest_eligible openers closer (subst (λ n. 0 < n) is some)

pub add_pair-requires-clause-opener : goal.add_pair-requires-clause-opener
add_pair-requires-clause-opener g c =
    subst (λ n. c.take-opener.result.place < n) (sym c.requires.sound.runs) (c.take-opener.ensures.place c.args.closer.place c.requires.sound.openers)

pub without-requires : goal.without-requires
without-requires g c =
    let opener = placed_view c.take-opener.result in
    let closer = placed_view c.args.closer in
    let may = nearest_may (openers_view c.args.self.now.openers) opener closer c.args.count c.requires.nearest c.requires.some
    (c.take-opener.ensures.opener closer) in
    subst (λ n. n ≤ c.take-opener.result.run.size) (sym c.is_double-double.ensures) (takes_opener opener closer may)

pub open-requires : goal.open-requires
open-requires g c = c.take-opener.ensures.known c.args.closer.place c.requires.sound.openers

pub without-requires-2 : goal.without-requires-2
without-requires-2 g c =
    let opener = placed_view c.take-opener.result in
    let closer = placed_view c.args.closer in
    let may = nearest_may (openers_view c.args.self.now.openers) opener closer c.args.count c.requires.nearest c.requires.some
    (c.take-opener.ensures.opener closer) in
    subst (λ n. n ≤ c.args.closer.run.size) (sym c.is_double-double.ensures) (takes_left opener closer may)

pub returns-clause-sound : goal.returns-clause-sound
returns-clause-sound g c =
    let place = c.args.closer.place in
    let early : c.take-opener.result.place < place = c.take-opener.ensures.place place c.requires.sound.openers in
    let same : c.without.result.place ≡ c.take-opener.result.place = ap (λ (p : PlacedOf). p.place) c.without.ensures in
    record {
      openers = c.in_ok-open.ensures.known place (omega arith) (omega arith);
      threads = c.in_ok-add_pair.ensures.threaded;
      runs = c.in_ok-add_pair.ensures.ends ∙ c.requires.sound.runs;
    }

pub returns-clause-less : goal.returns-clause-less
returns-clause-less g c =
    let opener = placed_view c.take-opener.result in
    let closer = placed_view c.args.closer in
    let may = nearest_may (openers_view c.args.self.now.openers) opener closer c.args.count c.requires.nearest c.requires.some
    (c.take-opener.ensures.opener closer) in
    let some = takes_some opener closer may in
    let within = takes_left opener closer may in
    let bytes : bytes_by c.is_double-double.result ≡ taken_by opener closer = c.is_double-double.ensures in
    let less : c.without-2.result.run.size ≡ c.args.closer.run.size - bytes_by c.is_double-double.result =
    ap (λ (p : PlacedOf). p.run.left) c.without-2.ensures in
    omega arith
