use Rattle.std.proofs.Common.{◌≡◌, ◌∙◌, ◌∷◌, ◌++◌, set, drop, take, sym, ap, arith, get_or}
use Rattle.inline_constructs.proofs.Prelude.{last_end, LastRun}
use Rattle.inline_constructs.proofs.RawRuns.{place_of, place_within, end_set, end_inserted}
use Rattle.inline_constructs.proofs.raw_runs.keep.Goals as goal
use Rattle.inline_constructs.proofs.raw_runs.keep.Goals.{else-place-len-via-then-place-len+else-index-run, else-place-len-via-else-place-len}

pub insert-requires : goal.insert-requires
insert-requires g c =
    let rs = c.args.runs.now.items in
    omega (arith, c.smaller-place.ensures, ap (λ s. place_of s c.args.run.size) c.deref.ensures.value, place_within rs c.args.run.size, c.args.runs.now.ok.0)

pub returns-then-index-run : goal.returns-then-index-run
returns-then-index-run g c size =
    let rs = c.args.runs.now.items in
    let r = c.args.run in
    let d = c.index.result.now in
    let place : c.smaller-place.result ≡ place_of rs r.size = c.smaller-place.ensures ∙ ap (λ s. place_of s r.size) c.deref.ensures.value in
    let there : (get_or rs (place_of rs r.size) d).size ≡ r.size =
    ap (λ k. (get_or rs k d).size) (sym place) ∙ ap (λ (x : LastRun). x.size) (sym c.index.ensures) ∙ c.if-index-run.true in
    ap (λ k. last_end (set rs k r) size) place
    ∙ end_set rs r d (omega (arith, place, c.if-place-len.true, c.len.ensures, c.args.runs.now.ok.0)) there size

pub returns-in_ok-insert : goal.returns-in_ok-insert
returns-in_ok-insert g c size =
    let rs = c.args.runs.now.items in
    let r = c.args.run in
    let place : c.smaller-place.result ≡ place_of rs r.size = c.smaller-place.ensures ∙ ap (λ s. place_of s r.size) c.deref.ensures.value in
    let added : c.insert.new.self.items ≡ take c.smaller-place.result rs ++ r ∷ drop c.smaller-place.result rs = c.in_ok-insert.ensures.items in
    let new : last_end c.insert.new.self.items size ≡ last_end (take (place_of rs r.size) rs ++ r ∷ drop (place_of rs r.size) rs) size =
    ap (λ s. last_end s size) added ∙ ap (λ k. last_end (take k rs ++ r ∷ drop k rs) size) place in
    elim c.else-place-len.branch [
      | else-place-len-via-then-place-len+else-index-run w ↦
          let d = w.index.result.now in
          new ∙ end_inserted rs r d (λ lt there. w.if-index-run.false (ap (λ (x : LastRun). x.size) w.index.ensures ∙ ap (λ k. (get_or rs k d).size) place
          ∙ there)) size
      | else-place-len-via-else-place-len w ↦
          new ∙ end_inserted rs r r (λ lt there. omega (arith, place, w.if-place-len.false, c.len.ensures, c.args.runs.now.ok.0)) size
    ]
