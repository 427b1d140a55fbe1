-- What an opener has to know of a closer.
use Rattle.std.proofs.Common.{◌≡◌, ℕ, ◌+◌, ◌-◌, ◌%◌, ◌<◌, ◌≤◌, List, Bool, true, false, cond, not, ◌&&◌, ◌||◌, map, refl, sym, ap, ◌∙◌, length, get_or, arith}
use Rattle.std.proofs.Common.{subst}
use Rattle.inline_runs.proofs.Prelude.{eqb-true, fits, FitsAt, get_or-map, is_eligible, length-map, Opener, opener_view, PlacedOf, run_view, RunOf}
use Rattle.inline_runs.proofs.Prelude.{up_to_nearest, Want, ◌==◌}
use Rattle.std.specs.Prelude.{nat_le}
use Rattle.std.proofs.lemmas.Bool.{and_left, and_right, and_from}
use Rattle.definition_inline.specs.Attention.{is_whole, are_fitting}
use Rattle.definition_inline.specs.Pairing.{is_ruled_out_by_three}
use Rattle.inline_runs.proofs.NearestOpener.{up_to_nearest_is}
use Rattle.inline_runs.specs.Floors.{whole_size, want_of, can_close, is_ruled_out}

rest_of_sum : (a b : ℕ) → (a + b) % 3 ≡ (a + b % 3) % 3
rest_of_sum a b = omega arith

ruled_out : (o c : RunOf) → is_ruled_out_by_three o c ≡ is_ruled_out o (want_of c)
ruled_out o c = ap (λ n. (o.may_close || c.may_open) && (not (c.left % 3 == 0) && (n == 0))) (rest_of_sum o.left c.left)

in_other_order : (a b c d : Bool) → (a && (b && (c && d))) ≡ (c && (a && (b && d)))
in_other_order true true true d = refl
in_other_order true true false d = refl
in_other_order true false true d = refl
in_other_order true false false d = refl
in_other_order false b true d = refl
in_other_order false b false d = refl

under : (a b c : Bool) → (a ≡ true → b ≡ c) → (a && b) ≡ (a && c)
under true b c h = h refl
under false b c h = refl

-- a size is kept of runs of which it matters
fitting_is : (o c : RunOf) → ((o.marker == c.marker) && are_fitting o.marker o.left c.left)
    ≡ ((o.marker == c.marker) && are_fitting o.marker o.left (whole_size c))
fitting_is o c =
    under (o.marker == c.marker) (are_fitting o.marker o.left c.left) (are_fitting o.marker o.left (whole_size c))
    (λ same. subst (λ m. are_fitting m o.left c.left ≡ are_fitting m o.left (whole_size c)) (sym (eqb-true o.marker c.marker same)) (by_case (is_whole c.marker)))
  where
    by_case : (whole : Bool) → (not whole || (o.left == c.left)) ≡ (not whole || (o.left == cond whole c.left 0))
    by_case true = refl
    by_case false = refl

pub eligible_is : (o : Opener) (c : PlacedOf) → is_eligible (opener_view o) c ≡ (can_close c.run && fits (run_view o.placed.run) (want_of c.run))
eligible_is o c =
    let r = run_view o.placed.run in
    let same = (r.marker == c.run.marker) && are_fitting r.marker r.left c.run.left in
    ap (λ b. same && ((r.may_open && nat_le 1 r.left) && ((c.run.may_close && nat_le 1 c.run.left) && not b))) (ruled_out r c.run)
    ∙ ap (λ b. b && ((r.may_open && nat_le 1 r.left) && ((c.run.may_close && nat_le 1 c.run.left) && not (is_ruled_out r (want_of c.run)))))
    (fitting_is r c.run)
    ∙ in_other_order ((r.marker == c.run.marker) && are_fitting r.marker r.left (whole_size c.run)) (r.may_open && nat_le 1 r.left) (can_close c.run)
    (not (is_ruled_out r (want_of c.run)))

any_opener : PlacedOf → Opener
any_opener c = record { placed = record { run = record { marker = 0; size = 0; may_open = false; may_close = false }; place = 0 }; since = 0 }

eligible_at : (openers : List Opener) (c : PlacedOf) (k : ℕ) → k < length openers
    → is_eligible (get_or (map opener_view openers) k c) c ≡ (can_close c.run && fits (run_view (get_or openers k (any_opener c)).placed.run) (want_of c.run))
eligible_at openers c k lt = ap (λ (o : PlacedOf). is_eligible o c) (get_or-map opener_view openers k (any_opener c) c lt)
    ∙ eligible_is (get_or openers k (any_opener c)) c

-- the nearest opener that fits
pub nearest_fits : (openers : List Opener) (c : PlacedOf) (n : ℕ) → n ≤ length openers
    → ((k : ℕ) → n ≤ k → k < length openers → FitsAt openers k (want_of c.run) false)
    → (0 < n → FitsAt openers (n - 1) (want_of c.run) true)
    → can_close c.run ≡ true → n ≡ up_to_nearest (map opener_view openers) c
nearest_fits openers c n le none found can =
    let same = length-map openers opener_view in
    up_to_nearest_is (map opener_view openers) c n (omega arith)
    (λ k h lt. eligible_at openers c k (omega arith)
    ∙ and_right (can_close c.run) (fits (run_view (get_or openers k (any_opener c)).placed.run) (want_of c.run))
    (none k h (omega arith) (any_opener c)))
    (λ some. eligible_at openers c (n - 1) (omega arith) ∙ and_from (can_close c.run)
    (fits (run_view (get_or openers (n - 1) (any_opener c)).placed.run) (want_of c.run)) can (found some (any_opener c)))

-- a run that may close nothing
pub none_for : (openers : List Opener) (c : PlacedOf) → can_close c.run ≡ false → 0 ≡ up_to_nearest (map opener_view openers) c
none_for openers c cannot =
    let same = length-map openers opener_view in
    up_to_nearest_is (map opener_view openers) c 0 (omega arith)
    (λ k h lt. eligible_at openers c k (omega arith) ∙ and_left (can_close c.run)
    (fits (run_view (get_or openers k (any_opener c)).placed.run) (want_of c.run)) cannot)
    (λ h. absurd (omega arith))

-- the same, of a slice of the openers
pub searched : (openers slice : List Opener) (c : PlacedOf) (w : Want) (n : ℕ) → slice ≡ openers → w ≡ want_of c.run → n ≤ length slice
    → ((k : ℕ) → n ≤ k → k < length slice → FitsAt slice k w false)
    → (0 < n → FitsAt slice (n - 1) w true)
    → can_close c.run ≡ true → n ≡ up_to_nearest (map opener_view openers) c
searched openers slice c w n same is le none found can =
    subst (λ os. n ≡ up_to_nearest (map opener_view os) c) same
    (nearest_fits slice c n le
    (λ k h lt d. ap (fits (run_view (get_or slice k d).placed.run)) (sym is) ∙ none k h lt d)
    (λ some d. ap (fits (run_view (get_or slice (n - 1) d).placed.run)) (sym is) ∙ found some d) can)
