-- Where lines start: the starts rise, and those up to an offset are the first ones.
use Rattle.std.proofs.Common.{◌≡◌, ◌≤◌, ◌<◌, ◌+◌, ◌-◌, ◌∙◌, ℕ, Bool, true, false, if◌then◌else◌, nat_le, List, [], ◌∷◌, length, take, get_or, zero, suc}
use Rattle.std.proofs.Common.{slice_get, slice_index_or, arith, refl, sym, ap}
use Rattle.std.proofs.lemmas.Bool.{le-leb, leb-true}
use Rattle.std.specs.List.{filter}
use Rattle.std.specs.List.Sorted.{IsNonDecreasing, IsPartitionedBy}
use Rattle.engine_text.specs.Lines.{ends_here, line_starts, before_or_at, last_or}

-- every start of these lines is after `at`, and at or before the text's end
pub record Within (at end : ℕ) (xs : List ℕ) : Type 0 where
  pub low : (j : ℕ) (d : ℕ) → j < length xs → at < get_or xs j d
  pub high : (j : ℕ) (d : ℕ) → j < length xs → get_or xs j d ≤ end

within_cons : (at end x : ℕ) (xs : List ℕ) → at < x → x ≤ end → Within x end xs → Within at end (x ∷ xs)
within_cons at end x xs h k w = record { low = low; high = high }
  where
    low : (j d : ℕ) → j < length (x ∷ xs) → at < get_or (x ∷ xs) j d
    low zero d l = h
    low (suc j) d l = let m = w.low j d (omega arith) in omega arith

    high : (j d : ℕ) → j < length (x ∷ xs) → get_or (x ∷ xs) j d ≤ end
    high zero d l = k
    high (suc j) d l = w.high j d (omega arith)

within_later : (at x end : ℕ) (xs : List ℕ) → at ≤ x → Within x end xs → Within at end xs
within_later at x end xs h w = record { low = λ j d l. (let m = w.low j d l in omega arith); high = w.high }

by_test : (P : List ℕ → Type 0) (t : Bool) (xs ys : List ℕ) → P xs → P ys → P (if t then xs else ys)
by_test P true xs ys h k = h
by_test P false xs ys h k = k

pub starts_within : (bs : List ℕ) (at end : ℕ) → at + length bs ≤ end → Within at end (line_starts at bs)
starts_within [] at end h = record { low = λ j d l. absurd (omega arith); high = λ j d l. absurd (omega arith) }
starts_within (b ∷ bs) at end h =
    let w : Within (at + 1) end (line_starts (at + 1) bs) = starts_within bs (at + 1) end (omega arith) in
    by_test (Within at end) (ends_here b (slice_get bs 0)) ((at + 1) ∷ line_starts (at + 1) bs) (line_starts (at + 1) bs)
    (within_cons at end (at + 1) (line_starts (at + 1) bs) (omega arith) (omega arith) w)
    (within_later at (at + 1) end (line_starts (at + 1) bs) (omega arith) w)

rising_cons : (x end : ℕ) (xs : List ℕ) → Within x end xs → IsNonDecreasing xs → IsNonDecreasing (x ∷ xs)
rising_cons x end xs w h zero zero d i l = omega arith
rising_cons x end xs w h zero (suc j) d i l = let m = w.low j d (omega arith) in omega arith
rising_cons x end xs w h (suc i) zero d k l = absurd (omega arith)
rising_cons x end xs w h (suc i) (suc j) d k l = h i j d (omega arith) (omega arith)

pub starts_rise : (bs : List ℕ) (at : ℕ) → IsNonDecreasing (line_starts at bs)
starts_rise [] at = λ i j d h l. absurd (omega arith)
starts_rise (b ∷ bs) at =
    let w = starts_within bs (at + 1) (at + 1 + length bs) (omega arith) in
    by_test IsNonDecreasing (ends_here b (slice_get bs 0)) ((at + 1) ∷ line_starts (at + 1) bs) (line_starts (at + 1) bs)
    (rising_cons (at + 1) (at + 1 + length bs) (line_starts (at + 1) bs) w (starts_rise bs (at + 1)))
    (starts_rise bs (at + 1))

-- elements that pass before those that fail: the first n are those that pass
pub first_pass : (p : ℕ → Bool) (xs : List ℕ) (n : ℕ) → n ≤ length xs → ((k d : ℕ) → k < n → p (get_or xs k d) ≡ true)
    → ((k d : ℕ) → n ≤ k → k < length xs → p (get_or xs k d) ≡ false) → take n xs ≡ filter p xs
first_pass p [] zero l h k = refl
first_pass p [] (suc n) l h k = absurd (omega arith)
first_pass p (x ∷ xs) zero l h k =
    rw (k 0 0 (omega arith) (omega arith)) (first_pass p xs zero (omega arith) (λ j d m. absurd (omega arith))
    (λ j d m o. k (suc j) d (omega arith) (omega arith)))
first_pass p (x ∷ xs) (suc n) l h k =
    rw (h 0 0 (omega arith)) (ap (λ (z : List ℕ). x ∷ z) (first_pass p xs n (omega arith) (λ j d m. h (suc j) d (omega arith))
    (λ j d m o. k (suc j) d (omega arith) (omega arith))))

-- the last of the first elements
pub last_of_first : (xs : List ℕ) (n start d : ℕ) → n < length xs → last_or start (take (suc n) xs) ≡ get_or xs n d
last_of_first [] n start d l = absurd (omega arith)
last_of_first (x ∷ xs) zero start d l = refl
last_of_first (x ∷ xs) (suc n) start d l = last_of_first xs n x d (omega arith)

last_below : (offset start : ℕ) (xs : List ℕ) → start ≤ offset → last_or start (filter (before_or_at offset) xs) ≤ offset
last_below offset start [] h = h
last_below offset start (x ∷ xs) h = pick (nat_le x offset) refl (last_below offset x xs) (last_below offset start xs h)
  where
    pick : (t : Bool) → nat_le x offset ≡ t → (x ≤ offset → last_or x (filter (before_or_at offset) xs) ≤ offset)
        → last_or start (filter (before_or_at offset) xs) ≤ offset
        → last_or start (filter (before_or_at offset) (x ∷ xs)) ≤ offset
    pick true e k m = rw e (k (leb-true x offset e))
    pick false e k m = rw e m

-- the last start up to an offset isn't after it
pub start_below : (offset start : ℕ) (xs firsts : List ℕ) → firsts ≡ filter (before_or_at offset) xs → start ≡ last_or 0 firsts → start ≤ offset
start_below offset start xs firsts e h = let l = last_below offset 0 xs (omega arith) in rw (h ∙ ap (last_or 0) e) l

pub last_start : (xs : List ℕ) (n : ℕ) → 0 < n → n ≤ length xs → slice_index_or xs (n - 1) 0 ≡ last_or 0 (take n xs)
last_start xs zero h l = absurd (omega arith)
last_start xs (suc n) h l = let e : suc n - 1 ≡ n = omega arith in rw e (sym (last_of_first xs n 0 0 (omega arith)))

pub passes_before : (offset : ℕ) (xs : List ℕ) → IsNonDecreasing xs → IsPartitionedBy (before_or_at offset) xs
passes_before offset xs h i j d k l e =
    let m = leb-true (get_or xs j d) offset e in let o = h i j d k l in le-leb (get_or xs i d) offset (omega arith)
