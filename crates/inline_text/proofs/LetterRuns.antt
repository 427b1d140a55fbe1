-- The first byte at which a search stops, or the first two letters.
use Rattle.std.proofs.Common.{◌≡◌, ℕ, ◌+◌, ◌-◌, ◌<◌, ◌≤◌, ◌^◌, ◌%◌, Bool, true, false, not, ◌||◌, ◌&&◌, eqb, cond, List, map, length, get_or, replicate}
use Rattle.std.proofs.Common.{◌⊎◌, bit_and, bit_or, refl, sym, ap, ap₂, ◌∙◌, arith, subst, take, drop, inl, inr}
use Rattle.std.specs.Char.{to_ascii_lowercase}
use Rattle.std.specs.List.{prefix_len}
use Rattle.std.proofs.lemmas.Bool.{agree_below_at, and_right, cases_Bool, cases_lt, cond-false, cond-true, not-false, not-true, or_cases, or_from, or_left, or_parts, or_right}
use Rattle.std.proofs.lemmas.List.{get_or-drop, get_or-replicate, get_or-take, get_or_append_left, get_or-append-add, get_or_past, length-drop, length-map}
use Rattle.std.proofs.lemmas.List.{length-append, length-take-le, take_all}
use Rattle.std.proofs.lemmas.List.Sums.{prefix_len-le-length, prefix_len_passes, prefix_len_stops}
use Rattle.std.proofs.lemmas.Simd.{first_set_mask_l, get_or-chunk, get_or-zip2, length-zip2, mask_l-mod}
use lib.Lanes.{zip2, mask_l, top, chunk}
use Rattle.text_search.specs.Sets.{ends, first_set, holds}
use Rattle.inline_text.specs.declared.letters.StopBytes.{StopBytes}
use Rattle.inline_text.specs.Letters.{are_letters, end_before, is_extra_or_letters, is_stop_byte, stops_at, stops_here}
use Rattle.inline_text.specs.Letters.{IsLetterRun, IsStop, IsRun, IsRunFrom}

-- ---- lanes

abbrev pub compared : ℕ → ℕ → ℕ
compared a b = cond (eqb a b) 255 0

-- as many lanes of one byte
abbrev all : ℕ → List ℕ
all b = replicate 16 b

-- the lanes of this letter, in either case
abbrev letter : List ℕ → ℕ → List ℕ
letter v b = zip2 compared (zip2 bit_or v (all 32)) (all b)

abbrev letters : List ℕ → List ℕ → List ℕ
letters here next = zip2 bit_or (zip2 bit_and (letter here 119) (letter next 119)) (zip2 bit_and (letter here 104) (letter next 116))

-- the lanes of one byte, and of letters
abbrev marks : ℕ → List ℕ → List ℕ → List ℕ
marks extra here next = zip2 bit_or (zip2 compared here (all extra)) (letters here next)

either : (a b c d : Bool) → bit_or (bit_and (cond a 255 0) (cond b 255 0)) (bit_and (cond c 255 0) (cond d 255 0)) ≡ cond ((a && b) || (c && d)) 255 0
either true true true true = refl
either true true true false = refl
either true true false true = refl
either true true false false = refl
either true false true true = refl
either true false true false = refl
either true false false true = refl
either true false false false = refl
either false true true true = refl
either false true true false = refl
either false true false true = refl
either false true false false = refl
either false false true true = refl
either false false true false = refl
either false false false true = refl
either false false false false = refl

top_either : (a b : Bool) → top 7 (bit_or (cond a 255 0) (cond b 255 0)) ≡ a || b
top_either true true = refl
top_either true false = refl
top_either false true = refl
top_either false false = refl

-- a letter in either case
is_w : (b : ℕ) → b < 256 → eqb (bit_or b 32) 119 ≡ eqb (to_ascii_lowercase b) 119
is_w b byte = agree_below_at (λ x. eqb (bit_or x 32) 119) (λ x. eqb (to_ascii_lowercase x) 119) 256 b refl byte

is_h : (b : ℕ) → b < 256 → eqb (bit_or b 32) 104 ≡ eqb (to_ascii_lowercase b) 104
is_h b byte = agree_below_at (λ x. eqb (bit_or x 32) 104) (λ x. eqb (to_ascii_lowercase x) 104) 256 b refl byte

is_t : (b : ℕ) → b < 256 → eqb (bit_or b 32) 116 ≡ eqb (to_ascii_lowercase b) 116
is_t b byte = agree_below_at (λ x. eqb (bit_or x 32) 116) (λ x. eqb (to_ascii_lowercase x) 116) 256 b refl byte

zipped : (f : ℕ → ℕ → ℕ) (xs ys : List ℕ) → length xs ≡ 16 → length ys ≡ 16 → length (zip2 f xs ys) ≡ 16
zipped f xs ys a b = omega (arith, length-zip2 f xs ys, a, b)

all_long : (b : ℕ) → length (all b) ≡ 16
all_long b = refl

letter_long : (v : List ℕ) (b : ℕ) → length v ≡ 16 → length (letter v b) ≡ 16
letter_long v b long = zipped compared (zip2 bit_or v (all 32)) (all b) (zipped bit_or v (all 32) long (all_long 32)) (all_long b)

both_long : (v u : List ℕ) → length v ≡ 16 → length u ≡ 16 → length (zip2 bit_and v u) ≡ 16
both_long v u = zipped bit_and v u

at : (f : ℕ → ℕ → ℕ) (xs ys : List ℕ) (k : ℕ) → length xs ≡ 16 → length ys ≡ 16 → k < 16 → get_or (zip2 f xs ys) k 0 ≡ f (get_or xs k 0) (get_or ys k 0)
at f xs ys k a b lt = get_or-zip2 f xs ys k 0 0 0 (omega (arith, a, lt)) (omega (arith, b, lt))

letter_at : (v : List ℕ) (b k : ℕ) → length v ≡ 16 → k < 16 → get_or (letter v b) k 0 ≡ compared (bit_or (get_or v k 0) 32) b
letter_at v b k long lt =
    at compared (zip2 bit_or v (all 32)) (all b) k (zipped bit_or v (all 32) long (all_long 32)) (all_long b) lt
    ∙ ap₂ compared (at bit_or v (all 32) k long (all_long 32) lt ∙ ap (bit_or (get_or v k 0)) (get_or-replicate 16 k 32 0 lt)) (get_or-replicate 16 k b 0 lt)

module _ (extra : ℕ) (here next : List ℕ) (h : length here ≡ 16) (n : length next ≡ 16) (here_byte : (k : ℕ) → k < 16 → get_or here k 0 < 256)
    (next_byte : (k : ℕ) → k < 16 → get_or next k 0 < 256) where
  single_long : length (zip2 compared here (all extra)) ≡ 16
  single_long = zipped compared here (all extra) h (all_long extra)

  letters_long : length (letters here next) ≡ 16
  letters_long =
      zipped bit_or (zip2 bit_and (letter here 119) (letter next 119)) (zip2 bit_and (letter here 104) (letter next 116))
      (both_long (letter here 119) (letter next 119) (letter_long here 119 h) (letter_long next 119 n))
      (both_long (letter here 104) (letter next 116) (letter_long here 104 h) (letter_long next 116 n))

  marks_long : length (marks extra here next) ≡ 16
  marks_long = zipped bit_or (zip2 compared here (all extra)) (letters here next) single_long letters_long

  both_at : (a b k : ℕ) → k < 16 → get_or (zip2 bit_and (letter here a) (letter next b)) k 0
      ≡ bit_and (compared (bit_or (get_or here k 0) 32) a) (compared (bit_or (get_or next k 0) 32) b)
  both_at a b k lt =
      at bit_and (letter here a) (letter next b) k (letter_long here a h) (letter_long next b n) lt
      ∙ ap₂ bit_and (letter_at here a k h lt) (letter_at next b k n lt)

  letters_at : (k : ℕ) → k < 16 → get_or (letters here next) k 0 ≡ cond (are_letters (get_or here k 0) (get_or next k 0)) 255 0
  letters_at k lt =
      let x = get_or here k 0 in
      let y = get_or next k 0 in
      at bit_or (zip2 bit_and (letter here 119) (letter next 119)) (zip2 bit_and (letter here 104) (letter next 116)) k
      (both_long (letter here 119) (letter next 119) (letter_long here 119 h) (letter_long next 119 n))
      (both_long (letter here 104) (letter next 116) (letter_long here 104 h) (letter_long next 116 n)) lt
      ∙ ap₂ bit_or (both_at 119 119 k lt) (both_at 104 116 k lt)
      ∙ either (eqb (bit_or x 32) 119) (eqb (bit_or y 32) 119) (eqb (bit_or x 32) 104) (eqb (bit_or y 32) 116)
      ∙ ap (λ s. cond s 255 0)
      (ap₂ (λ s t. s || t) (ap₂ (λ s t. s && t) (is_w x (here_byte k lt)) (is_w y (next_byte k lt)))
      (ap₂ (λ s t. s && t) (is_h x (here_byte k lt)) (is_t y (next_byte k lt))))

  single_at : (k : ℕ) → k < 16 → get_or (zip2 compared here (all extra)) k 0 ≡ cond (eqb (get_or here k 0) extra) 255 0
  single_at k lt = at compared here (all extra) k h (all_long extra) lt ∙ ap (compared (get_or here k 0)) (get_or-replicate 16 k extra 0 lt)

  mark_at : (k : ℕ) → k < 16 → top 7 (get_or (marks extra here next) k 0) ≡ is_extra_or_letters extra (get_or here k 0) (get_or next k 0)
  mark_at k lt =
      ap (top 7)
      (at bit_or (zip2 compared here (all extra)) (letters here next) k single_long letters_long lt
      ∙ ap₂ bit_or (single_at k lt) (letters_at k lt))
      ∙ top_either (eqb (get_or here k 0) extra) (are_letters (get_or here k 0) (get_or next k 0))

  pub letter_run : (r : ℕ) → r ≡ first_set (mask_l (map (top 7) (marks extra here next)) % 2 ^ 64) 16 → IsLetterRun extra here next r
  letter_run r is =
      let ms = marks extra here next in
      let long = marks_long in
      let counted : r ≡ prefix_len (λ m. not (top 7 m)) ms =
      is ∙ ap (λ m. first_set m 16) (mask_l-mod (map (top 7) ms) 64 (omega (arith, length-map ms (top 7), long)))
      ∙ first_set_mask_l (top 7) ms 16 long (omega arith) in
      let within : r ≤ 16 = omega (arith, counted, prefix_len-le-length (λ m. not (top 7 m)) ms, long) in
      record {
        within = within;
        free = λ k lt. sym (mark_at k (omega (arith, lt, within))) ∙ not-true _ (prefix_len_passes (λ m. not (top 7 m)) ms k 0 (omega (arith, counted, lt)));
        hit = λ lt.
            sym (mark_at r lt) ∙ ap (λ k. top 7 (get_or ms k 0)) counted
            ∙ not-false _ (prefix_len_stops (λ m. not (top 7 m)) ms 0 (omega (arith, counted, long, lt)));
      }

-- the earlier one
pub run_of : (stops : StopBytes) (here next : List ℕ) (stop letters : ℕ) → length here ≡ 16 → stop ≡ prefix_len (λ b. not (holds stops.set b)) here
    → IsLetterRun stops.extra here next letters → (r : ℕ) → ((letters < stop) × (r ≡ letters)) ⊎ ((stop ≤ letters) × (r ≡ stop)) → IsRun stops here next r
run_of stops here next stop letters long counted is r which =
    record {
      within = elim which [ inl h ↦ omega (arith, h.1, is.within) | inr h ↦ omega (arith, h.1, within) ];
      free = λ k lt.
          let b = get_or here k 0 in
          or_from (holds stops.set b) (is_extra_or_letters stops.extra b (get_or next k 0))
          (held k (elim which [ inl h ↦ omega (arith, h.0, h.1, lt) | inr h ↦ omega (arith, h.1, lt) ]))
          (is.free k (elim which [ inl h ↦ omega (arith, h.1, lt) | inr h ↦ omega (arith, h.0, h.1, lt) ]));
      hit = λ lt. elim which [
        | inl h ↦
            subst (λ j. stops_here true stops (get_or here j 0) (get_or next j 0) ≡ true) (sym h.1)
            (or_right (holds stops.set (get_or here letters 0)) _ (is.hit (omega (arith, h.1, lt))))
        | inr h ↦
            subst (λ j. stops_here true stops (get_or here j 0) (get_or next j 0) ≡ true) (sym h.1)
            (or_left (holds stops.set (get_or here stop 0)) _ (at_stop (omega (arith, h.1, lt))))
      ];
    }
  where
    within : stop ≤ 16
    within = omega (arith, counted, prefix_len-le-length (λ b. not (holds stops.set b)) here, long)

    held : (k : ℕ) → k < stop → holds stops.set (get_or here k 0) ≡ false
    held k lt = not-true _ (prefix_len_passes (λ b. not (holds stops.set b)) here k 0 (omega (arith, counted, lt)))

    at_stop : stop < 16 → holds stops.set (get_or here stop 0) ≡ true
    at_stop lt =
        ap (λ k. holds stops.set (get_or here k 0)) counted
        ∙ not-false _ (prefix_len_stops (λ b. not (holds stops.set b)) here 0 (omega (arith, counted, long, lt)))

-- ---- places

-- 16 places from one on
pub run_from : (stops : StopBytes) (bytes : List ℕ) (i r : ℕ) → IsRun stops (chunk i 16 bytes) (chunk (i + 1) 16 bytes) r → IsRunFrom stops bytes i r
run_from stops bytes i r is =
    record {
      within = is.within;
      free = λ k lt. sym (there k (omega (arith, lt, is.within))) ∙ is.free k lt;
      hit = λ lt. sym (there r lt) ∙ is.hit lt;
    }
  where
    there : (k : ℕ) → k < 16 → stops_here true stops (get_or (chunk i 16 bytes) k 0) (get_or (chunk (i + 1) 16 bytes) k 0) ≡ stops_at true stops bytes (i + k)
    there k lt =
        let next : i + 1 + k ≡ i + k + 1 = omega arith in
        ap₂ (stops_here true stops) (get_or-chunk i 16 bytes k 0 lt) (get_or-chunk (i + 1) 16 bytes k 0 lt ∙ ap (λ j. get_or bytes j 0) next)

-- up to its end nothing stops
pub free_to : (stops : StopBytes) (bytes : List ℕ) (at run k : ℕ) → IsRunFrom stops bytes at run → at ≤ k → k < at + run → stops_at true stops bytes k ≡ false
free_to stops bytes at run k is ge lt =
    let place : at + (k - at) ≡ k = omega (arith, ge) in ap (stops_at true stops bytes) (sym place) ∙ is.free (k - at) (omega (arith, ge, lt))

-- a stop in it is the first, where none comes before it
pub stop_after : (stops : StopBytes) (bytes : List ℕ) (at run : ℕ) → at + 16 < length bytes → ((k : ℕ) → k < at → stops_at true stops bytes k ≡ false)
    → IsRunFrom stops bytes at run → run < 16 → IsStop true stops bytes (at + run)
stop_after stops bytes at run inside free is some = record {
  within = omega (arith, inside, some);
  free = λ k lt. elim (cases_lt k at) [ inl before ↦ free k before | inr after ↦ free_to stops bytes at run k is after lt ];
  hit = λ lt. is.hit some;
}

-- nothing so far, so the last byte is left
pub at_end : (stops : StopBytes) (bytes : List ℕ) → ((k : ℕ) → k < length bytes - 1 → stops_at true stops bytes k ≡ false)
    → IsStop true stops bytes (end_before stops bytes)
at_end stops bytes free = elim (cases_Bool (is_stop_byte stops last)) [
  | inl is ↦
      let e : end_before stops bytes ≡ length bytes - 1 = cond-true (is_stop_byte stops last) _ _ is in
      subst (IsStop true stops bytes) (sym e) (record { within = omega arith; free = free; hit = λ lt. stopped is })
  | inr other ↦
      let e : end_before stops bytes ≡ length bytes = cond-false (is_stop_byte stops last) _ _ other in
      subst (IsStop true stops bytes) (sym e)
      (record {
        within = omega arith;
        free = λ k lt. elim (cases_lt k (length bytes - 1)) [
          | inl before ↦ free k before
          | inr after ↦
              let k_is : k ≡ length bytes - 1 = omega (arith, lt, after) in
              ap (stops_at true stops bytes) k_is ∙ passed other
        ];
        hit = λ lt. absurd (omega (arith, lt));
      })
]
  where
    last : ℕ
    last = get_or bytes (length bytes - 1) 0

    behind : ℕ
    behind = get_or bytes (length bytes - 1 + 1) 0

    alone : (b : ℕ) → are_letters b 0 ≡ false
    alone b = or_from (eqb (to_ascii_lowercase b) 119 && false) _ (and_right (eqb (to_ascii_lowercase b) 119) false refl)
        (and_right (eqb (to_ascii_lowercase b) 104) false refl)

    no_letters : are_letters last behind ≡ false
    no_letters = ap (are_letters last) (get_or_past bytes (length bytes - 1 + 1) 0 (omega arith)) ∙ alone last

    stopped : is_stop_byte stops last ≡ true → stops_at true stops bytes (length bytes - 1) ≡ true
    stopped is = elim (or_cases (holds stops.set last) (eqb last stops.extra) is) [
      | inl held ↦ or_left (holds stops.set last) (is_extra_or_letters stops.extra last behind) held
      | inr extra ↦
          or_right (holds stops.set last) (is_extra_or_letters stops.extra last behind) (or_left (eqb last stops.extra) (are_letters last behind) extra)
    ]

    passed : is_stop_byte stops last ≡ false → stops_at true stops bytes (length bytes - 1) ≡ false
    passed other =
        let parts = or_parts (holds stops.set last) (eqb last stops.extra) other in
        or_from (holds stops.set last) (is_extra_or_letters stops.extra last behind) parts.0
        (or_from (eqb last stops.extra) (are_letters last behind) parts.1 no_letters)

-- ---- few bytes

pub ends_long : (xs : List ℕ) → 8 ≤ length xs → length (ends xs) ≡ 16
ends_long xs some =
    omega (
      arith,
      length-append (take 8 xs) (take 8 (drop (length xs - 8) xs)),
      length-take-le 8 xs some,
      length-take-le 8 (drop (length xs - 8) xs) (omega (arith, length-drop (length xs - 8) xs, some)),
    )

ends_first : (xs : List ℕ) (k : ℕ) → 8 ≤ length xs → k < 8 → get_or (ends xs) k 0 ≡ get_or xs k 0
ends_first xs k some lt =
    get_or_append_left (take 8 xs) _ 0 k (omega (arith, length-take-le 8 xs some, lt)) ∙ get_or-take 8 xs k 0 lt

ends_last : (xs : List ℕ) (k : ℕ) → 8 ≤ length xs → k < 8 → get_or (ends xs) (8 + k) 0 ≡ get_or xs (length xs - 8 + k) 0
ends_last xs k some lt =
    ap (λ (n : ℕ). get_or (ends xs) (n + k) 0) (sym (length-take-le 8 xs some))
    ∙ get_or-append-add (take 8 xs) (take 8 (drop (length xs - 8) xs)) k 0
    ∙ get_or-take 8 (drop (length xs - 8) xs) k 0 lt
    ∙ get_or-drop (length xs - 8) xs k 0

-- what the vectors of the first places and of the last say of few bytes
module _ (stops : StopBytes) (bytes first second : List ℕ) (r : ℕ) (some : 8 < length bytes) (few : length bytes ≤ 16)
    (h : first ≡ ends (take (length bytes - 1) bytes)) (n : second ≡ ends (take (length bytes - 1) (drop 1 bytes))) (run : IsRun stops first second r) where
  abbrev here : List ℕ
  here = take (length bytes - 1) bytes

  abbrev next : List ℕ
  next = take (length bytes - 1) (drop 1 bytes)

  is : IsRun stops (ends here) (ends next) r
  is = subst (λ v. IsRun stops (ends here) v r) n (subst (λ v. IsRun stops v second r) h run)

  next_all : next ≡ drop 1 bytes
  next_all = take_all (length bytes - 1) (drop 1 bytes) (omega (arith, length-drop 1 bytes))

  here_long : length here ≡ length bytes - 1
  here_long = length-take-le (length bytes - 1) bytes (omega arith)

  next_long : length next ≡ length bytes - 1
  next_long = ap length next_all ∙ length-drop 1 bytes

  here_at : (k : ℕ) → k < length bytes - 1 → get_or here k 0 ≡ get_or bytes k 0
  here_at k lt = get_or-take (length bytes - 1) bytes k 0 lt

  next_at : (k : ℕ) → get_or next k 0 ≡ get_or bytes (k + 1) 0
  next_at k = let e : 1 + k ≡ k + 1 = omega arith in ap (λ l. get_or l k 0) next_all ∙ get_or-drop 1 bytes k 0 ∙ ap (λ j. get_or bytes j 0) e

  early : (k : ℕ) → k < 8 → stops_here true stops (get_or (ends here) k 0) (get_or (ends next) k 0) ≡ stops_at true stops bytes k
  early k lt =
      ap₂ (stops_here true stops) (ends_first here k (omega (arith, here_long, some)) lt ∙ here_at k (omega (arith, lt, some)))
      (ends_first next k (omega (arith, next_long, some)) lt ∙ next_at k)

  late : (k : ℕ) → k < 8 → stops_here true stops (get_or (ends here) (8 + k) 0) (get_or (ends next) (8 + k) 0) ≡ stops_at true stops bytes (length bytes - 9 + k)
  late k lt =
      let a : length here - 8 + k ≡ length bytes - 9 + k = omega (arith, here_long) in
      let b : length next - 8 + k ≡ length bytes - 9 + k = omega (arith, next_long) in
      ap₂ (stops_here true stops)
      (ends_last here k (omega (arith, here_long, some)) lt ∙ ap (λ j. get_or here j 0) a ∙ here_at (length bytes - 9 + k) (omega (arith, lt, some)))
      (ends_last next k (omega (arith, next_long, some)) lt ∙ ap (λ j. get_or next j 0) b ∙ next_at (length bytes - 9 + k))

  -- the same of a lane that isn't one of the first eight
  late_lane : (j k : ℕ) → 8 ≤ j → j < 16 → k + 17 ≡ length bytes + j
      → stops_here true stops (get_or (ends here) j 0) (get_or (ends next) j 0) ≡ stops_at true stops bytes k
  late_lane j k ge lt e =
      let lane : 8 + (j - 8) ≡ j = omega (arith, ge) in
      let place : length bytes - 9 + (j - 8) ≡ k = omega (arith, e, ge, some) in
      ap (λ (i : ℕ). stops_here true stops (get_or (ends here) i 0) (get_or (ends next) i 0)) (sym lane)
      ∙ late (j - 8) (omega (arith, lt, ge)) ∙ ap (stops_at true stops bytes) place

  free_below : 8 ≤ r → (k : ℕ) → k + 17 < length bytes + r → stops_at true stops bytes k ≡ false
  free_below eight k lt = elim (cases_lt k 8) [
    | inl before ↦ sym (early k before) ∙ is.free k (omega (arith, before, eight))
    | inr after ↦
        let j = k + 17 - length bytes in
        sym (late_lane j k (omega (arith, after, few)) (omega (arith, lt, is.within)) (omega (arith, after, few)))
        ∙ is.free j (omega (arith, lt, after, few))
  ]

  pub few_early : r < 8 → IsStop true stops bytes r
  few_early lt = record {
    within = omega (arith, lt, some);
    free = λ k less. sym (early k (omega (arith, less, lt))) ∙ is.free k less;
    hit = λ inside. sym (early r lt) ∙ is.hit (omega (arith, lt));
  }

  pub few_late : 8 ≤ r → r < 16 → (stop : ℕ) → stop ≡ length bytes - 1 + r - 16 → IsStop true stops bytes stop
  few_late eight lt stop e = record {
    within = omega (arith, e, lt);
    free = λ k less. free_below eight k (omega (arith, less, e, some, eight));
    hit = λ inside. sym (late_lane r stop eight lt (omega (arith, e, some, eight))) ∙ is.hit lt;
  }

  pub few_end : 16 ≤ r → IsStop true stops bytes (end_before stops bytes)
  few_end ge = at_end stops bytes (λ k lt. free_below (omega (arith, ge)) k (omega (arith, lt, ge, some)))
