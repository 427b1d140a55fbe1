-- From the mask of one load to the bytes of a set.
use Rattle.std.proofs.Common.{◌≡◌, ℕ, ◌+◌, ◌*◌, ◌/◌, ◌%◌, ◌^◌, ◌<◌, ◌≤◌, Bool, true, false, not, ◌||◌, eqb, cond, List, [], ◌∷◌, map, length, get_or, replicate}
use Rattle.std.proofs.Common.{bit_and, bit_or, w8, Fits, refl, sym, ap, ◌∙◌, arith}
use Rattle.std.proofs.lemmas.List.{get_or-map, length-map, ext_get_or}
use Rattle.std.proofs.lemmas.Nat.{and_mask}
use borrow.Rule.Simd.Lanes.{act2}
use mir.Syntax.{shr, unsigned}
use borrow.Table.Row.{s_int}
use Rattle.std.proofs.lemmas.Simd.{Each1-all, Each1-weaker, Each1-get_or, Each1-zip2, Each2-splat, length-zip2, zip2_splat, zip2_of_maps, map-map, mask_l-mod}
use Rattle.std.proofs.lemmas.Simd.{first_set_mask_l, swz_l, SwzOk, SwzOk-from_below, length-swz_l, get_or-swz_l_below}
use Rattle.std.specs.List.{prefix_len}
use lib.Lanes.{zip2, mask_l, top, Each1}
use Rattle.text_search.specs.declared.set.ByteSet.{ByteSet}
use Rattle.text_search.specs.Sets.{first_set, holds}
use Rattle.text_search.specs.declared.pair.BytePair.{BytePair}
use Rattle.text_search.specs.Pairs.{is_of_pair}
use Rattle.text_search.specs.declared.class.ByteClass.{ByteClass}
use Rattle.text_search.specs.Classes.{is_outside}

-- the lower halves of lanes
abbrev pub halves : List ℕ → List ℕ
halves v = zip2 bit_and v (replicate 16 15)

halves_are : (v : List ℕ) → length v ≡ 16 → halves v ≡ map (λ x. x % 16) v
halves_are v long = zip2_splat bit_and v 16 15 long ∙ (λ i. map (λ x. and_mask x 4 i) v)

pub halves_ok : (v : List ℕ) → length v ≡ 16 → SwzOk w8 16 16 0 (halves v)
halves_ok v long =
    SwzOk-from_below w8 16 1 16 0 (halves v) refl (omega (arith, length-zip2 bit_and v (replicate 16 15) long))
    (Each1-zip2 bit_and (λ j. j < 16) v (replicate 16 15) (Each2-splat (λ a b. bit_and a b < 16) v 16 15
    (Each1-all (λ a. bit_and a 15 < 16) (λ a. omega (arith, and_mask a 4)) v)))

pub looked_up : (t v : List ℕ) → length v ≡ 16 → swz_l w8 16 t 0 (halves v) ≡ map (λ x. get_or t (x % 16) 0) v
looked_up t v long =
    let are = halves_are v long in
    let size : length (halves v) ≡ 16 = ap length are ∙ length-map v (λ x. x % 16) ∙ long in
    ext_get_or 0 _ _ (length-swz_l w8 16 t 0 (halves v) ∙ size ∙ sym (length-map v (λ x. get_or t (x % 16) 0) ∙ long)) (λ i h.
    let lt : i < 16 = omega (arith, length-swz_l w8 16 t 0 (halves v), size) in
    let within : i < length v = omega (arith, long) in
    let is : get_or (halves v) i 0 ≡ get_or v i 0 % 16 = ap (λ l. get_or l i 0) are ∙ get_or-map (λ x. x % 16) v i 0 0 within in
    let place : 16 * ((0 + i) / 16) + get_or (halves v) i 0 ≡ get_or v i 0 % 16 = omega (arith, is) in
    get_or-swz_l_below w8 16 t 0 (halves v) i (omega (arith, size)) (omega (arith, is))
    ∙ ap (λ k. get_or t k 0) place ∙ sym (get_or-map (λ x. get_or t (x % 16) 0) v i 0 0 within))

itself : (v : List ℕ) → v ≡ map (λ x. x) v
itself [] = refl
itself (x ∷ xs) = ap (λ r. x ∷ r) (itself xs)

abbrev pub compared : ℕ → ℕ → ℕ
compared a b = cond (eqb a b) 255 0

either : (a b : Bool) → top 7 (bit_or (cond a 255 0) (cond b 255 0)) ≡ a || b
either true true = refl
either true false = refl
either false true = refl
either false false = refl

-- lanes that are compared with what two functions make of them
counted : (n : ℕ) (f g : ℕ → ℕ) (v fs gs : List ℕ) → n ≤ 64 → length v ≡ n → fs ≡ map f v → gs ≡ map g v
    → first_set (mask_l (map (top 7) (zip2 bit_or (zip2 compared v fs) (zip2 compared v gs))) % 2 ^ 64) n
    ≡ prefix_len (λ x. not (eqb x (f x) || eqb x (g x))) v
counted n f g v fs gs few long p q =
    let hit = λ (x : ℕ). eqb x (f x) || eqb x (g x) in
    let first = zip2_of_maps compared (λ x. x) f v (itself v) p in
    let second = zip2_of_maps compared (λ x. x) g v (itself v) q in
    let tops = ap (map (top 7)) (zip2_of_maps bit_or _ _ v first second) ∙ map-map (top 7) _ v ∙ (λ i. map (λ x. either (eqb x (f x)) (eqb x (g x)) i) v) in
    ap (λ m. first_set m n) (ap (λ l. mask_l l % 2 ^ 64) tops ∙ mask_l-mod (map hit v) 64 (omega (arith, length-map v hit, long, few)))
    ∙ first_set_mask_l hit v n long few

-- the mask of the lanes whose bytes a set holds
pub run_is : (set : ByteSet) (r : ℕ) (v fs gs : List ℕ) → length v ≡ 16 → fs ≡ map (λ x. get_or set.first (x % 16) 0) v
    → gs ≡ map (λ x. get_or set.second (x % 16) 0) v
    → r ≡ first_set (mask_l (map (top 7) (zip2 bit_or (zip2 compared v fs) (zip2 compared v gs))) % 2 ^ 64) 16 → r ≡ prefix_len (λ x. not (holds set x)) v
run_is set r v fs gs long p q is = is ∙ counted 16 (λ x. get_or set.first (x % 16) 0) (λ x. get_or set.second (x % 16) 0) v fs gs (omega arith) long p q

-- ---- pairs

-- as many lanes of one byte
filled : (b : ℕ) (v : List ℕ) → replicate (length v) b ≡ map (λ _. b) v
filled b [] = refl
filled b (x ∷ xs) = ap (λ l. b ∷ l) (filled b xs)

-- the mask of the lanes whose bytes are of a pair
pub pair_run_is : (n : ℕ) (pair : BytePair) (r : ℕ) (v : List ℕ) → n ≤ 64 → length v ≡ n
    → r ≡ first_set (mask_l (map (top 7) (zip2 bit_or (zip2 compared v (replicate n pair.first)) (zip2 compared v (replicate n pair.second)))) % 2 ^ 64) n
    → r ≡ prefix_len (λ x. not (is_of_pair pair x)) v
pair_run_is n pair r v few long is =
    let lanes = λ (b : ℕ). ap (λ n. replicate n b) (sym long) ∙ filled b v in
    is ∙ counted n (λ _. pair.first) (λ _. pair.second) v (replicate n pair.first) (replicate n pair.second) few long (lanes pair.first) (lanes pair.second)

-- ---- classes

compared_top : (a : Bool) → top 7 (cond a 255 0) ≡ a
compared_top true = refl
compared_top false = refl

-- the mask of the lanes whose bytes aren't of a class
pub class_run_is : (class : ByteClass) (r : ℕ) (v fs gs : List ℕ) → length v ≡ 16 → fs ≡ map (λ x. get_or class.lower (x % 16) 0) v
    → gs ≡ map (λ x. get_or class.upper (x / 16) 0) v
    → r ≡ first_set (mask_l (map (top 7) (zip2 compared (zip2 bit_and fs gs) (replicate 16 0))) % 2 ^ 64) 16 → r ≡ prefix_len (λ x. not (is_outside class x)) v
class_run_is class r v fs gs long p q is =
    let both = λ (x : ℕ). bit_and (get_or class.lower (x % 16) 0) (get_or class.upper (x / 16) 0) in
    let ands = zip2_of_maps bit_and (λ x. get_or class.lower (x % 16) 0) (λ x. get_or class.upper (x / 16) 0) v p q in
    let zeros = ap (λ w. zip2 compared w (replicate 16 0)) ands
    ∙ zip2_splat compared (map both v) 16 0 (length-map v both ∙ long)
    ∙ map-map (λ x. compared x 0) both v in
    let tops = ap (map (top 7)) zeros ∙ map-map (top 7) _ v ∙ (λ i. map (λ x. compared_top (eqb (both x) 0) i) v) in
    is
    ∙ ap (λ m. first_set m 16) (ap (λ l. mask_l l % 2 ^ 64) tops ∙ mask_l-mod (map (is_outside class) v) 64
    (omega (arith, length-map v (is_outside class), long)))
    ∙ first_set_mask_l (is_outside class) v 16 long (omega arith)

-- the upper halves of lanes
abbrev pub shifted : ℕ → ℕ → ℕ
shifted = act2 (shr unsigned) (s_int w8) (s_int w8) (s_int w8)

abbrev pub upper_halves : List ℕ → List ℕ
upper_halves v = zip2 shifted v (replicate 16 4)

upper_half : (x : ℕ) → shifted x 4 ≡ x / 16
upper_half x = refl

upper_halves_are : (v : List ℕ) → length v ≡ 16 → upper_halves v ≡ map (λ x. x / 16) v
upper_halves_are v long = zip2_splat shifted v 16 4 long ∙ (λ i. map (λ x. upper_half x i) v)

pub upper_halves_ok : (v : List ℕ) → length v ≡ 16 → Each1 (Fits w8) v → SwzOk w8 16 16 0 (upper_halves v)
upper_halves_ok v long fits =
    SwzOk-from_below w8 16 1 16 0 (upper_halves v) refl (omega (arith, length-zip2 shifted v (replicate 16 4) long))
    (Each1-zip2 shifted (λ j. j < 16) v (replicate 16 4) (Each2-splat (λ a b. shifted a b < 16) v 16 4
    (Each1-weaker (Fits w8) (λ a. shifted a 4 < 16) (λ a fit. let lt : a < 256 = fit.fits in omega (arith, upper_half a)) v fits)))

pub looked_up_by_upper : (t v : List ℕ) → length v ≡ 16 → Each1 (Fits w8) v → swz_l w8 16 t 0 (upper_halves v) ≡ map (λ x. get_or t (x / 16) 0) v
looked_up_by_upper t v long fits =
    let are = upper_halves_are v long in
    let size : length (upper_halves v) ≡ 16 = ap length are ∙ length-map v (λ x. x / 16) ∙ long in
    ext_get_or 0 _ _ (length-swz_l w8 16 t 0 (upper_halves v) ∙ size ∙ sym (length-map v (λ x. get_or t (x / 16) 0) ∙ long)) (λ i h.
    let lt : i < 16 = omega (arith, length-swz_l w8 16 t 0 (upper_halves v), size) in
    let within : i < length v = omega (arith, long) in
    let is : get_or (upper_halves v) i 0 ≡ get_or v i 0 / 16 = ap (λ l. get_or l i 0) are ∙ get_or-map (λ x. x / 16) v i 0 0 within in
    let low : get_or v i 0 < 256 = (Each1-get_or (Fits w8) v i 0 within fits).fits in
    let place : 16 * ((0 + i) / 16) + get_or (upper_halves v) i 0 ≡ get_or v i 0 / 16 = omega (arith, is) in
    get_or-swz_l_below w8 16 t 0 (upper_halves v) i (omega (arith, size)) (omega (arith, is, low))
    ∙ ap (λ k. get_or t k 0) place ∙ sym (get_or-map (λ x. get_or t (x / 16) 0) v i 0 0 within))
