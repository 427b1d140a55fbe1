-- Columns only rise.
use Rattle.std.proofs.Common.{◌≡◌, ◌≤◌, ◌<◌, ◌+◌, ◌^◌, ◌∙◌, ℕ, Bool, true, false, List, [], ◌∷◌, length, drop, get_or, arith, sym, ap, add-one, drop-cons}
use Rattle.std.proofs.Common.{if◌then◌else◌, ◌==◌}
use Rattle.std.proofs.lemmas.List.{drop_all}
use Rattle.engine_events.specs.Columns.{column_after, column_past, tab_size}

rises_by : (t : Bool) (m n c : ℕ) → c ≤ m → c ≤ n → c ≤ (if t then m else n)
rises_by true m n c h k = h
rises_by false m n c h k = k

-- a byte's column is at or before the next one
pub rises : (b c : ℕ) → c ≤ column_after b c
rises b c = rises_by (b == 9) (c + tab_size c) (c + 1) c (omega arith) (omega arith)

pub rises_past : (bs : List ℕ) (c : ℕ) → c ≤ column_past bs c
rises_past [] c = omega arith
rises_past (b ∷ bs) c = let h = rises b c in let k = rises_past bs (column_after b c) in omega arith

-- one byte more
pub step : (i c : ℕ) (bs : List ℕ) → i < length bs → column_past (drop i bs) c ≡ column_past (drop (i + 1) bs) (column_after (get_or bs i 0) c)
step i c bs h = rw add-one (ap (λ (z : List ℕ). column_past z c) (drop-cons bs i 0 h))

pub fits : (i c m : ℕ) (bs : List ℕ) → i < length bs → column_past (drop i bs) c ≡ m → m < 2 ^ 64 → column_after (get_or bs i 0) c < 2 ^ 64
fits i c m bs h k l = let s = step i c bs h in let r = rises_past (drop (i + 1) bs) (column_after (get_or bs i 0) c) in omega arith

pub whole : (i c m : ℕ) (bs : List ℕ) → length bs ≤ i → column_past (drop i bs) c ≡ m → c ≡ m
whole i c m bs h e = sym (ap (λ (z : List ℕ). column_past z c) (drop_all i bs h)) ∙ e
