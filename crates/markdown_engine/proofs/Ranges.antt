-- What reading a range keeps, as a function: for a machine that holds a tokenizer.
use Rattle.std.proofs.Common.{◌≡◌, ℕ, zero, suc, ◌≤◌, Bool, true, false, if◌then◌else◌, List, length, refl, arith}
use Rattle.markdown_engine.proofs.Prelude.{HoldsAt, is_before, IsCut, LawfulAt, MovesOn, place_in, Point, RanksAt, Reaches, reaches_on, remaining, Source, stays, Steps}
use Rattle.markdown_engine.specs.Turns.{Halt, halt_at, halted, range_start, Stops, walked}
use Rattle.markdown_engine.specs.VirtualText.{virtual_byte}
use Rattle.markdown_engine.proofs.Falls.{step_less, step_reaches}
use Rattle.markdown_engine.proofs.Halts.{halted_stops, stops_moves}
use Rattle.markdown_engine.proofs.Starts.{start_less, start_reaches}
use Rattle.markdown_engine.proofs.Total.{feeds_to}

-- a place that leads on, and leaves no more
abbrev pub LeadsTo : ℕ → Point → Point → Type 0
LeadsTo size p q = (remaining size q ≤ remaining size p) × Reaches p q

walked_on : (bytes : List ℕ) (to : ℕ × ℕ) → IsCut bytes to → (n : ℕ) (p : Point) → LeadsTo (length bytes) p (walked n bytes to p)
unfolding walked
walked_on bytes to cut zero p = (omega arith, stays p)
walked_on bytes to cut (suc n) p = pick (is_before to p) refl (walked_on bytes to cut n (virtual_byte bytes p).next)
  where
    pick : (t : Bool) → is_before to p ≡ t → (let q = (virtual_byte bytes p).next in LeadsTo (length bytes) q (walked n bytes to q))
        → LeadsTo (length bytes) p (if t then walked n bytes to (virtual_byte bytes p).next else p)
    pick true e on =
        let q = (virtual_byte bytes p).next in
        let low = step_less bytes to p cut.within cut.column e in
        let left = on.0 in
        (omega (arith, low, left), reaches_on p q (walked n bytes to q) (step_reaches p bytes) on.1)
    pick false e on = (omega arith, stays p)

-- where a range begins
pub start_on : (s : Source) (from : ℕ × ℕ) (p : Point) → IsCut s.bytes from → LeadsTo (length s.bytes) p (range_start s from p)
start_on s from p cut = pick (is_before from (place_in s.skips p)) refl
  where
    pick : (t : Bool) → is_before from (place_in s.skips p) ≡ t → LeadsTo (length s.bytes) p (range_start s from p)
    pick true e =
        let place = place_in s.skips p in
        let size = length s.bytes in
        let first = start_less size s.skips p in
        let on = walked_on s.bytes from cut (remaining size place) place in
        let left = on.0 in
        rw e (omega (arith, first, left), reaches_on p place (walked (remaining size place) s.bytes from place) (start_reaches s.skips p) on.1)
    pick false e = rw e (omega arith, stays p)

module _ {M : Type 0} (valid : HoldsAt M) (step : Steps M) (rank : RanksAt M) (s : Source) (lawful : LawfulAt (length s.bytes) valid step rank) where
  -- what holds, where a further range may begin
  abbrev pub HoldsOn : Halt M → Type 0
  HoldsOn h = valid h.config h.attempts h.state × MovesOn h.state

  -- a range, or the last one up to the text's end, keeps it
  pub halted_on : (to : ℕ × ℕ) (end : Bool) (h : Halt M) → IsCut s.bytes to → valid h.config h.attempts h.state
      → let g = halted step s to end rank h in HoldsOn g × Stops step s to end g
  halted_on to end h cut v =
      let g = halted step s to end rank h in
      let on = halted_stops (length s.bytes) valid step rank lawful s to end (feeds_to s to cut.within cut.column) h v in
      ((on.0, stops_moves step s to end g on.1), on.1)

  -- also from a later place on
  pub range_on : (from to : ℕ × ℕ) (h : Halt M) → IsCut s.bytes from → IsCut s.bytes to → HoldsOn h
      → let g = halted step s to false rank (halt_at (range_start s from h.config.point) h) in HoldsOn g × Stops step s to false g
  range_on from to h begins cut k =
      let on = start_on s from h.config.point begins in
      halted_on to false (halt_at (range_start s from h.config.point) h) cut
      (lawful.keeps.moved h.config h.attempts h.state (range_start s from h.config.point) k.1 on.0 on.1 k.0)
