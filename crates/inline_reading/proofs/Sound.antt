-- Where runs and label starts stand among the rows.
use Rattle.std.proofs.Common.{inl, inr, ◌≡◌, ℕ, ◌+◌, ◌-◌, ◌<◌, ◌≤◌, List, [], ◌∷◌, ◌++◌, sym, ap, ◌∙◌, length, arith, get_or, subst, take, drop}
use Rattle.std.proofs.lemmas.Bool.{cases_lt}
use Rattle.std.proofs.lemmas.List.{length-append, get_or_append_left, get_or-append-add, get_or-take, get_or-drop, length-take-le, length-drop, take-append-le}
use Rattle.std.proofs.lemmas.List.{take-take}
use Rattle.inline_runs.specs.declared.run.Run.{Run}
use Rattle.inline_rows.specs.Container.{AreWithin}
use Rattle.inline_reading.specs.declared.label.OpenLabel.{OpenLabel}
use Rattle.inline_reading.specs.Shows.{AreOutside}

pub within_more : (runs : List Run) (slots : List ℕ) (n m : ℕ) → AreWithin runs slots n → n ≤ m → AreWithin runs slots m
within_more runs slots n m w le = record {
  same = w.same;
  ends = λ i d lt. let e = w.ends i d lt in omega (arith, e, le);
}

-- one more run, after so many rows
pub within_run : (runs : List Run) (slots : List ℕ) (r : Run) (n : ℕ) → AreWithin runs slots n → AreWithin (runs ++ r ∷ []) (slots ++ n ∷ []) (n + r.size)
within_run runs slots r n w = record {
  same = length-append slots (n ∷ []) ∙ ap (λ k. k + 1) w.same ∙ sym (length-append runs (r ∷ []));
  ends = λ i d lt. at_run i d lt;
} where
  at_run : (i : ℕ) (d : Run) → i < length (runs ++ r ∷ []) → get_or (slots ++ n ∷ []) i 0 + (get_or (runs ++ r ∷ []) i d).size ≤ n + r.size
  at_run i d lt = elim (cases_lt i (length runs)) [
    | inl here ↦
        let e = w.ends i d here in
        let s = get_or_append_left slots (n ∷ []) 0 i (omega (arith, w.same, here)) in
        let q = ap (λ (x : Run). x.size) (get_or_append_left runs (r ∷ []) d i here) in
        omega (arith, e, s, q)
    | inr past ↦
        let last : i ≡ length runs + 0 = omega (arith, lt, past, length-append runs (r ∷ [])) in
        let last2 : i ≡ length slots + 0 = omega (arith, last, w.same) in
        let s = ap (λ k. get_or (slots ++ n ∷ []) k 0) last2 ∙ get_or-append-add slots (n ∷ []) 0 0 in
        let q = ap (λ k. (get_or (runs ++ r ∷ []) k d).size) last ∙ ap (λ (x : Run). x.size) (get_or-append-add runs (r ∷ []) 0 d) in
        omega (arith, s, q)
  ]

pub within_take : (runs : List Run) (slots : List ℕ) (n k : ℕ) → AreWithin runs slots n → k ≤ length runs → AreWithin (take k runs) (take k slots) n
within_take runs slots n k w le = record {
  same = length-take-le k slots (omega (arith, w.same, le)) ∙ sym (length-take-le k runs le);
  ends = λ i d lt.
      let lt2 : i < k = omega (arith, lt, length-take-le k runs le) in
      let e = w.ends i d (omega (arith, lt2, le)) in
      let s = get_or-take k slots i 0 lt2 in
      let q = ap (λ (x : Run). x.size) (get_or-take k runs i d lt2) in
      omega (arith, e, s, q);
}

pub within_drop : (runs : List Run) (slots : List ℕ) (n k : ℕ) → AreWithin runs slots n → AreWithin (drop k runs) (drop k slots) n
within_drop runs slots n k w = record {
  same = length-drop k slots ∙ ap (λ m. m - k) w.same ∙ sym (length-drop k runs);
  ends = λ i d lt.
      let e = w.ends (k + i) d (omega (arith, lt, length-drop k runs)) in
      let s = get_or-drop k slots i 0 in
      let q = ap (λ (x : Run). x.size) (get_or-drop k runs i d) in
      omega (arith, e, s, q);
}

-- more rows inside
pub outside_more : (opens : List OpenLabel) (rows more : ℕ) (runs : List Run) (slots : List ℕ) → AreOutside opens rows runs slots → rows ≤ more
    → AreOutside opens more runs slots
outside_more [] rows more runs slots o le = tt
outside_more (x ∷ xs) rows more runs slots o le = (omega (arith, o.0, le), o.1, o.2, o.3)

-- one more run inside, and more rows
pub outside_run : (opens : List OpenLabel) (rows more n : ℕ) (r : Run) (runs : List Run) (slots : List ℕ) → length slots ≡ length runs
    → AreOutside opens rows runs slots → rows ≤ more → AreOutside opens more (runs ++ r ∷ []) (slots ++ n ∷ [])
outside_run [] rows more n r runs slots same o le = tt
outside_run (x ∷ xs) rows more n r runs slots same o le =
    let runs_are = take-append-le x.runs runs (r ∷ []) o.1 in
    let slots_are = take-append-le x.runs slots (n ∷ []) (omega (arith, same, o.1)) in (
      omega (arith, o.0, le),
      omega (arith, o.1, length-append runs (r ∷ [])),
      subst (λ rs. AreWithin rs (take x.runs (slots ++ n ∷ [])) x.row) (sym runs_are) (subst (λ ss. AreWithin (take x.runs runs) ss x.row) (sym slots_are) o.2),
      subst (λ rs. AreOutside xs x.row rs (take x.runs (slots ++ n ∷ []))) (sym runs_are) (subst (AreOutside xs x.row (take x.runs runs)) (sym slots_are) o.3),
    )

-- the innermost is gone
pub outside_popped : (o : OpenLabel) (opens : List OpenLabel) (rows : ℕ) (runs : List Run) (slots : List ℕ) → AreOutside (o ∷ opens) rows runs slots
    → AreOutside opens rows runs slots
outside_popped o [] rows runs slots h = tt
outside_popped o (x ∷ xs) rows runs slots h =
    let inner = h.3 in
    let fewer : x.runs ≤ o.runs = omega (arith, inner.1, length-take-le o.runs runs h.1) in
    let runs_are = take-take x.runs o.runs runs fewer in
    let slots_are = take-take x.runs o.runs slots fewer in (
      omega (arith, inner.0, h.0),
      omega (arith, fewer, h.1),
      subst (λ rs. AreWithin rs (take x.runs slots) x.row) runs_are (subst (λ ss. AreWithin (take x.runs (take o.runs runs)) ss x.row) slots_are inner.2),
      subst (λ rs. AreOutside xs x.row rs (take x.runs slots)) runs_are (subst (AreOutside xs x.row (take x.runs (take o.runs runs))) slots_are inner.3),
    )
