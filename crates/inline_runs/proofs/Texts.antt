-- How many bytes of a run are text.
use Rattle.std.proofs.Common.{inl, inr, ◌≡◌, ℕ, ◌+◌, ◌-◌, List, [], ◌∷◌, ◌++◌, refl, sym, ap, ◌∙◌, length, take, drop, reverse, arith, subst}
use Rattle.inline_runs.proofs.Prelude.{AreLaid, AreTexts, bytes, cases_lt, closed_by, common_steps, Ends, get_or_append_left, get_or_push, IsEnds, IsLaid}
use Rattle.inline_runs.proofs.Prelude.{length-append, opened_by, Pair, pair_bytes, reverse-append, RunLayout, slice_index, slice_range, sum_by-cons, take_rest}
use Rattle.inline_runs.proofs.Prelude.{text_at}
use Rattle.std.proofs.lemmas.List.{drop_at}
use Rattle.std.proofs.lemmas.List.Sums.{sum_by_push}

bytes-reverse : (ps : List Pair) → bytes (reverse ps) ≡ bytes ps
bytes-reverse [] = refl
bytes-reverse (p ∷ ps) =
    let back : reverse (p ∷ ps) ≡ reverse ps ++ p ∷ [] = reverse-append (p ∷ []) ps in
    let one : bytes (reverse ps ++ p ∷ []) ≡ bytes (reverse ps) + pair_bytes p = sum_by_push pair_bytes (reverse ps) p in
    let rest : bytes (reverse ps) ≡ bytes ps = bytes-reverse ps in
    let whole : bytes (p ∷ ps) ≡ pair_bytes p + bytes ps = sum_by-cons pair_bytes p ps in
    ap bytes back ∙ one ∙ omega arith

pub text_is : (ps all same opened : List Pair) (place size start left text : ℕ) (e : Ends) → IsEnds ps place e → same ≡ ps
    → opened ≡ all ++ reverse (opened_by place ps) → start ≡ length all
    → left ≡ size - bytes (slice_range same e.first_closed e.closed_end) → text ≡ left - bytes (take (length opened - start) (drop start opened))
    → text ≡ text_at ps place size
text_is ps all same opened place size start left text e ends is_same is_opened is_start is_left is_text =
    let first : bytes (slice_range same e.first_closed e.closed_end) ≡ bytes (closed_by place ps) =
    ap (λ qs. bytes (slice_range qs e.first_closed e.closed_end)) is_same ∙ ap bytes ends.closed in
    let last : bytes (take (length opened - start) (drop start opened)) ≡ bytes (opened_by place ps) =
    ap bytes (take_rest opened start) ∙ ap (λ qs. bytes (drop start qs)) is_opened ∙ ap bytes (drop_at all (reverse (opened_by place ps)) start (sym is_start))
    ∙ bytes-reverse (opened_by place ps) in
    omega arith

pub text_pushed : (ps : List Pair) (sizes : List ℕ) (laid : List RunLayout) (l : RunLayout)
    → l.text ≡ text_at ps (length laid) (slice_index sizes (length laid))
    → AreTexts ps sizes laid
    → AreTexts ps sizes (laid ++ l ∷ [])
text_pushed ps sizes laid l is texts i d lt =
    elim (cases_lt i (length laid)) [
      | inl old ↦ ap (λ (m : RunLayout). m.text) (get_or_append_left laid (l ∷ []) d i old) ∙ texts i d old
      | inr new ↦
          let at : length laid ≡ i = omega (arith, length-append laid (l ∷ [])) in
          ap (λ (m : RunLayout). m.text) (get_or_push laid l d i at) ∙ is ∙ ap (λ k. text_at ps k (slice_index sizes k)) at
    ]

-- one more run, whose opened pairs come after those of the runs before it
pub laid_pushed : (ps all more : List Pair) (laid : List RunLayout) (l : RunLayout) → AreLaid ps all laid → more ≡ reverse (opened_by (length laid) ps)
    → l.start ≡ length all → l.end ≡ length (all ++ more) → AreLaid ps (all ++ more) (laid ++ l ∷ [])
laid_pushed ps all more laid l are is start end i d lt =
    elim (cases_lt i (length laid)) [
      | inl old ↦
          let before = are i d old in
          subst (IsLaid ps i (all ++ more)) (sym (get_or_append_left laid (l ∷ []) d i old))
          (record { in_order = before.in_order; within = omega (arith, before.within, length-append all more); opened = grind (arith, common_steps) })
      | inr new ↦
          let at : length laid ≡ i = omega (arith, length-append laid (l ∷ [])) in
          subst (IsLaid ps i (all ++ more)) (sym (get_or_push laid l d i at))
          (record { in_order = omega (arith, length-append all more); within = omega arith; opened = grind (arith, common_steps) })
    ]
