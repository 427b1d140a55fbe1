-- Raw text in codes and in bytes.
use Rattle.std.proofs.Common.{◌≡◌, ℕ, zero, suc, ◌+◌, ◌-◌, ◌<◌, ◌≤◌, List, [], ◌∷◌, Bool, true, false, not, cond, ◌&&◌, eqb, None, Some, refl, sym, ap, ◌∙◌}
use Rattle.std.proofs.Common.{get_or, length, drop, take, map, arith, inl, inr}
use Rattle.inline_constructs.proofs.Prelude.{after_codes, and_from, and_left, and_right, cases_Bool, cond-false, cond-true, content_codes, Data, drop-drop}
use Rattle.inline_constructs.proofs.Prelude.{end_after, eq-eqb, eqb-false, eqb-true, get_or-drop, IsEnd, IsRun, leaf, length-append, length-drop, marker_byte}
use Rattle.inline_constructs.proofs.Prelude.{ne_eqb, option_map, plain_code, plain_size, plain_take, prefix_codes, prefix_len-le-length, prefix_plain, raw_at}
use Rattle.inline_constructs.proofs.Prelude.{raw_part, run, run_of, size_before, size_plain, take_at, true≢false}
use Rattle.std.proofs.lemmas.List.Sums.{prefix_len_passes}
use Rattle.std.specs.Str.{IsCharBoundary}
use Rattle.text_lines.proofs.Ascii.{boundary_before}
use Rattle.definition_text.specs.Content.{part, up_to}
use Rattle.definition_text.specs.Runs.{after_run}
use Rattle.definition_inline.specs.CodeText.{raw_leaf}
use Rattle.inline_links.specs.Codes.{IsCut}
use Rattle.inline_links.proofs.Cuts.{cut_at}
use Rattle.inline_constructs.specs.declared.raw_runs.RawMarker.{RawMarker}
use Rattle.inline_constructs.specs.declared.raw_runs.RawMarker.TheVariants.{Backtick, Dollar}

-- ---- the search for a run

module _ (m : ℕ) where
  -- a byte that begins no run of n
  run_step : (n : ℕ) (within : Bool) (c : ℕ) (cs : List ℕ) → (not within && eqb (run m (c ∷ cs)) n) ≡ false
      → run_of m n within (c ∷ cs) ≡ run_of m n (eqb c m) cs
  run_step n within c cs h = cond-false _ _ _ h

  -- a code of another kind
  pub other_step : (n : ℕ) (within : Bool) (c : ℕ) (cs : List ℕ) → 0 < n → eqb c m ≡ false → run_of m n within (c ∷ cs) ≡ run_of m n false cs
  other_step n true c cs some h = ap (λ t. run_of m n t cs) h
  other_step n false c cs some h =
      let none : run m (c ∷ cs) ≡ 0 = cond-false (eqb c m) _ _ h in
      run_step n false c cs (ne_eqb _ n (λ e. omega arith)) ∙ ap (λ t. run_of m n t cs) h

  -- inside of a run
  pub within_run : (n : ℕ) (xs : List ℕ) → 0 < n → run_of m n true xs ≡ run_of m n false (drop (run m xs) xs)
  within_run n [] some = refl
  within_run n (c ∷ cs) some = elim (cases_Bool (eqb c m)) [
    | inl h ↦
        let size : run m (c ∷ cs) ≡ suc (run m cs) = cond-true (eqb c m) _ _ h ∙ omega arith in
        ap (λ t. run_of m n t cs) h ∙ within_run n cs some ∙ ap (λ k. run_of m n false (drop k (c ∷ cs))) (sym size)
    | inr h ↦
        let size : run m (c ∷ cs) ≡ 0 = cond-false (eqb c m) _ _ h in
        other_step n true c cs some h ∙ sym (other_step n false c cs some h) ∙ ap (λ k. run_of m n false (drop k (c ∷ cs))) (sym size)
  ]

  -- past a run of another size
  pub past_run : (n : ℕ) (xs : List ℕ) → 0 < n → 0 < run m xs → (run m xs ≡ n → ⊥) → run_of m n false xs ≡ run_of m n false (drop (run m xs) xs)
  past_run n [] some run_some other = refl
  past_run n (c ∷ cs) some run_some other = elim (cases_Bool (eqb c m)) [
    | inl h ↦
        let size : run m (c ∷ cs) ≡ suc (run m cs) = cond-true (eqb c m) _ _ h ∙ omega arith in
        run_step n false c cs (ne_eqb _ n other) ∙ ap (λ t. run_of m n t cs) h ∙ within_run n cs some ∙ ap (λ k. run_of m n false (drop k (c ∷ cs))) (sym size)
    | inr h ↦ let size : run m (c ∷ cs) ≡ 0 = cond-false (eqb c m) _ _ h in absurd (omega arith)
  ]

  -- after a run there is no such byte
  pub after_it : (xs : List ℕ) → run m (drop (run m xs) xs) ≡ 0
  after_it [] = refl
  after_it (c ∷ cs) = elim (cases_Bool (eqb c m)) [
    | inl h ↦ let size : run m (c ∷ cs) ≡ suc (run m cs) = cond-true (eqb c m) _ _ h ∙ omega arith in ap (λ k. run m (drop k (c ∷ cs))) size ∙ after_it cs
    | inr h ↦ let size : run m (c ∷ cs) ≡ 0 = cond-false (eqb c m) _ _ h in ap (λ k. run m (drop k (c ∷ cs))) size ∙ size
  ]

  -- past a byte of another kind
  pub past_other : (n : ℕ) (xs : List ℕ) → 0 < n → run m xs ≡ 0 → run_of m n false xs ≡ run_of m n false (drop 1 xs)
  past_other n [] some none = refl
  past_other n (c ∷ cs) some none = elim (cases_Bool (eqb c m)) [
    | inl h ↦ let size : run m (c ∷ cs) ≡ 1 + run m cs = cond-true (eqb c m) _ _ h in absurd (omega arith)
    | inr h ↦ other_step n false c cs some h
  ]

  -- at a run of n
  pub at_run : (n : ℕ) (xs : List ℕ) → 0 < n → run m xs ≡ n → run_of m n false xs ≡ Some xs
  at_run n [] some size = absurd (omega arith)
  at_run n (c ∷ cs) some size = cond-true _ _ _ (eq-eqb _ n size)

  -- ---- a run

  pub run_here : (xs : List ℕ) (n : ℕ) → n ≡ run m xs → IsRun m xs 0 n
  run_here xs n e = record {
    within = omega (arith, prefix_len-le-length (λ b. eqb b m) xs);
    markers = λ k lt. let place : 0 + k ≡ k = omega arith in
        ap (λ j. get_or xs j 0) place ∙ eqb-true _ m (prefix_len_passes (λ b. eqb b m) xs k 0 (omega arith));
  }

  pub run_there : (xs : List ℕ) (at n : ℕ) → at ≤ length xs → IsRun m (drop at xs) 0 n → IsRun m xs at n
  run_there xs at n le here = record {
    within = omega (arith, here.within, length-drop at xs);
    markers = λ k lt. let zero_more : k ≡ 0 + k = omega arith in sym (get_or-drop at xs k 0) ∙ ap (λ j. get_or (drop at xs) j 0) zero_more ∙ here.markers k lt;
  }

  -- one step of the search in a text
  pub past_here : (xs : List ℕ) (n at r next : ℕ) → 0 < n → r ≡ run m (drop at xs) → (r ≡ n → ⊥) → next ≡ at + cond (eqb r 0) 1 r
      → run_of m n false (drop at xs) ≡ run_of m n false (drop next xs)
  past_here xs n at zero next some size other e =
      past_other n (drop at xs) some (sym size) ∙ ap (run_of m n false) (drop-drop 1 at xs ∙ ap (λ k. drop k xs) (sym e))
  past_here xs n at (suc r) next some size other e =
      let f : suc r ≡ cond (eqb (suc r) 0) 1 (suc r) = sym (cond-false (eqb (suc r) 0) 1 (suc r) (ne_eqb (suc r) 0 (λ g. omega arith))) in
      past_run n (drop at xs) some (omega arith) (λ g. other (size ∙ g))
      ∙ ap (λ k. run_of m n false (drop k (drop at xs))) (sym size)
      ∙ ap (run_of m n false) (drop-drop (suc r) at xs ∙ ap (λ k. drop k xs) (ap (λ k. at + k) f ∙ sym e))

  pub found_here : (xs : List ℕ) (n at r : ℕ) → 0 < n → r ≡ run m (drop at xs) → r ≡ n → run_of m n false (drop at xs) ≡ Some (drop at xs)
  found_here xs n at r some size same = at_run n (drop at xs) some (sym size ∙ same)

-- ---- a byte that may stand beside line endings

pub record IsRaw (m : ℕ) : Type 0 where
  pub return : eqb 13 m ≡ false
  pub both : eqb 257 m ≡ false
  pub feed : m ≡ 10 → ⊥
  pub ascii : m < 128

pub raw : (marker : RawMarker) → IsRaw (marker_byte marker)
raw Backtick = record { return = refl; both = refl; feed = λ e. omega arith; ascii = omega arith }
raw Dollar = record { return = refl; both = refl; feed = λ e. omega arith; ascii = omega arith }

module _ (m : ℕ) (is : IsRaw m) where
  not_return : m ≡ 13 → ⊥
  not_return e = true≢false (sym (eq-eqb 13 m (sym e)) ∙ is.return)

  -- past a line ending
  past_return : (n : ℕ) (within : Bool) (bs : List ℕ) → 0 < n → run_of m n within (content_codes (13 ∷ bs)) ≡ run_of m n false (content_codes bs)
  past_return n within [] some = other_step m n within 13 [] some is.return
  past_return n within (d ∷ ds) some = elim (cases_Bool (eqb d 10)) [
    | inl h ↦
        let e = eqb-true d 10 h in
        let codes = plain_code d ds (λ f. omega arith) in
        ap (run_of m n within) (cond-true (eqb d 10) _ _ h)
        ∙ other_step m n within 257 (drop 1 (content_codes (d ∷ ds))) some is.both
        ∙ ap (λ cs. run_of m n false (drop 1 cs)) codes
        ∙ sym (ap (run_of m n false) codes ∙ other_step m n false d (content_codes ds) some (ap (λ x. eqb x m) e ∙ ne_eqb 10 m (λ f. is.feed (sym f))))
    | inr h ↦
        ap (run_of m n within) (cond-false (eqb d 10) _ _ h)
        ∙ other_step m n within 13 (content_codes (d ∷ ds)) some is.return
  ]

  -- the search finds the same in codes
  pub run_of_codes : (n : ℕ) (within : Bool) (xs : List ℕ) → 0 < n → run_of m n within (content_codes xs) ≡ option_map content_codes (run_of m n within xs)
  run_of_codes n within [] some = refl
  run_of_codes n within (b ∷ bs) some = elim (cases_Bool (eqb b 13)) [
    | inl h ↦
        let e = eqb-true b 13 h in
        ap (λ x. run_of m n within (content_codes (x ∷ bs))) e ∙ past_return n within bs some ∙ run_of_codes n false bs some
        ∙ ap (option_map content_codes) (sym (other_step m n within 13 bs some is.return) ∙ ap (λ x. run_of m n within (x ∷ bs)) (sym e))
    | inr h ↦
        let codes = plain_code b bs (eqb-false b 13 h) in
        let size : run m (b ∷ content_codes bs) ≡ run m (b ∷ bs) = ap (run m) (sym codes) ∙ prefix_codes (λ c. eqb c m) is.return is.both (b ∷ bs) in
        ap (run_of m n within) codes
        ∙ ap (λ k. cond (not within && eqb k n) (Some (b ∷ content_codes bs)) (run_of m n (eqb b m) (content_codes bs))) size
        ∙ by_case (not within && eqb (run m (b ∷ bs)) n) codes (run_of_codes n (eqb b m) bs some)
  ]
    where
      by_case : (t : Bool) → content_codes (b ∷ bs) ≡ b ∷ content_codes bs → run_of m n (eqb b m) (content_codes bs)
          ≡ option_map content_codes (run_of m n (eqb b m) bs)
          → cond t (Some (b ∷ content_codes bs)) (run_of m n (eqb b m) (content_codes bs))
          ≡ option_map content_codes (cond t (Some (b ∷ bs)) (run_of m n (eqb b m) bs))
      by_case true codes later = ap Some (sym codes)
      by_case false codes later = later

  -- ---- the whole

  -- no line ending is cut before such a byte
  pub cut_before_run : (xs : List ℕ) (at n : ℕ) → IsRun m xs at n → 0 < n → IsCut xs at
  cut_before_run xs zero n there some = refl
  cut_before_run xs (suc at) n there some =
      let place : suc at + 0 ≡ suc at = omega arith in
      let tick : get_or xs (suc at) 0 ≡ m = ap (λ k. get_or xs k 0) (sym place) ∙ there.markers 0 some in
      cut_at xs (suc at) at (omega arith) (λ return feed. is.feed (sym tick ∙ feed))

  pub before_cut : (xs : List ℕ) (at : ℕ) → IsCut xs at → up_to (content_codes xs) (Some (content_codes (drop at xs)))
      ≡ Some (part (content_codes (take at xs)) (content_codes (drop at xs)))
  before_cut xs at cut =
      let front = content_codes (take at xs) in
      let back = content_codes (drop at xs) in
      let size : length (content_codes xs) - length back ≡ length front = omega (arith, ap length cut, length-append front back) in
      ap (λ text. Some (part text back)) (ap (λ k. take k (content_codes xs)) size ∙ ap (take (length front)) cut ∙ take_at front back (length front) refl)

  raw_text_is : (may_open : Bool) (xs : List ℕ) (n : ℕ) → n ≡ run m xs
      → raw_at m may_open (content_codes xs)
      ≡ cond (may_open && not (eqb n 0))
      (Some (raw_leaf m n (content_codes xs) (up_to (content_codes (drop n xs)) (run_of m n false (content_codes (drop n xs)))))) None
  raw_text_is may_open xs n e =
      let codes = content_codes xs in
      let size : run m codes ≡ n = prefix_codes (λ c. eqb c m) is.return is.both xs ∙ sym e in
      let rest : after_run m codes ≡ content_codes (drop n xs) =
      after_codes (λ c. eqb c m) is.return is.both xs ∙ ap (λ k. content_codes (drop k xs)) (sym e) in
      ap (λ k. cond (may_open && not (eqb k 0)) (Some (raw_leaf m k codes (up_to (after_run m codes) (run_of m k false (after_run m codes))))) None) size
      ∙ ap (λ r. cond (may_open && not (eqb n 0)) (Some (raw_leaf m n codes (up_to r (run_of m n false r)))) None) rest

  pub raw_off : (may_open : Bool) (xs : List ℕ) → may_open ≡ false → raw_at m may_open (content_codes xs) ≡ None
  raw_off may_open xs off = raw_text_is may_open xs (run m xs) refl ∙ cond-false _ _ _ (and_left may_open _ off)

  pub raw_none : (may_open : Bool) (xs : List ℕ) (n : ℕ) → n ≡ run m xs → n ≡ 0 → raw_at m may_open (content_codes xs) ≡ None
  raw_none may_open xs n e none = raw_text_is may_open xs n e ∙ cond-false _ _ _ (and_right may_open _ (ap not (eq-eqb n 0 none)))

  raw_some : (may_open : Bool) (xs : List ℕ) (n : ℕ) → n ≡ run m xs → may_open ≡ true → 0 < n
      → raw_at m may_open (content_codes xs)
      ≡ Some (raw_leaf m n (content_codes xs) (up_to (content_codes (drop n xs)) (option_map content_codes (run_of m n false (drop n xs)))))
  raw_some may_open xs n e is_on some =
      raw_text_is may_open xs n e ∙ cond-true _ _ _ (and_from may_open (not (eqb n 0)) is_on (ap not (ne_eqb n 0 (λ none. omega arith))))
      ∙ ap (λ o. Some (raw_leaf m n (content_codes xs) (up_to (content_codes (drop n xs)) o))) (run_of_codes n false (drop n xs) some)

  run_plain : (xs : List ℕ) (n : ℕ) → n ≡ run m xs → (n ≤ length xs) × ((k : ℕ) → k < n → get_or xs k 0 ≡ 13 → ⊥)
  run_plain xs n e = (omega (arith, prefix_len-le-length (λ b. eqb b m) xs), prefix_plain (λ b. eqb b m) is.return xs n (omega arith))

  pub raw_unclosed : (may_open : Bool) (xs rest : List ℕ) (n : ℕ) → n ≡ run m xs → may_open ≡ true → 0 < n → rest ≡ drop n xs
      → None ≡ run_of m n false (drop n xs) → Some (leaf (map Data (take n xs)) (size_before xs rest)) ≡ raw_at m may_open (content_codes xs)
  raw_unclosed may_open xs rest n e is_on some after none =
      let plain = run_plain xs n e in
      sym (raw_some may_open xs n e is_on some
      ∙ ap (λ o. Some (raw_leaf m n (content_codes xs) (up_to (content_codes (drop n xs)) (option_map content_codes o)))) (sym none)
      ∙ ap (λ text. Some (leaf (map Data text) n)) (plain_take n xs plain.0 plain.1)
      ∙ ap (λ size. Some (leaf (map Data (take n xs)) size)) (sym (size_plain n xs rest after plain.0 plain.1)))

  pub raw_closed : (may_open : Bool) (xs rest : List ℕ) (n at : ℕ) → n ≡ run m xs → may_open ≡ true → 0 < n → rest ≡ drop (n + at + n) xs
      → IsRun m (drop n xs) at n → Some (drop at (drop n xs)) ≡ run_of m n false (drop n xs)
      → Some (leaf (raw_part m (content_codes (take at (drop n xs))) ∷ []) (size_before xs rest)) ≡ raw_at m may_open (content_codes xs)
  raw_closed may_open xs rest n at e is_on some after there found =
      let ys = drop n xs in
      let zs = drop at ys in
      let plain = run_plain xs n e in
      let cut = cut_before_run ys at n there some in
      let text = content_codes (take at ys) in
      let room : n ≤ length zs = omega (arith, there.within, length-drop at ys) in
      let ticks : (k : ℕ) → k < n → get_or zs k 0 ≡ 13 → ⊥ = λ k lt f. not_return (sym (there.markers k lt) ∙ sym (get_or-drop at ys k 0) ∙ f) in
      let last : drop n zs ≡ rest =
      ap (drop n) (drop-drop at n xs) ∙ drop-drop n (n + at) xs ∙ sym after in
      let size : size_before xs rest ≡ n + length text + n =
      omega (
        arith,
        plain_size n xs plain.0 plain.1,
        ap length cut,
        length-append text (content_codes zs),
        plain_size n zs room ticks,
        ap (λ r. length (content_codes r)) last,
      ) in
      sym (raw_some may_open xs n e is_on some
      ∙ ap (λ o. Some (raw_leaf m n (content_codes xs) (up_to (content_codes ys) (option_map content_codes o)))) (sym found)
      ∙ ap (λ o. Some (raw_leaf m n (content_codes xs) o)) (before_cut ys at cut)
      ∙ ap (λ s. Some (leaf (raw_part m text ∷ []) s)) (sym size))

  pub open_end : (xs : List ℕ) (n : ℕ) → IsRun m xs 0 n → 0 < n → IsEnd xs n
  open_end xs n there some =
      let place : n - 1 ≡ 0 + (n - 1) = omega arith in
      let last : get_or xs (n - 1) 0 ≡ m = ap (λ k. get_or xs k 0) place ∙ there.markers (n - 1) (omega arith) in
      end_after xs n some (omega (arith, there.within)) (omega (arith, is.ascii)) (λ e. not_return (sym last ∙ e))

  pub close_end : (xs : List ℕ) (n at : ℕ) → n ≤ length xs → IsRun m (drop n xs) at n → 0 < n → IsEnd xs (n + at + n)
  close_end xs n at le there some =
      let place : n + (at + (n - 1)) ≡ n + at + n - 1 = omega arith in
      let last : get_or xs (n + at + n - 1) 0 ≡ m =
      ap (λ k. get_or xs k 0) (sym place) ∙ sym (get_or-drop n xs (at + (n - 1)) 0) ∙ there.markers (n - 1) (omega arith) in
      end_after xs (n + at + n) (omega arith) (omega (arith, there.within, length-drop n xs)) (omega (arith, is.ascii)) (λ e. not_return (sym last ∙ e))

  pub boundary_at_run : (xs : List ℕ) (at n : ℕ) → IsRun m xs at n → 0 < n → IsCharBoundary xs at
  boundary_at_run xs at n there some =
      let place : at + 0 ≡ at = omega arith in
      let tick : get_or xs at 0 ≡ m = ap (λ k. get_or xs k 0) (sym place) ∙ there.markers 0 some in
      boundary_before xs at (omega (arith, there.within)) (λ lt. omega (arith, is.ascii))
