-- One more pair, and one more run that was read.
use Rattle.std.proofs.Common.{inl, inr, ◌≡◌, ◌≢◌, ℕ, ◌+◌, ◌-◌, ◌<◌, ◌≤◌, List, [], ◌∷◌, ◌++◌, Bool, true, false, refl, sym, ap, ◌∙◌, length, get_or, set, take}
use Rattle.std.proofs.Common.{drop, arith, subst}
use Rattle.inline_runs.proofs.Prelude.{All, All-push, All-weaker, append-nil, AreLinked, AreThreaded, cases_Bool, cases_lt, closed_by, cond-false, cond-true}
use Rattle.inline_runs.proofs.Prelude.{Ends, eq-eqb, eqb-true, filter, get_or_append_left, get_or_push, IsEnds, IsLast, length-append, ne_eqb, opened_by, Pair}
use Rattle.inline_runs.proofs.Prelude.{slice_range, take_rest, ◌==◌}
use Rattle.std.proofs.lemmas.Bool.{eqb-false}
use Rattle.std.proofs.lemmas.List.{length-set, length-drop, get_or-set_same, get_or-set_other}
use Rattle.std.proofs.lemmas.List.{take-append-le, drop-append-le, take_all, drop_all}
use Rattle.std.proofs.lemmas.List.Elements.{All-head, All-tail, filter-append}
use Rattle.inline_runs.specs.Threads.{IsRead}

filter_none : (f : Pair → Bool) (ps : List Pair) → All (λ p. f p ≡ false) ps → filter f ps ≡ []
filter_none f [] none = refl
filter_none f (p ∷ ps) none =
    cond-false (f p) _ _ (All-head (λ q. f q ≡ false) p ps none) ∙ filter_none f ps (All-tail (λ q. f q ≡ false) p ps none)

pub filter_other : (f : Pair → Bool) (ps : List Pair) (p : Pair) → f p ≡ false → filter f (ps ++ p ∷ []) ≡ filter f ps
filter_other f ps p other = filter-append f ps (p ∷ []) ∙ ap (λ xs. filter f ps ++ xs) (cond-false (f p) _ _ other) ∙ append-nil (filter f ps)

pub filter_same : (f : Pair → Bool) (ps : List Pair) (p : Pair) → f p ≡ true → filter f (ps ++ p ∷ []) ≡ filter f ps ++ p ∷ []
filter_same f ps p same = filter-append f ps (p ∷ []) ∙ ap (λ xs. filter f ps ++ xs) (cond-true (f p) _ _ same)

-- ---- the last pair that a run opens

last_is_new : (ps : List Pair) (p : Pair) → IsLast p.opener (ps ++ p ∷ []) (length ps + 1)
last_is_new ps p =
    let size : length (ps ++ p ∷ []) ≡ length ps + 1 = length-append ps (p ∷ []) in
    record {
      within = omega arith;
      all = ap (opened_by p.opener) (take_all (length ps + 1) (ps ++ p ∷ []) (omega arith));
      there = λ d some. ap (λ (q : Pair). q.opener) (get_or_push ps p d (length ps + 1 - 1) (omega arith));
    }

last_stays : (place : ℕ) (ps : List Pair) (p : Pair) (n : ℕ) → (p.opener == place) ≡ false → IsLast place ps n → IsLast place (ps ++ p ∷ []) n
last_stays place ps p n other last =
    let size : length (ps ++ p ∷ []) ≡ length ps + 1 = length-append ps (p ∷ []) in
    let within = last.within in
    record {
      within = omega arith;
      all =
          ap (opened_by place) (take-append-le n ps (p ∷ []) last.within) ∙ last.all
          ∙ sym (filter_other (λ (q : Pair). q.opener == place) ps p other);
      there = λ d some. ap (λ (q : Pair). q.opener) (get_or_append_left ps (p ∷ []) d (n - 1) (omega arith)) ∙ last.there d some;
    }

linked_more : (ps : List Pair) (p : Pair) → AreLinked ps → IsLast p.opener ps p.earlier → AreLinked (ps ++ p ∷ [])
linked_more ps p linked last k d lt =
    elim (cases_lt k (length ps)) [
      | inl old ↦
          subst (λ (q : Pair). IsLast q.opener (take k (ps ++ p ∷ [])) q.earlier) (sym (get_or_append_left ps (p ∷ []) d k old))
          (subst (λ qs. IsLast (get_or ps k d).opener qs (get_or ps k d).earlier) (sym (take-append-le k ps (p ∷ []) (omega arith))) (linked k d old))
      | inr new ↦
          let at : length ps ≡ k = omega (arith, length-append ps (p ∷ [])) in
          subst (λ (q : Pair). IsLast q.opener (take k (ps ++ p ∷ [])) q.earlier) (sym (get_or_push ps p d k at))
          (subst (λ qs. IsLast p.opener qs p.earlier) (sym (take-append-le k ps (p ∷ []) (omega arith) ∙ take_all k ps (omega arith))) last)
    ]

-- ---- the pairs that a run closes

closed_stays : (ps : List Pair) (p : Pair) (place from to : ℕ) → from ≤ to → to ≤ length ps → (p.closer == place) ≡ false
    → slice_range ps from to ≡ closed_by place ps → slice_range (ps ++ p ∷ []) from to ≡ closed_by place (ps ++ p ∷ [])
closed_stays ps p place from to order within other closed =
    ap (take (to - from)) (drop-append-le from ps (p ∷ []) (omega arith))
    ∙ take-append-le (to - from) (drop from ps) (p ∷ []) (omega (arith, length-drop from ps))
    ∙ closed
    ∙ sym (filter_other (λ (q : Pair). q.closer == place) ps p other)

ends_stay : (ps : List Pair) (p : Pair) (place : ℕ) (e : Ends) → (p.closer == place) ≡ false → (p.opener == place) ≡ false → IsEnds ps place e
    → IsEnds (ps ++ p ∷ []) place e
ends_stay ps p place e not_closed not_opened is =
    let within = is.within in
    record {
      in_order = is.in_order;
      within = omega (arith, length-append ps (p ∷ []));
      closed = closed_stays ps p place e.first_closed e.closed_end is.in_order is.within not_closed is.closed;
      opened = last_stays place ps p e.last_opened not_opened is.opened;
    }

ends_open : (ps : List Pair) (p : Pair) (e : Ends) → (p.closer == p.opener) ≡ false → IsEnds ps p.opener e
    → IsEnds (ps ++ p ∷ []) p.opener (record e { last_opened = length ps + 1 })
ends_open ps p e not_closed is =
    let within = is.within in
    record {
      in_order = is.in_order;
      within = omega (arith, length-append ps (p ∷ []));
      closed = closed_stays ps p p.opener e.first_closed e.closed_end is.in_order is.within not_closed is.closed;
      opened = last_is_new ps p;
    }

-- ---- one more pair

pub threaded_close : (ps : List Pair) (es : List Ends) (first n : ℕ) (p : Pair) (e : Ends) → p.closer ≡ length es → p.opener < length es → n ≡ length ps + 1
    → e ≡ get_or es p.opener e → p.earlier ≡ e.last_opened
    → AreThreaded ps es first → AreThreaded (ps ++ p ∷ []) (set es p.opener (record e { last_opened = n })) first
threaded_close ps es first n p e closer opener count is_e earlier t =
    let fresh : Ends = record e { last_opened = n } in
    let is : IsEnds ps p.opener e = subst (IsEnds ps p.opener) (sym is_e) (t.ends p.opener e opener) in
    let same : length (set es p.opener fresh) ≡ length es = length-set es p.opener fresh in
    record {
      links = linked_more ps p t.links (subst (IsLast p.opener ps) (sym earlier) is.opened);
      ends = λ i d lt.
          let lt_es : i < length es = omega arith in
          let not_closed : (p.closer == i) ≡ false = ne_eqb p.closer i (λ h. omega arith) in
          elim (cases_Bool (p.opener == i)) [
            | inl here ↦
                let at : p.opener ≡ i = eqb-true p.opener i here in
                subst (λ k. IsEnds (ps ++ p ∷ []) k (get_or (set es p.opener fresh) k d)) at
                (subst (IsEnds (ps ++ p ∷ []) p.opener) (sym (get_or-set_same es p.opener fresh d opener))
                (subst (λ m. IsEnds (ps ++ p ∷ []) p.opener (record e { last_opened = m })) (sym count)
                (ends_open ps p e (subst (λ k. (p.closer == k) ≡ false) (sym at) not_closed) is)))
            | inr other ↦
                let ne : i ≢ p.opener = λ h. eqb-false p.opener i other (sym h) in
                subst (IsEnds (ps ++ p ∷ []) i) (sym (get_or-set_other es p.opener i fresh d ne))
                (ends_stay ps p i (get_or es i d) not_closed other (t.ends i d lt_es))
          ];
      read = subst (λ m. All (IsRead m) (ps ++ p ∷ [])) (sym same) (All-push (IsRead (length es)) ps p t.read
          (record { opener = opener; closer = omega arith }));
      within = let within = t.within in omega (arith, length-append ps (p ∷ []));
      now =
          drop-append-le first ps (p ∷ []) t.within ∙ ap (λ xs. xs ++ p ∷ []) t.now
          ∙ sym (filter_same (λ (q : Pair). q.closer == length es) ps p (eq-eqb p.closer (length es) closer))
          ∙ ap (λ m. closed_by m (ps ++ p ∷ [])) (sym same);
    }

-- ---- one more run

new_ends : (ps : List Pair) (es : List Ends) (first : ℕ) → AreThreaded ps es first
    → IsEnds ps (length es) (record { first_closed = first; closed_end = length ps; last_opened = 0 })
new_ends ps es first t =
    record {
      in_order = t.within;
      within = omega arith;
      closed = take_rest ps first ∙ t.now;
      opened =
          record {
            within = omega arith;
            all =
                sym (filter_none (λ (q : Pair). q.opener == length es) ps
                (All-weaker (IsRead (length es)) (λ q. (q.opener == length es) ≡ false) (λ q r. ne_eqb q.opener (length es) (λ h. let lt = r.opener in
                omega arith)) ps t.read));
            there = λ d some. absurd (omega arith);
          };
    }

finished : (ps : List Pair) (es : List Ends) (first : ℕ) → AreThreaded ps es first
    → AreThreaded ps (es ++ record { first_closed = first; closed_end = length ps; last_opened = 0 } ∷ []) (length ps)
finished ps es first t =
    let fresh : Ends = record { first_closed = first; closed_end = length ps; last_opened = 0 } in
    let size : length (es ++ fresh ∷ []) ≡ length es + 1 = length-append es (fresh ∷ []) in
    record {
      links = t.links;
      ends = λ i d lt.
          elim (cases_lt i (length es)) [
            | inl old ↦ subst (IsEnds ps i) (sym (get_or_append_left es (fresh ∷ []) d i old)) (t.ends i d old)
            | inr new ↦
                let at : length es ≡ i = omega arith in
                subst (IsEnds ps i) (sym (get_or_push es fresh d i at)) (subst (λ k. IsEnds ps k fresh) at (new_ends ps es first t))
          ];
      read =
          All-weaker (IsRead (length es)) (IsRead (length (es ++ fresh ∷ [])))
          (λ q r. let opener = r.opener in let closer = r.closer in record { opener = omega arith; closer = omega arith }) ps t.read;
      within = omega arith;
      now =
          drop_all (length ps) ps (omega arith)
          ∙ sym (filter_none (λ (q : Pair). q.closer == length (es ++ fresh ∷ [])) ps
          (All-weaker (IsRead (length es)) (λ q. (q.closer == length (es ++ fresh ∷ [])) ≡ false)
          (λ q r. let closer = r.closer in ne_eqb q.closer (length (es ++ fresh ∷ [])) (λ h. omega arith)) ps t.read));
    }

pub threaded_finish : (ps : List Pair) (es : List Ends) (first n : ℕ) → n ≡ length ps → AreThreaded ps es first
    → AreThreaded ps (es ++ record { first_closed = first; closed_end = n; last_opened = 0 } ∷ []) n
threaded_finish ps es first n count t =
    subst (λ m. AreThreaded ps (es ++ record { first_closed = first; closed_end = m; last_opened = 0 } ∷ []) m) (sym count) (finished ps es first t)
