-- The pairs that a run opens, the last first.
use Rattle.std.proofs.Common.{◌≡◌, ℕ, ◌+◌, ◌-◌, ◌<◌, ◌≤◌, List, [], ◌∷◌, ◌++◌, refl, sym, ap, ◌∙◌, length, get_or, take, reverse, arith, subst, append_assoc}
use Rattle.inline_runs.proofs.Prelude.{append-nil, AreLinked, eq-eqb, get_or-take, IsLast, opened_by, Pair, reverse-append, ◌==◌}
use Rattle.std.proofs.lemmas.List.{take_more, take-take, length-take-le}
use Rattle.inline_runs.proofs.Threads.{filter_same}

-- what was opened so far, and what the pairs up to the last of so many will add, are all
pub record IsOpened (place : ℕ) (ps before now : List Pair) (count : ℕ) : Type 0 where
  pub there : (d : Pair) → 0 < count → (get_or ps (count - 1) d).opener ≡ place
  pub all : now ++ reverse (opened_by place (take count ps)) ≡ before ++ reverse (opened_by place ps)

pub none_opened : (place : ℕ) (ps before : List Pair) (count : ℕ) → IsLast place ps count → IsOpened place ps before before count
none_opened place ps before count last = record { there = last.there; all = ap (λ qs. before ++ reverse qs) last.all }

pub all_opened : (place : ℕ) (ps before now : List Pair) → IsOpened place ps before now 0 → now ≡ before ++ reverse (opened_by place ps)
all_opened place ps before now o = sym (append-nil now) ∙ o.all

-- the pair before the last one
last_before : (place : ℕ) (ps : List Pair) (count : ℕ) (p : Pair) → AreLinked ps → 0 < count → count ≤ length ps → p ≡ get_or ps (count - 1) p
    → p.opener ≡ place
    → IsLast place (take (count - 1) ps) p.earlier
last_before place ps count p linked some within is opener =
    subst (λ n. IsLast n (take (count - 1) ps) p.earlier) opener
    (subst (λ (q : Pair). IsLast q.opener (take (count - 1) ps) q.earlier) (sym is) (linked (count - 1) p (omega arith)))

pub earlier_less : (place : ℕ) (ps : List Pair) (count : ℕ) (p : Pair) → AreLinked ps → 0 < count → count ≤ length ps → p ≡ get_or ps (count - 1) p
    → p.earlier < count
earlier_less place ps count p linked some within is =
    let last = last_before p.opener ps count p linked some within is refl in
    let le = last.within in
    let size : length (take (count - 1) ps) ≡ count - 1 = length-take-le (count - 1) ps (omega arith) in
    omega arith

-- the last pairs are that pair, and those up to the one before it
pub one_opened : (place : ℕ) (ps before now : List Pair) (count : ℕ) (p : Pair) → AreLinked ps → 0 < count → count ≤ length ps → p ≡ get_or ps (count - 1) p
    → IsOpened place ps before now count → IsOpened place ps before (now ++ p ∷ []) p.earlier
one_opened place ps before now count p linked some within is o =
    let opener : p.opener ≡ place = ap (λ (q : Pair). q.opener) is ∙ o.there p some in
    let last = last_before place ps count p linked some within is opener in
    let less = earlier_less place ps count p linked some within is in
    let front = take (count - 1) ps in
    let next : count - 1 + 1 ≡ count = omega arith in
    let split : take count ps ≡ front ++ p ∷ [] =
    ap (λ n. take n ps) (sym next) ∙ take_more ps (count - 1) p (omega arith) ∙ ap (λ (q : Pair). front ++ q ∷ []) (sym is) in
    let shorter : take p.earlier front ≡ take p.earlier ps = take-take p.earlier (count - 1) ps (omega arith) in
    let rest : opened_by place front ≡ opened_by place (take p.earlier ps) = sym last.all ∙ ap (opened_by place) shorter in
    let both : reverse (opened_by place (take count ps)) ≡ p ∷ reverse (opened_by place (take p.earlier ps)) =
    ap (λ qs. reverse (opened_by place qs)) split
    ∙ ap reverse (filter_same (λ (q : Pair). q.opener == place) front p (eq-eqb p.opener place opener))
    ∙ reverse-append (opened_by place front) (p ∷ [])
    ∙ ap (λ qs. p ∷ reverse qs) rest in
    record {
      there = λ d h. ap (λ (q : Pair). q.opener) (sym (get_or-take (count - 1) ps (p.earlier - 1) d (omega arith))) ∙ last.there d h;
      all = append_assoc now (p ∷ []) (reverse (opened_by place (take p.earlier ps))) ∙ ap (λ qs. now ++ qs) (sym both) ∙ o.all;
    }
