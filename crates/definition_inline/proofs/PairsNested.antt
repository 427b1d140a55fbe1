-- The pairs of runs stand in one another, and those that are open at a place stand in their list from the innermost to the outermost.
use Rattle.std.proofs.Common.{inl, inr, ◌≡◌, ℕ, ◌+◌, ◌<◌, ◌≤◌, List, [], ◌∷◌, ◌++◌, Bool, true, false, ◌&&◌, ◌||◌, refl, sym, ap, ◌∙◌, arith}
use Rattle.std.specs.Prelude.{◌==◌, nat_lt, nat_le, ◌⊎◌}
use Rattle.std.specs.List.{filter}
use Rattle.std.proofs.lemmas.Grind.{common_steps}
use Rattle.std.proofs.lemmas.Bool.{cases_Bool, cond-true, cond-false}
use Rattle.definition_inline.specs.Attention.{Run}
use Rattle.definition_inline.specs.Pairing.{Pair, pairs, bytes_of_pair}
use Rattle.definition_inline.specs.NextPair.{is_within, is_inside, last_closer, left_at, AreNext, NoMore, NextIs}
use Rattle.definition_inline.proofs.NextPair.{are_next}
use Rattle.definition_text.proofs.Each.{Each}

-- what holds of a pair and one that comes later
pub record IsAround (p q : Pair) : Type 0 where
  pub later : p.closer ≤ q.closer
  pub outside : is_within q.opener p ≡ false

-- each pair has its opener first, and takes one byte or two
pub record IsPair (p : Pair) : Type 0 where
  pub ordered : p.opener < p.closer
  pub size : (p.taken ≡ 1) ⊎ (p.taken ≡ 2)

abbrev pub AreNested : List Pair → Type 0
AreNested [] = Unit {0}
AreNested (p ∷ ps) = IsPair p × Each (IsAround p) ps × AreNested ps

both_false : (a b : Bool) → (a || b) ≡ false → (a ≡ false) × (b ≡ false)
both_false a b e = grind (arith, common_steps)

around : (runs : List Run) (p : Pair) (so_far ps : List Pair) → ((place : ℕ) → is_inside so_far place ≡ false → is_within place p ≡ false)
    → p.closer ≤ last_closer so_far → AreNext runs so_far ps → Each (IsAround p) ps
around runs p _ _ within last (NoMore so_far none) = tt
around runs p _ _ within last (NextIs so_far q others next rest) = (
  record { later = omega (arith, last, next.goes_on); outside = within q.opener next.eligible.uncrossed },
  around runs p (q ∷ so_far) others (λ place e. within place (both_false (is_within place q) (is_inside so_far place) e).1)
      (omega (arith, last, next.goes_on)) rest,
)

one_or_two : (a b : Run) → (bytes_of_pair a b ≡ 1) ⊎ (bytes_of_pair a b ≡ 2)
one_or_two a b = elim (cases_Bool (nat_le 2 a.left && nat_le 2 b.left)) [
  | inl two ↦ inr (cond-true (nat_le 2 a.left && nat_le 2 b.left) 2 1 two)
  | inr one ↦ inl (cond-false (nat_le 2 a.left && nat_le 2 b.left) 2 1 one)
]

sized : (n m : ℕ) → n ≡ m → (m ≡ 1) ⊎ (m ≡ 2) → (n ≡ 1) ⊎ (n ≡ 2)
sized n m e h = elim h [ inl one ↦ inl (e ∙ one) | inr two ↦ inr (e ∙ two) ]

nested : (runs : List Run) (so_far ps : List Pair) → AreNext runs so_far ps → AreNested ps
nested runs _ _ (NoMore so_far none) = tt
nested runs _ _ (NextIs so_far p others next rest) = (
  record {
    ordered = next.eligible.ordered;
    size = sized p.taken (bytes_of_pair (left_at runs so_far p.opener).run (left_at runs so_far p.closer).run) next.taken
        (one_or_two (left_at runs so_far p.opener).run (left_at runs so_far p.closer).run);
  },
  around runs p (p ∷ so_far) others (λ place e. (both_false (is_within place p) (is_inside so_far place) e).0) (omega arith) rest,
  nested runs (p ∷ so_far) others rest,
)

pub pairs_nested : (runs : List Run) → AreNested (pairs runs)
pairs_nested runs = nested runs [] (pairs runs) (are_next runs)

-- ---- what is open at a place

-- the pairs that are open before the run at a place, and those that are open in the midst of it
abbrev pub is_open : ℕ → Pair → Bool
is_open place p = nat_lt p.opener place && nat_le place p.closer

abbrev pub is_around : ℕ → Pair → Bool
is_around place p = nat_lt p.opener place && nat_lt place p.closer

abbrev pub closes_at : ℕ → Pair → Bool
closes_at place p = p.closer == place

abbrev pub opens_at : ℕ → Pair → Bool
opens_at place p = p.opener == place

keeps : (f : Pair → Bool) (p : Pair) (ps : List Pair) → f p ≡ true → filter f (p ∷ ps) ≡ p ∷ filter f ps
keeps f p ps h = cond-true (f p) (p ∷ filter f ps) (filter f ps) h

drops : (f : Pair → Bool) (p : Pair) (ps : List Pair) → f p ≡ false → filter f (p ∷ ps) ≡ filter f ps
drops f p ps h = cond-false (f p) (p ∷ filter f ps) (filter f ps) h

-- a list of which none passes
none : (f : Pair → Bool) (P : Pair → Type 0) (ps : List Pair) → ((q : Pair) → P q → f q ≡ false) → Each P ps → filter f ps ≡ []
none f P [] h each = refl
none f P (q ∷ qs) h each = drops f q qs (h q each.0) ∙ none f P qs h each.1

-- those that pass f are those that pass g, and then those that pass h, where none passes g after one that passes h
module _ (f g h : Pair → Bool) where
  -- each passes f if it passes just one of the two
  record Parts (p : Pair) : Type 0 where
    first : g p ≡ true → (f p ≡ true) × (h p ≡ false)
    second : h p ≡ true → (f p ≡ true) × (g p ≡ false)
    neither : g p ≡ false → h p ≡ false → f p ≡ false

  splits : (ps : List Pair) → ((p : Pair) → IsPair p → Parts p) → ((p q : Pair) → IsPair p → IsAround p q → h p ≡ true → g q ≡ false)
      → AreNested ps → filter f ps ≡ filter g ps ++ filter h ps
  splits [] parts order all = refl
  splits (p ∷ ps) parts order all =
      let rest = splits ps parts order all.2 in
      let here = parts p all.0 in
      elim (cases_Bool (g p)) [
        | inl first ↦
            keeps f p ps (here.first first).0 ∙ ap (λ xs. p ∷ xs) rest
            ∙ sym (ap (λ xs. xs ++ filter h (p ∷ ps)) (keeps g p ps first) ∙ ap (λ xs. (p ∷ filter g ps) ++ xs) (drops h p ps (here.first first).1))
        | inr not_first ↦ elim (cases_Bool (h p)) [
          | inl second ↦
              let no_more : filter g ps ≡ [] = none g (IsAround p) ps (λ q a. order p q all.0 a second) all.1 in
              keeps f p ps (here.second second).0 ∙ ap (λ xs. p ∷ xs) (rest ∙ ap (λ xs. xs ++ filter h ps) no_more)
              ∙ sym (ap (λ xs. xs ++ filter h (p ∷ ps)) (drops g p ps not_first ∙ no_more) ∙ keeps h p ps second)
          | inr not_second ↦
              drops f p ps (here.neither not_first not_second) ∙ rest
              ∙ sym (ap (λ xs. xs ++ filter h (p ∷ ps)) (drops g p ps not_first) ∙ ap (λ xs. filter g ps ++ xs) (drops h p ps not_second))
        ]
      ]

closing_parts : (place : ℕ) (p : Pair) → IsPair p → Parts (is_open place) (closes_at place) (is_around place) p
closing_parts place p is =
    let lt = is.ordered in
    record {
      first = λ e. grind (arith, common_steps);
      second = λ e. grind (arith, common_steps);
      neither = λ e d. grind (arith, common_steps);
    }

opening_parts : (place : ℕ) (p : Pair) → IsPair p → Parts (is_open (place + 1)) (opens_at place) (is_around place) p
opening_parts place p is =
    let lt = is.ordered in
    record {
      first = λ e. grind (arith, common_steps);
      second = λ e. grind (arith, common_steps);
      neither = λ e d. grind (arith, common_steps);
    }

closes_first : (place : ℕ) (p q : Pair) → IsPair p → IsAround p q → is_around place p ≡ true → closes_at place q ≡ false
closes_first place p q is a h = let le = a.later in grind (arith, common_steps)

opens_last : (place : ℕ) (p q : Pair) → IsPair p → IsAround p q → is_around place p ≡ true → opens_at place q ≡ false
opens_last place p q is a h = let out = a.outside in grind (arith, common_steps)

-- those that are open before a run are those that it closes, and then those that stay
pub closing : (place : ℕ) (ps : List Pair) → AreNested ps → filter (is_open place) ps ≡ filter (closes_at place) ps ++ filter (is_around place) ps
closing place ps all = splits (is_open place) (closes_at place) (is_around place) ps (closing_parts place) (closes_first place) all

-- those that are open after it are those that it opens, and then those that stay
pub opening : (place : ℕ) (ps : List Pair) → AreNested ps → filter (is_open (place + 1)) ps ≡ filter (opens_at place) ps ++ filter (is_around place) ps
opening place ps all = splits (is_open (place + 1)) (opens_at place) (is_around place) ps (opening_parts place) (opens_last place) all

-- before the first run none is open
pub none_open : (ps : List Pair) → filter (is_open 0) ps ≡ []
none_open [] = refl
none_open (p ∷ ps) = drops (is_open 0) p ps (let e : is_open 0 p ≡ false = grind (arith, common_steps) in e) ∙ none_open ps
