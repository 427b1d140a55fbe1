-- Bytes that are cut before the first byte of a kind.
use Rattle.std.proofs.Common.{◌≡◌, ◌≢◌, ℕ, zero, suc, ◌<◌, List, [], ◌∷◌, ◌++◌, true, not, eqb}
use Rattle.std.proofs.Common.{length, get_or, take, drop, refl, sym, ap, ◌∙◌, arith}
use Rattle.std.proofs.lemmas.Bool.{false≢true, and_parts, and_from, eq-eqb, ne_eqb}
use Rattle.std.proofs.lemmas.List.Folds.{list_all-append}
use Rattle.std.proofs.lemmas.List.{append-nil, take-append-drop}
use Rattle.html_listed_page.specs.Tags.{lacks, stops_at, IsCut}

pub lacks_append : (c : ℕ) (x y : List ℕ) → lacks c x ≡ true → lacks c y ≡ true → lacks c (x ++ y) ≡ true
lacks_append c x y h k = list_all-append (λ b. not (eqb b c)) x y ∙ and_from (lacks c x) (lacks c y) h k

pub lacks_front : (c : ℕ) (x y : List ℕ) → lacks c (x ++ y) ≡ true → lacks c x ≡ true
lacks_front c x y h = (and_parts (lacks c x) (lacks c y) (sym (list_all-append (λ b. not (eqb b c)) x y) ∙ h)).0

pub lacks_back : (c : ℕ) (x y : List ℕ) → lacks c (x ++ y) ≡ true → lacks c y ≡ true
lacks_back c x y h = (and_parts (lacks c x) (lacks c y) (sym (list_all-append (λ b. not (eqb b c)) x y) ∙ h)).1

-- a byte that is there
pub has_byte : {A : Type 0} (c : ℕ) (x y : List ℕ) → lacks c (x ++ (c ∷ y)) ≡ true → A
has_byte c x y h =
    let k = (and_parts (not (eqb c c)) (lacks c y) (lacks_back c x (c ∷ y) h)).0 in
    absurd (false≢true (sym (ap not (eq-eqb c c refl)) ∙ k))

met : {A : Type 0} (b c : ℕ) → eqb b c ≡ true → not (eqb b c) ≡ true → A
met b c h k = absurd (false≢true (sym (ap not h) ∙ k))

abbrev pub tail : List ℕ → List ℕ
tail [] = []
tail (b ∷ bs) = bs

abbrev pub head : List ℕ → ℕ
head [] = 0
head (b ∷ bs) = b

-- bytes are cut in one way
pub one_cut : (c : ℕ) (p q x y : List ℕ) → lacks c p ≡ true → lacks c q ≡ true → stops_at c x ≡ true → stops_at c y ≡ true → p ++ x ≡ q ++ y
    → (p ≡ q) × (x ≡ y)
one_cut c [] [] x y hp hq hx hy e = (refl, e)
one_cut c [] (b ∷ bs) x y hp hq hx hy e =
    met b c (ap (stops_at c) (sym e) ∙ hx) (and_parts (not (eqb b c)) (lacks c bs) hq).0
one_cut c (a ∷ others) [] x y hp hq hx hy e =
    met a c (ap (stops_at c) e ∙ hy) (and_parts (not (eqb a c)) (lacks c others) hp).0
one_cut c (a ∷ others) (b ∷ bs) x y hp hq hx hy e =
    let more = one_cut c others bs x y (and_parts (not (eqb a c)) (lacks c others) hp).1 (and_parts (not (eqb b c)) (lacks c bs) hq).1 hx hy (ap tail e) in
    (ap (λ b. b ∷ others) (ap head e) ∙ ap (λ x. b ∷ x) more.0, more.1)

-- bytes that lack one by their places
pub lacks_by_places : (c : ℕ) (xs : List ℕ) → ((i : ℕ) → i < length xs → get_or xs i 0 ≢ c) → lacks c xs ≡ true
lacks_by_places c [] h = refl
lacks_by_places c (x ∷ xs) h =
    and_from (not (eqb x c)) (lacks c xs) (ap not (ne_eqb x c (h 0 (omega arith))))
    (lacks_by_places c xs (λ i l. h (suc i) (omega (arith, l))))

pub not_at : {A : Type 0} (c : ℕ) (xs : List ℕ) (i : ℕ) → lacks c xs ≡ true → i < length xs → get_or xs i 0 ≡ c → A
not_at c [] i h l e = absurd (omega (arith, l))
not_at c (x ∷ xs) zero h l e = met x c (eq-eqb x c e) (and_parts (not (eqb x c)) (lacks c xs) h).0
not_at c (x ∷ xs) (suc i) h l e = not_at c xs i (and_parts (not (eqb x c)) (lacks c xs) h).1 (omega (arith, l)) e

-- ---- a place of the byte

take_lacks : (c : ℕ) (xs : List ℕ) (k : ℕ) → ((i : ℕ) → i < k → get_or xs i 0 ≢ c) → k < length xs → lacks c (take k xs) ≡ true
take_lacks c [] k h l = absurd (omega (arith, l))
take_lacks c (x ∷ xs) zero h l = refl
take_lacks c (x ∷ xs) (suc k) h l =
    and_from (not (eqb x c)) (lacks c (take k xs)) (ap not (ne_eqb x c (h 0 (omega arith))))
    (take_lacks c xs k (λ i m. h (suc i) (omega (arith, m))) (omega (arith, l)))

drop_stops : (c : ℕ) (xs : List ℕ) (k : ℕ) → k < length xs → get_or xs k 0 ≡ c → stops_at c (drop k xs) ≡ true
drop_stops c [] k l e = absurd (omega (arith, l))
drop_stops c (x ∷ xs) zero l e = eq-eqb x c e
drop_stops c (x ∷ xs) (suc k) l e = drop_stops c xs k (omega (arith, l)) e

-- bytes are cut at the first place of the byte
pub cut_at : (c : ℕ) (xs : List ℕ) (k : ℕ) → k < length xs → get_or xs k 0 ≡ c → ((i : ℕ) → i < k → get_or xs i 0 ≢ c) → IsCut c xs (take k xs) (drop k xs)
cut_at c xs k l e h = record {
  parts = take-append-drop k xs;
  before_lacks = take_lacks c xs k h l;
  after_stops = drop_stops c xs k l e;
}

-- or at their end
pub cut_after : (c : ℕ) (xs : List ℕ) → ((i : ℕ) → i < length xs → get_or xs i 0 ≢ c) → IsCut c xs xs []
cut_after c xs h = record { parts = append-nil xs; before_lacks = lacks_by_places c xs h; after_stops = refl }

-- ---- what bytes end with

pub same_front : (c : ℕ) (p q : List ℕ) → p ++ c ∷ [] ≡ q ++ c ∷ [] → p ≡ q
same_front c [] [] e = refl
same_front c [] (b ∷ []) e = let bad : [] ≡ c ∷ [] = ap tail e in cc
same_front c [] (b ∷ d ∷ bs) e = let bad : [] ≡ d ∷ (bs ++ c ∷ []) = ap tail e in cc
same_front c (a ∷ []) [] e = let bad : c ∷ [] ≡ [] = ap tail e in cc
same_front c (a ∷ d ∷ others) [] e = let bad : d ∷ (others ++ c ∷ []) ≡ [] = ap tail e in cc
same_front c (a ∷ others) (b ∷ bs) e = ap (λ b. b ∷ others) (ap head e) ∙ ap (λ x. b ∷ x) (same_front c others bs (ap tail e))

-- the last byte; 0 if there is none
abbrev pub last : List ℕ → ℕ
last [] = 0
last (b ∷ []) = b
last (b ∷ d ∷ bs) = last (d ∷ bs)

pub last_after : (x : List ℕ) (b : ℕ) (y : List ℕ) → last (x ++ (b ∷ y)) ≡ last (b ∷ y)
last_after [] b y = refl
last_after (a ∷ []) b y = refl
last_after (a ∷ d ∷ others) b y = last_after (d ∷ others) b y

pub same_back : (p x y : List ℕ) → p ++ x ≡ p ++ y → x ≡ y
same_back [] x y e = e
same_back (b ∷ bs) x y e = same_back bs x y (ap tail e)
