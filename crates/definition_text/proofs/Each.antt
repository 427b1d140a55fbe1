-- What holds of each element of a list, and of a value where there is one.
use Rattle.std.proofs.Common.{ℕ, zero, suc, Bool, cond, List, [], ◌∷◌, ◌++◌, Option, None, Some, map, replicate, take, drop, filter}
use Rattle.std.specs.List.{flat_map}
use Rattle.std.proofs.lemmas.Bool.{cond_both}

abbrev pub Each : {A : Type 0} → (A → Type 0) → List A → Type 0
Each P [] = Unit {0}
Each P (x ∷ xs) = P x × Each P xs

pub each-append : {A : Type 0} (P : A → Type 0) (xs ys : List A) → Each P xs → Each P ys → Each P (xs ++ ys)
each-append P [] ys p q = q
each-append P (x ∷ xs) ys p q = (p.0, each-append P xs ys p.1 q)

pub each-take : {A : Type 0} (P : A → Type 0) (n : ℕ) (xs : List A) → Each P xs → Each P (take n xs)
each-take P zero xs p = tt
each-take P (suc n) [] p = tt
each-take P (suc n) (x ∷ xs) p = (p.0, each-take P n xs p.1)

pub each-drop : {A : Type 0} (P : A → Type 0) (n : ℕ) (xs : List A) → Each P xs → Each P (drop n xs)
each-drop P zero xs p = p
each-drop P (suc n) [] p = tt
each-drop P (suc n) (x ∷ xs) p = each-drop P n xs p.1

pub each_filter : {A : Type 0} (P : A → Type 0) (test : A → Bool) (xs : List A) → Each P xs → Each P (filter test xs)
each_filter P test [] p = tt
each_filter P test (x ∷ xs) p =
    cond_both (test x) (x ∷ filter test xs) (filter test xs) (Each P) (λ _. (p.0, each_filter P test xs p.1)) (λ _. each_filter P test xs p.1)

-- elements as f makes them
pub each_map : {A B : Type 0} (P : B → Type 0) (f : A → B) (xs : List A) → ((x : A) → P (f x)) → Each P (map f xs)
each_map P f [] p = tt
each_map P f (x ∷ xs) p = (p x, each_map P f xs p)

-- elements of which Q holds, each as f makes it
pub each_mapped : {A B : Type 0} (Q : A → Type 0) (P : B → Type 0) (f : A → B) (xs : List A) → ((x : A) → Q x → P (f x)) → Each Q xs → Each P (map f xs)
each_mapped Q P f [] p h = tt
each_mapped Q P f (x ∷ xs) p h = (p x h.0, each_mapped Q P f xs p h.1)

pub each_flat_map : {A B : Type 0} (P : B → Type 0) (f : A → List B) (xs : List A) → ((x : A) → Each P (f x)) → Each P (flat_map f xs)
each_flat_map P f [] p = tt
each_flat_map P f (x ∷ xs) p = each-append P (f x) (flat_map f xs) (p x) (each_flat_map P f xs p)

pub each_same : {A : Type 0} (P : A → Type 0) (n : ℕ) (x : A) → P x → Each P (replicate n x)
each_same P zero x p = tt
each_same P (suc n) x p = (p, each_same P n x p)

abbrev pub WhereSome : {A : Type 0} → (A → Type 0) → Option A → Type 0
WhereSome P None = Unit {0}
WhereSome P (Some x) = P x

-- a value that there is where a test passes
pub where_passed : {A : Type 0} (P : A → Type 0) (test : Bool) (x : A) → P x → WhereSome P (cond test (Some x) None)
where_passed P test x p = cond_both test (Some x) None (WhereSome P) (λ _. p) (λ _. tt)
