-- The bytes of what is said, and of tags around it.
use Rattle.std.proofs.Common.{◌≡◌, ℕ, List, [], ◌∷◌, ◌++◌, map, flat_map, refl, sym, ap, ◌∙◌}
use Rattle.parse_alike.proofs.Prelude.{Close, element, flat_map-append, map-append, Piece, PrintedPart, said_bytes, Says, start_tag, Tag}
use Rattle.parse_alike.proofs.Printed.{Byte, of_bytes, printed, printed-append}

abbrev pub said : List PrintedPart → List ℕ
said parts = flat_map said_bytes parts

pub said-append : (ss ts : List PrintedPart) → said (ss ++ ts) ≡ said ss ++ said ts
said-append ss ts = flat_map-append said_bytes ss ts

-- what is said is printed as its bytes
pub said-printed : (ss : List PrintedPart) → printed (map Says ss) ≡ of_bytes (said ss)
said-printed [] = refl
said-printed (s ∷ ss) = ap (λ xs. of_bytes (said_bytes s) ++ xs) (said-printed ss) ∙ sym (map-append Byte (said_bytes s) (said ss))

-- lists one after another
pub both : {A : Type 0} (xs ys xs' ys' : List A) → xs ≡ xs' → ys ≡ ys' → xs ++ ys ≡ xs' ++ ys'
both xs ys xs' ys' p q = ap (λ zs. zs ++ ys) p ∙ ap (λ zs. xs' ++ zs) q

-- pieces one after another, each printed as others are
pub both-printed : (ps qs ps' qs' : List Piece) → printed ps ≡ printed ps' → printed qs ≡ printed qs' → printed (ps ++ qs) ≡ printed (ps' ++ qs')
both-printed ps qs ps' qs' p q =
    printed-append ps qs ∙ both (printed ps) (printed qs) (printed ps') (printed qs') p q ∙ sym (printed-append ps' qs')

-- one tag around pieces
pub element-printed : (t : Tag) (ps qs : List Piece) → printed ps ≡ printed qs → printed (element t ps) ≡ printed (element t qs)
element-printed t ps qs p =
    ap (λ xs. of_bytes (start_tag t) ++ xs) (both-printed ps (Close t.name ∷ []) qs (Close t.name ∷ []) p refl)
