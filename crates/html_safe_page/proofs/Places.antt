-- Bytes up to a place.
use Rattle.std.proofs.Common.{◌≡◌, ℕ, suc, ◌+◌, List, [], ◌∷◌, ◌++◌, Bool, true, false, not, ◌||◌, cond, eqb, Option, None, Some, Bor, codes, length, take}
use Rattle.std.proofs.Common.{drop, refl, sym, ap, ◌∙◌, inl, inr, arith}
use Rattle.std.specs.Cmp.Lexicographic.{pointwise}
use Rattle.std.specs.List.{position_or_len}
use Rattle.std.specs.Option.{IfSome, MatchOption, option_and_then, option_map, option_copied}
use Rattle.std.proofs.lemmas.Bool.{cases_Bool, cond-true, cond-false, true≢false, false≢true, eq-eqb, ne_eqb}
use Rattle.std.proofs.lemmas.Bool.Decides.{Decides-eqb}
use Rattle.std.proofs.lemmas.Slice.Eq.{strip_prefix_is}
use Rattle.html_safe_page.specs.SafePage.{attribute_start}
use Rattle.html_safe_page.specs.Reader.{strip, QuotedText, longer, before_quote}
use Rattle.html_safe_page.specs.Machine.{split_tag}
use Rattle.html_safe_page.proofs.Text.{split, strip_sound}
use Rattle.html_safe_page.proofs.Spelled.{strip_spelled}

-- ---- bytes up to one of a set

-- two parts of bytes, where the second begins with this byte
abbrev pub parts_by : ℕ → List ℕ → List ℕ → Option QuotedText
parts_by last inside [] = None
parts_by last inside (b ∷ bs) = cond (eqb b last) (Some (split inside bs)) None

longer_if : (t : Bool) (b : ℕ) (q : QuotedText) → cond t (Some (longer b q)) None ≡ option_map (longer b) (cond t (Some q) None)
longer_if true b q = refl
longer_if false b q = refl

parts_longer : (last b : ℕ) (inside rest : List ℕ) → parts_by last (b ∷ inside) rest ≡ option_map (longer b) (parts_by last inside rest)
parts_longer last b inside [] = refl
parts_longer last b inside (c ∷ cs) = longer_if (eqb c last) b (split inside cs)

-- a reader of bytes up to the last one of a part, which stops before others
module _ (f : List ℕ → Option QuotedText) (stop : ℕ → Bool) (last : ℕ)
    (none : f [] ≡ None)
    (ended : (b : ℕ) (bs : List ℕ) → eqb b last ≡ true → f (b ∷ bs) ≡ Some (split [] bs))
    (ends : (b : ℕ) → eqb b last ≡ true → stop b ≡ true)
    (stopped : (b : ℕ) (bs : List ℕ) → stop b ≡ true → eqb b last ≡ false → f (b ∷ bs) ≡ None)
    (passed : (b : ℕ) (bs : List ℕ) → stop b ≡ false → f (b ∷ bs) ≡ option_map (longer b) (f bs)) where
  parted : (bytes : List ℕ) → parts_by last (take (position_or_len stop bytes) bytes) (drop (position_or_len stop bytes) bytes) ≡ f bytes
  parted [] = sym none
  parted (b ∷ bs) =
      let n = position_or_len stop bs in
      let more : 1 + n ≡ suc n = omega arith in
      let at = λ (m : ℕ). parts_by last (take m (b ∷ bs)) (drop m (b ∷ bs)) in
      let first = λ (t : Bool). at (cond (not t) (1 + n) 0) in
      elim (cases_Bool (eqb b last)) [
        | inl e ↦ ap first (ends b e) ∙ cond-true (eqb b last) (Some (split [] bs)) None e ∙ sym (ended b bs e)
        | inr e ↦ elim (cases_Bool (stop b)) [
          | inl k ↦ ap first k ∙ cond-false (eqb b last) (Some (split [] bs)) None e ∙ sym (stopped b bs k e)
          | inr k ↦
              ap first k
              ∙ ap at more
              ∙ parts_longer last b (take n bs) (drop n bs)
              ∙ ap (option_map (longer b)) (parted bs)
              ∙ sym (passed b bs k)
        ]
      ]

no_left : (a b : Bool) → (a || b) ≡ false → a ≡ false
no_left true b h = absurd (true≢false h)
no_left false b h = refl

no_right : (a b : Bool) → (a || b) ≡ false → b ≡ false
no_right true b h = absurd (true≢false h)
no_right false b h = h

abbrev pub ends_tag : ℕ → Bool
ends_tag b = eqb b 62 || eqb b 60

abbrev pub is_quote : ℕ → Bool
is_quote b = eqb b 34 || eqb b 34

tag_parted : (bytes : List ℕ) → parts_by 62 (take (position_or_len ends_tag bytes) bytes) (drop (position_or_len ends_tag bytes) bytes) ≡ split_tag bytes
tag_parted bytes =
    parted split_tag ends_tag 62 refl
    (λ b bs e. cond-true (eqb b 62) (Some (split [] bs)) (cond (eqb b 60) None (option_map (longer b) (split_tag bs))) e)
    (λ b e. ap (λ x. x || eqb b 60) e)
    (λ b bs k e.
    cond-false (eqb b 62) (Some (split [] bs)) (cond (eqb b 60) None (option_map (longer b) (split_tag bs))) e
    ∙ cond-true (eqb b 60) None (option_map (longer b) (split_tag bs)) (sym (ap (λ x. x || eqb b 60) e) ∙ k))
    (λ b bs k.
    cond-false (eqb b 62) (Some (split [] bs)) (cond (eqb b 60) None (option_map (longer b) (split_tag bs))) (no_left (eqb b 62) (eqb b 60) k)
    ∙ cond-false (eqb b 60) None (option_map (longer b) (split_tag bs)) (no_right (eqb b 62) (eqb b 60) k))
    bytes

quote_parted : (bytes : List ℕ) → parts_by 34 (take (position_or_len is_quote bytes) bytes) (drop (position_or_len is_quote bytes) bytes) ≡ before_quote bytes
quote_parted bytes =
    parted before_quote is_quote 34 refl
    (λ b bs e. cond-true (eqb b 34) (Some (split [] bs)) (option_map (longer b) (before_quote bs)) e)
    (λ b e. ap (λ x. x || eqb b 34) e)
    (λ b bs k e. absurd (false≢true (sym (ap (λ x. x || x) e) ∙ k)))
    (λ b bs k. cond-false (eqb b 34) (Some (split [] bs)) (option_map (longer b) (before_quote bs)) (no_left (eqb b 34) (eqb b 34) k))
    bytes

both_parts : (last n m : ℕ) (bytes inside rest : List ℕ) → n ≡ m → inside ≡ take n bytes → rest ≡ drop n bytes
    → parts_by last inside rest ≡ parts_by last (take m bytes) (drop m bytes)
both_parts last n m bytes inside rest e h k =
    ap (λ x. parts_by last x rest) h
    ∙ ap (λ x. parts_by last (take n bytes) x) k
    ∙ ap (λ n. parts_by last (take n bytes) (drop n bytes)) e

pub tag_parts : (bytes inside rest : List ℕ) (n : ℕ) → n ≡ position_or_len ends_tag bytes → inside ≡ take n bytes → rest ≡ drop n bytes
    → parts_by 62 inside rest ≡ split_tag bytes
tag_parts bytes inside rest n e h k = both_parts 62 n (position_or_len ends_tag bytes) bytes inside rest e h k ∙ tag_parted bytes

pub quote_parts : (bytes inside rest : List ℕ) (n : ℕ) → n ≡ position_or_len is_quote bytes → inside ≡ take n bytes → rest ≡ drop n bytes
    → parts_by 34 inside rest ≡ before_quote bytes
quote_parts bytes inside rest n e h k = both_parts 34 n (position_or_len is_quote bytes) bytes inside rest e h k ∙ quote_parted bytes

pub parts_none : (last : ℕ) (inside rest : List ℕ) → length rest ≡ 0 → None ≡ parts_by last inside rest
parts_none last inside [] h = refl
parts_none last inside (b ∷ bs) h = absurd (omega (arith, h))

pub parts_other : (last b : ℕ) (inside rest after : List ℕ) → rest ≡ b ∷ after → (b ≡ last → ⊥) → None ≡ parts_by last inside rest
parts_other last b inside rest after e h =
    sym (ap (parts_by last inside) e ∙ cond-false (eqb b last) (Some (split inside after)) None (ne_eqb b last h))

pub parts_found : (last b : ℕ) (inside rest after : List ℕ) → rest ≡ b ∷ after → b ≡ last → Some (split inside after) ≡ parts_by last inside rest
parts_found last b inside rest after e h =
    sym (ap (parts_by last inside) e ∙ cond-true (eqb b last) (Some (split inside after)) None (eq-eqb b last h))

-- ---- what bytes begin with

no_rest : (prefix bytes : List ℕ) (o : Option (List ℕ)) → IfSome o (λ rest. prefix ++ rest ≡ bytes) → ((rest : List ℕ) → bytes ≡ prefix ++ rest → ⊥) → None ≡ o
no_rest prefix bytes None h k = refl
no_rest prefix bytes (Some rest) h k = absurd (k rest (sym h))

stripped : (prefix bytes : List ℕ) (r : Option (Bor (List ℕ))) → MatchOption r ((rest : List ℕ) → bytes ≡ prefix ++ rest → ⊥) (λ x. bytes ≡ prefix ++ x.now)
    → option_copied r ≡ strip prefix bytes
stripped prefix bytes None h = no_rest prefix bytes (strip prefix bytes) (strip_sound prefix bytes) h
stripped prefix bytes (Some x) h = sym (ap (strip prefix) h ∙ strip_spelled prefix x.now)

pub strip_is : (prefix bytes : List ℕ) (r : Option (Bor (List ℕ)))
    → MatchOption r (pointwise eqb (take (length prefix) bytes) prefix ≡ false) (λ x. (pointwise eqb (take (length prefix) bytes) prefix ≡ true)
    × (x.now ≡ drop (length prefix) bytes) × (length x.now + length prefix ≡ length bytes))
    → option_copied r ≡ strip prefix bytes
strip_is prefix bytes r h = stripped prefix bytes r (strip_prefix_is Decides-eqb bytes prefix r h)

strip_if : (t : Bool) (o : Option (List ℕ)) (f : List ℕ → Option (List ℕ)) → cond t (option_and_then f o) None ≡ option_and_then f (cond t o None)
strip_if true o f = refl
strip_if false o f = refl

strip_append : (a b bytes : List ℕ) → strip (a ++ b) bytes ≡ option_and_then (strip b) (strip a bytes)
strip_append [] b bytes = refl
strip_append (p ∷ ps) b [] = refl
strip_append (p ∷ ps) b (x ∷ xs) = ap (λ o. cond (eqb x p) o None) (strip_append ps b xs) ∙ strip_if (eqb x p) (strip ps xs) (strip b)

bind_assoc : (o : Option (List ℕ)) (f g : List ℕ → Option (List ℕ))
    → option_and_then (λ x. option_and_then g (f x)) o ≡ option_and_then g (option_and_then f o)
bind_assoc None f g = refl
bind_assoc (Some x) f g = refl

bind_same : (o : Option (List ℕ)) (f g : List ℕ → Option (List ℕ)) → ((x : List ℕ) → f x ≡ g x) → option_and_then f o ≡ option_and_then g o
bind_same None f g h = refl
bind_same (Some x) f g h = h x

pub start_is : (name bytes : List ℕ)
    → strip (attribute_start name) bytes ≡ option_and_then (strip (codes "=\"")) (option_and_then (strip name) (strip (codes " ") bytes))
start_is name bytes =
    let spaced = strip (codes " ") bytes in
    strip_append (codes " ") (name ++ codes "=\"") bytes
    ∙ bind_same spaced (strip (name ++ codes "=\"")) (λ x. option_and_then (strip (codes "=\"")) (strip name x)) (strip_append name (codes "=\""))
    ∙ bind_assoc spaced (strip name) (strip (codes "=\""))
