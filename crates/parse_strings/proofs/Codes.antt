-- Bytes are cut where their codes are (CommonMark 2.1).
use Rattle.std.proofs.Common.{◌≡◌, ℕ, Bool, true, false, eqb, List, [], ◌∷◌, ◌++◌, inl, inr, refl, sym, ap, ap₂, ◌∙◌, drop, arith}
use Rattle.parse_strings.proofs.Prelude.{append-nil, at_return, cases_Bool, cond-false, cond-true, content_codes, ends_line, eqb-false, eqb-true, is_eol}
use Rattle.parse_strings.proofs.Prelude.{list_any, ne_eqb, or_from, or_parts, plain_code, true≢false}

abbrev pub begins_feed : List ℕ → Bool
begins_feed [] = false
begins_feed (b ∷ bs) = eqb b 10

-- CR and LF are one code
pub feed_codes : (b d : ℕ) (xs : List ℕ) → eqb b 13 ≡ true → eqb d 10 ≡ true → content_codes (b ∷ d ∷ xs) ≡ 257 ∷ content_codes xs
feed_codes b d xs is feed =
    let ten = eqb-true d 10 feed in
    let next : content_codes (d ∷ xs) ≡ d ∷ content_codes xs = cond-false (eqb d 13) _ _ (ne_eqb d 13 (λ e. omega (arith, e, ten))) in
    cond-true (eqb b 13) _ _ is ∙ cond-true (eqb d 10) _ _ feed ∙ ap (λ x. 257 ∷ drop 1 x) next

-- CR without LF after it is one, too
pub alone_codes : (b : ℕ) (xs : List ℕ) → eqb b 13 ≡ true → begins_feed xs ≡ false → content_codes (b ∷ xs) ≡ 13 ∷ content_codes xs
alone_codes b [] is none = cond-true (eqb b 13) _ _ is
alone_codes b (d ∷ ds) is none = cond-true (eqb b 13) _ _ is ∙ cond-false (eqb d 10) _ _ none

-- bytes in two parts, whose codes are these
pub record CodesSplit (p q xs : List ℕ) : Type 0 where
  pub front : List ℕ
  pub after : List ℕ
  pub parts : xs ≡ front ++ after
  pub first : content_codes front ≡ p
  pub last : content_codes after ≡ q

none_both : (p q : List ℕ) → [] ≡ p ++ q → (p ≡ []) × (q ≡ [])
none_both [] q e = (refl, sym e)
none_both (x ∷ p) q e = cc

front_feed : (front after xs : List ℕ) → xs ≡ front ++ after → begins_feed xs ≡ false → begins_feed front ≡ false
front_feed [] after xs e h = refl
front_feed (x ∷ front) after xs e h = ap begins_feed (sym e) ∙ h

split_last : (b c : ℕ) (p q : List ℕ) → content_codes (b ∷ []) ≡ c ∷ (p ++ q) → [] ≡ p ++ q → CodesSplit (c ∷ p) q (b ∷ [])
split_last b c p q e none =
    let are = none_both p q none in
    record {
      front = b ∷ [];
      after = [];
      parts = refl;
      first = e ∙ ap (λ r. c ∷ (p ++ r)) are.1 ∙ append-nil (c ∷ p);
      last = sym are.1;
    }

pub codes_split : (p q xs : List ℕ) → content_codes xs ≡ p ++ q → CodesSplit p q xs
codes_split [] q xs e = record { front = []; after = xs; parts = refl; first = refl; last = e }
codes_split (c ∷ p) q [] e = cc
codes_split (c ∷ p) q (b ∷ []) e = elim (cases_Bool (eqb b 13)) [
  | inl h ↦
      let is : 13 ∷ [] ≡ c ∷ (p ++ q) = sym (alone_codes b [] h refl) ∙ e in
      let none : [] ≡ p ++ q = cc in
      split_last b c p q e none
  | inr h ↦
      let is : b ∷ [] ≡ c ∷ (p ++ q) = sym (cond-false (eqb b 13) _ _ h) ∙ e in
      let none : [] ≡ p ++ q = cc in
      split_last b c p q e none
]
codes_split (c ∷ p) q (b ∷ d ∷ ds) e = elim (cases_Bool (eqb b 13)) [
  | inl h ↦ elim (cases_Bool (eqb d 10)) [
    | inl feed ↦
        let is : 257 ∷ content_codes ds ≡ c ∷ (p ++ q) = sym (feed_codes b d ds h feed) ∙ e in
        let head : 257 ≡ c = cc in
        let tail : content_codes ds ≡ p ++ q = cc in
        let more = codes_split p q ds tail in
        record {
          front = b ∷ d ∷ more.front;
          after = more.after;
          parts = ap (λ x. b ∷ d ∷ x) more.parts;
          first = feed_codes b d more.front h feed ∙ ap₂ (λ x xs. x ∷ xs) head more.first;
          last = more.last;
        }
    | inr alone ↦
        let is : 13 ∷ content_codes (d ∷ ds) ≡ c ∷ (p ++ q) = sym (alone_codes b (d ∷ ds) h alone) ∙ e in
        let head : 13 ≡ c = cc in
        let tail : content_codes (d ∷ ds) ≡ p ++ q = cc in
        let more = codes_split p q (d ∷ ds) tail in
        record {
          front = b ∷ more.front;
          after = more.after;
          parts = ap (λ x. b ∷ x) more.parts;
          first =
              alone_codes b more.front h (front_feed more.front more.after (d ∷ ds) more.parts alone) ∙ ap₂ (λ x xs. x ∷ xs) head more.first;
          last = more.last;
        }
  ]
  | inr h ↦
      let is : b ∷ content_codes (d ∷ ds) ≡ c ∷ (p ++ q) = sym (cond-false (eqb b 13) _ _ h) ∙ e in
      let head : b ≡ c = cc in
      let tail : content_codes (d ∷ ds) ≡ p ++ q = cc in
      let more = codes_split p q (d ∷ ds) tail in
      record {
        front = b ∷ more.front;
        after = more.after;
        parts = ap (λ x. b ∷ x) more.parts;
        first = cond-false (eqb b 13) _ _ h ∙ ap₂ (λ x xs. x ∷ xs) head more.first;
        last = more.last;
      }
]

-- codes without a line ending are bytes
pub line_bytes : (xs : List ℕ) → list_any is_eol (content_codes xs) ≡ false → content_codes xs ≡ xs
line_bytes [] h = refl
line_bytes (b ∷ bs) h = elim (cases_Bool (eqb b 13)) [
  | inl is ↦
      let ends : list_any is_eol (content_codes (13 ∷ bs)) ≡ true = at_return (list_any is_eol) true bs (λ cs. refl) (λ cs. refl) in
      absurd (true≢false (sym ends ∙ ap (λ x. list_any is_eol (content_codes (x ∷ bs))) (sym (eqb-true b 13 is)) ∙ h))
  | inr other ↦
      let plain = plain_code b bs (eqb-false b 13 other) in
      let later = or_parts (is_eol b) (list_any is_eol (content_codes bs)) (ap (list_any is_eol) (sym plain) ∙ h) in
      plain ∙ ap (λ x. b ∷ x) (line_bytes bs later.1)
]

-- no byte of a line ends it
pub no_ends : (xs : List ℕ) → list_any is_eol xs ≡ false → list_any ends_line xs ≡ false
no_ends [] h = refl
no_ends (b ∷ bs) h =
    let are = or_parts (is_eol b) (list_any is_eol bs) h in
    or_from (ends_line b) (list_any ends_line bs) (or_parts (ends_line b) (eqb b 257) are.0).0 (no_ends bs are.1)
