-- A tag in codes and in bytes: where CR LF is one code and where it is two, the same attributes are read.
use Rattle.std.proofs.Common.{◌≡◌, ℕ, zero, suc, ◌+◌, Bool, true, false, not, ◌&&◌, cond, eqb, List, [], ◌∷◌, ◌++◌, Option, None, Some, codes, drop}
use Rattle.std.proofs.Common.{map, refl, sym, ap, ◌∙◌, subst, arith, inl, inr}
use Rattle.std.specs.List.{prefix_len, take_while}
use Rattle.std.specs.Option.{option_map}
use Rattle.std.proofs.lemmas.Bool.{cases_Bool, cond-true, cond-false, eqb-true, ne_eqb, and_parts, not-true}
use Rattle.std.proofs.lemmas.List.Sums.{take_while-cons}
use Rattle.inline_links.proofs.Runs.{one_more}
use Rattle.definition_text.specs.Bytes.{begins_with, after_all}
use Rattle.definition_text.specs.Columns.{Code}
use Rattle.definition_text.specs.Content.{Part, part}
use Rattle.definition_inline.specs.HtmlTags.{is_attribute_byte, begins_with_attribute}
use Rattle.definition_html.specs.Attributes.{code_bytes}
use Rattle.html_sanitizer.specs.Attributes.{is_space_code, after_space, is_unquoted_code, ahead, quoted, unquoted, split_value, Attribute, attribute}
use Rattle.html_sanitizer.specs.Attributes.{SplitAttribute, split, with_value, named, split_attribute, begins_with_space, attribute_start, cut_then, cut_from}
use Rattle.html_sanitizer.specs.Attributes.{cut}
use Rattle.html_sanitizer.specs.Attributes.{rest_then, rest_from, rest_after}

-- ---- one code

pub own_bytes : (c : Code) (cs : List Code) → eqb c 257 ≡ false → code_bytes (c ∷ cs) ≡ c ∷ code_bytes cs
own_bytes c cs h = ap (λ x. x ++ code_bytes cs) (cond-false (eqb c 257) (13 ∷ 10 ∷ []) (c ∷ []) h)

-- what holds of CR LF and of any other code
pub by_code : (P : List Code → Type 0) (c : Code) (cs : List Code) → P (257 ∷ cs) → (eqb c 257 ≡ false → P (c ∷ cs)) → P (c ∷ cs)
by_code P c cs two own = elim (cases_Bool (eqb c 257)) [
  | inl h ↦ subst (λ x. P (x ∷ cs)) (sym (eqb-true c 257 h)) two
  | inr h ↦ own h
]

-- ---- codes that pass a test, which is the same for all line endings

pub after_cons : (p : ℕ → Bool) (x : ℕ) (xs : List ℕ) → after_all p (x ∷ xs) ≡ cond (p x) (after_all p xs) (x ∷ xs)
after_cons p x xs = by_case (p x)
  where
    by_case : (t : Bool) → drop (cond t (1 + prefix_len p xs) 0) (x ∷ xs) ≡ cond t (drop (prefix_len p xs) xs) (x ∷ xs)
    by_case true = ap (λ k. drop k (x ∷ xs)) (one_more (prefix_len p xs))
    by_case false = refl

-- a test that CR LF passes as its bytes do
pub record IsEven (p : ℕ → Bool) : Type 0 where
  pub both : p 257 ≡ p 13
  pub feed : p 13 ≡ p 10

two_ways : (t : Bool) (a b c : List ℕ) (x y : List Code) → a ≡ code_bytes x → c ≡ code_bytes y → cond t (cond t a b) c ≡ code_bytes (cond t x y)
two_ways true a b c x y e f = e
two_ways false a b c x y e f = f

one_way : (t : Bool) (a c : List ℕ) (x y : List Code) → a ≡ code_bytes x → c ≡ code_bytes y → cond t a c ≡ code_bytes (cond t x y)
one_way true a c x y e f = e
one_way false a c x y e f = f

pub after_bytes : (p : ℕ → Bool) → IsEven p → (cs : List Code) → after_all p (code_bytes cs) ≡ code_bytes (after_all p cs)
after_bytes p even [] = refl
after_bytes p even (c ∷ cs) =
    let bs = code_bytes cs in
    let ih = after_bytes p even cs in
    by_code (λ x. after_all p (code_bytes x) ≡ code_bytes (after_all p x)) c cs
    (after_cons p 13 (10 ∷ bs)
    ∙ ap (λ x. cond (p 13) x (13 ∷ 10 ∷ bs)) (after_cons p 10 bs ∙ ap (λ t. cond t (after_all p bs) (10 ∷ bs)) (sym even.feed))
    ∙ two_ways (p 13) (after_all p bs) (10 ∷ bs) (13 ∷ 10 ∷ bs) (after_all p cs) (257 ∷ cs) ih refl
    ∙ ap code_bytes (ap (λ t. cond t (after_all p cs) (257 ∷ cs)) (sym even.both) ∙ sym (after_cons p 257 cs)))
    (λ h.
    let own = own_bytes c cs h in
    ap (after_all p) own ∙ after_cons p c bs
    ∙ one_way (p c) (after_all p bs) (c ∷ bs) (after_all p cs) (c ∷ cs) ih (sym own)
    ∙ ap code_bytes (sym (after_cons p c cs)))

two_while : (t : Bool) (a : List ℕ) (x : List Code) → a ≡ code_bytes x → cond t (13 ∷ cond t (10 ∷ a) []) [] ≡ code_bytes (cond t (257 ∷ x) [])
two_while true a x e = ap (λ y. 13 ∷ 10 ∷ y) e
two_while false a x e = refl

one_while : (t : Bool) (c : Code) (a : List ℕ) (x : List Code) → eqb c 257 ≡ false → a ≡ code_bytes x → cond t (c ∷ a) [] ≡ code_bytes (cond t (c ∷ x) [])
one_while true c a x h e = ap (λ y. c ∷ y) e ∙ sym (own_bytes c x h)
one_while false c a x h e = refl

while_bytes : (p : ℕ → Bool) → IsEven p → (cs : List Code) → take_while p (code_bytes cs) ≡ code_bytes (take_while p cs)
while_bytes p even [] = refl
while_bytes p even (c ∷ cs) =
    let bs = code_bytes cs in
    let ih = while_bytes p even cs in
    by_code (λ x. take_while p (code_bytes x) ≡ code_bytes (take_while p x)) c cs
    (take_while-cons p 13 (10 ∷ bs)
    ∙ ap (λ x. cond (p 13) (13 ∷ x) []) (take_while-cons p 10 bs ∙ ap (λ t. cond t (10 ∷ take_while p bs) []) (sym even.feed))
    ∙ two_while (p 13) (take_while p bs) (take_while p cs) ih
    ∙ ap code_bytes (ap (λ t. cond t (257 ∷ take_while p cs) []) (sym even.both) ∙ sym (take_while-cons p 257 cs)))
    (λ h.
    ap (take_while p) (own_bytes c cs h) ∙ take_while-cons p c bs
    ∙ one_while (p c) c (take_while p bs) (take_while p cs) h ih
    ∙ ap code_bytes (sym (take_while-cons p c cs)))

-- codes of a name, in which no line ending is
pub while_same : (p : ℕ → Bool) → p 257 ≡ false → p 13 ≡ false → (cs : List Code) → take_while p (code_bytes cs) ≡ take_while p cs
while_same p both return [] = refl
while_same p both return (c ∷ cs) =
    by_code (λ x. take_while p (code_bytes x) ≡ take_while p x) c cs
    (take_while-cons p 13 (10 ∷ code_bytes cs) ∙ cond-false (p 13) _ [] return ∙ sym (take_while-cons p 257 cs ∙ cond-false (p 257) _ [] both))
    (λ h.
    ap (take_while p) (own_bytes c cs h) ∙ take_while-cons p c (code_bytes cs)
    ∙ ap (λ x. cond (p c) (c ∷ x) []) (while_same p both return cs) ∙ sym (take_while-cons p c cs))

spaces_even : IsEven is_space_code
spaces_even = record { both = refl; feed = refl }

unquoted_even : IsEven is_unquoted_code
unquoted_even = record { both = refl; feed = refl }

names_even : IsEven is_attribute_byte
names_even = record { both = refl; feed = refl }

pub space_bytes : (cs : List Code) → after_space (code_bytes cs) ≡ code_bytes (after_space cs)
space_bytes cs = after_bytes is_space_code spaces_even cs

-- ---- what codes begin with

-- no line ending
abbrev pub is_ink : List ℕ → Bool
is_ink [] = true
is_ink (t ∷ ts) = (not (eqb t 13) && not (eqb t 257)) && is_ink ts

pub begins_bytes : (text : List ℕ) (cs : List Code) → is_ink text ≡ true → begins_with text (code_bytes cs) ≡ begins_with text cs
begins_bytes [] cs ink = refl
begins_bytes (t ∷ ts) [] ink = refl
begins_bytes (t ∷ ts) (c ∷ cs) ink =
    let parts = and_parts (not (eqb t 13) && not (eqb t 257)) (is_ink ts) ink in
    let no = and_parts (not (eqb t 13)) (not (eqb t 257)) parts.0 in
    by_code (λ x. begins_with (t ∷ ts) (code_bytes x) ≡ begins_with (t ∷ ts) x) c cs
    (ap (λ b. b && begins_with ts (10 ∷ code_bytes cs)) (not-true (eqb t 13) no.0) ∙ ap (λ b. b && begins_with ts cs) (sym (not-true (eqb t 257) no.1)))
    (λ h. ap (begins_with (t ∷ ts)) (own_bytes c cs h) ∙ ap (λ b. eqb t c && b) (begins_bytes ts cs parts.1))

-- after a code that isn't a line ending
pub drop_bytes : (t : ℕ) (cs : List Code) → eqb t 257 ≡ false → begins_with (t ∷ []) cs ≡ true → drop 1 (code_bytes cs) ≡ code_bytes (drop 1 cs)
drop_bytes t [] apart h = refl
drop_bytes t (c ∷ cs) apart h =
    let e = eqb-true t c (and_parts (eqb t c) true h).0 in
    ap (drop 1) (own_bytes c cs (ap (λ x. eqb x 257) (sym e) ∙ apart))

-- ---- values

abbrev part_bytes : Part → Part
part_bytes p = part (code_bytes p.text) (code_bytes p.rest)

ahead_two : (o : Option Part) → option_map (ahead 13) (option_map (ahead 10) (option_map part_bytes o)) ≡ option_map part_bytes (option_map (ahead 257) o)
ahead_two None = refl
ahead_two (Some p) = refl

ahead_one : (c : Code) (o : Option Part) → eqb c 257 ≡ false → option_map (ahead c) (option_map part_bytes o) ≡ option_map part_bytes (option_map (ahead c) o)
ahead_one c None h = refl
ahead_one c (Some p) h = ap (λ x. Some (part x (code_bytes p.rest))) (sym (own_bytes c p.text h))

quoted_bytes : (q : ℕ) (cs : List Code) → eqb 13 q ≡ false → eqb 10 q ≡ false → eqb 257 q ≡ false
    → quoted q (code_bytes cs) ≡ option_map part_bytes (quoted q cs)
quoted_bytes q [] r f b = refl
quoted_bytes q (c ∷ cs) r f b =
    let ih = quoted_bytes q cs r f b in
    let bs = code_bytes cs in
    by_code (λ x. quoted q (code_bytes x) ≡ option_map part_bytes (quoted q x)) c cs
    (cond-false (eqb 13 q) (Some (part [] (10 ∷ bs))) _ r
    ∙ ap (option_map (ahead 13)) (cond-false (eqb 10 q) (Some (part [] bs)) _ f ∙ ap (option_map (ahead 10)) ih)
    ∙ ahead_two (quoted q cs)
    ∙ ap (option_map part_bytes) (sym (cond-false (eqb 257 q) (Some (part [] cs)) _ b)))
    (λ h. ap (quoted q) (own_bytes c cs h) ∙ by_case (eqb c q) h ih)
  where
    by_case : (t : Bool) → eqb c 257 ≡ false → quoted q (code_bytes cs) ≡ option_map part_bytes (quoted q cs)
        → cond t (Some (part [] (code_bytes cs))) (option_map (ahead c) (quoted q (code_bytes cs)))
        ≡ option_map part_bytes (cond t (Some (part [] cs)) (option_map (ahead c) (quoted q cs)))
    by_case true h ih = refl
    by_case false h ih = ap (option_map (ahead c)) ih ∙ ahead_one c (quoted q cs) h

some_first : (p : ℕ → Bool) → IsEven p → (cs : List Code) → eqb (prefix_len p (code_bytes cs)) 0 ≡ eqb (prefix_len p cs) 0
some_first p even [] = refl
some_first p even (c ∷ cs) =
    by_code (λ x. eqb (prefix_len p (code_bytes x)) 0 ≡ eqb (prefix_len p x) 0) c cs
    (sized (p 13) (prefix_len p (10 ∷ code_bytes cs)) (prefix_len p cs) ∙ ap (λ t. eqb (cond t (1 + prefix_len p cs) 0) 0) (sym even.both))
    (λ h. ap (λ x. eqb (prefix_len p x) 0) (own_bytes c cs h) ∙ sized (p c) (prefix_len p (code_bytes cs)) (prefix_len p cs))
  where
    sized : (t : Bool) (m n : ℕ) → eqb (cond t (1 + m) 0) 0 ≡ eqb (cond t (1 + n) 0) 0
    sized true m n = ne_eqb (1 + m) 0 (λ e. omega (arith, e)) ∙ sym (ne_eqb (1 + n) 0 (λ e. omega (arith, e)))
    sized false m n = refl

unquoted_bytes : (cs : List Code)
    → unquoted (prefix_len is_unquoted_code (code_bytes cs)) (code_bytes cs) ≡ option_map part_bytes (unquoted (prefix_len is_unquoted_code cs) cs)
unquoted_bytes cs =
    ap (λ t. cond t None (Some (part (take_while is_unquoted_code (code_bytes cs)) (after_all is_unquoted_code (code_bytes cs)))))
    (some_first is_unquoted_code unquoted_even cs)
    ∙ ap (λ x. cond (eqb (prefix_len is_unquoted_code cs) 0) None (Some (part x (after_all is_unquoted_code (code_bytes cs)))))
    (while_bytes is_unquoted_code unquoted_even cs)
    ∙ ap (λ x. cond (eqb (prefix_len is_unquoted_code cs) 0) None (Some (part (code_bytes (take_while is_unquoted_code cs)) x)))
    (after_bytes is_unquoted_code unquoted_even cs)
    ∙ by_case (eqb (prefix_len is_unquoted_code cs) 0)
  where
    by_case : (t : Bool) → cond t None (Some (part (code_bytes (take_while is_unquoted_code cs)) (code_bytes (after_all is_unquoted_code cs))))
        ≡ option_map part_bytes (cond t None (Some (part (take_while is_unquoted_code cs) (after_all is_unquoted_code cs))))
    by_case true = refl
    by_case false = refl

value_bytes : (cs : List Code) → split_value (code_bytes cs) ≡ option_map part_bytes (split_value cs)
value_bytes [] = refl
value_bytes (c ∷ cs) =
    by_code (λ x. split_value (code_bytes x) ≡ option_map part_bytes (split_value x)) c cs
    (unquoted_bytes (257 ∷ cs))
    (λ h.
    let own = own_bytes c cs h in
    ap split_value own
    ∙ by_case (eqb c 34) (eqb c 39) (quoted_bytes 34 cs refl refl refl) (quoted_bytes 39 cs refl refl refl)
    (ap (λ x. unquoted (prefix_len is_unquoted_code x) x) (sym own) ∙ unquoted_bytes (c ∷ cs)))
  where
    by_case : (s t : Bool) → quoted 34 (code_bytes cs) ≡ option_map part_bytes (quoted 34 cs) → quoted 39 (code_bytes cs) ≡ option_map part_bytes (quoted 39 cs)
        → unquoted (prefix_len is_unquoted_code (c ∷ code_bytes cs)) (c ∷ code_bytes cs)
        ≡ option_map part_bytes (unquoted (prefix_len is_unquoted_code (c ∷ cs)) (c ∷ cs))
        → cond s (quoted 34 (code_bytes cs)) (cond t (quoted 39 (code_bytes cs))
        (unquoted (prefix_len is_unquoted_code (c ∷ code_bytes cs)) (c ∷ code_bytes cs)))
        ≡ option_map part_bytes (cond s (quoted 34 cs) (cond t (quoted 39 cs) (unquoted (prefix_len is_unquoted_code (c ∷ cs)) (c ∷ cs))))
    by_case true t e f g = e
    by_case false true e f g = f
    by_case false false e f g = g

-- ---- attributes

abbrev pub attribute_bytes : Attribute → Attribute
attribute_bytes a = attribute a.name (code_bytes a.value)

abbrev split_bytes : SplitAttribute → SplitAttribute
split_bytes found = split (attribute_bytes found.attribute) (code_bytes found.rest)

with_bytes : (name : List Code) (o : Option Part)
    → option_map (with_value name) (option_map part_bytes o) ≡ option_map split_bytes (option_map (with_value name) o)
with_bytes name None = refl
with_bytes name (Some p) = refl

named_bytes : (name after specified : List Code) → named name (code_bytes after) (code_bytes specified) ≡ option_map split_bytes (named name after specified)
named_bytes name after specified =
    ap (λ t. cond t (option_map (with_value name) (split_value (after_space (drop 1 (code_bytes specified)))))
    (Some (split (attribute name []) (code_bytes after)))) (begins_bytes (codes "=") specified refl)
    ∙ elim (cases_Bool (begins_with (codes "=") specified)) [
      | inl h ↦
          cond-true (begins_with (codes "=") specified) _ (Some (split (attribute name []) (code_bytes after))) h
          ∙ ap (λ x. option_map (with_value name) (split_value x)) (ap after_space (drop_bytes 61 specified refl h) ∙ space_bytes (drop 1 specified))
          ∙ ap (option_map (with_value name)) (value_bytes (after_space (drop 1 specified)))
          ∙ with_bytes name (split_value (after_space (drop 1 specified)))
          ∙ ap (option_map split_bytes) (sym (cond-true (begins_with (codes "=") specified)
          (option_map (with_value name) (split_value (after_space (drop 1 specified)))) (Some (split (attribute name []) after)) h))
      | inr h ↦
          cond-false (begins_with (codes "=") specified) _ (Some (split (attribute name []) (code_bytes after))) h
          ∙ ap (option_map split_bytes) (sym (cond-false (begins_with (codes "=") specified)
          (option_map (with_value name) (split_value (after_space (drop 1 specified)))) (Some (split (attribute name []) after)) h))
    ]

attribute_split : (cs : List Code) → split_attribute (code_bytes cs) ≡ option_map split_bytes (split_attribute cs)
attribute_split cs =
    let after = after_all is_attribute_byte cs in
    ap (λ x. named (take_while is_attribute_byte (code_bytes cs)) x (after_space x)) (after_bytes is_attribute_byte names_even cs)
    ∙ ap (λ x. named x (code_bytes after) (after_space (code_bytes after))) (while_same is_attribute_byte refl refl cs)
    ∙ ap (named (take_while is_attribute_byte cs) (code_bytes after)) (space_bytes after)
    ∙ named_bytes (take_while is_attribute_byte cs) after (after_space after)

space_first : (cs : List Code) → begins_with_space (code_bytes cs) ≡ begins_with_space cs
space_first [] = refl
space_first (c ∷ cs) = by_code (λ x. begins_with_space (code_bytes x) ≡ begins_with_space x) c cs refl (λ h. ap begins_with_space (own_bytes c cs h))

attribute_first : (cs : List Code) → begins_with_attribute (code_bytes cs) ≡ begins_with_attribute cs
attribute_first [] = refl
attribute_first (c ∷ cs) =
    by_code (λ x. begins_with_attribute (code_bytes x) ≡ begins_with_attribute x) c cs refl (λ h. ap begins_with_attribute (own_bytes c cs h))

start_bytes : (cs : List Code) → attribute_start (code_bytes cs) ≡ option_map code_bytes (attribute_start cs)
start_bytes cs =
    let start = after_space cs in
    ap (λ x. cond (begins_with_space (code_bytes cs) && begins_with_attribute x) (Some x) None) (space_bytes cs)
    ∙ ap (λ t. cond (t && begins_with_attribute (code_bytes start)) (Some (code_bytes start)) None) (space_first cs)
    ∙ ap (λ t. cond (begins_with_space cs && t) (Some (code_bytes start)) None) (attribute_first start)
    ∙ by_case (begins_with_space cs && begins_with_attribute start)
  where
    by_case : (t : Bool) → cond t (Some (code_bytes (after_space cs))) None ≡ option_map code_bytes (cond t (Some (after_space cs)) None)
    by_case true = refl
    by_case false = refl

then_bytes : (n : ℕ) (o : Option SplitAttribute) → ((cs : List Code) → cut n (code_bytes cs) ≡ map attribute_bytes (cut n cs))
    → cut_then (option_map split_bytes o) (cut n) ≡ map attribute_bytes (cut_then o (cut n))
then_bytes n None ih = refl
then_bytes n (Some found) ih = ap (λ x. attribute_bytes found.attribute ∷ x) (ih found.rest)

from_bytes : (n : ℕ) (o : Option (List Code)) → ((cs : List Code) → cut n (code_bytes cs) ≡ map attribute_bytes (cut n cs))
    → cut_from (option_map code_bytes o) (cut n) ≡ map attribute_bytes (cut_from o (cut n))
from_bytes n None ih = refl
from_bytes n (Some start) ih = ap (λ o. cut_then o (cut n)) (attribute_split start) ∙ then_bytes n (split_attribute start) ih

pub cut_bytes : (n : ℕ) (cs : List Code) → cut n (code_bytes cs) ≡ map attribute_bytes (cut n cs)
cut_bytes zero cs = refl
cut_bytes (suc n) cs = ap (λ o. cut_from o (cut n)) (start_bytes cs) ∙ from_bytes n (attribute_start cs) (cut_bytes n)

rest_then_bytes : (n : ℕ) (o : Option SplitAttribute) → ((cs : List Code) → rest_after n (code_bytes cs) ≡ code_bytes (rest_after n cs))
    → rest_then (option_map split_bytes o) (rest_after n) ≡ code_bytes (rest_then o (rest_after n))
rest_then_bytes n None ih = refl
rest_then_bytes n (Some found) ih = ih found.rest

rest_from_bytes : (n : ℕ) (cs : List Code) (o : Option (List Code)) → ((cs : List Code) → rest_after n (code_bytes cs) ≡ code_bytes (rest_after n cs))
    → rest_from (code_bytes cs) (option_map code_bytes o) (rest_after n) ≡ code_bytes (rest_from cs o (rest_after n))
rest_from_bytes n cs None ih = refl
rest_from_bytes n cs (Some start) ih = ap (λ o. rest_then o (rest_after n)) (attribute_split start) ∙ rest_then_bytes n (split_attribute start) ih

pub rest_bytes : (n : ℕ) (cs : List Code) → rest_after n (code_bytes cs) ≡ code_bytes (rest_after n cs)
rest_bytes zero cs = refl
rest_bytes (suc n) cs = ap (λ o. rest_from (code_bytes cs) o (rest_after n)) (start_bytes cs) ∙ rest_from_bytes n cs (attribute_start cs) (rest_bytes n)
