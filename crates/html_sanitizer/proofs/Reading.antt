-- Attributes as the code reads them.
use Rattle.std.proofs.Common.{◌≡◌, ℕ, suc, ◌+◌, ◌-◌, ◌<◌, ◌≤◌, Bool, true, false, not, ◌&&◌, cond, eqb, List, [], ◌∷◌, ◌++◌, Option, None, Some, codes}
use Rattle.std.proofs.Common.{length, take, drop}
use Rattle.std.proofs.Common.{Bor, ◌⊎◌, map, refl, sym, ap, ◌∙◌, subst, arith, inl, inr, get_or, append_assoc}
use Rattle.std.specs.List.{position_or_len, before_first, after_first, prefix_len, take_while}
use Rattle.std.specs.Option.{MatchOption, option_map}
use Rattle.std.specs.Str.{bytes_eq, IsCharBoundary, IsUtf8}
use Rattle.std.proofs.lemmas.Bool.{cases_Bool, cases_lt, cond-true, cond-false, eqb-true, eqb-false, ne_eqb}
use Rattle.std.proofs.lemmas.Bool.Decides.{nat_tests}
use Rattle.std.proofs.lemmas.Option.{none-some}
use Rattle.std.proofs.lemmas.List.Sums.{prefix_len-le-length, prefix_len_passes, prefix_len_stops}
use Rattle.std.proofs.lemmas.Str.{IsCharBoundary-start, IsCharBoundary-end, IsCharBoundary-before_ascii}
use Rattle.inline_links.proofs.Runs.{one_more}
use Rattle.inline_leaves.proofs.Codes.{boundary_after_byte}
use Rattle.definition_text.specs.Bytes.{begins_with, after_all, lower}
use Rattle.definition_text.specs.Content.{Part, part}
use Rattle.definition_inline.specs.CharacterReference.{Names}
use Rattle.definition_inline.specs.HtmlTags.{is_attribute_byte, is_tag_name_byte, is_tag_space, is_unquoted}
use Rattle.definition_inline.specs.HtmlText.{html_byte}
use Rattle.definition_html.specs.Attributes.{decoded, first_of}
use Rattle.html_sanitizer.specs.Attributes.{is_space_code, after_space, is_unquoted_code, ahead, quoted, unquoted, split_value, Attribute, attribute}
use Rattle.html_sanitizer.specs.Attributes.{SplitAttribute, split, with_value, named, split_attribute, part_of, read_attribute, first_value}
use Rattle.html_sanitizer.specs.Attributes.{attribute_start, cut_then, cut_from, cut, rest_then, rest_from, rest_after}
use Rattle.html_sanitizer.specs.Attributes.{attribute_of, attributes_of}
use Rattle.html_sanitizer.specs.declared.attributes.Written as code
use Rattle.html_sanitizer.proofs.Cutting.{html_own, start_shorter, split_shorter, cut_enough, rest_enough}

-- ---- where a text may be cut

AreCodes : List ℕ → Type 0
AreCodes xs = (k : ℕ) → get_or xs k 0 < 256

-- after bytes that pass a test that only ASCII passes
pub front_boundary : (p : ℕ → Bool) (xs : List ℕ) → ((b : ℕ) → p b ≡ true → b < 256 → b < 128) → ((k : ℕ) → get_or xs k 0 < 256) → IsUtf8 xs
    → IsCharBoundary xs (prefix_len p xs)
front_boundary p xs small bytes utf8 = elim (cases_Bool (eqb (prefix_len p xs) 0)) [
  | inl h ↦ subst (IsCharBoundary xs) (sym (eqb-true (prefix_len p xs) 0 h)) (IsCharBoundary-start xs utf8)
  | inr h ↦
      let n = prefix_len p xs in
      let apart = eqb-false n 0 h in
      let some : 0 < n = omega (arith, apart) in
      let le = prefix_len-le-length p xs in
      let passes = prefix_len_passes p xs (n - 1) 0 (omega arith) in
      boundary_after_byte xs n utf8 some le (small (get_or xs (n - 1) 0) passes (bytes (n - 1)))
]

-- before a byte that fails a test that all others pass
pub stop_boundary : (p : ℕ → Bool) (xs : List ℕ) → ((b : ℕ) → p b ≡ false → b < 256 → b < 128) → ((k : ℕ) → get_or xs k 0 < 256) → IsUtf8 xs
    → IsCharBoundary xs (prefix_len p xs)
stop_boundary p xs small bytes utf8 = elim (cases_lt (prefix_len p xs) (length xs)) [
  | inl lt ↦
      let n = prefix_len p xs in IsCharBoundary-before_ascii xs n lt (small (get_or xs n 0) (prefix_len_stops p xs 0 lt) (bytes n))
  | inr ge ↦
      let le = prefix_len-le-length p xs in
      let whole : length xs ≡ prefix_len p xs = omega arith in subst (IsCharBoundary xs) whole (IsCharBoundary-end xs)
]

-- a byte as it is read in a tag
html_cases : (b : ℕ) → b < 256 → (b < 128) ⊎ (html_byte b ≡ b)
html_cases b lt = elim (cases_Bool (eqb b 10)) [
  | inl h ↦ let e = eqb-true b 10 h in inl (omega arith)
  | inr no_feed ↦ elim (cases_Bool (eqb b 13)) [
    | inl h ↦ let e = eqb-true b 13 h in inl (omega arith)
    | inr no_return ↦ inr (html_own b ((eqb-false b 10 no_feed, eqb-false b 13 no_return), ((λ e. omega (arith, e)), (λ e. omega (arith, e)))))
  ]
]

white_small : (b : ℕ) → is_tag_space b ≡ true → b < 256 → b < 128
white_small b h lt = grind (arith, nat_tests)

other_small : (b : ℕ) → is_unquoted b ≡ false → b < 256 → b < 128
other_small b h lt = grind (arith, nat_tests)

pub space_small : (b : ℕ) → is_space_code b ≡ true → b < 256 → b < 128
space_small b h lt = elim (html_cases b lt) [
  | inl small ↦ small
  | inr own ↦ white_small b (ap is_tag_space (sym own) ∙ h) lt
]

pub unquoted_small : (b : ℕ) → is_unquoted_code b ≡ false → b < 256 → b < 128
unquoted_small b h lt = elim (html_cases b lt) [
  | inl small ↦ small
  | inr own ↦ other_small b (ap is_unquoted (sym own) ∙ h) lt
]

pub attribute_small : (b : ℕ) → is_attribute_byte b ≡ true → b < 256 → b < 128
attribute_small b h lt = grind (arith, nat_tests)

pub name_small : (b : ℕ) → is_tag_name_byte b ≡ true → b < 256 → b < 128
name_small b h lt = grind (arith, nat_tests)

-- ---- values

abbrev is_byte : ℕ → ℕ → Bool
is_byte q b = eqb b q

quoted_none : (q : ℕ) (bs : List ℕ) → position_or_len (λ b. eqb b q) bs ≡ length bs → quoted q bs ≡ None
quoted_none q [] h = refl
quoted_none q (b ∷ bs) h = elim (cases_Bool (eqb b q)) [
  | inl t ↦ absurd (omega (arith, sym (ap (λ t. cond (not t) (1 + position_or_len (λ b. eqb b q) bs) 0) t) ∙ h))
  | inr t ↦
      let more : 1 + position_or_len (λ b. eqb b q) bs ≡ length (b ∷ bs) = sym (ap (λ t. cond (not t) (1 + position_or_len (λ b. eqb b q) bs) 0) t) ∙ h in
      cond-false (eqb b q) (Some (part [] bs)) _ t ∙ ap (option_map (ahead b)) (quoted_none q bs (omega arith))
]

quoted_some : (q : ℕ) (bs : List ℕ) → position_or_len (λ b. eqb b q) bs < length bs
    → quoted q bs ≡ Some (part (before_first (λ b. eqb b q) bs) (after_first (λ b. eqb b q) bs))
quoted_some q [] h = absurd (omega arith)
quoted_some q (b ∷ bs) h = elim (cases_Bool (eqb b q)) [
  | inl t ↦
      let place : position_or_len (λ b. eqb b q) (b ∷ bs) ≡ 0 = ap (λ t. cond (not t) (1 + position_or_len (λ b. eqb b q) bs) 0) t in
      cond-true (eqb b q) (Some (part [] bs)) _ t
      ∙ ap (λ n. Some (part (take n (b ∷ bs)) (drop (n + 1) (b ∷ bs)))) (sym place)
  | inr t ↦
      let n = position_or_len (λ b. eqb b q) bs in
      let place : position_or_len (λ b. eqb b q) (b ∷ bs) ≡ suc n = ap (λ t. cond (not t) (1 + n) 0) t ∙ one_more n in
      let next : suc n + 1 ≡ suc (n + 1) = omega arith in
      cond-false (eqb b q) (Some (part [] bs)) _ t
      ∙ ap (option_map (ahead b)) (quoted_some q bs (omega (arith, place, h)))
      ∙ ap (λ k. Some (part (b ∷ take n bs) (drop k (b ∷ bs)))) (sym next)
      ∙ ap (λ k. Some (part (take k (b ∷ bs)) (drop (k + 1) (b ∷ bs)))) (sym place)
]

-- where `split_once` cuts
pub quoted_split : (q : ℕ) (bs : List ℕ) (r : Option (Bor (List ℕ) × Bor (List ℕ)))
    → MatchOption r (position_or_len (λ b. eqb b q) bs ≡ length bs)
    (λ x. (position_or_len (λ b. eqb b q) bs < length bs) × (x.0.now ≡ before_first (λ b. eqb b q) bs) × (x.1.now ≡ after_first (λ b. eqb b q) bs))
    → part_of r ≡ quoted q bs
quoted_split q bs None h = sym (quoted_none q bs h)
quoted_split q bs (Some x) h =
    ap (λ t. Some (part t x.1.now)) h.1 ∙ ap (λ t. Some (part (before_first (λ b. eqb b q) bs) t)) h.2 ∙ sym (quoted_some q bs h.0)

-- a value without quotes
pub value_other : (xs : List ℕ) (n : ℕ) → ((rest : List ℕ) → xs ≡ 34 ∷ rest → ⊥) → ((rest : List ℕ) → xs ≡ 39 ∷ rest → ⊥) → n ≡ prefix_len is_unquoted_code xs
    → split_value xs ≡ unquoted n xs
value_other [] n double single e = sym (ap (λ k. unquoted k []) e)
value_other (c ∷ cs) n double single e =
    cond-false (eqb c 34) (quoted 34 cs) _ (ne_eqb c 34 (λ is. double cs (ap (λ x. x ∷ cs) is)))
    ∙ cond-false (eqb c 39) (quoted 39 cs) _ (ne_eqb c 39 (λ is. single cs (ap (λ x. x ∷ cs) is)))
    ∙ ap (λ k. unquoted k (c ∷ cs)) (sym e)

-- ---- one attribute

no_equals : (xs : List ℕ) → ((rest : List ℕ) → xs ≡ 61 ∷ rest → ⊥) → begins_with (codes "=") xs ≡ false
no_equals [] h = refl
no_equals (c ∷ cs) h = ap (λ t. t && true) (ne_eqb 61 c (λ e. h cs (ap (λ x. x ∷ cs) (sym e))))

-- an attribute, by how its text is cut
pub record IsCutText (text name after spaced : List ℕ) : Type 0 where
  pub size : ℕ
  pub long : size ≡ prefix_len is_attribute_byte text
  pub is_name : name ≡ take size text
  pub is_after : after ≡ drop size text
  pub is_spaced : spaced ≡ after_space after

cut_named : (text name after spaced : List ℕ) → IsCutText text name after spaced → split_attribute text ≡ named name after spaced
cut_named text name after spaced cut =
    let is_name : take_while is_attribute_byte text ≡ name = ap (λ n. take n text) (sym cut.long) ∙ sym cut.is_name in
    let is_after : after_all is_attribute_byte text ≡ after = ap (λ n. drop n text) (sym cut.long) ∙ sym cut.is_after in
    ap (λ x. named x (after_all is_attribute_byte text) (after_space (after_all is_attribute_byte text))) is_name
    ∙ ap (λ x. named name x (after_space x)) is_after
    ∙ ap (named name after) (sym cut.is_spaced)

pub bare_attribute : (text name after spaced : List ℕ) → IsCutText text name after spaced → ((rest : List ℕ) → spaced ≡ 61 ∷ rest → ⊥)
    → Some (split (attribute name []) after) ≡ split_attribute text
bare_attribute text name after spaced cut h =
    sym (cut_named text name after spaced cut ∙ cond-false (begins_with (codes "=") spaced) _ _ (no_equals spaced h))

pub valued_attribute : (text name after spaced specified : List ℕ) (o : Option Part) → IsCutText text name after spaced → spaced ≡ 61 ∷ specified
    → o ≡ split_value (after_space specified) → option_map (with_value name) o ≡ split_attribute text
valued_attribute text name after spaced specified o cut h e =
    sym (cut_named text name after spaced cut ∙ ap (named name after) h ∙ ap (option_map (with_value name)) (sym e))

-- ---- the first of a name

pub first_read : (names : Names) (name : List ℕ) (items : List Attribute)
    → first_of name (map (read_attribute names) items) ≡ option_map (decoded names) (first_value name items)
first_read names name [] = refl
first_read names name (a ∷ items) = by_case (bytes_eq name (lower a.name)) (first_read names name items)
  where
    by_case : (t : Bool) → first_of name (map (read_attribute names) items) ≡ option_map (decoded names) (first_value name items)
        → cond t (Some (decoded names a.value)) (first_of name (map (read_attribute names) items))
        ≡ option_map (decoded names) (cond t (Some a.value) (first_value name items))
    by_case true e = refl
    by_case false e = e

-- ---- one more attribute

-- what was read of the attributes of a text, and what is left of it
pub one_read : (items : List Attribute) (rest start : List ℕ) (found : SplitAttribute) → attribute_start rest ≡ Some start → split_attribute start ≡ Some found
    → ((items ++ found.attribute ∷ []) ++ cut (length found.rest) found.rest ≡ items ++ cut (length rest) rest)
    × (rest_after (length found.rest) found.rest ≡ rest_after (length rest) rest)
one_read items [] start found s e = absurd (none-some start (sym no_start ∙ s))
  where
    no_start : attribute_start [] ≡ None
    no_start = refl
one_read items (c ∷ cs) start found s e =
    let rest = c ∷ cs in
    let shorter = start_shorter rest start s in
    let less = split_shorter start found e in
    let fuel : length found.rest ≤ length cs = omega arith in (
      append_assoc items (found.attribute ∷ []) (cut (length found.rest) found.rest)
          ∙ ap (λ x. items ++ found.attribute ∷ x) (cut_enough (length found.rest) (length cs) found.rest (omega arith) fuel)
          ∙ ap (λ o. items ++ cut_then o (cut (length cs))) (sym e)
          ∙ ap (λ o. items ++ cut_from o (cut (length cs))) (sym s),
      rest_enough (length found.rest) (length cs) found.rest (omega arith) fuel
          ∙ ap (λ o. rest_then o (rest_after (length cs))) (sym e)
          ∙ ap (λ o. rest_from rest o (rest_after (length cs))) (sym s),
    )

-- no attribute follows
pub none_read : (rest : List ℕ) → attribute_start rest ≡ None → (cut (length rest) rest ≡ []) × (rest_after (length rest) rest ≡ rest)
none_read [] s = (refl, refl)
none_read (c ∷ cs) s = (ap (λ o. cut_from o (cut (length cs))) s, ap (λ o. rest_from (c ∷ cs) o (rest_after (length cs))) s)

-- one without an end follows
pub broken_read : (rest start : List ℕ) → attribute_start rest ≡ Some start → split_attribute start ≡ None
    → (cut (length rest) rest ≡ []) × (rest_after (length rest) rest ≡ [])
broken_read [] start s e = absurd (none-some start s)
broken_read (c ∷ cs) start s e = (
  ap (λ o. cut_from o (cut (length cs))) s ∙ ap (λ o. cut_then o (cut (length cs))) e,
  ap (λ o. rest_from (c ∷ cs) o (rest_after (length cs))) s ∙ ap (λ o. rest_then o (rest_after (length cs))) e,
)

pub attributes_push : (items : List code.Written) (w : code.Written) → attributes_of (items ++ w ∷ []) ≡ attributes_of items ++ attribute_of w ∷ []
attributes_push [] w = refl
attributes_push (x ∷ xs) w = ap (λ l. attribute_of x ∷ l) (attributes_push xs w)
