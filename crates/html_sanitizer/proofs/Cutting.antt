-- Attributes cut from left to right are those of the definition, which cuts them by their places.
use Rattle.std.proofs.Common.{◌≡◌, ℕ, zero, suc, ◌+◌, ◌-◌, ◌<◌, ◌≤◌, Bool, true, false, ◌&&◌, ◌||◌, cond, eqb, List, [], ◌∷◌, ◌++◌, Option, None, Some, codes}
use Rattle.std.proofs.Common.{length, take, drop}
use Rattle.std.proofs.Common.{map, refl, sym, ap, ◌∙◌, arith, inl, inr, append_assoc}
use Rattle.std.specs.Prelude.{unwrap_or}
use Rattle.std.specs.List.{prefix_len, take_while}
use Rattle.std.specs.Option.{option_map}
use Rattle.std.proofs.lemmas.Bool.{cases_Bool, cond-true, cond-false, eqb-true, eqb-false, eq-eqb, ne_eqb, or_from, and_parts, false≢true}
use Rattle.std.proofs.lemmas.List.{drop-drop, length-drop, length-map, drop_at, take_at, length-append}
use Rattle.std.proofs.lemmas.List.Sums.{take_while-cons, prefix_len-le-length}
use Rattle.std.proofs.lemmas.Bool.Decides.{nat_tests}
use Rattle.inline_links.proofs.Runs.{one_more}
use Rattle.definition_text.specs.Bytes.{begins_with, after_all, lower}
use Rattle.definition_text.specs.Columns.{Code}
use Rattle.definition_text.specs.Content.{Part, part}
use Rattle.definition_inline.specs.CharacterReference.{Names}
use Rattle.definition_inline.specs.HtmlTags.{begins_attribute, is_attribute_byte, is_tag_space, is_unquoted, tag_space, begins_with_tag_space}
use Rattle.definition_inline.specs.HtmlTags.{begins_with_attribute, quoted_value, unquoted_value, value, value_or, specification, has_attribute, attributes}
use Rattle.definition_inline.specs.HtmlTags.{attribute as after_attribute, then_part}
use Rattle.definition_inline.specs.HtmlText.{html_byte}
use Rattle.definition_html.specs.Attributes.{tag_bytes, decoded, codes_at, is_quote, without_quotes, value_codes, written_attribute, with_others, written}
use Rattle.html_sanitizer.specs.Attributes.{is_space_code, after_space, is_unquoted_code, ahead, quoted, unquoted, split_value, attribute}
use Rattle.html_sanitizer.specs.Attributes.{SplitAttribute, split, with_value, named, split_attribute, begins_with_space, attribute_start, cut_then, cut_from}
use Rattle.html_sanitizer.specs.Attributes.{cut}
use Rattle.html_sanitizer.specs.Attributes.{rest_then, rest_from, rest_after, read_attribute}
use Rattle.html_sanitizer.proofs.Codes.{after_cons}

-- ---- codes as the grammar reads them

-- codes that a test passes, after the grammar's bytes are made of them
after_html : (p : ℕ → Bool) (l : List Code) → after_all p (tag_bytes l) ≡ tag_bytes (after_all (λ c. p (html_byte c)) l)
after_html p [] = refl
after_html p (c ∷ cs) =
    after_cons p (html_byte c) (tag_bytes cs) ∙ by_case (p (html_byte c)) (after_html p cs) ∙ ap tag_bytes (sym (after_cons (λ c. p (html_byte c)) c cs))
  where
    by_case : (t : Bool) → after_all p (tag_bytes cs) ≡ tag_bytes (after_all (λ c. p (html_byte c)) cs)
        → cond t (after_all p (tag_bytes cs)) (tag_bytes (c ∷ cs)) ≡ tag_bytes (cond t (after_all (λ c. p (html_byte c)) cs) (c ∷ cs))
    by_case true e = e
    by_case false e = refl

pub space_html : (l : List Code) → tag_space (tag_bytes l) ≡ tag_bytes (after_space l)
space_html l = after_html is_tag_space l

-- a code that is no line ending and no column of a tab is its byte
pub html_own : (c : Code) → ((c ≡ 10 → ⊥) × (c ≡ 13 → ⊥)) × ((c ≡ 257 → ⊥) × (c ≡ 256 → ⊥)) → html_byte c ≡ c
html_own c h =
    let a = h.0.0 in
    let b = h.0.1 in
    let d = h.1.0 in
    let e = h.1.1 in
    cond-false ((eqb c 10 || eqb c 13) || eqb c 257) 10 _ (or_from (eqb c 10 || eqb c 13) (eqb c 257)
    (or_from (eqb c 10) (eqb c 13) (ne_eqb c 10 a) (ne_eqb c 13 b)) (ne_eqb c 257 d))
    ∙ cond-false (eqb c 256) 32 c (ne_eqb c 256 e)

-- a test that no such code passes
pub record IsOwn (p : ℕ → Bool) : Type 0 where
  pub feed : p 10 ≡ false
  pub return : p 13 ≡ false
  pub both : p 257 ≡ false
  pub column : p 256 ≡ false
  pub space : p 32 ≡ false

-- it passes a code as its byte
own_case : (p : ℕ → Bool) → IsOwn p → (c : Code) → (p (html_byte c) ≡ p c) × (p c ≡ true → html_byte c ≡ c)
own_case p own c = elim (cases_Bool (eqb c 10)) [
  | inl h ↦ at_code 10 (eqb-true c 10 h) (own.feed ∙ sym own.feed) own.feed
  | inr no_feed ↦ elim (cases_Bool (eqb c 13)) [
    | inl h ↦ at_code 13 (eqb-true c 13 h) (own.feed ∙ sym own.return) own.return
    | inr no_return ↦ elim (cases_Bool (eqb c 257)) [
      | inl h ↦ at_code 257 (eqb-true c 257 h) (own.feed ∙ sym own.both) own.both
      | inr no_both ↦ elim (cases_Bool (eqb c 256)) [
        | inl h ↦ at_code 256 (eqb-true c 256 h) (own.space ∙ sym own.column) own.column
        | inr no_column ↦
            let same = html_own c ((eqb-false c 10 no_feed, eqb-false c 13 no_return), (eqb-false c 257 no_both, eqb-false c 256 no_column)) in
            (ap p same, λ h. same)
      ]
    ]
  ]
]
  where
    at_code : (d : Code) → c ≡ d → p (html_byte d) ≡ p d → p d ≡ false → (p (html_byte c) ≡ p c) × (p c ≡ true → html_byte c ≡ c)
    at_code d e same fails =
        (ap (λ x. p (html_byte x)) e ∙ same ∙ ap p (sym e), λ h. absurd (false≢true (sym fails ∙ ap p (sym e) ∙ h)))

pub same_html : (p : ℕ → Bool) → IsOwn p → (c : Code) → p (html_byte c) ≡ p c
same_html p own c = (own_case p own c).0

pub after_own : (p : ℕ → Bool) → IsOwn p → (l : List Code) → after_all p (tag_bytes l) ≡ tag_bytes (after_all p l)
after_own p own [] = refl
after_own p own (c ∷ cs) =
    after_cons p (html_byte c) (tag_bytes cs)
    ∙ ap (λ t. cond t (after_all p (tag_bytes cs)) (tag_bytes (c ∷ cs))) (same_html p own c)
    ∙ by_case (p c) (after_own p own cs) ∙ ap tag_bytes (sym (after_cons p c cs))
  where
    by_case : (t : Bool) → after_all p (tag_bytes cs) ≡ tag_bytes (after_all p cs)
        → cond t (after_all p (tag_bytes cs)) (tag_bytes (c ∷ cs)) ≡ tag_bytes (cond t (after_all p cs) (c ∷ cs))
    by_case true e = e
    by_case false e = refl

pub while_own : (p : ℕ → Bool) → IsOwn p → (l : List Code) → take_while p (tag_bytes l) ≡ take_while p l
while_own p own [] = refl
while_own p own (c ∷ cs) =
    take_while-cons p (html_byte c) (tag_bytes cs)
    ∙ ap (λ t. cond t (html_byte c ∷ take_while p (tag_bytes cs)) []) (same_html p own c)
    ∙ ap (λ x. cond (p c) (html_byte c ∷ x) []) (while_own p own cs)
    ∙ by_case (p c) (own_case p own c).1
    ∙ sym (take_while-cons p c cs)
  where
    by_case : (t : Bool) → (t ≡ true → html_byte c ≡ c) → cond t (html_byte c ∷ take_while p cs) [] ≡ cond t (c ∷ take_while p cs) []
    by_case true e = ap (λ x. x ∷ take_while p cs) (e refl)
    by_case false e = refl

names_own : IsOwn is_attribute_byte
names_own = record { feed = refl; return = refl; both = refl; column = refl; space = refl }

starts_own : IsOwn begins_attribute
starts_own = record { feed = refl; return = refl; both = refl; column = refl; space = refl }

-- a code is told by its byte
pub is_html : (t : ℕ) (c : Code) → (eqb t 10 ≡ false) × (eqb t 32 ≡ false) → (eqb t 13 ≡ false) × ((eqb t 257 ≡ false) × (eqb t 256 ≡ false))
    → eqb t (html_byte c) ≡ eqb t c
is_html t c a b = same_html (eqb t) (record { feed = a.0; return = b.0; both = b.1.0; column = b.1.1; space = a.1 }) c

is_byte : (t : ℕ) (c : Code) → (eqb 10 t ≡ false) × (eqb 32 t ≡ false) → (eqb 13 t ≡ false) × ((eqb 257 t ≡ false) × (eqb 256 t ≡ false))
    → eqb (html_byte c) t ≡ eqb c t
is_byte t c a b = same_html (λ x. eqb x t) (record { feed = a.0; return = b.0; both = b.1.0; column = b.1.1; space = a.1 }) c

-- ---- values

quoted_html : (q : ℕ) (cs : List Code) → (eqb 10 q ≡ false) × (eqb 32 q ≡ false) → (eqb 13 q ≡ false) × ((eqb 257 q ≡ false) × (eqb 256 q ≡ false))
    → quoted_value q (tag_bytes cs) ≡ option_map (λ (p : Part). tag_bytes p.rest) (quoted q cs)
quoted_html q [] a b = refl
quoted_html q (c ∷ cs) a b =
    ap (λ t. cond t (Some (tag_bytes cs)) (quoted_value q (tag_bytes cs))) (is_byte q c a b)
    ∙ ap (λ x. cond (eqb c q) (Some (tag_bytes cs)) x) (quoted_html q cs a b)
    ∙ by_case (eqb c q) (quoted q cs)
  where
    by_case : (t : Bool) (o : Option Part) → cond t (Some (tag_bytes cs)) (option_map (λ (p : Part). tag_bytes p.rest) o)
        ≡ option_map (λ (p : Part). tag_bytes p.rest) (cond t (Some (part [] cs)) (option_map (ahead c) o))
    by_case true o = refl
    by_case false None = refl
    by_case false (Some p) = refl

unquoted_html : (c : Code) (cs : List Code)
    → unquoted_value (tag_bytes (c ∷ cs)) ≡ option_map (λ (p : Part). tag_bytes p.rest) (unquoted (prefix_len is_unquoted_code (c ∷ cs)) (c ∷ cs))
unquoted_html c cs =
    ap (λ x. cond (is_unquoted (html_byte c)) (Some x) None) (after_html is_unquoted cs)
    ∙ by_case (is_unquoted (html_byte c))
  where
    by_case : (t : Bool) → cond t (Some (tag_bytes (after_all is_unquoted_code cs))) None
        ≡ option_map (λ (p : Part). tag_bytes p.rest) (unquoted (cond t (1 + prefix_len is_unquoted_code cs) 0) (c ∷ cs))
    by_case true =
        let m = prefix_len is_unquoted_code cs in
        sym (ap (option_map (λ (p : Part). tag_bytes p.rest)) (ap (λ n. unquoted n (c ∷ cs)) (one_more m)
        ∙ cond-false (eqb (suc m) 0) None (Some (part (take (suc m) (c ∷ cs)) (drop (suc m) (c ∷ cs)))) (ne_eqb (suc m) 0 (λ e. omega (arith, e)))))
    by_case false = refl

value_html : (l : List Code) → value (tag_bytes l) ≡ option_map (λ (p : Part). tag_bytes p.rest) (split_value l)
value_html [] = refl
value_html (c ∷ cs) =
    ap (λ t. cond t (quoted_value 34 (tag_bytes cs)) (cond (eqb (html_byte c) 39) (quoted_value 39 (tag_bytes cs)) (unquoted_value (tag_bytes (c ∷ cs)))))
    (is_byte 34 c (refl, refl) (refl, (refl, refl)))
    ∙ ap (λ t. cond (eqb c 34) (quoted_value 34 (tag_bytes cs)) (cond t (quoted_value 39 (tag_bytes cs)) (unquoted_value (tag_bytes (c ∷ cs)))))
    (is_byte 39 c (refl, refl) (refl, (refl, refl)))
    ∙ by_case (eqb c 34) (eqb c 39)
    (quoted_html 34 cs (refl, refl) (refl, (refl, refl))) (quoted_html 39 cs (refl, refl) (refl, (refl, refl))) (unquoted_html c cs)
  where
    by_case : (s t : Bool) → quoted_value 34 (tag_bytes cs) ≡ option_map (λ (p : Part). tag_bytes p.rest) (quoted 34 cs)
        → quoted_value 39 (tag_bytes cs) ≡ option_map (λ (p : Part). tag_bytes p.rest) (quoted 39 cs)
        → unquoted_value (tag_bytes (c ∷ cs)) ≡ option_map (λ (p : Part). tag_bytes p.rest) (unquoted (prefix_len is_unquoted_code (c ∷ cs)) (c ∷ cs))
        → cond s (quoted_value 34 (tag_bytes cs)) (cond t (quoted_value 39 (tag_bytes cs)) (unquoted_value (tag_bytes (c ∷ cs))))
        ≡ option_map (λ (p : Part). tag_bytes p.rest)
        (cond s (quoted 34 cs) (cond t (quoted 39 cs) (unquoted (prefix_len is_unquoted_code (c ∷ cs)) (c ∷ cs))))
    by_case true t e f g = e
    by_case false true e f g = f
    by_case false false e f g = g

-- how a value is cut from its codes
record IsCutValue (l : List Code) (p : Part) : Type 0 where
  size : ℕ
  rest : p.rest ≡ drop size l
  text : without_quotes (take (length l - length p.rest) l) ≡ p.text

-- a text up to a quote
record IsQuoted (q : ℕ) (cs : List Code) (p : Part) : Type 0 where
  whole : cs ≡ p.text ++ q ∷ p.rest

quoted_whole : (q : ℕ) (cs : List Code) (p : Part) → quoted q cs ≡ Some p → IsQuoted q cs p
quoted_whole q [] p h = cc
quoted_whole q (c ∷ cs) p h = elim (cases_Bool (eqb c q)) [
  | inl t ↦
      let is : Some (part [] cs) ≡ Some p = sym (cond-true (eqb c q) (Some (part [] cs)) (option_map (ahead c) (quoted q cs)) t) ∙ h in
      let same : part [] cs ≡ p = cc in
      record { whole = ap (λ x. x ∷ cs) (eqb-true c q t) ∙ ap (λ (x : Part). x.text ++ q ∷ x.rest) same }
  | inr t ↦ with_rest (quoted_whole q cs) (quoted q cs) refl (sym (cond-false (eqb c q) (Some (part [] cs)) (option_map (ahead c) (quoted q cs)) t) ∙ h)
]
  where
    with_rest : ((r : Part) → quoted q cs ≡ Some r → IsQuoted q cs r) → (o : Option Part) → quoted q cs ≡ o → option_map (ahead c) o ≡ Some p
        → IsQuoted q (c ∷ cs) p
    with_rest ih None e k = cc
    with_rest ih (Some r) e k =
        let same : ahead c r ≡ p = cc in
        let inner = ih r e in
        record { whole = ap (λ x. c ∷ x) inner.whole ∙ ap (λ (x : Part). x.text ++ q ∷ x.rest) same }

quoted_cut : (q c : Code) (cs : List Code) (p : Part) → is_quote c ≡ true → cs ≡ p.text ++ q ∷ p.rest → IsCutValue (c ∷ cs) p
quoted_cut q c cs p quote whole =
    let front = p.text ++ q ∷ [] in
    let all : cs ≡ front ++ p.rest = whole ∙ sym (append_assoc p.text (q ∷ []) p.rest) in
    let sizes : length cs ≡ length front + length p.rest = ap length all ∙ length-append front p.rest in
    let one : length front ≡ length p.text + 1 = length-append p.text (q ∷ []) in
    let size : length (c ∷ cs) - length p.rest ≡ suc (length front) = omega arith in
    let last : length front - 1 ≡ length p.text = omega arith in
    record {
      size = suc (length front);
      rest = sym (ap (drop (length front)) all ∙ drop_at front p.rest (length front) refl);
      text =
          ap (λ k. without_quotes (take k (c ∷ cs))) size
          ∙ ap (λ x. without_quotes (c ∷ x)) (ap (take (length front)) all ∙ take_at front p.rest (length front) refl)
          ∙ cond-true (is_quote c) (take (length front - 1) front) (c ∷ front) quote
          ∙ ap (λ k. take k front) last ∙ take_at p.text (q ∷ []) (length p.text) refl;
    }

kept_first : (n : ℕ) (c : Code) (cs : List Code) → is_quote c ≡ false → without_quotes (take n (c ∷ cs)) ≡ take n (c ∷ cs)
kept_first zero c cs h = refl
kept_first (suc n) c cs h = cond-false (is_quote c) _ (c ∷ take n cs) h

unquoted_cut : (n : ℕ) (c : Code) (cs : List Code) (p : Part) → n ≤ length (c ∷ cs) → is_quote c ≡ false → unquoted n (c ∷ cs) ≡ Some p → IsCutValue (c ∷ cs) p
unquoted_cut n c cs p le quote h = elim (cases_Bool (eqb n 0)) [
  | inl t ↦ let none : None ≡ Some p = sym (cond-true (eqb n 0) None (Some (part (take n (c ∷ cs)) (drop n (c ∷ cs)))) t) ∙ h in cc
  | inr t ↦
      let some : Some (part (take n (c ∷ cs)) (drop n (c ∷ cs))) ≡ Some p =
      sym (cond-false (eqb n 0) None (Some (part (take n (c ∷ cs)) (drop n (c ∷ cs)))) t) ∙ h in
      let is : part (take n (c ∷ cs)) (drop n (c ∷ cs)) ≡ p = cc in
      let rest : drop n (c ∷ cs) ≡ p.rest = ap (λ (x : Part). x.rest) is in
      let short : length p.rest ≡ length (c ∷ cs) - n = sym (ap length rest) ∙ length-drop n (c ∷ cs) in
      let size : length (c ∷ cs) - length p.rest ≡ n = omega arith in
      record {
        size = n;
        rest = sym rest;
        text = ap (λ k. without_quotes (take k (c ∷ cs))) size ∙ kept_first n c cs quote ∙ ap (λ (x : Part). x.text) is;
      }
]

value_cut : (l : List Code) (p : Part) → split_value l ≡ Some p → IsCutValue l p
value_cut [] p h = cc
value_cut (c ∷ cs) p h =
    let n = prefix_len is_unquoted_code (c ∷ cs) in
    let le = prefix_len-le-length is_unquoted_code (c ∷ cs) in
    elim (cases_Bool (eqb c 34)) [
      | inl e ↦ quoted_cut 34 c cs p (ap (λ t. t || eqb c 39) e)
          (quoted_whole 34 cs p (sym (cond-true (eqb c 34) (quoted 34 cs) (cond (eqb c 39) (quoted 39 cs) (unquoted n (c ∷ cs))) e) ∙ h)).whole
      | inr e ↦
          let other = sym (cond-false (eqb c 34) (quoted 34 cs) (cond (eqb c 39) (quoted 39 cs) (unquoted n (c ∷ cs))) e) ∙ h in
          elim (cases_Bool (eqb c 39)) [
            | inl f ↦ quoted_cut 39 c cs p (ap (λ t. t || eqb c 39) e ∙ f)
                (quoted_whole 39 cs p (sym (cond-true (eqb c 39) (quoted 39 cs) (unquoted n (c ∷ cs)) f) ∙ other)).whole
            | inr f ↦ unquoted_cut n c cs p le (ap (λ t. t || eqb c 39) e ∙ f) (sym (cond-false (eqb c 39) (quoted 39 cs) (unquoted n (c ∷ cs)) f) ∙ other)
          ]
    ]

-- ---- what follows the first codes

abbrev Later : List Code → List Code → Type 0
Later html rest = (n : ℕ) × (rest ≡ drop n html)

later_later : (html rest other : List Code) → Later html rest → Later rest other → Later html other
later_later html rest other a b = (a.0 + b.0, b.1 ∙ ap (drop b.0) a.1 ∙ drop-drop b.0 a.0 html)

abbrev later_all : (p : ℕ → Bool) (html : List Code) → Later html (after_all p html)
later_all p html = (prefix_len p html, refl)

dropped_back : (n : ℕ) (html : List Code) → drop (length html - length (drop n html)) html ≡ drop n html
dropped_back zero html = ap (λ k. drop k html) (none (length html))
  where
    none : (k : ℕ) → k - k ≡ 0
    none k = omega arith
dropped_back (suc n) [] = refl
dropped_back (suc n) (c ∷ cs) =
    let le : length (drop n cs) ≤ length cs = omega (arith, length-drop n cs) in
    let more : length (c ∷ cs) - length (drop n cs) ≡ suc (length cs - length (drop n cs)) = omega arith in
    ap (λ k. drop k (c ∷ cs)) more ∙ dropped_back n cs

-- the codes from where the grammar's bytes are left
back : (html rest : List Code) → Later html rest → codes_at html (tag_bytes rest) ≡ rest
back html rest later =
    ap (λ k. drop (length html - k) html) (length-map rest html_byte ∙ ap length later.1) ∙ dropped_back later.0 html ∙ sym later.1

-- ---- one attribute

equals_html : (l : List Code) → begins_with (codes "=") (tag_bytes l) ≡ begins_with (codes "=") l
equals_html [] = refl
equals_html (c ∷ cs) = ap (λ t. t && true) (is_html 61 c (refl, refl) (refl, (refl, refl)))

drop_html : (l : List Code) → drop 1 (tag_bytes l) ≡ tag_bytes (drop 1 l)
drop_html [] = refl
drop_html (c ∷ cs) = refl

eqb_turned : (a b : ℕ) → eqb a b ≡ eqb b a
eqb_turned a b = elim (cases_Bool (eqb b a)) [
  | inl h ↦ eq-eqb a b (sym (eqb-true b a h)) ∙ sym h
  | inr h ↦ ne_eqb a b (λ e. eqb-false b a h (sym e)) ∙ sym h
]

with_value_html : (name : List Code) (o : Option Part)
    → option_map (λ (p : Part). tag_bytes p.rest) o ≡ option_map (λ (f : SplitAttribute). tag_bytes f.rest) (option_map (with_value name) o)
with_value_html name None = refl
with_value_html name (Some p) = refl

specified_html : (name after specified : List Code)
    → value_or (tag_bytes after) (tag_bytes specified) ≡ option_map (λ (f : SplitAttribute). tag_bytes f.rest) (named name after specified)
specified_html name after [] = refl
specified_html name after (c ∷ cs) =
    ap (λ t. cond t (value (tag_space (tag_bytes cs))) (Some (tag_bytes after))) (is_byte 61 c (refl, refl) (refl, (refl, refl)) ∙ eqb_turned c 61)
    ∙ ap (λ x. cond (eqb 61 c) x (Some (tag_bytes after)))
    (ap value (space_html cs) ∙ value_html (after_space cs) ∙ with_value_html name (split_value (after_space cs)))
    ∙ by_case (eqb 61 c)
  where
    by_case : (t : Bool) → cond t (option_map (λ (f : SplitAttribute). tag_bytes f.rest) (option_map (with_value name) (split_value (after_space cs))))
        (Some (tag_bytes after))
        ≡ option_map (λ (f : SplitAttribute). tag_bytes f.rest) (cond (t && true) (option_map (with_value name) (split_value (after_space cs)))
        (Some (split (attribute name []) after)))
    by_case true = refl
    by_case false = refl

starts_name : (b : ℕ) → begins_attribute b ≡ true → is_attribute_byte b ≡ true
starts_name b h = grind (arith, nat_tests)

split_html : (start : List Code) → begins_with_attribute start ≡ true
    → after_attribute (tag_bytes start) ≡ option_map (λ (f : SplitAttribute). tag_bytes f.rest) (split_attribute start)
split_html [] h = absurd (false≢true h)
split_html (c ∷ cs) h =
    let after = after_all is_attribute_byte (c ∷ cs) in
    let passed : after_all is_attribute_byte cs ≡ after =
    sym (after_cons is_attribute_byte c cs ∙ cond-true (is_attribute_byte c) _ (c ∷ cs) (starts_name c h)) in
    cond-true (begins_attribute (html_byte c)) _ None (same_html begins_attribute starts_own c ∙ h)
    ∙ ap specification (after_own is_attribute_byte names_own cs ∙ ap tag_bytes passed)
    ∙ ap (value_or (tag_bytes after)) (space_html after)
    ∙ specified_html (take_while is_attribute_byte (c ∷ cs)) after (after_space after)

-- how an attribute is cut
record IsCutAttribute (html start : List Code) (found : SplitAttribute) : Type 0 where
  later : Later start found.rest
  name : found.attribute.name ≡ take_while is_attribute_byte start
  value : without_quotes (value_codes html (tag_bytes (after_all is_attribute_byte start)) (tag_bytes found.rest)) ≡ found.attribute.value

attribute_cut : (html start : List Code) (found : SplitAttribute) → Later html start → split_attribute start ≡ Some found → IsCutAttribute html start found
attribute_cut html start found from h =
    let name = take_while is_attribute_byte start in
    let after = after_all is_attribute_byte start in
    let specified = after_space after in
    let v = after_space (drop 1 specified) in
    let to_after = later_all is_attribute_byte start in
    let to_specified = later_later start after specified to_after (later_all is_space_code after) in
    let to_v = later_later start specified v to_specified (later_later specified (drop 1 specified) v (1, refl) (later_all is_space_code (drop 1 specified))) in
    let test : begins_with (codes "=") (tag_space (tag_bytes after)) ≡ begins_with (codes "=") specified =
    ap (begins_with (codes "=")) (space_html after) ∙ equals_html specified in
    let place : tag_space (drop 1 (tag_space (tag_bytes after))) ≡ tag_bytes v =
    ap (λ x. tag_space (drop 1 x)) (space_html after) ∙ ap tag_space (drop_html specified) ∙ space_html (drop 1 specified) in
    elim (cases_Bool (begins_with (codes "=") specified)) [
      | inl t ↦ with_part name after specified v to_v test place t (split_value v) refl
          (sym (cond-true (begins_with (codes "=") specified) (option_map (with_value name) (split_value v)) (Some (split (attribute name []) after)) t) ∙ h)
          refl refl
      | inr t ↦
          let some : Some (split (attribute name []) after) ≡ Some found =
          sym (cond-false (begins_with (codes "=") specified) (option_map (with_value name) (split_value v)) (Some (split (attribute name []) after)) t) ∙ h in
          let is : split (attribute name []) after ≡ found = cc in
          record {
            later = (to_after.0, sym (ap (λ (f : SplitAttribute). f.rest) is));
            name = sym (ap (λ (f : SplitAttribute). f.attribute.name) is);
            value = ap without_quotes (cond-false (begins_with (codes "=") (tag_space (tag_bytes after))) _ [] (test ∙ t))
                ∙ ap (λ (f : SplitAttribute). f.attribute.value) is;
          }
    ]
  where
    with_part : (name after specified v : List Code) → Later start v → begins_with (codes "=") (tag_space (tag_bytes after)) ≡ begins_with (codes "=") specified
        → tag_space (drop 1 (tag_space (tag_bytes after))) ≡ tag_bytes v → begins_with (codes "=") specified ≡ true
        → (o : Option Part) → split_value v ≡ o → option_map (with_value name) o ≡ Some found
        → (take_while is_attribute_byte start ≡ name) → (after ≡ after_all is_attribute_byte start) → IsCutAttribute html start found
    with_part name after specified v to_v test place t None e k is_name same = cc
    with_part name after specified v to_v test place t (Some p) e k is_name same =
        let is : with_value name p ≡ found = cc in
        let cut = value_cut v p e in
        let rest : p.rest ≡ found.rest = ap (λ (f : SplitAttribute). f.rest) is in
        record {
          later = later_later start v found.rest to_v (cut.size, sym rest ∙ cut.rest);
          name = sym (ap (λ (f : SplitAttribute). f.attribute.name) is) ∙ sym is_name;
          value =
              ap (λ x. without_quotes (value_codes html (tag_bytes x) (tag_bytes found.rest))) (sym same)
              ∙ ap without_quotes (cond-true (begins_with (codes "=") (tag_space (tag_bytes after))) _ [] (test ∙ t))
              ∙ ap (λ x. without_quotes (take (length x - length (tag_bytes found.rest)) (codes_at html x))) place
              ∙ ap (λ k. without_quotes (take (k - length (tag_bytes found.rest)) (codes_at html (tag_bytes v)))) (length-map v html_byte)
              ∙ ap (λ k. without_quotes (take (length v - k) (codes_at html (tag_bytes v)))) (length-map found.rest html_byte ∙ ap length (sym rest))
              ∙ ap (λ x. without_quotes (take (length v - length p.rest) x)) (back html v (later_later html start v from to_v))
              ∙ cut.text
              ∙ ap (λ (f : SplitAttribute). f.attribute.value) is;
        }

-- ---- all attributes

module _ (names : Names) where
  one_written : (html start : List Code) (found : SplitAttribute) → IsCutAttribute html start found
      → written_attribute names html (tag_bytes start) (tag_bytes found.rest) ≡ read_attribute names found.attribute
  one_written html start found cut =
      ap (λ x. record {
        name = lower x;
        value = decoded names (without_quotes
            (value_codes html (after_all is_attribute_byte (tag_bytes start)) (tag_bytes found.rest)));
      })
      (while_own is_attribute_byte names_own start ∙ sym cut.name)
      ∙ ap (λ x. record { name = lower found.attribute.name; value = decoded names (without_quotes (value_codes html x (tag_bytes found.rest))) })
      (after_own is_attribute_byte names_own start)
      ∙ ap (λ x. record { name = lower found.attribute.name; value = decoded names x }) cut.value

  others_cut : (n : ℕ) (html start : List Code) (o : Option SplitAttribute) → Later html start → split_attribute start ≡ o
      → ((l : List Code) → written names n l ≡ map (read_attribute names) (cut n l))
      → with_others names html (tag_bytes start) (option_map (λ (f : SplitAttribute). tag_bytes f.rest) o) (written names n)
      ≡ map (read_attribute names) (cut_then o (cut n))
  others_cut n html start None from e ih = refl
  others_cut n html start (Some found) from e ih =
      let cut_so = attribute_cut html start found from e in
      ap (λ w. w ∷ written names n (codes_at html (tag_bytes found.rest))) (one_written html start found cut_so)
      ∙ ap (λ l. read_attribute names found.attribute ∷ l)
      (ap (written names n) (back html found.rest (later_later html start found.rest from cut_so.later)) ∙ ih found.rest)

space_begins : (html : List Code) → begins_with_tag_space (tag_bytes html) ≡ begins_with_space html
space_begins [] = refl
space_begins (c ∷ cs) = refl

attribute_begins : (html : List Code) → begins_with_attribute (tag_bytes html) ≡ begins_with_attribute html
attribute_begins [] = refl
attribute_begins (c ∷ cs) = same_html begins_attribute starts_own c

has_html : (html : List Code) → has_attribute (tag_bytes html) ≡ (begins_with_space html && begins_with_attribute (after_space html))
has_html html =
    ap (λ t. t && begins_with_attribute (tag_space (tag_bytes html))) (space_begins html)
    ∙ ap (λ x. begins_with_space html && begins_with_attribute x) (space_html html)
    ∙ ap (λ t. begins_with_space html && t) (attribute_begins (after_space html))

pub written_cut : (names : Names) (n : ℕ) (html : List Code) → written names n html ≡ map (read_attribute names) (cut n html)
written_cut names zero html = refl
written_cut names (suc n) html =
    let start = after_space html in
    let test = begins_with_space html && begins_with_attribute start in
    ap (λ t. cond t (with_others names html (tag_space (tag_bytes html)) (after_attribute (tag_space (tag_bytes html))) (written names n)) []) (has_html html)
    ∙ ap (λ x. cond test (with_others names html x (after_attribute x) (written names n)) []) (space_html html)
    ∙ elim (cases_Bool test) [
      | inl h ↦
          cond-true test _ [] h
          ∙ ap (λ o. with_others names html (tag_bytes start) o (written names n))
          (split_html start (and_parts (begins_with_space html) (begins_with_attribute start) h).1)
          ∙ others_cut names n html start (split_attribute start) (later_all is_space_code html) refl (written_cut names n)
          ∙ ap (λ o. map (read_attribute names) (cut_from o (cut n))) (sym (cond-true test (Some start) None h))
      | inr h ↦ cond-false test _ [] h ∙ ap (λ o. map (read_attribute names) (cut_from o (cut n))) (sym (cond-false test (Some start) None h))
    ]

-- ---- what follows them

then_rest : (n : ℕ) (o : Option SplitAttribute) → ((l : List Code) → unwrap_or (attributes n (tag_bytes l)) [] ≡ tag_bytes (rest_after n l))
    → unwrap_or (then_part (option_map (λ (f : SplitAttribute). tag_bytes f.rest) o) (attributes n)) [] ≡ tag_bytes (rest_then o (rest_after n))
then_rest n None ih = refl
then_rest n (Some found) ih = ih found.rest

pub rest_cut : (n : ℕ) (html : List Code) → unwrap_or (attributes n (tag_bytes html)) [] ≡ tag_bytes (rest_after n html)
rest_cut zero html = refl
rest_cut (suc n) html =
    let start = after_space html in
    let test = begins_with_space html && begins_with_attribute start in
    ap (λ t. unwrap_or (cond t (then_part (after_attribute (tag_space (tag_bytes html))) (attributes n)) (Some (tag_bytes html))) []) (has_html html)
    ∙ ap (λ x. unwrap_or (cond test (then_part (after_attribute x) (attributes n)) (Some (tag_bytes html))) []) (space_html html)
    ∙ elim (cases_Bool test) [
      | inl h ↦
          ap (λ o. unwrap_or o []) (cond-true test _ (Some (tag_bytes html)) h)
          ∙ ap (λ o. unwrap_or (then_part o (attributes n)) []) (split_html start (and_parts (begins_with_space html) (begins_with_attribute start) h).1)
          ∙ then_rest n (split_attribute start) (rest_cut n)
          ∙ ap (λ o. tag_bytes (rest_from html o (rest_after n))) (sym (cond-true test (Some start) None h))
      | inr h ↦
          ap (λ o. unwrap_or o []) (cond-false test _ (Some (tag_bytes html)) h)
          ∙ ap (λ o. tag_bytes (rest_from html o (rest_after n))) (sym (cond-false test (Some start) None h))
    ]

-- ---- as many as there are

later_less : (html rest : List Code) → Later html rest → length rest ≤ length html
later_less html rest later = omega (arith, ap length later.1, length-drop later.0 html)

space_shorter : (html : List Code) → begins_with_space html ≡ true → length (after_space html) < length html
space_shorter [] h = absurd (false≢true h)
space_shorter (c ∷ cs) h =
    let is : after_space (c ∷ cs) ≡ after_space cs = after_cons is_space_code c cs ∙ cond-true (is_space_code c) _ (c ∷ cs) h in
    let le = later_less cs (after_space cs) (later_all is_space_code cs) in
    omega (arith, ap length is, le)

pub start_shorter : (html start : List Code) → attribute_start html ≡ Some start → length start < length html
start_shorter html start h = elim (cases_Bool (begins_with_space html && begins_with_attribute (after_space html))) [
  | inl t ↦
      let some : Some (after_space html) ≡ Some start = sym (cond-true _ (Some (after_space html)) None t) ∙ h in
      let is : after_space html ≡ start = cc in
      let less = space_shorter html (and_parts (begins_with_space html) (begins_with_attribute (after_space html)) t).0 in
      omega (arith, less, ap length is)
  | inr t ↦ let none : None ≡ Some start = sym (cond-false _ (Some (after_space html)) None t) ∙ h in cc
]

pub split_shorter : (start : List Code) (found : SplitAttribute) → split_attribute start ≡ Some found → length found.rest ≤ length start
split_shorter start found h = later_less start found.rest (attribute_cut start start found (0, refl) h).later

-- the same with any number that is great enough
abbrev IsEnough : {A : Type 0} → (ℕ → List Code → A) → ℕ → ℕ → Type 0
IsEnough f m n = (html : List Code) → length html ≤ m → length html ≤ n → f m html ≡ f n html

cut_then_same : (m n : ℕ) (html start : List Code) (o : Option SplitAttribute) → IsEnough cut m n → split_attribute start ≡ o → length start < length html
    → length html ≤ suc m → length html ≤ suc n → cut_then o (cut m) ≡ cut_then o (cut n)
cut_then_same m n html start None ih e less a b = refl
cut_then_same m n html start (Some found) ih e less a b =
    let shorter = split_shorter start found e in
    ap (λ l. found.attribute ∷ l) (ih found.rest (omega arith) (omega arith))

cut_from_same : (m n : ℕ) (html : List Code) (o : Option (List Code)) → IsEnough cut m n → attribute_start html ≡ o
    → length html ≤ suc m → length html ≤ suc n → cut_from o (cut m) ≡ cut_from o (cut n)
cut_from_same m n html None ih e a b = refl
cut_from_same m n html (Some start) ih e a b = cut_then_same m n html start (split_attribute start) ih refl (start_shorter html start e) a b

pub cut_enough : (m n : ℕ) → IsEnough cut m n
cut_enough zero zero html a b = refl
cut_enough zero (suc n) [] a b = refl
cut_enough zero (suc n) (c ∷ cs) a b = absurd (omega arith)
cut_enough (suc m) zero [] a b = refl
cut_enough (suc m) zero (c ∷ cs) a b = absurd (omega arith)
cut_enough (suc m) (suc n) html a b = cut_from_same m n html (attribute_start html) (cut_enough m n) refl a b

rest_then_same : (m n : ℕ) (html start : List Code) (o : Option SplitAttribute) → IsEnough rest_after m n → split_attribute start ≡ o
    → length start < length html
    → length html ≤ suc m → length html ≤ suc n → rest_then o (rest_after m) ≡ rest_then o (rest_after n)
rest_then_same m n html start None ih e less a b = refl
rest_then_same m n html start (Some found) ih e less a b = let shorter = split_shorter start found e in ih found.rest (omega arith) (omega arith)

rest_from_same : (m n : ℕ) (html : List Code) (o : Option (List Code)) → IsEnough rest_after m n → attribute_start html ≡ o
    → length html ≤ suc m → length html ≤ suc n → rest_from html o (rest_after m) ≡ rest_from html o (rest_after n)
rest_from_same m n html None ih e a b = refl
rest_from_same m n html (Some start) ih e a b = rest_then_same m n html start (split_attribute start) ih refl (start_shorter html start e) a b

pub rest_enough : (m n : ℕ) → IsEnough rest_after m n
rest_enough zero zero html a b = refl
rest_enough zero (suc n) [] a b = refl
rest_enough zero (suc n) (c ∷ cs) a b = absurd (omega arith)
rest_enough (suc m) zero [] a b = refl
rest_enough (suc m) zero (c ∷ cs) a b = absurd (omega arith)
rest_enough (suc m) (suc n) html a b = rest_from_same m n html (attribute_start html) (rest_enough m n) refl a b
