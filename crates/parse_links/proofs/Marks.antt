-- Labels, destinations and titles in bytes: their marks, and what is between and after them (CommonMark 6.3).
use Rattle.std.proofs.Common.{◌≡◌, ◌⊎◌, ℕ, zero, suc, ◌+◌, ◌<◌, Bool, true, false, cond, ◌||◌, eqb, List, [], ◌∷◌, ◌++◌, Option, None, Some, get_or}
use Rattle.std.proofs.Common.{inl, inr, refl, sym, ap, ap₂, subst, ◌∙◌, arith, drop, length, length-append, append_assoc}
use Rattle.std.proofs.lemmas.Bool.{and_parts}
use Rattle.engine_events.specs.declared.event.Name.{Name}
use Rattle.event_tokens.specs.Tokens.{is_token}
use Rattle.parse_links.specs.Quoted.{fits_quotes}
use Rattle.parse_links.proofs.Prelude.{AreBytes, begins_ascii, bytes_after, cases_Bool, codes_split, cond-false, cond-true, content_codes, cut_last}
use Rattle.parse_links.proofs.Prelude.{destination_at, eqb-false, eqb-true, from_some, get_or_at, is_eol, is_space, IsCharBoundary}
use Rattle.parse_links.proofs.Prelude.{IsCharBoundary-before_ascii, IsMark, IsPlace, IsUtf8, label_at, line_bytes, list_any, ltb-true, none-some, or_from}
use Rattle.parse_links.proofs.Prelude.{or_parts, Part, plain_code, title_at}
use Rattle.std.proofs.lemmas.Bool.{or_cases}
use Rattle.std.proofs.lemmas.Option.{cond_some}
use Rattle.std.proofs.lemmas.Str.{IsCharBoundary-end}
use Rattle.definition_text.specs.Content.{at_line_start, closed_by, may_escape, up_to}
use Rattle.definition_inline.specs.Destination.{angle_end, bare_end, ends_angle, ends_bare, if_any, is_control, is_too_deep, open_after}
use Rattle.definition_inline.specs.Destination.{unless_empty}
use Rattle.definition_inline.specs.Label.{if_label, is_label, label_end}
use Rattle.definition_inline.specs.Title.{ends_blank_line, ends_title, title_close, title_end, title_until}
use Rattle.inline_links.proofs.Splits.{before_is, is_ascii_code, destination_whole}
use Rattle.parse_strings.proofs.Codes.{no_ends}

-- ---- up to a code that closes

-- a rest that begins with a code, and what stands before it
record Closes (close : ℕ) (cs r : List ℕ) : Type 0 where
  front : List ℕ
  after : List ℕ
  whole : cs ≡ front ++ close ∷ after
  rest : r ≡ close ∷ after

closes_here : (close c : ℕ) (cs r : List ℕ) → cond (eqb c close) (Some (c ∷ cs)) None ≡ Some r → Closes close (c ∷ cs) r
closes_here close c cs r e =
    let both = cond_some (eqb c close) (c ∷ cs) r e in
    let same : c ∷ cs ≡ close ∷ cs = ap (λ x. x ∷ cs) (eqb-true c close both.0) in
    record { front = []; after = cs; whole = same; rest = sym both.1 ∙ same }

closes_later : (close c : ℕ) (cs r : List ℕ) → Closes close cs r → Closes close (c ∷ cs) r
closes_later close c cs r h = record { front = c ∷ h.front; after = h.after; whole = ap (λ x. c ∷ x) h.whole; rest = h.rest }

closed_parts : (close : ℕ) (cs r : List ℕ) (p : Part) → (k : Closes close cs r) → closed_by cs (Some r) ≡ Some p → (k.front ≡ p.text) × (k.after ≡ p.rest)
closed_parts close cs r p k e =
    let there = from_some _ p e in (
      sym (before_is cs k.front r (k.whole ∙ ap (λ x. k.front ++ x) (sym k.rest))) ∙ ap (λ (q : Part). q.text) there,
      ap (drop 1) (sym k.rest) ∙ ap (λ (q : Part). q.rest) there,
    )

-- ---- titles

title_closes : (close : ℕ) (escaped start : Bool) (cs r : List ℕ) → title_end close escaped start cs ≡ Some r → Closes close cs r
title_closes close escaped start [] r e = absurd (none-some r e)
title_closes close escaped start (c ∷ cs) r e = elim (cases_Bool (ends_title close escaped c)) [
  | inl h ↦ closes_here close c cs r (sym (cond-true (ends_title close escaped c) _ _ h) ∙ e)
  | inr h ↦
      let f = sym (cond-false (ends_title close escaped c) _ _ h) ∙ e in
      elim (cases_Bool (ends_blank_line start c)) [
        | inl k ↦ absurd (none-some r (sym (cond-true (ends_blank_line start c) _ _ k) ∙ f))
        | inr k ↦ closes_later close c cs r (title_closes close (may_escape escaped c) (at_line_start start c) cs r
            (sym (cond-false (ends_blank_line start c) _ _ k) ∙ f))
      ]
]

-- a byte may be the marker of a title
abbrev pub MayQuote : ℕ → Type 0
MayQuote b = (name : Name) → fits_quotes name ≡ true → is_token name (b ∷ []) ≡ true

-- the four that may be
double_may : MayQuote 34
double_may name fits = (and_parts _ _ (and_parts _ _ fits).0).0

single_may : MayQuote 39
single_may name fits = (and_parts _ _ (and_parts _ _ fits).0).1

open_may : MayQuote 40
open_may name fits = (and_parts _ _ (and_parts _ _ fits).1).0

close_may : MayQuote 41
close_may name fits = (and_parts _ _ (and_parts _ _ fits).1).1

may_of : (c k : ℕ) → eqb c k ≡ true → MayQuote k → MayQuote c
may_of c k h may = subst MayQuote (sym (eqb-true c k h)) may

-- a title and its marks
pub record TitleMarks (cs : List ℕ) (p : Part) : Type 0 where
  pub opening : ℕ
  pub closing : ℕ
  pub one : IsMark opening
  pub two : IsMark closing
  pub first : (name : Name) → fits_quotes name ≡ true → is_token name (opening ∷ []) ≡ true
  pub last : (name : Name) → fits_quotes name ≡ true → is_token name (closing ∷ []) ≡ true
  pub whole : cs ≡ opening ∷ (p.text ++ closing ∷ p.rest)

title_by : (c : ℕ) (cs : List ℕ) (p : Part) (close : ℕ) (end : Option (List ℕ)) → IsMark c → IsMark close → MayQuote c → MayQuote close
    → ((r : List ℕ) → end ≡ Some r → Closes close cs r)
    → closed_by cs end ≡ Some p → TitleMarks (c ∷ cs) p
title_by c cs p close None one two first last closes e = absurd (none-some p e)
title_by c cs p close (Some r) one two first last closes e =
    let k = closes r refl in
    let are = closed_parts close cs r p k e in
    record {
      opening = c;
      closing = close;
      one = one;
      two = two;
      first = first;
      last = last;
      whole = ap (λ x. c ∷ x) (k.whole ∙ ap₂ (λ x y. x ++ close ∷ y) are.0 are.1);
    }

mark_of : (c k : ℕ) → eqb c k ≡ true → IsMark k → IsMark c
mark_of c k h mark = subst IsMark (sym (eqb-true c k h)) mark

double_mark : IsMark 34
double_mark = record { ascii = omega arith; dark = refl }

single_mark : IsMark 39
single_mark = record { ascii = omega arith; dark = refl }

open_mark : IsMark 40
open_mark = record { ascii = omega arith; dark = refl }

close_mark : IsMark 41
close_mark = record { ascii = omega arith; dark = refl }

pub title_marks : (cs : List ℕ) (p : Part) → title_at cs ≡ Some p → TitleMarks cs p
title_marks [] p e = absurd (none-some p e)
title_marks (c ∷ cs) p e = elim (cases_Bool (eqb c 34 || eqb c 39)) [
  | inl h ↦
      let f = ap (λ o. title_until o cs) (sym (cond-true (eqb c 34 || eqb c 39) _ _ h)) ∙ e in
      let mark : IsMark c = quote_mark (or_cases (eqb c 34) (eqb c 39) h) in
      let may : MayQuote c = quote_may (or_cases (eqb c 34) (eqb c 39) h) in
      title_by c cs p c (title_end c false false cs) mark mark may may (title_closes c false false cs) f
  | inr h ↦ elim (cases_Bool (eqb c 40)) [
    | inl k ↦
        let close : title_close c ≡ Some 41 = cond-false (eqb c 34 || eqb c 39) _ _ h ∙ cond-true (eqb c 40) _ _ k in
        let f = ap (λ o. title_until o cs) (sym close) ∙ e in
        title_by c cs p 41 (title_end 41 false false cs) (mark_of c 40 k open_mark) close_mark (may_of c 40 k open_may) close_may (title_closes 41 false false cs) f
    | inr k ↦
        let none : title_close c ≡ None = cond-false (eqb c 34 || eqb c 39) _ _ h ∙ cond-false (eqb c 40) _ _ k in
        absurd (none-some p (ap (λ o. title_until o cs) (sym none) ∙ e))
  ]
]
  where
    quote_mark : (eqb c 34 ≡ true) ⊎ (eqb c 39 ≡ true) → IsMark c
    quote_mark (inl h) = mark_of c 34 h double_mark
    quote_mark (inr h) = mark_of c 39 h single_mark

    quote_may : (eqb c 34 ≡ true) ⊎ (eqb c 39 ≡ true) → MayQuote c
    quote_may (inl h) = may_of c 34 h double_may
    quote_may (inr h) = may_of c 39 h single_may

-- ---- destinations

record ClosesLine (cs r : List ℕ) : Type 0 where
  closes : Closes 62 cs r
  dark : list_any is_eol closes.front ≡ false

angle_closes : (escaped : Bool) (cs r : List ℕ) → angle_end escaped cs ≡ Some r → ClosesLine cs r
unfolding closes_here closes_later
angle_closes escaped [] r e = absurd (none-some r e)
angle_closes escaped (c ∷ cs) r e = elim (cases_Bool (ends_angle escaped c)) [
  | inl h ↦ record { closes = closes_here 62 c cs r (sym (cond-true (ends_angle escaped c) _ _ h) ∙ e); dark = refl }
  | inr h ↦
      let later = angle_closes (may_escape escaped c) cs r (sym (cond-false (ends_angle escaped c) _ _ h) ∙ e) in
      record {
        closes = closes_later 62 c cs r later.closes;
        dark = or_from (is_eol c) (list_any is_eol later.closes.front) (or_parts (is_eol c) _ h).0 later.dark;
      }
]

record BareLine (cs r : List ℕ) : Type 0 where
  front : List ℕ
  whole : cs ≡ front ++ r
  dark : list_any is_eol front ≡ false

bare_line : (depth : Option ℕ) (escaped : Bool) (opened : ℕ) (cs r : List ℕ) → bare_end depth escaped opened cs ≡ Some r → BareLine cs r
bare_line depth escaped opened [] r e = record { front = []; whole = (cond_some (eqb opened 0) [] r e).1; dark = refl }
bare_line depth escaped opened (c ∷ cs) r e = elim (cases_Bool (ends_bare escaped opened c)) [
  | inl h ↦ record {
    front = [];
    whole = (cond_some (eqb opened 0) (c ∷ cs) r (sym (cond-true (ends_bare escaped opened c) _ _ h) ∙ e)).1;
    dark = refl;
  }
  | inr h ↦
      let f = sym (cond-false (ends_bare escaped opened c) _ _ h) ∙ e in
      elim (cases_Bool (is_too_deep depth (open_after escaped opened c))) [
        | inl k ↦ absurd (none-some r (sym (cond-true (is_too_deep depth (open_after escaped opened c)) _ _ k) ∙ f))
        | inr k ↦
            let rest = bare_line depth (may_escape escaped c) (open_after escaped opened c) cs r
            (sym (cond-false (is_too_deep depth (open_after escaped opened c)) _ _ k) ∙ f) in
            let space = (or_parts (is_space c || is_control c) _ h).0 in
            record {
              front = c ∷ rest.front;
              whole = ap (λ x. c ∷ x) rest.whole;
              dark = or_from (is_eol c) (list_any is_eol rest.front) (or_parts _ (is_eol c) (or_parts (is_space c) (is_control c) space).0).1 rest.dark;
            }
      ]
]

-- a destination: between `<` and `>`, or up to an ASCII code
pub record DestinationMarks (cs : List ℕ) (p : Part) : Type 0 where
  pub dark : list_any is_eol p.text ≡ false
  pub form : (cs ≡ 60 ∷ (p.text ++ 62 ∷ p.rest))
      ⊎ ((cs ≡ p.text ++ p.rest) × (begins_ascii p.rest ≡ true) × (0 < length p.text) × (get_or p.text 0 0 ≡ 60 → ⊥))

any_text : (o : Option Part) (p : Part) → if_any o ≡ Some p → (o ≡ Some p) × (0 < length p.text)
any_text None p e = absurd (none-some p e)
any_text (Some q) p e = of_text q.text q p refl e
  where
    of_text : (text : List ℕ) (q p : Part) → q.text ≡ text → unless_empty text q ≡ Some p → (Some q ≡ Some p) × (0 < length p.text)
    of_text [] q p is e = absurd (none-some p e)
    of_text (c ∷ cs) q p is e =
        let same : q ≡ p = from_some q p e in
        let size : length p.text ≡ suc (length cs) = ap (λ (x : Part). length x.text) (sym same) ∙ ap length is in
        (e, omega (arith, size))

angle_marks : (cs : List ℕ) (end : Option (List ℕ)) (p : Part) → ((r : List ℕ) → end ≡ Some r → ClosesLine cs r) → closed_by cs end ≡ Some p
    → DestinationMarks (60 ∷ cs) p
angle_marks cs None p h e = absurd (none-some p e)
angle_marks cs (Some r) p h e =
    let k = h r refl in
    let are = closed_parts 62 cs r p k.closes e in
    record {
      dark = ap (list_any is_eol) (sym are.0) ∙ k.dark;
      form = inl (ap (λ x. 60 ∷ x) (k.closes.whole ∙ ap₂ (λ x y. x ++ 62 ∷ y) are.0 are.1));
    }

bare_marks : (cs : List ℕ) (end : Option (List ℕ)) (p : Part) → ((r : List ℕ) → end ≡ Some r → BareLine cs r) → up_to cs end ≡ Some p
    → (list_any is_eol p.text ≡ false) × (cs ≡ p.text ++ p.rest)
bare_marks cs None p h e = absurd (none-some p e)
bare_marks cs (Some r) p h e =
    let k = h r refl in
    let there = from_some _ p e in
    let text : k.front ≡ p.text = sym (before_is cs k.front r k.whole) ∙ ap (λ (q : Part). q.text) there in
    let rest : r ≡ p.rest = ap (λ (q : Part). q.rest) there in
    (ap (list_any is_eol) (sym text) ∙ k.dark, k.whole ∙ ap₂ (λ x y. x ++ y) text rest)

first_of : (c : ℕ) (cs text rest : List ℕ) → c ∷ cs ≡ text ++ rest → 0 < length text → get_or text 0 0 ≡ c
first_of c cs [] rest e some = absurd (omega arith)
first_of c cs (x ∷ xs) rest e some = ap (λ (ys : List ℕ). get_or ys 0 0) (sym e)

pub destination_marks : (depth : Option ℕ) (cs : List ℕ) (p : Part) → destination_at depth cs ≡ Some p → DestinationMarks cs p
destination_marks depth [] p e = absurd (none-some p e)
destination_marks depth (c ∷ cs) p e = elim (cases_Bool (eqb c 60)) [
  | inl h ↦
      let f = sym (cond-true (eqb c 60) _ _ h) ∙ e in
      subst (λ x. DestinationMarks (x ∷ cs) p) (sym (eqb-true c 60 h)) (angle_marks cs (angle_end false cs) p (angle_closes false cs) f)
  | inr h ↦
      let f = sym (cond-false (eqb c 60) _ _ h) ∙ e in
      let any = any_text (up_to (c ∷ cs) (bare_end depth false 0 (c ∷ cs))) p f in
      let is = bare_marks (c ∷ cs) (bare_end depth false 0 (c ∷ cs)) p (bare_line depth false 0 (c ∷ cs)) any.0 in
      let other : get_or p.text 0 0 ≡ 60 → ⊥ = λ g. eqb-false c 60 h (sym (first_of c cs p.text p.rest is.1 any.1) ∙ g) in
      record { dark = is.0; form = bare_form (destination_whole depth (c ∷ cs) p e).whole is.1 any.1 other }
]
  where
    bare_form : (c ∷ cs ≡ 60 ∷ p.text ++ 62 ∷ p.rest) ⊎ ((c ∷ cs ≡ p.text ++ p.rest) × (begins_ascii p.rest ≡ true)) → c ∷ cs ≡ p.text ++ p.rest
        → 0 < length p.text → (get_or p.text 0 0 ≡ 60 → ⊥)
        → (c ∷ cs ≡ 60 ∷ (p.text ++ 62 ∷ p.rest))
        ⊎ ((c ∷ cs ≡ p.text ++ p.rest) × (begins_ascii p.rest ≡ true) × (0 < length p.text) × (get_or p.text 0 0 ≡ 60 → ⊥))
    bare_form (inl w) is some other = inl w
    bare_form (inr w) is some other = inr (is, w.1, some, other)

-- ---- labels

-- a label has a text
pub label_filled : (cs : List ℕ) (p : Part) → label_at cs ≡ Some p → 0 < length p.text
label_filled [] p e = absurd (none-some p e)
label_filled (c ∷ cs) p e = elim (cases_Bool (eqb c 91)) [
  | inl h ↦ of_label (closed_by cs (label_end false cs)) (sym (cond-true (eqb c 91) _ _ h) ∙ e)
  | inr h ↦ absurd (none-some p (sym (cond-false (eqb c 91) _ _ h) ∙ e))
]
  where
    of_text : (text : List ℕ) → is_label text ≡ true → 0 < length text
    of_text [] h = cc
    of_text (x ∷ xs) h = omega arith

    of_label : (o : Option Part) → if_label o ≡ Some p → 0 < length p.text
    of_label None e = absurd (none-some p e)
    of_label (Some q) e =
        let both = cond_some (is_label q.text) q p e in
        of_text p.text (ap (λ (x : Part). is_label x.text) (sym both.1) ∙ both.0)

-- ---- in bytes

-- bytes at the front of bytes
pub bytes_front : (front after : List ℕ) → ((k : ℕ) → get_or (front ++ after) k 0 < 256) → (k : ℕ) → get_or front k 0 < 256
bytes_front [] after bytes k = omega arith
bytes_front (x ∷ xs) after bytes zero = bytes 0
bytes_front (x ∷ xs) after bytes (suc k) = bytes_front xs after (λ j. bytes (suc j)) k

-- bytes between two marks, and those after them
pub record QuotedBytes (opening closing : ℕ) (text rest xs : List ℕ) : Type 0 where
  pub string : List ℕ
  pub after : List ℕ
  pub parts : xs ≡ opening ∷ (string ++ closing ∷ after)
  pub text_is : content_codes string ≡ text
  pub rest_is : content_codes after ≡ rest

pub one_byte : (b : ℕ) (q xs : List ℕ) → content_codes xs ≡ b ∷ q → is_eol b ≡ false → (after : List ℕ) × (xs ≡ b ∷ after) × (content_codes after ≡ q)
one_byte b q xs e h =
    let split = codes_split (b ∷ []) q xs e in
    let front : split.front ≡ b ∷ [] = sym (line_bytes split.front (ap (list_any is_eol) split.first ∙ or_from (is_eol b) false h refl)) ∙ split.first in
    (split.after, split.parts ∙ ap (λ ys. ys ++ split.after) front, split.last)

pub quoted_bytes : (opening closing : ℕ) (text rest xs : List ℕ) → content_codes xs ≡ opening ∷ (text ++ closing ∷ rest) → is_eol opening ≡ false
    → is_eol closing ≡ false → QuotedBytes opening closing text rest xs
quoted_bytes opening closing text rest xs e one two =
    let first = one_byte opening (text ++ closing ∷ rest) xs e one in
    let split = codes_split text (closing ∷ rest) first.0 first.2 in
    let last = one_byte closing rest split.after split.last two in
    record {
      string = split.front;
      after = last.0;
      parts = first.1 ∙ ap (λ ys. opening ∷ ys) (split.parts ∙ ap (λ ys. split.front ++ ys) last.1);
      text_is = split.first;
      rest_is = last.2;
    }

pub mark_eol : (b : ℕ) → IsMark b → is_eol b ≡ false
mark_eol b h = (or_parts _ (is_eol b) h.dark).1

-- a place after what is between marks
pub quoted_cut : (opening closing : ℕ) (string after xs : List ℕ) → xs ≡ opening ∷ (string ++ closing ∷ after) → closing < 128
    → (xs ≡ (opening ∷ (string ++ closing ∷ [])) ++ after)
    × (IsUtf8 xs → IsCharBoundary xs (length (opening ∷ (string ++ closing ∷ []))))
quoted_cut opening closing string after xs e ascii =
    let whole : xs ≡ (opening ∷ (string ++ closing ∷ [])) ++ after = e ∙ ap (λ ys. opening ∷ ys) (sym (append_assoc string (closing ∷ []) after)) in
    (whole, cut_last xs (opening ∷ string) after closing (length (opening ∷ (string ++ closing ∷ []))) whole ascii refl)

-- a destination in bytes
pub record PlaceBytes (xs : List ℕ) (p : Part) : Type 0 where
  pub string : List ℕ
  pub front : List ℕ
  pub after : List ℕ
  pub parts : xs ≡ front ++ after
  pub is : IsPlace string front
  pub bytes : AreBytes string
  pub text_is : content_codes string ≡ p.text
  pub rest_is : content_codes after ≡ p.rest
  pub angle : get_or xs 0 0 ≡ 60 → length front ≡ length string + 2
  pub bare : (get_or xs 0 0 ≡ 60 → ⊥) → length front ≡ length string
  pub cut : IsUtf8 xs → IsCharBoundary xs (length front)

-- a byte that begins an ASCII code
pub before_ascii : (xs front after : List ℕ) → AreBytes xs → xs ≡ front ++ after → begins_ascii (content_codes after) ≡ true → IsCharBoundary xs (length front)
before_ascii xs front [] bytes e h =
    let size : length xs ≡ length front = omega (arith, ap length e, length-append front []) in
    subst (IsCharBoundary xs) size (IsCharBoundary-end xs)
before_ascii xs front (b ∷ bs) bytes e h =
    let here : get_or xs (length front) 0 ≡ b = ap (λ ys. get_or ys (length front) 0) e ∙ get_or_at front b bs 0 (length front) refl in
    let byte : b < 256 = subst (λ x. x < 256) here (bytes (length front)) in
    IsCharBoundary-before_ascii xs (length front) (omega (arith, ap length e, length-append front (b ∷ bs))) (subst (λ x. x < 128) (sym here) (small byte))
  where
    small : b < 256 → b < 128
    small byte = elim (cases_Bool (eqb b 13)) [
      | inl k ↦ let is = eqb-true b 13 k in omega arith
      | inr k ↦
          let ascii : is_ascii_code b ≡ true = ap begins_ascii (sym (plain_code b bs (eqb-false b 13 k))) ∙ h in
          elim (or_cases _ (eqb b 256 || eqb b 257) ascii) [
            | inl l ↦ ltb-true b 128 l
            | inr l ↦ elim (or_cases (eqb b 256) (eqb b 257) l) [
              | inl m ↦ let is = eqb-true b 256 m in absurd (omega arith)
              | inr m ↦ let is = eqb-true b 257 m in absurd (omega arith)
            ]
          ]
    ]

pub place_bytes : (xs : List ℕ) (p : Part) → AreBytes xs → DestinationMarks (content_codes xs) p → PlaceBytes xs p
place_bytes xs p bytes marks = by_form marks.form
  where
    by_form : (content_codes xs ≡ 60 ∷ (p.text ++ 62 ∷ p.rest))
        ⊎ ((content_codes xs ≡ p.text ++ p.rest) × (begins_ascii p.rest ≡ true) × (0 < length p.text) × (get_or p.text 0 0 ≡ 60 → ⊥))
        → PlaceBytes xs p
    by_form (inl e) =
        let q = quoted_bytes 60 62 p.text p.rest xs e refl refl in
        let cut = quoted_cut 60 62 q.string q.after xs q.parts (omega arith) in
        let same : content_codes q.string ≡ q.string = line_bytes q.string (ap (list_any is_eol) q.text_is ∙ marks.dark) in
        let first : get_or xs 0 0 ≡ 60 = ap (λ ys. get_or ys 0 0) q.parts in
        let size : length (60 ∷ (q.string ++ 62 ∷ [])) ≡ length q.string + 2 = omega (arith, length-append q.string (62 ∷ [])) in
        record {
          string = q.string;
          front = 60 ∷ (q.string ++ 62 ∷ []);
          after = q.after;
          parts = cut.0;
          is = record { dark = no_ends q.string (ap (list_any is_eol) (sym same ∙ q.text_is) ∙ marks.dark); form = inl refl };
          bytes = bytes_front q.string (62 ∷ q.after) (bytes_after (60 ∷ []) (q.string ++ 62 ∷ q.after) xs q.parts bytes);
          text_is = q.text_is;
          rest_is = q.rest_is;
          angle = λ h. size;
          bare = λ h. absurd (h first);
          cut = cut.1;
        }
    by_form (inr (e, ascii, some, other)) =
        let split = codes_split p.text p.rest xs e in
        let same : content_codes split.front ≡ split.front = line_bytes split.front (ap (list_any is_eol) split.first ∙ marks.dark) in
        let text : split.front ≡ p.text = sym same ∙ split.first in
        let first : get_or xs 0 0 ≡ get_or p.text 0 0 =
        ap (λ ys. get_or ys 0 0) (split.parts ∙ ap (λ ys. ys ++ split.after) text) ∙ front_first p.text split.after some in
        record {
          string = split.front;
          front = split.front;
          after = split.after;
          parts = split.parts;
          is = record {
            dark = no_ends split.front (ap (list_any is_eol) text ∙ marks.dark);
            form = inr (refl, subst (λ ys. 0 < length ys) (sym text) some, λ g. other (ap (λ ys. get_or ys 0 0) (sym text) ∙ g));
          };
          bytes = bytes_front split.front split.after (subst AreBytes split.parts bytes);
          text_is = split.first;
          rest_is = split.last;
          angle = λ h. absurd (other (sym first ∙ h));
          bare = λ h. refl;
          cut = λ utf8. before_ascii xs split.front split.after bytes split.parts (ap begins_ascii split.last ∙ ascii);
        }
      where
        front_first : (text after : List ℕ) → 0 < length text → get_or (text ++ after) 0 0 ≡ get_or text 0 0
        front_first [] after some = absurd (omega arith)
        front_first (x ∷ xs) after some = refl
