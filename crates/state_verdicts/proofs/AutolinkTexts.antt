-- An autolink, byte by byte, is what the definition calls one.
use Rattle.std.proofs.Common.{◌≡◌, ◌∙◌, ℕ, suc, ◌+◌, ◌-◌, ◌≤◌, Bool, true, false, nat_le, nat_lt, ◌==◌, ◌&&◌, ◌||◌, if◌then◌else◌, List, [], ◌∷◌, length}
use Rattle.std.proofs.Common.{take, drop, Option, Some, None, inl, inr, refl, sym, ap, subst, arith}
use Rattle.state_verdicts.proofs.Prelude.{after_all, and_from, and_left, and_parts, and_right, autolink_after, cases_Bool, codes, domain_end, drop-drop}
use Rattle.state_verdicts.proofs.Prelude.{eq-eqb, eqb-true, Found, InlineLeaf, is_ascii_alphanumeric, is_domain, is_domain_byte, is_email_byte, is_in_range}
use Rattle.state_verdicts.proofs.Prelude.{is_letter, is_scheme_byte, is_uri_byte, le-leb, leaf, length-drop, list_any, lt-leb, ltb-false, ltb-true, ne_eqb}
use Rattle.state_verdicts.proofs.Prelude.{or_cases, or_left, prefix_len, prefix_len-le-length, take_while}
use Rattle.std.proofs.lemmas.Bool.{or_right}
use Rattle.std.proofs.lemmas.List.{length-take-le}
use Rattle.definition_text.specs.Bytes.{begins_with}
use Rattle.definition_text.specs.Content.{text_before}
use Rattle.definition_inline.specs.Autolink.{after_uri, begins_with_scheme, closed_autolink, email_end}
use Rattle.definition_inline.specs.Autolink.{uri_end}
use Rattle.definition_inline.specs.Inline.{Autolink, or_else}
use Rattle.state_verdicts.proofs.AutolinkDomains.{closed, domain_found, domain_read, past_greater, starting}
use Rattle.state_verdicts.proofs.ReferenceValues.{apart}
use Rattle.state_verdicts.proofs.Runs.{IsRest}
use Rattle.state_verdicts.proofs.Stretches.{rest_more, rest_none}

-- what the states read in a URI after its `:`, with the `>` that follows
abbrev pub uri_read : List ℕ → Option (List ℕ)
uri_read cs = past_greater (after_all is_uri_byte cs)

-- in an email address before its `@`
abbrev pub email_read : List ℕ → Option (List ℕ)
email_read [] = None
email_read (c ∷ cs) = if c == 64 then domain_read starting cs else if is_email_byte c then email_read cs else None

-- in a scheme after so many bytes
abbrev pub scheme_read : ℕ → List ℕ → Option (List ℕ)
scheme_read n [] = None
scheme_read n (c ∷ cs) = if c == 58 then uri_read cs else if is_scheme_byte c then (if nat_lt n 32 then scheme_read (n + 1) cs else email_read (c ∷ cs))
    else email_read (c ∷ cs)

-- after a letter
abbrev pub second_read : List ℕ → Option (List ℕ)
second_read [] = None
second_read (c ∷ cs) = if is_scheme_byte c then scheme_read 1 (c ∷ cs) else email_read (c ∷ cs)

-- after the `<`
abbrev pub address_read : List ℕ → Option (List ℕ)
address_read [] = None
address_read (c ∷ cs) = if is_letter c then second_read cs else if c == 64 then None else email_read (c ∷ cs)

-- ---- what begins a text

begins_by : (m c : ℕ) (cs : List ℕ) (is : Bool) → (c == m) ≡ is → begins_with (m ∷ []) (c ∷ cs) ≡ is
begins_by m c cs true h = let same : c ≡ m = eqb-true c m h in
    ap (λ (b : ℕ). begins_with (m ∷ []) (b ∷ cs)) same ∙ and_from (m == m) true (eq-eqb m m refl) refl
begins_by m c cs false h = and_left (m == c) true (ne_eqb m c (λ e. let f : true ≡ false = sym (eq-eqb c m (sym e)) ∙ h in absurd (cc)))

-- ---- emails

-- what follows a name and its `@`
abbrev name_found : List ℕ → Option (List ℕ)
name_found rest = if begins_with (codes "@") rest then closed (domain_end (drop 1 rest)) else None

email_is : (cs : List ℕ) → email_read cs ≡ name_found (after_all is_email_byte cs)
email_is [] = refl
email_is (c ∷ cs) = elim (cases_Bool (c == 64)) [
  | inl h ↦
      let same : c ≡ 64 = eqb-true c 64 h in
      ap (λ (b : ℕ). email_read (b ∷ cs)) same ∙ (domain_found cs ∙ sym (ap (λ (b : ℕ). name_found (after_all is_email_byte (b ∷ cs))) same))
  | inr at ↦ elim (cases_Bool (is_email_byte c)) [
    | inl h ↦ by_email at true h ∙ (email_is cs ∙ sym (ap name_found (rest_more is_email_byte c cs h)))
    | inr h ↦
        by_email at false h
        ∙ sym (ap name_found (rest_none is_email_byte c cs h) ∙ ap (λ (b : Bool). if b then closed (domain_end cs) else None) (begins_by 64 c cs false at))
  ]
]
  where
    by_email : (c == 64) ≡ false → (is : Bool) → is_email_byte c ≡ is → email_read (c ∷ cs) ≡ (if is then email_read cs else None)
    by_email at is h = rw (at, h) refl

closed_by : (b : Bool) (o : Option (List ℕ)) → closed (if b then o else None) ≡ (if b then closed o else None)
closed_by true o = refl
closed_by false o = refl

-- an address with a name
email_found : (c : ℕ) (cs : List ℕ) → is_email_byte c ≡ true → closed (email_end (c ∷ cs)) ≡ email_read (c ∷ cs)
email_found c cs h =
    let rest = after_all is_email_byte (c ∷ cs) in
    let some : nat_le 1 (prefix_len is_email_byte (c ∷ cs)) ≡ true =
    ap (λ (b : Bool). nat_le 1 (if b then 1 + prefix_len is_email_byte cs else 0)) h ∙ le-leb 1 (1 + prefix_len is_email_byte cs) (omega arith) in
    closed_by (nat_le 1 (prefix_len is_email_byte (c ∷ cs)) && begins_with (codes "@") rest) (domain_end (drop 1 rest))
    ∙ (ap (λ (b : Bool). if b && begins_with (codes "@") rest then closed (domain_end (drop 1 rest)) else None) some ∙ sym (email_is (c ∷ cs)))

-- and without one
email_none : (c : ℕ) (cs : List ℕ) → is_email_byte c ≡ false → email_end (c ∷ cs) ≡ None
email_none c cs h =
    let rest = after_all is_email_byte (c ∷ cs) in
    ap (λ (b : Bool). if nat_le 1 (if b then 1 + prefix_len is_email_byte cs else 0) && begins_with (codes "@") rest then domain_end (drop 1 rest) else None) h

read_none : (c : ℕ) (cs : List ℕ) → is_email_byte c ≡ false → (c == 64) ≡ false → email_read (c ∷ cs) ≡ None
read_none c cs h at = rw (at, h) refl

read_more : (c : ℕ) (cs : List ℕ) → is_email_byte c ≡ true → email_read (c ∷ cs) ≡ email_read cs
read_more c cs h = rw (apart is_email_byte 64 c refl h, h) refl

-- ---- schemes

scheme_in : (c : ℕ) → is_scheme_byte c ≡ true → is_email_byte c ≡ true
scheme_in c h = elim (or_cases (is_ascii_alphanumeric c) ((c == 43) || ((c == 46) || (c == 45))) h) [
  | inl letter ↦ or_left (is_ascii_alphanumeric c) (list_any (λ (other : ℕ). c == other) (codes ".!#$%&'*+/=?^_`{|}~-")) letter
  | inr other ↦ elim (or_cases (c == 43) ((c == 46) || (c == 45)) other) [
    | inl plus ↦ ap is_email_byte (eqb-true c 43 plus)
    | inr others ↦ elim (or_cases (c == 46) (c == 45) others) [
      | inl dot ↦ ap is_email_byte (eqb-true c 46 dot)
      | inr dash ↦ ap is_email_byte
          (eqb-true c 45 dash)
    ]
  ]
]

-- what follows a scheme
abbrev scheme_found : ℕ → List ℕ → Option (List ℕ)
scheme_found n cs =
    if nat_le (n + prefix_len is_scheme_byte cs) 32 && begins_with (codes ":") (after_all is_scheme_byte cs)
    then uri_read (drop 1 (after_all is_scheme_byte cs)) else email_read cs

scheme_is : (cs : List ℕ) (n : ℕ) → n ≤ 32 → scheme_read n cs ≡ scheme_found n cs
scheme_is [] n few = sym (by_fit (nat_le (n + 0) 32 && false))
  where
    by_fit : (b : Bool) → (if b then uri_read [] else None) ≡ None
    by_fit true = refl
    by_fit false = refl
scheme_is (c ∷ cs) n few = elim (cases_Bool (c == 58)) [
  | inl h ↦
      let same : c ≡ 58 = eqb-true c 58 h in
      ap (λ (b : ℕ). scheme_read n (b ∷ cs)) same
      ∙ (sym (ap (λ (b : Bool). if b && true then uri_read cs else email_read (58 ∷ cs)) (le-leb (n + 0) 32 (omega (arith, few))))
      ∙ sym (ap (λ (b : ℕ). scheme_found n (b ∷ cs)) same))
  | inr colon ↦ elim (cases_Bool (is_scheme_byte c)) [
    | inl h ↦ by_scheme colon true h ∙ longer (scheme_is cs) h (nat_lt n 32) refl
    | inr h ↦
        by_scheme colon false h
        ∙ sym (ap (λ (b : Bool). if b then uri_read (drop 1 (after_all is_scheme_byte (c ∷ cs))) else email_read (c ∷ cs))
        (and_right (nat_le (n + prefix_len is_scheme_byte (c ∷ cs)) 32) (begins_with (codes ":") (after_all is_scheme_byte (c ∷ cs)))
        (ap (begins_with (codes ":")) (rest_none is_scheme_byte c cs h) ∙ begins_by 58 c cs false colon)))
  ]
]
  where
    by_scheme : (c == 58) ≡ false → (is : Bool) → is_scheme_byte c ≡ is → scheme_read n (c ∷ cs)
        ≡ (if is then (if nat_lt n 32 then scheme_read (n + 1) cs else email_read (c ∷ cs)) else email_read (c ∷ cs))
    by_scheme colon is h = rw (colon, h) refl

    size_more : is_scheme_byte c ≡ true → n + prefix_len is_scheme_byte (c ∷ cs) ≡ n + 1 + prefix_len is_scheme_byte cs
    size_more h = ap (λ (b : Bool). n + (if b then 1 + prefix_len is_scheme_byte cs else 0)) h
        ∙ (let e : n + (1 + prefix_len is_scheme_byte cs) ≡ n + 1 + prefix_len is_scheme_byte cs = omega arith in e)

    longer : ((k : ℕ) → k ≤ 32 → scheme_read k cs ≡ scheme_found k cs) → is_scheme_byte c ≡ true → (less : Bool) → nat_lt n 32 ≡ less
        → (if nat_lt n 32 then scheme_read (n + 1) cs else email_read (c ∷ cs)) ≡ scheme_found n (c ∷ cs)
    longer ih h true less =
        ap (λ (b : Bool). if b then scheme_read (n + 1) cs else email_read (c ∷ cs)) less
        ∙ (ih (n + 1) (let l = ltb-true n 32 less in omega (arith, l))
        ∙ sym (ap (λ (k : ℕ). if nat_le k 32 && begins_with (codes ":") (after_all is_scheme_byte (c ∷ cs))
        then uri_read (drop 1 (after_all is_scheme_byte (c ∷ cs))) else email_read (c ∷ cs)) (size_more h)
        ∙ (ap (λ (l : List ℕ). if nat_le (n + 1 + prefix_len is_scheme_byte cs) 32 && begins_with (codes ":") l then uri_read (drop 1 l)
        else email_read (c ∷ cs)) (rest_more is_scheme_byte c cs h)
        ∙ ap (λ (o : Option (List ℕ)). if nat_le (n + 1 + prefix_len is_scheme_byte cs) 32 && begins_with (codes ":") (after_all is_scheme_byte cs)
        then uri_read (drop 1 (after_all is_scheme_byte cs)) else o)
        (read_more c cs (scheme_in c h)))))
    longer ih h false less =
        ap (λ (b : Bool). if b then scheme_read (n + 1) cs else email_read (c ∷ cs)) less
        ∙ sym (ap (λ (b : Bool). if b then uri_read (drop 1 (after_all is_scheme_byte (c ∷ cs))) else email_read (c ∷ cs))
        (and_left (nat_le (n + prefix_len is_scheme_byte (c ∷ cs)) 32) (begins_with (codes ":") (after_all is_scheme_byte (c ∷ cs)))
        (ap (λ (k : ℕ). nat_le k 32) (size_more h) ∙ lt-leb (n + 1 + prefix_len is_scheme_byte cs) 32 (let l = ltb-false n 32 less in omega (arith, l)))))

-- ---- addresses

-- a scheme and its `:` come first
abbrev is_uri : List ℕ → Bool
is_uri cs = begins_with_scheme cs && begins_with (codes ":") (after_all is_scheme_byte cs)

-- what follows an address of either kind
abbrev address_found : List ℕ → Option (List ℕ)
address_found cs = if is_uri cs then uri_read (drop 1 (after_all is_scheme_byte cs)) else closed (email_end cs)

letter_scheme : (c : ℕ) → is_letter c ≡ true → is_scheme_byte c ≡ true
letter_scheme c h = or_left (is_ascii_alphanumeric c) ((c == 43) || ((c == 46) || (c == 45))) (letter_either c h)
  where
    letter_either : (b : ℕ) → is_letter b ≡ true → is_ascii_alphanumeric b ≡ true
    letter_either b k = elim (or_cases (is_in_range 65 90 b) (is_in_range 97 122 b) k) [
      | inl u ↦ or_left (is_in_range 48 57 b || is_in_range 65 90 b) (is_in_range 97 122 b) (or_right (is_in_range 48 57 b) (is_in_range 65 90 b) u)
      | inr l ↦ or_right (is_in_range 48 57 b || is_in_range 65 90 b) (is_in_range 97 122 b) l
    ]

-- no address of a URI
no_uri : (cs : List ℕ) → begins_with_scheme cs ≡ false → address_found cs ≡ closed (email_end cs)
no_uri cs h =
    ap (λ (b : Bool). if b then uri_read (drop 1 (after_all is_scheme_byte cs)) else closed (email_end cs))
    (and_left (begins_with_scheme cs) (begins_with (codes ":") (after_all is_scheme_byte cs)) h)

-- a first byte that is no letter
other_found : (c : ℕ) (cs : List ℕ) → is_letter c ≡ false → (if c == 64 then None else email_read (c ∷ cs)) ≡ address_found (c ∷ cs)
other_found c cs h = elim (cases_Bool (is_email_byte c)) [
  | inl k ↦
      ap (λ (b : Bool). if b then None else email_read (c ∷ cs)) (apart is_email_byte 64 c refl k) ∙ (sym (email_found c cs k) ∙ sym none)
  | inr k ↦ by_at k (c == 64) refl ∙ sym (none ∙ ap closed (email_none c cs k))
]
  where
    none : address_found (c ∷ cs) ≡ closed (email_end (c ∷ cs))
    none = no_uri (c ∷ cs) (and_left (is_letter c) (nat_le 2 (prefix_len is_scheme_byte (c ∷ cs)) && nat_le (prefix_len is_scheme_byte (c ∷ cs)) 32) h)

    by_at : is_email_byte c ≡ false → (at : Bool) → (c == 64) ≡ at → (if c == 64 then None else email_read (c ∷ cs)) ≡ None
    by_at k true at = ap (λ (b : Bool). if b then None else email_read (c ∷ cs)) at
    by_at k false at = ap (λ (b : Bool). if b then None else email_read (c ∷ cs)) at ∙ read_none c cs k at

prefix_first : (c : ℕ) (cs : List ℕ) (is : Bool) → is_scheme_byte c ≡ is → prefix_len is_scheme_byte (c ∷ cs)
    ≡ (if is then 1 + prefix_len is_scheme_byte cs else 0)
prefix_first c cs is h = ap (λ (b : Bool). if b then 1 + prefix_len is_scheme_byte cs else 0) h

-- a letter with no scheme byte after it
short_found : (c : ℕ) (cs : List ℕ) → is_letter c ≡ true → prefix_len is_scheme_byte cs ≡ 0 → email_read cs ≡ address_found (c ∷ cs)
short_found c cs h short =
    let scheme = letter_scheme c h in
    let size : prefix_len is_scheme_byte (c ∷ cs) ≡ 1 = prefix_first c cs true scheme ∙ ap (λ (n : ℕ). 1 + n) short in
    sym (read_more c cs (scheme_in c scheme)) ∙ (sym (email_found c cs (scheme_in c scheme))
    ∙ sym (no_uri (c ∷ cs) (and_right (is_letter c) (nat_le 2 (prefix_len is_scheme_byte (c ∷ cs)) && nat_le (prefix_len is_scheme_byte (c ∷ cs)) 32)
    (ap (λ (n : ℕ). nat_le 2 n && nat_le n 32) size))))

-- and with one
long_found : (c : ℕ) (cs : List ℕ) → is_letter c ≡ true → 1 ≤ prefix_len is_scheme_byte cs → scheme_found 1 cs ≡ address_found (c ∷ cs)
long_found c cs h some =
    let scheme = letter_scheme c h in
    let n = prefix_len is_scheme_byte cs in
    let after = after_all is_scheme_byte cs in
    let few : nat_le 2 (1 + n) ≡ true = le-leb 2 (1 + n) (omega (arith, some)) in
    sym (
    ap (λ (b : Bool). if (b && (nat_le 2 (prefix_len is_scheme_byte (c ∷ cs)) && nat_le (prefix_len is_scheme_byte (c ∷ cs)) 32))
    && begins_with (codes ":") (after_all is_scheme_byte (c ∷ cs)) then uri_read (drop 1 (after_all is_scheme_byte (c ∷ cs)))
    else closed (email_end (c ∷ cs))) h
    ∙ (ap (λ (k : ℕ). if (nat_le 2 k && nat_le k 32) && begins_with (codes ":") (after_all is_scheme_byte (c ∷ cs))
    then uri_read (drop 1 (after_all is_scheme_byte (c ∷ cs))) else closed (email_end (c ∷ cs))) (prefix_first c cs true scheme)
    ∙ (ap (λ (b : Bool). if (b && nat_le (1 + n) 32) && begins_with (codes ":") (after_all is_scheme_byte (c ∷ cs))
    then uri_read (drop 1 (after_all is_scheme_byte (c ∷ cs))) else closed (email_end (c ∷ cs))) few
    ∙ (ap (λ (l : List ℕ). if nat_le (1 + n) 32 && begins_with (codes ":") l then uri_read (drop 1 l) else closed (email_end (c ∷ cs)))
    (rest_more is_scheme_byte c cs scheme)
    ∙ ap (λ (o : Option (List ℕ)). if nat_le (1 + n) 32 && begins_with (codes ":") after then uri_read (drop 1 after) else o)
    (email_found c cs (scheme_in c scheme) ∙ read_more c cs (scheme_in c scheme)))))
    )

second_is : (c : ℕ) (cs : List ℕ) → is_letter c ≡ true → second_read cs ≡ address_found (c ∷ cs)
second_is c [] h = short_found c [] h refl
second_is c (d ∷ ds) h = elim (cases_Bool (is_scheme_byte d)) [
  | inl k ↦
      ap (λ (b : Bool). if b then scheme_read 1 (d ∷ ds) else email_read (d ∷ ds)) k
      ∙ (scheme_is (d ∷ ds) 1 (omega arith) ∙ long_found c (d ∷ ds) h (let e = prefix_first d ds true k in omega (arith, e)))
  | inr k ↦ ap (λ (b : Bool). if b then scheme_read 1 (d ∷ ds) else email_read (d ∷ ds)) k ∙ short_found c (d ∷ ds) h (prefix_first d ds false k)
]

address_is : (cs : List ℕ) → address_read cs ≡ address_found cs
address_is [] = refl
address_is (c ∷ cs) = elim (cases_Bool (is_letter c)) [
  | inl h ↦ ap (λ (b : Bool). if b then second_read cs else if c == 64 then None else email_read (c ∷ cs)) h ∙ second_is c cs h
  | inr h ↦ ap (λ (b : Bool). if b then second_read cs else if c == 64 then None else email_read (c ∷ cs)) h ∙ other_found c cs h
]

-- ---- rests

rest_all : (p : ℕ → Bool) (cs : List ℕ) → IsRest cs (after_all p cs)
rest_all p cs = record { count = prefix_len p cs; few = prefix_len-le-length p cs; is = refl }

rest_rest : (cs ds es : List ℕ) → IsRest cs ds → IsRest ds es → IsRest cs es
rest_rest cs ds es r s = record {
  count = s.count + r.count;
  few = (let a = r.few in let b = s.few in let e = ap length r.is in let f = length-drop r.count cs in omega (arith, a, b, e, f));
  is = s.is ∙ (ap (drop s.count) r.is
      ∙ (drop-drop s.count r.count cs ∙ ap (λ (n : ℕ). drop n cs) (let e : r.count + s.count ≡ s.count + r.count = omega arith in e)));
}

-- a byte that comes first, and what follows it
rest_first : (m : ℕ) (cs : List ℕ) → begins_with (m ∷ []) cs ≡ true → IsRest cs (drop 1 cs)
rest_first m [] h = absurd (let f : false ≡ true = h in cc)
rest_first m (c ∷ cs) h = record { count = 1; few = omega arith; is = refl }

rest_if : (b : Bool) (cs found : List ℕ) (o : Option (List ℕ)) → (b ≡ true → o ≡ Some found → IsRest cs found) → (if b then o else None) ≡ Some found
    → IsRest cs found
rest_if true cs found o more e = more refl e
rest_if false cs found o more e = absurd (let f : None ≡ Some found = e in cc)

uri_rest : (cs found : List ℕ) → uri_end cs ≡ Some found → IsRest cs found
uri_rest cs found e = rest_if (is_uri cs) cs found (Some (after_uri (after_all is_scheme_byte cs))) (λ h f.
    let rest = after_all is_scheme_byte cs in
    let same : after_uri rest ≡ found = (let g : Some (after_uri rest) ≡ Some found = f in cc) in
    subst (IsRest cs) same (rest_rest cs rest (after_uri rest) (rest_all is_scheme_byte cs)
    (rest_rest rest (drop 1 rest) (after_uri rest) (rest_first 58 rest (and_parts (begins_with_scheme cs) (begins_with (codes ":") rest) h).1)
    (rest_all is_uri_byte (drop 1 rest))))) e

email_rest : (cs found : List ℕ) → email_end cs ≡ Some found → IsRest cs found
email_rest cs found e = rest_if (nat_le 1 (prefix_len is_email_byte cs) && begins_with (codes "@") (after_all is_email_byte cs)) cs found
    (domain_end (drop 1 (after_all is_email_byte cs))) (λ h f.
    let rest = after_all is_email_byte cs in
    rest_rest cs rest found (rest_all is_email_byte cs) (rest_rest rest (drop 1 rest) found
    (rest_first 64 rest (and_parts (nat_le 1 (prefix_len is_email_byte cs)) (begins_with (codes "@") rest) h).1)
    (rest_if (is_domain (take_while is_domain_byte (drop 1 rest))) (drop 1 rest) found (Some (after_all is_domain_byte (drop 1 rest))) (λ k g.
    let same : after_all is_domain_byte (drop 1 rest) ≡ found = (let i : Some (after_all is_domain_byte (drop 1 rest)) ≡ Some found = g in cc) in
    subst (IsRest (drop 1 rest)) same (rest_all is_domain_byte (drop 1 rest))) f))) e

-- ---- leaves

-- what a leaf after a `<` leaves of the codes
abbrev pub left : List ℕ → Option Found → Option (List ℕ)
left cs None = None
left cs (Some leaf) = Some (drop leaf.size (60 ∷ cs))

left_by : (cs : List ℕ) (parts : List InlineLeaf) (c : ℕ) (rest : List ℕ) → IsRest cs (c ∷ rest) → drop (length (text_before cs (c ∷ rest)) + 2) (60 ∷ cs) ≡
    rest
left_by cs parts c rest r =
    let k = r.count in
    let size : length cs - length (c ∷ rest) ≡ k = (let f = r.few in let e = ap length r.is in let g = length-drop k cs in omega (arith, e, f, g)) in
    let all : length (text_before cs (c ∷ rest)) ≡ k = ap (λ (n : ℕ). length (take n cs)) size ∙ length-take-le k cs r.few in
    ap (λ (n : ℕ). drop (n + 2) (60 ∷ cs)) all
    ∙ (ap (λ (n : ℕ). drop n (60 ∷ cs)) (let e : k + 2 ≡ suc (k + 1) = omega arith in e)
    ∙ (sym (drop-drop 1 k cs) ∙ sym (ap (drop 1) r.is)))

closed_left : (is_email : Bool) (cs : List ℕ) (o : Option (List ℕ)) → ((rest : List ℕ) → o ≡ Some rest → IsRest cs rest)
    → left cs (closed_autolink is_email cs o) ≡ closed o
closed_left is_email cs None is = refl
closed_left is_email cs (Some []) is = refl
closed_left is_email cs (Some (c ∷ rest)) is = elim (cases_Bool (c == 62)) [
  | inl h ↦ by_first true h ∙ (ap Some (left_by cs [] c rest (is (c ∷ rest) refl)) ∙ sym (ap (λ (b : Bool). if b then Some rest else None) h))
  | inr h ↦ by_first false h ∙ sym (ap (λ (b : Bool). if b then Some rest else None) h)
]
  where
    by_first : (first : Bool) → (c == 62) ≡ first
        → left cs (closed_autolink is_email cs (Some (c ∷ rest))) ≡ left cs (if first
        then Some (leaf (Autolink is_email (text_before cs (c ∷ rest)) ∷ []) (length (text_before cs (c ∷ rest)) + 2)) else None)
    by_first first h =
        ap (λ (b : Bool). left cs (if b then Some (leaf (Autolink is_email (text_before cs (c ∷ rest)) ∷ [])
        (length (text_before cs (c ∷ rest)) + 2)) else None))
        (begins_by 62 c rest first h)

or_none : (cs : List ℕ) (o : Option Found) → left cs (or_else o None) ≡ left cs o
or_none cs None = refl
or_none cs (Some leaf) = refl

-- after a scheme and its `:` no email can begin where that does
no_at : (cs : List ℕ) → begins_with (codes ":") (after_all is_scheme_byte cs) ≡ true → begins_with (codes "@") (after_all is_email_byte cs) ≡ false
no_at [] h = refl
no_at (c ∷ cs) h = elim (cases_Bool (is_scheme_byte c)) [
  | inl k ↦
      ap (begins_with (codes "@")) (rest_more is_email_byte c cs (scheme_in c k))
      ∙ no_at cs (sym (ap (begins_with (codes ":")) (rest_more is_scheme_byte c cs k)) ∙ h)
  | inr k ↦ elim (cases_Bool (c == 58)) [
    | inl colon ↦ ap (λ (b : ℕ). begins_with (codes "@") (after_all is_email_byte (b ∷ cs))) (eqb-true c 58 colon)
    | inr other ↦
        absurd (let f : begins_with (codes ":") (c ∷ cs) ≡ true = sym (ap (begins_with (codes ":")) (rest_none is_scheme_byte c cs k)) ∙ h in
        let g : false ≡ true = sym (begins_by 58 c cs false other) ∙ f in cc)
  ]
]

no_email : (cs : List ℕ) → is_uri cs ≡ true → email_end cs ≡ None
no_email cs h =
    let at = no_at cs (and_parts (begins_with_scheme cs) (begins_with (codes ":") (after_all is_scheme_byte cs)) h).1 in
    ap (λ (b : Bool). if b then domain_end (drop 1 (after_all is_email_byte cs)) else None)
    (and_right (nat_le 1 (prefix_len is_email_byte cs)) (begins_with (codes "@") (after_all is_email_byte cs)) at)

-- what the states read after a `<` is what the definition leaves of the codes
pub autolink_left : (cs : List ℕ) → left cs (autolink_after cs) ≡ address_read cs
autolink_left cs = elim (cases_Bool (is_uri cs)) [
  | inl h ↦
      let found = Some (after_uri (after_all is_scheme_byte cs)) in
      let is : uri_end cs ≡ found = ap (λ (b : Bool). if b then found else None) h in
      ap (λ (o : Option (List ℕ)). left cs (or_else (closed_autolink false cs (uri_end cs)) (closed_autolink true cs o))) (no_email cs h)
      ∙ (or_none cs (closed_autolink false cs (uri_end cs))
      ∙ (closed_left false cs (uri_end cs) (uri_rest cs)
      ∙ (ap closed is ∙ sym (address_is cs ∙ ap (λ (b : Bool). if b then closed found else closed (email_end cs)) h))))
  | inr h ↦
      let found = Some (after_uri (after_all is_scheme_byte cs)) in
      let is : uri_end cs ≡ None = ap (λ (b : Bool). if b then found else None) h in
      ap (λ (o : Option (List ℕ)). left cs (or_else (closed_autolink false cs o) (closed_autolink true cs (email_end cs)))) is
      ∙ (closed_left true cs (email_end cs) (email_rest cs)
      ∙ sym (address_is cs ∙ ap (λ (b : Bool). if b then closed found else closed (email_end cs)) h))
]
