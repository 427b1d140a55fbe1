-- A domain, byte by byte, is what the definition calls one.
use Rattle.std.proofs.Common.{◌≡◌, ◌∙◌, ℕ, suc, ◌+◌, ◌-◌, ◌<◌, ◌≤◌, Bool, true, false, not, nat_le, nat_lt, ◌==◌, ◌&&◌, ◌||◌, if◌then◌else◌, List, [], ◌∷◌}
use Rattle.std.proofs.Common.{length, Option, Some, None, slice_index, inl, inr, refl, sym, ap, arith}
use Rattle.state_verdicts.proofs.Prelude.{after_all, and_left, and_right, cases_Bool, domain_end, eqb-true, is_ascii_alphanumeric, is_domain, is_domain_byte}
use Rattle.state_verdicts.proofs.Prelude.{le-leb, list_all, lt-leb, ltb-false, ltb-true, or_from, or_left, take_while}
use Rattle.std.proofs.lemmas.List.Sums.{take_while-cons}
use Rattle.definition_inline.specs.Autolink.{between_dots, in_first, is_domain_label}
use Rattle.state_verdicts.proofs.ReferenceValues.{apart}
use Rattle.state_verdicts.proofs.Stretches.{rest_more, rest_none}

-- what follows the `>` that comes first, where one does
abbrev pub past_greater : List ℕ → Option (List ℕ)
past_greater [] = None
past_greater (c ∷ cs) = if c == 62 then Some cs else None

-- the same of what follows an address, where there is one
abbrev pub closed : Option (List ℕ) → Option (List ℕ)
closed None = None
closed (Some rest) = past_greater rest

-- where a domain is read: at the start of a label, or after so many bytes of it, of which the last is a dash or not
pub data Place : Type 0 where
  starting : Place
  within : ℕ → Bool → Place

abbrev pub size_at : Place → ℕ
size_at starting = 0
size_at (within n dash) = n

-- what the states read from there on, with the `>` that follows
abbrev pub domain_read : Place → List ℕ → Option (List ℕ)
domain_read at [] = None
domain_read starting (c ∷ cs) = if is_ascii_alphanumeric c then domain_read (within 1 false) cs else None
domain_read (within n dash) (c ∷ cs) =
    if c == 46 then (if dash then None else domain_read starting cs)
    else if c == 62 then (if dash then None else Some cs)
    else if c == 45 then (if nat_lt n 63 then domain_read (within (n + 1) true) cs else None)
    else if is_ascii_alphanumeric c then (if nat_lt n 63 then domain_read (within (n + 1) false) cs else None)
    else None

-- these bytes end a label after so many
abbrev label_ends : ℕ → Bool → List ℕ → Bool
label_ends n dash [] = nat_le n 63 && not dash
label_ends n dash (c ∷ cs) = label_ends (n + 1) (c == 45) cs

-- these are the labels from a place on
abbrev labels_fit : Place → List (List ℕ) → Bool
labels_fit starting labels = list_all is_domain_label labels
labels_fit (within n dash) [] = label_ends n dash [] && true
labels_fit (within n dash) (first ∷ others) = label_ends n dash first && list_all is_domain_label others

-- ---- labels

label_ends_is : (l : List ℕ) (n b : ℕ) → label_ends n (b == 45) l ≡ (nat_le (n + length l) 63 && not (slice_index (b ∷ l) (length l) == 45))
label_ends_is [] n b = ap (λ (m : ℕ). nat_le m 63 && not (b == 45)) (let e : n ≡ n + 0 = omega arith in e)
label_ends_is (c ∷ l) n b =
    label_ends_is l (n + 1) c
    ∙ ap (λ (m : ℕ). nat_le m 63 && not (slice_index (c ∷ l) (length l) == 45)) (let e : n + 1 + length l ≡ n + suc (length l) = omega arith in e)

label_by : (size : Bool) (first last : Bool) → first ≡ false → (size && not (first || last)) ≡ (size && not last)
label_by size first last h = ap (λ (b : Bool). size && not (b || last)) h

label_is : (c : ℕ) (l : List ℕ) → (c == 45) ≡ false → is_domain_label (c ∷ l) ≡ label_ends 1 false l
label_is c l h =
    let n = length l in
    label_by (nat_le 1 (suc n) && nat_le (suc n) 63) (c == 45) (slice_index (c ∷ l) (suc n - 1) == 45) h
    ∙ (ap (λ (b : Bool). (b && nat_le (suc n) 63) && not (slice_index (c ∷ l) (suc n - 1) == 45)) (le-leb 1 (suc n) (omega arith))
    ∙ (ap (λ (k : ℕ). nat_le (suc n) 63 && not (slice_index (c ∷ l) k == 45)) (let e : suc n - 1 ≡ n = omega arith in e)
    ∙ (ap (λ (k : ℕ). nat_le k 63 && not (slice_index (c ∷ l) n == 45)) (let e : suc n ≡ 1 + n = omega arith in e)
    ∙ (sym (label_ends_is l 1 c) ∙ ap (λ (b : Bool). label_ends 1 b l) h))))

too_long : (l : List ℕ) (n : ℕ) (dash : Bool) → 63 < n → label_ends n dash l ≡ false
too_long [] n dash h = and_left (nat_le n 63) (not dash) (lt-leb n 63 h)
too_long (c ∷ l) n dash h = too_long l (n + 1) (c == 45) (omega (arith, h))

none_fit : (labels : List (List ℕ)) (n : ℕ) (dash : Bool) → 63 < n → labels_fit (within n dash) labels ≡ false
none_fit [] n dash h = and_left (label_ends n dash []) true (too_long [] n dash h)
none_fit (first ∷ others) n dash h = and_left (label_ends n dash first) (list_all is_domain_label others) (too_long first n dash h)

-- a byte in the first of the labels
first_fits : (c n : ℕ) (dash : Bool) (labels : List (List ℕ)) → labels_fit (within n dash) (in_first c labels) ≡ labels_fit (within (n + 1) (c == 45)) labels
first_fits c n dash [] = refl
first_fits c n dash (first ∷ others) = refl

start_fits : (c : ℕ) (labels : List (List ℕ)) → (c == 45) ≡ false → labels_fit starting (in_first c labels) ≡ labels_fit (within 1 false) labels
start_fits c [] h = ap (λ (b : Bool). b && true) (label_is c [] h)
start_fits c (first ∷ others) h = ap (λ (b : Bool). b && list_all is_domain_label others) (label_is c first h)

-- ---- bytes

-- the labels of what comes first
abbrev labels_of : List ℕ → List (List ℕ)
labels_of cs = between_dots (take_while is_domain_byte cs)

-- what follows labels that fit, and a `>`
abbrev found : Bool → List ℕ → Option (List ℕ)
found fit rest = if fit then past_greater rest else None

none_found : (fit : Bool) (rest : List ℕ) → fit ≡ false → found fit rest ≡ None
none_found fit rest h = ap (λ (b : Bool). found b rest) h

-- without a `>` nothing is found
no_greater : (fit : Bool) (c : ℕ) (cs : List ℕ) → (c == 62) ≡ false → found fit (c ∷ cs) ≡ None
no_greater true c cs h = ap (λ (b : Bool). if b then Some cs else None) h
no_greater false c cs h = refl

-- the first byte is one of a domain, but no dot
domain_more : (c : ℕ) (cs : List ℕ) → is_domain_byte c ≡ true → (c == 46) ≡ false → labels_of (c ∷ cs) ≡ in_first c (labels_of cs)
domain_more c cs h dot =
    ap between_dots (take_while-cons is_domain_byte c cs ∙ ap (λ (b : Bool). if b then c ∷ take_while is_domain_byte cs else []) h)
    ∙ ap (λ (b : Bool). if b then [] ∷ between_dots (take_while is_domain_byte cs) else in_first c (between_dots (take_while is_domain_byte cs))) dot

domain_dot : (cs : List ℕ) → labels_of (46 ∷ cs) ≡ [] ∷ labels_of cs
domain_dot cs = ap between_dots (take_while-cons is_domain_byte 46 cs)

domain_none : (c : ℕ) (cs : List ℕ) → is_domain_byte c ≡ false → labels_of (c ∷ cs) ≡ [] ∷ []
domain_none c cs h = ap between_dots (take_while-cons is_domain_byte c cs ∙ ap (λ (b : Bool). if b then c ∷ take_while is_domain_byte cs else []) h)

-- by what the definition says of these codes
abbrev defined : Place → List ℕ → Option (List ℕ)
defined at cs = found (labels_fit at (labels_of cs)) (after_all is_domain_byte cs)

-- over a byte of a domain that is no dot
defined_more : (c n : ℕ) (dash : Bool) (cs : List ℕ) → is_domain_byte c ≡ true → (c == 46) ≡ false
    → defined (within n dash) (c ∷ cs) ≡ defined (within (n + 1) (c == 45)) cs
defined_more c n dash cs h dot =
    ap (λ (ls : List (List ℕ)). found (labels_fit (within n dash) ls) (after_all is_domain_byte (c ∷ cs))) (domain_more c cs h dot)
    ∙ (ap (λ (b : Bool). found b (after_all is_domain_byte (c ∷ cs))) (first_fits c n dash (labels_of cs))
    ∙ ap (found (labels_fit (within (n + 1) (c == 45)) (labels_of cs))) (rest_more is_domain_byte c cs h))

-- the same after a full label
defined_full : (c n : ℕ) (dash : Bool) (cs : List ℕ) → is_domain_byte c ≡ true → (c == 46) ≡ false → 63 ≤ n → defined (within n dash) (c ∷ cs) ≡ None
defined_full c n dash cs h dot full =
    defined_more c n dash cs h dot
    ∙ none_found (labels_fit (within (n + 1) (c == 45)) (labels_of cs)) (after_all is_domain_byte cs)
    (none_fit (labels_of cs) (n + 1) (c == 45) (omega (arith, full)))

defined_start : (c : ℕ) (cs : List ℕ) → is_domain_byte c ≡ true → (c == 46) ≡ false → (c == 45) ≡ false
    → defined starting (c ∷ cs) ≡ defined (within 1 false) cs
defined_start c cs h dot dash =
    ap (λ (ls : List (List ℕ)). found (labels_fit starting ls) (after_all is_domain_byte (c ∷ cs))) (domain_more c cs h dot)
    ∙ (ap (λ (b : Bool). found b (after_all is_domain_byte (c ∷ cs))) (start_fits c (labels_of cs) dash)
    ∙ ap (found (labels_fit (within 1 false) (labels_of cs))) (rest_more is_domain_byte c cs h))

-- over a dot
defined_dot : (n : ℕ) (cs : List ℕ) → n ≤ 63 → defined (within n false) (46 ∷ cs) ≡ defined starting cs
defined_dot n cs few =
    ap (λ (ls : List (List ℕ)). found (labels_fit (within n false) ls) (after_all is_domain_byte (46 ∷ cs))) (domain_dot cs)
    ∙ (ap (λ (b : Bool). found ((b && true) && list_all is_domain_label (labels_of cs)) (after_all is_domain_byte (46 ∷ cs))) (le-leb n 63 few)
    ∙ ap (found (list_all is_domain_label (labels_of cs))) (rest_more is_domain_byte 46 cs refl))

-- a dash ends no label
defined_dashed : (n : ℕ) (cs : List ℕ) → defined (within n true) (46 ∷ cs) ≡ None
defined_dashed n cs =
    none_found (labels_fit (within n true) (labels_of (46 ∷ cs))) (after_all is_domain_byte (46 ∷ cs))
    (ap (labels_fit (within n true)) (domain_dot cs) ∙ and_left (nat_le n 63 && false) (list_all is_domain_label (labels_of cs))
    (and_right (nat_le n 63) false refl))

-- at another byte
defined_none : (at : Place) (c : ℕ) (cs : List ℕ) → is_domain_byte c ≡ false → (c == 62) ≡ false → defined at (c ∷ cs) ≡ None
defined_none at c cs h other = ap (found (labels_fit at (labels_of (c ∷ cs)))) (rest_none is_domain_byte c cs h)
    ∙ no_greater (labels_fit at (labels_of (c ∷ cs))) c cs other

defined_ends : (n : ℕ) (dash : Bool) (cs : List ℕ) → n ≤ 63 → defined (within n dash) (62 ∷ cs) ≡ (if dash then None else Some cs)
defined_ends n dash cs few =
    ap (λ (ls : List (List ℕ)). found (labels_fit (within n dash) ls) (after_all is_domain_byte (62 ∷ cs))) (domain_none 62 cs refl)
    ∙ (ap (λ (b : Bool). found ((b && not dash) && true) (after_all is_domain_byte (62 ∷ cs))) (le-leb n 63 few)
    ∙ (ap (found (not dash && true)) (rest_none is_domain_byte 62 cs refl) ∙ by_dash dash))
  where
    by_dash : (d : Bool) → found (not d && true) (62 ∷ cs) ≡ (if d then None else Some cs)
    by_dash true = refl
    by_dash false = refl

-- no label begins so
defined_bare : (c : ℕ) (cs : List ℕ) → is_ascii_alphanumeric c ≡ false → defined starting (c ∷ cs) ≡ None
defined_bare c cs letter = elim (cases_Bool (c == 46)) [
  | inl h ↦
      let same : c ≡ 46 = eqb-true c 46 h in
      ap (λ (b : ℕ). defined starting (b ∷ cs)) same
      ∙ none_found (labels_fit starting (labels_of (46 ∷ cs))) (after_all is_domain_byte (46 ∷ cs)) (ap (labels_fit starting) (domain_dot cs))
  | inr dot ↦ elim (cases_Bool (c == 45)) [
    | inl h ↦
        let same : c ≡ 45 = eqb-true c 45 h in
        ap (λ (b : ℕ). defined starting (b ∷ cs)) same
        ∙ none_found (labels_fit starting (labels_of (45 ∷ cs))) (after_all is_domain_byte (45 ∷ cs))
        (ap (labels_fit starting) (domain_more 45 cs refl refl) ∙ dash_first (labels_of cs))
    | inr dash ↦
        let none : is_domain_byte c ≡ false = or_from (is_ascii_alphanumeric c) ((c == 45) || (c == 46)) letter (or_from (c == 45) (c == 46) dash dot) in
        none_found (labels_fit starting (labels_of (c ∷ cs))) (after_all is_domain_byte (c ∷ cs)) (ap (labels_fit starting) (domain_none c cs none))
  ]
]
  where
    dash_label : (l : List ℕ) → is_domain_label (45 ∷ l) ≡ false
    dash_label l = and_right (nat_le 1 (length (45 ∷ l)) && nat_le (length (45 ∷ l)) 63) (not (true || (slice_index (45 ∷ l) (length (45 ∷ l) - 1) == 45))) refl

    dash_first : (labels : List (List ℕ)) → labels_fit starting (in_first 45 labels) ≡ false
    dash_first [] = and_left (is_domain_label (45 ∷ [])) true (dash_label [])
    dash_first (first ∷ others) = and_left (is_domain_label (45 ∷ first)) (list_all is_domain_label others) (dash_label first)

letter_in : (c : ℕ) → is_ascii_alphanumeric c ≡ true → is_domain_byte c ≡ true
letter_in c h = or_left (is_ascii_alphanumeric c) ((c == 45) || (c == 46)) h

none_at_end : (at : Place) → None ≡ defined at []
none_at_end at = sym (by_fit (labels_fit at (labels_of [])))
  where
    by_fit : (fit : Bool) → found fit [] ≡ None
    by_fit true = refl
    by_fit false = refl

-- what the states read of these codes is what the definition says
abbrev IsRead : List ℕ → Type 0
IsRead cs = (at : Place) → size_at at ≤ 63 → domain_read at cs ≡ defined at cs

domain_is : (cs : List ℕ) (at : Place) → size_at at ≤ 63 → domain_read at cs ≡ defined at cs
domain_is [] at few = none_at_end at
domain_is (c ∷ cs) starting few = elim (cases_Bool (is_ascii_alphanumeric c)) [
  | inl h ↦
      ap (λ (b : Bool). if b then domain_read (within 1 false) cs else None) h
      ∙ (domain_is cs (within 1 false) (omega arith)
      ∙ sym (defined_start c cs (letter_in c h) (apart is_ascii_alphanumeric 46 c refl h) (apart is_ascii_alphanumeric 45 c refl h)))
  | inr h ↦ ap (λ (b : Bool). if b then domain_read (within 1 false) cs else None) h ∙ sym (defined_bare c cs h)
]
domain_is (c ∷ cs) (within n dash) few = elim (cases_Bool (c == 46)) [
  | inl h ↦
      let same : c ≡ 46 = eqb-true c 46 h in
      ap (λ (b : ℕ). domain_read (within n dash) (b ∷ cs)) same ∙ (at_dot (domain_is cs) dash ∙ sym (ap (λ (b : ℕ). defined (within n dash) (b ∷ cs)) same))
  | inr dot ↦ elim (cases_Bool (c == 62)) [
    | inl h ↦
        let same : c ≡ 62 = eqb-true c 62 h in
        ap (λ (b : ℕ). domain_read (within n dash) (b ∷ cs)) same ∙ (sym (defined_ends n dash cs few)
        ∙ sym (ap (λ (b : ℕ). defined (within n dash) (b ∷ cs)) same))
    | inr greater ↦ elim (cases_Bool (c == 45)) [
      | inl h ↦
          let same : c ≡ 45 = eqb-true c 45 h in
          ap (λ (b : ℕ). domain_read (within n dash) (b ∷ cs)) same ∙ (longer (domain_is cs) 45 true refl refl refl (nat_lt n 63) refl
          ∙ sym (ap (λ (b : ℕ). defined (within n dash) (b ∷ cs)) same))
      | inr no_dash ↦ elim (cases_Bool (is_ascii_alphanumeric c)) [
        | inl h ↦ at_letter dot greater no_dash true h ∙ longer (domain_is cs) c false (letter_in c h) dot no_dash (nat_lt n 63) refl
        | inr h ↦
            at_letter dot greater no_dash false h
            ∙ sym (defined_none (within n dash) c cs (or_from (is_ascii_alphanumeric c) ((c == 45) || (c == 46)) h (or_from (c == 45) (c == 46) no_dash dot))
            greater)
      ]
    ]
  ]
]
  where
    at_dot : IsRead cs → (d : Bool) → (if d then None else domain_read starting cs) ≡ defined (within n d) (46 ∷ cs)
    at_dot ih true = sym (defined_dashed n cs)
    at_dot ih false = ih starting (omega arith) ∙ sym (defined_dot n cs few)

    at_letter : (c == 46) ≡ false → (c == 62) ≡ false → (c == 45) ≡ false → (letter : Bool) → is_ascii_alphanumeric c ≡ letter
        → domain_read (within n dash) (c ∷ cs) ≡ (if letter then (if nat_lt n 63 then domain_read (within (n + 1) false) cs else None) else None)
    at_letter dot greater no_dash letter h = rw (dot, greater, no_dash, h) refl

    longer : IsRead cs → (b : ℕ) (d : Bool) → is_domain_byte b ≡ true → (b == 46) ≡ false → (b == 45) ≡ d → (less : Bool) → nat_lt n 63 ≡ less
        → (if nat_lt n 63 then domain_read (within (n + 1) d) cs else None) ≡ defined (within n dash) (b ∷ cs)
    longer ih b d h no_dot is true less =
        ap (λ (z : Bool). if z then domain_read (within (n + 1) d) cs else None) less
        ∙ (ih (within (n + 1) d) (let l = ltb-true n 63 less in omega (arith, l))
        ∙ sym (defined_more b n dash cs h no_dot ∙ ap (λ (z : Bool). defined (within (n + 1) z) cs) is))
    longer ih b d h no_dot is false less =
        ap (λ (z : Bool). if z then domain_read (within (n + 1) d) cs else None) less ∙ sym (defined_full b n dash cs h no_dot (ltb-false n 63 less))

-- what the states read after an `@` is what the definition calls a domain, and a `>`
pub domain_found : (cs : List ℕ) → domain_read starting cs ≡ closed (domain_end cs)
domain_found cs = domain_is cs starting (omega arith) ∙ by_fit (is_domain (take_while is_domain_byte cs))
  where
    by_fit : (fit : Bool) → found fit (after_all is_domain_byte cs) ≡ closed (if fit then Some (after_all is_domain_byte cs) else None)
    by_fit true = refl
    by_fit false = refl
