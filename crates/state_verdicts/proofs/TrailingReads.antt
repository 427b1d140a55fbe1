-- Spaces and tabs at the end of data become what the definition has there.
use Rattle.std.proofs.Common.{◌≡◌, ◌∙◌, ℕ, suc, zero, ◌+◌, ◌-◌, ◌<◌, ◌≤◌, Bool, true, false, not, nat_le, nat_lt, ◌==◌, ◌&&◌, if◌then◌else◌, is_some}
use Rattle.std.proofs.Common.{List, [], ◌∷◌, ◌++◌, length, take, drop, reverse, slice_get, Option, Some, None, inl, inr, refl, sym, ap, arith}
use Rattle.state_verdicts.proofs.Prelude.{and_from, and_left, and_parts, and_right, cases_Bool, cases_lt, drop-drop, eq-eqb, eqb-true, Event, Found, is_eol}
use Rattle.state_verdicts.proofs.Prelude.{leaf, leb-true, length-drop, list_all, ne_eqb, not-true, Point, prefix_len, prefix_len-le-length}
use Rattle.std.proofs.lemmas.Bool.{leb-false}
use Rattle.std.proofs.lemmas.List.{length-reverse, reverse-append}
use Rattle.std.proofs.lemmas.List.Folds.{prefix_len-append}
use Rattle.std.proofs.lemmas.List.Sums.{suffix_len-le-length}
use Rattle.std.specs.List.{suffix_len}
use Rattle.markdown_options.specs.declared.configuration.Constructs.{Constructs}
use Rattle.definition_text.specs.Columns.{bare, indent, is_white}
use Rattle.definition_inline.specs.HardBreak.{ends_here, ends_inner_line, is_trailing_break, line_spaces_at}
use Rattle.definition_inline.specs.Inline.{TrailingBreak}
use Rattle.engine_edits.specs.Edits.{EditAt, with_edit}
use Rattle.engine_events.specs.declared.event.Kind.TheVariants.{Enter, Exit}
use Rattle.engine_events.specs.declared.event.Name.TheVariants as names
use Rattle.state_edits_data.specs.Data.{is_data}
use Rattle.state_edits_data.specs.Each.{around, around_if, data_part, place_at, place_past}
use Rattle.state_edits_data.specs.Whitespace.{are_spaces, begins, ends, head_size, is_line, is_space, may_break, part_edit, tail_name, tail_size, trimmed_data}
use Rattle.state_verdicts.specs.HardBreakTrailing.{EarlierVerdict, Follows, TrailingVerdict, cut_before, data_edit, is_break, is_inner}
use Rattle.state_verdicts.specs.HardBreakTrailing.{white_events}
use Rattle.state_verdicts.proofs.ListParts.{drop_over, prefix_over, take_over}

-- ---- what ends a list

module _ (p : ℕ → Bool) where
  suffix_more : (x : ℕ) (xs : List ℕ) → suffix_len p (x ∷ xs) ≡ (if suffix_len p xs == length xs then length xs + (if p x then 1 else 0) else suffix_len p xs)
  suffix_more x xs =
      ap (prefix_len p) (reverse-append (x ∷ []) xs)
      ∙ (prefix_len-append p (reverse xs) (x ∷ [])
      ∙ ap (λ (n : ℕ). if prefix_len p (reverse xs) == n then n + (if p x then 1 else 0) else prefix_len p (reverse xs)) (length-reverse xs))

  -- all that a suffix has passes
  suffix_passes : (xs : List ℕ) → list_all p (drop (length xs - suffix_len p xs) xs) ≡ true
  suffix_passes [] = refl
  suffix_passes (x ∷ xs) = elim (cases_Bool (suffix_len p xs == length xs)) [
    | inl h ↦ by_first (eqb-true (suffix_len p xs) (length xs) h) (p x) refl
        (suffix_more x xs ∙ ap (λ (b : Bool). if b then length xs + (if p x then 1 else 0) else suffix_len p xs) h) (suffix_passes xs)
    | inr h ↦
        let few = suffix_len-le-length p xs in
        let same : suffix_len p (x ∷ xs) ≡ suffix_len p xs =
        suffix_more x xs ∙ ap (λ (b : Bool). if b then length xs + (if p x then 1 else 0) else suffix_len p xs) h in
        ap (λ (n : ℕ). list_all p (drop n (x ∷ xs))) (let e : suc (length xs) - suffix_len p (x ∷ xs) ≡ suc (length xs - suffix_len p xs) = omega (
          arith,
          same,
          few,
        ) in e) ∙ suffix_passes xs
  ]
    where
      by_first : suffix_len p xs ≡ length xs → (is : Bool) → p x ≡ is → suffix_len p (x ∷ xs) ≡ length xs + (if p x then 1 else 0)
          → list_all p (drop (length xs - suffix_len p xs) xs) ≡ true
          → list_all p (drop (length (x ∷ xs) - suffix_len p (x ∷ xs)) (x ∷ xs)) ≡ true
      by_first all true h more rest =
          let size : suffix_len p (x ∷ xs) ≡ length xs + 1 = more ∙ ap (λ (b : Bool). length xs + (if b then 1 else 0)) h in
          let whole : list_all p xs ≡ true = ap (λ (n : ℕ). list_all p (drop n xs)) (let e : 0 ≡ length xs - suffix_len p xs = omega (arith, all) in
          e) ∙ rest in
          ap (λ (n : ℕ). list_all p (drop n (x ∷ xs))) (let e : suc (length xs) - suffix_len p (x ∷ xs) ≡ 0 = omega (arith, size) in
          e) ∙ and_from (p x) (list_all p xs) h whole
      by_first all false h more rest =
          let size : suffix_len p (x ∷ xs) ≡ length xs + 0 = more ∙ ap (λ (b : Bool). length xs + (if b then 1 else 0)) h in
          let whole : list_all p xs ≡ true = ap (λ (n : ℕ). list_all p (drop n xs)) (let e : 0 ≡ length xs - suffix_len p xs = omega (arith, all) in
          e) ∙ rest in
          ap (λ (n : ℕ). list_all p (drop n (x ∷ xs))) (let e : suc (length xs) - suffix_len p (x ∷ xs) ≡ suc 0 = omega (arith, size) in e) ∙ whole

-- ---- the definition's leaf

-- spaces and tabs, and then none
abbrev white_leaf : Constructs → List ℕ → List ℕ → Option Found
white_leaf on w rest =
    if nat_le 1 (length w) && ends_here rest
    then Some (leaf (if on.hard_break_trailing && (nat_le 2 (length w) && (list_all (λ c. c == 32) w && ends_inner_line rest)) then TrailingBreak ∷ [] else [])
    (length w))
    else None

leaf_is : (on : Constructs) (w rest : List ℕ) → list_all is_white w ≡ true → indent rest ≡ 0 → line_spaces_at on (w ++ rest) ≡ white_leaf on w rest
leaf_is on w rest all none =
    ap (λ (n : ℕ). if nat_le 1 n && ends_here (drop n (w ++ rest))
    then Some (leaf (if on.hard_break_trailing && (nat_le 2 n && (list_all (λ c. c == 32) (take n (w ++ rest)) && ends_inner_line (drop n (w ++ rest))))
    then TrailingBreak ∷ [] else []) n)
    else None) (prefix_over is_white w rest all none)
    ∙ (ap (λ (l : List ℕ). if nat_le 1 (length w) && ends_here l
    then Some (leaf (if on.hard_break_trailing && (nat_le 2 (length w) && (list_all (λ c. c == 32) (take (length w) (w ++ rest)) && ends_inner_line l))
    then TrailingBreak ∷ [] else []) (length w))
    else None) (drop_over w rest)
    ∙ ap (λ (l : List ℕ). if nat_le 1 (length w) && ends_here rest
    then Some (leaf (if on.hard_break_trailing && (nat_le 2 (length w) && (list_all (λ c. c == 32) l && ends_inner_line rest)) then TrailingBreak ∷ [] else [])
    (length w))
    else None) (take_over w rest))

break_is : (b : Bool) → is_break (if b then TrailingBreak ∷ [] else []) ≡ b
break_is true = refl
break_is false = refl

-- the same four tests in another order
break_by : (hard inner two spaces : Bool) → ((hard && inner) && (two && spaces)) ≡ (hard && (two && (spaces && inner)))
break_by false inner two spaces = refl
break_by true true true true = refl
break_by true true true false = refl
break_by true true false spaces = refl
break_by true false true true = refl
break_by true false true false = refl
break_by true false false spaces = refl

-- ---- the events

-- the events of the definition's leaf are those by the tests of the resolver
events_by : (tail : ℕ) (here breaks : Bool) (from to : Point) → (nat_le 1 tail ≡ true → here ≡ true)
    → white_events (if nat_le 1 tail && here then Some (leaf (if breaks then TrailingBreak ∷ [] else []) tail) else None) from to
    ≡ around_if (not (tail == 0)) (tail_name breaks) from to
events_by tail here breaks from to is = elim (cases_Bool (nat_le 1 tail)) [
  | inl h ↦
      let some = leb-true 1 tail h in
      ap (λ (b : Bool). white_events (if b then Some (leaf (if breaks then TrailingBreak ∷ [] else []) tail) else None) from to)
      (and_from (nat_le 1 tail) here h (is h))
      ∙ (ap (λ (b : Bool). around (if b then names.HardBreakTrailing else names.SpaceOrTab) from to) (break_is breaks)
      ∙ sym (ap (λ (b : Bool). around_if (not b) (tail_name breaks) from to) (ne_eqb tail 0 (λ e. let f : tail ≡ 0 = e in absurd (omega (arith, f, some))))))
  | inr h ↦
      let none = leb-false 1 tail h in
      let zero_is : tail ≡ 0 = omega (arith, none) in
      ap (λ (b : Bool). white_events (if b then Some (leaf (if breaks then TrailingBreak ∷ [] else []) tail) else None) from to)
      (and_left (nat_le 1 tail) here h)
      ∙ sym (ap (λ (n : ℕ). around_if (not (n == 0)) (tail_name breaks) from to) zero_is)
]

module _ (on : Constructs) (events : List Event) (i : ℕ) (rest : List ℕ) (follows : Follows events i rest) (part : List ℕ) (head : ℕ)
    (within : head ≤ length part) where
  abbrev after : List ℕ
  after = drop head part

  abbrev size : ℕ
  size = tail_size (ends true events i) after

  abbrev last : List ℕ
  last = drop (length part - size) part

  -- the bytes at the end are white
  size_few : size ≤ length after
  size_few = by_end (ends true events i)
    where
      by_end : (b : Bool) → tail_size b after ≤ length after
      by_end true = suffix_len-le-length is_white after
      by_end false = omega arith

  last_is : last ≡ drop (length after - size) after
  last_is =
      let few = size_few in
      let total = length-drop head part in
      sym (drop-drop (length after - size) head part ∙ ap (λ (n : ℕ). drop n part)
      (let e : head + (length after - size) ≡ length part - size = omega (arith, few, total, within) in e))

  last_white : list_all is_white last ≡ true
  last_white = ap (list_all is_white) last_is ∙ by_end (ends true events i)
    where
      by_end : (b : Bool) → list_all is_white (drop (length after - tail_size b after) after) ≡ true
      by_end true = suffix_passes is_white after
      by_end false = ap (list_all is_white) (drop_end after)
        where
          drop_end : (l : List ℕ) → drop (length l - 0) l ≡ []
          drop_end [] = refl
          drop_end (x ∷ l) = ap (λ (n : ℕ). drop n (x ∷ l)) (let e : suc (length l) - 0 ≡ suc (length l - 0) = omega arith in e) ∙ drop_end l

  last_size : length last ≡ size
  last_size = let few = size_few in let total = length-drop head part in
      length-drop (length part - size) part ∙ (let e : length part - (length part - size) ≡ size = omega (arith, few, total) in e)

  here_if : nat_le 1 size ≡ true → ends_here rest ≡ true
  here_if h = by_end (ends true events i) follows.here h
    where
      by_end : (b : Bool) → b ≡ ends_here rest → nat_le 1 (tail_size b after) ≡ true → ends_here rest ≡ true
      by_end true e k = sym e
      by_end false e k = absurd (let f : false ≡ true = k in cc)

  white_is : (from to : Point) → white_events (line_spaces_at on (last ++ rest)) from to
      ≡ around_if (not (size == 0)) (tail_name (may_break on.hard_break_trailing events i && are_spaces part size)) from to
  white_is from to =
      let inner = is_line Enter (slice_get events (i + 2)) && is_some (slice_get events (i + 4)) in
      let breaks = on.hard_break_trailing && (nat_le 2 size && (list_all (λ c. c == 32) last && ends_inner_line rest)) in
      ap (λ (o : Option Found). white_events o from to) (leaf_is on last rest last_white follows.apart)
      ∙ (ap (λ (n : ℕ). white_events (if nat_le 1 n && ends_here rest
      then Some (leaf (if on.hard_break_trailing && (nat_le 2 n && (list_all (λ c. c == 32) last && ends_inner_line rest)) then TrailingBreak ∷ [] else []) n)
      else None) from to) last_size
      ∙ (events_by size (ends_here rest) breaks from to here_if
      ∙ sym (ap (λ (b : Bool). around_if (not (size == 0)) (tail_name b) from to)
      (break_by on.hard_break_trailing inner (nat_le 2 size) (list_all is_space last)
      ∙ ap (λ (b : Bool). on.hard_break_trailing && (nat_le 2 size && (list_all is_space last && b))) follows.inner))))

  edit_is : (from to : Point) (edits : List EditAt)
      → (if nat_lt 0 (head + size) then with_edit false i 2 (trimmed_data part head size
      (may_break on.hard_break_trailing events i && are_spaces part size) from to)
      edits else edits)
      ≡ data_edit on part head size rest i from to edits
  edit_is from to edits =
      let first = place_past from (take head part) in
      let end = place_past from (take (length part - size) part) in
      ap (λ (l : List Event). if nat_lt 0 (head + size)
      then with_edit false i 2 (around_if (not (head == 0)) names.SpaceOrTab from first ++ around_if (nat_lt head (length part - size)) names.Data first end
      ++ l) edits
      else edits) (sym (white_is end to))

head_few : (b : Bool) (part : List ℕ) → head_size b part ≤ length part
head_few true part = prefix_len-le-length is_white part
head_few false part = omega arith

pub trailing_verdict : TrailingVerdict
trailing_verdict on bytes events i edits rest enters exits follows =
    let part = data_part bytes events i in
    let head = cut_before bytes events i in
    ap (λ (b : Bool). if b then part_edit true on.hard_break_trailing events i part head edits else edits)
    (and_from (is_data Enter (slice_get events i)) (is_data Exit (slice_get events (i + 1))) enters exits)
    ∙ edit_is on events i rest follows part head (head_few (begins true events i) part) (place_at events i) (place_at events (i + 1)) edits

-- ---- before the end

module _ (rest : List ℕ) where
  -- where another byte follows, no line ends after the spaces and tabs
  goes_on : (l : List ℕ) → list_all is_inner l ≡ true → suffix_len is_white l < length l → ends_here (bare (l ++ rest)) ≡ false
  goes_on [] inner few = absurd (omega (arith, few))
  goes_on (x ∷ l) inner few =
      let parts = and_parts (is_inner x) (list_all is_inner l) inner in
      elim (cases_Bool (is_white x)) [
        | inl h ↦
            ap (λ (b : Bool). ends_here (drop (if b then 1 + indent (l ++ rest) else 0) (x ∷ l ++ rest))) h
            ∙ (ap (λ (n : ℕ). ends_here (drop n (x ∷ l ++ rest))) (let e : 1 + indent (l ++ rest) ≡ suc (indent (l ++ rest)) = omega arith in
            e) ∙ goes_on l parts.1 (fewer h (suffix_len is_white l == length l) refl))
        | inr h ↦ ap (λ (b : Bool). ends_here (drop (if b then 1 + indent (l ++ rest) else 0) (x ∷ l ++ rest))) h ∙ not-true (is_eol x) parts.0
      ]
    where
      fewer : is_white x ≡ true → (all : Bool) → (suffix_len is_white l == length l) ≡ all → suffix_len is_white l < length l
      fewer h true all =
          absurd (let size : suffix_len is_white (x ∷ l) ≡ length l + 1 =
          suffix_more is_white x l ∙ (ap (λ (b : Bool). if b then length l + (if is_white x then 1 else 0) else suffix_len is_white l) all
          ∙ ap (λ (b : Bool). length l + (if b then 1 else 0)) h) in
          omega (arith, size, few))
      fewer h false all =
          let most = suffix_len-le-length is_white l in
          elim (cases_lt (suffix_len is_white l) (length l)) [
            | inl less ↦ less
            | inr more ↦ absurd (let same : suffix_len is_white l ≡ length l = omega (arith, most, more) in
                let f : true ≡ false = sym (eq-eqb (suffix_len is_white l) (length l) same) ∙ all in cc)
          ]

  inner_after : (l : List ℕ) (k : ℕ) → list_all is_inner l ≡ true → list_all is_inner (drop k l) ≡ true
  inner_after l zero inner = inner
  inner_after [] (suc k) inner = refl
  inner_after (x ∷ l) (suc k) inner = inner_after l k (and_parts (is_inner x) (list_all is_inner l) inner).1

  few_after : (l : List ℕ) (k : ℕ) → k < length l - suffix_len is_white l → suffix_len is_white (drop k l) < length (drop k l)
  few_after l zero few = omega (arith, few)
  few_after [] (suc k) few = absurd (omega (arith, few))
  few_after (x ∷ l) (suc k) few = few_after l k (by_all (suffix_len is_white l == length l) refl)
    where
      by_all : (all : Bool) → (suffix_len is_white l == length l) ≡ all → k < length l - suffix_len is_white l
      by_all true all =
          absurd (let size : suffix_len is_white (x ∷ l) ≡ length l + (if is_white x then 1 else 0) =
          suffix_more is_white x l ∙ ap (λ (b : Bool). if b then length l + (if is_white x then 1 else 0) else suffix_len is_white l) all in
          omega (arith, size, few))
      by_all false all =
          let size : suffix_len is_white (x ∷ l) ≡ suffix_len is_white l =
          suffix_more is_white x l ∙ ap (λ (b : Bool). if b then length l + (if is_white x then 1 else 0) else suffix_len is_white l) all in
          let most = suffix_len-le-length is_white l in
          omega (arith, size, few, most)

pub earlier_verdict : EarlierVerdict
earlier_verdict on part rest k inner few =
    let l = drop k part in
    let goes = goes_on rest l (inner_after rest part k inner) (few_after rest part k few) in
    ap (λ (b : Bool). if b then Some (leaf (if on.hard_break_trailing && is_trailing_break (l ++ rest) then TrailingBreak ∷ [] else []) (indent (l ++ rest)))
    else None)
    (and_right (nat_le 1 (indent (l ++ rest))) (ends_here (bare (l ++ rest))) goes)
