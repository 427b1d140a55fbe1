-- Bytes that take one column each and end no line, passed at once.
use Rattle.parse_output.proofs.Prelude.{and-false, and_parts, ArePlain, between, fold, if◌then◌else◌, is_plain, length-take-le, list_all, mark_size, nat_tests}
use Rattle.parse_output.proofs.Prelude.{next_spot, prefix_len, spot, Spot, spot_at, true≢false, ◌==◌}
use Rattle.std.proofs.Common.{◌≡◌, ◌≤◌, ◌<◌, ◌-◌, ◌&&◌, ⊎_elim, ℕ, suc, ◌+◌, Bool, true, false, List, [], ◌∷◌, length, sym, ap, ◌∙◌, arith, drop, take, get_or}
use Rattle.std.proofs.Math.Bool.{and-true}
use Rattle.std.proofs.Math.ListN.{get_or-eq_default}
use Rattle.std.proofs.lemmas.Bool.{cases_lt}
use Rattle.std.proofs.lemmas.List.{drop_more, get_or-drop, get_or-take, get_or_default, length-take, length-drop}
use Rattle.std.proofs.lemmas.List.Sums.{list_all-from_AllPass, prefix_len_passes}
use Rattle.parse_output.specs.Spots.{after_plain}

one_plain : (mark : ℕ) (s : Spot) (b : ℕ) → mark ≤ s.index → is_plain b ≡ true → next_spot mark s b ≡ spot s.line (s.column + 1) (s.index + 1) false
one_plain mark s b m h = grind (arith, nat_tests)

not_none : (n : ℕ) → (suc n == 0) ≡ false
not_none n = grind (arith, nat_tests)

pub all_plain : (mark : ℕ) (bs : List ℕ) (s : Spot) → mark ≤ s.index → list_all is_plain bs ≡ true → fold (next_spot mark) s bs ≡ after_plain s (length bs)
all_plain mark [] s m h =
    ap (λ column. spot s.line column s.index s.returned) (omega arith)
    ∙ ap (λ index. spot s.line (s.column + 0) index s.returned) (omega arith)
    ∙ ap (λ r. spot s.line (s.column + 0) (s.index + 0) r) (sym (and-true s.returned))
all_plain mark (b ∷ bs) s m h =
    let parts = and_parts (is_plain b) (list_all is_plain bs) h in
    let one = spot s.line (s.column + 1) (s.index + 1) false in
    let n = length bs in
    ap (λ here. fold (next_spot mark) here bs) (one_plain mark s b m parts.0)
    ∙ all_plain mark bs one (omega (arith, m)) parts.1
    ∙ ap (λ column. spot s.line column (s.index + 1 + n) false) (omega arith)
    ∙ ap (λ index. spot s.line (s.column + suc n) index false) (omega arith)
    ∙ ap (λ r. spot s.line (s.column + suc n) (s.index + suc n) r) (sym (and-false s.returned))
    ∙ ap (λ none. spot s.line (s.column + suc n) (s.index + suc n) (s.returned && none)) (sym (not_none n))

-- no byte order mark is longer than three bytes
if_short : (t : Bool) → (if t then 3 else 0) ≤ 3
if_short true = omega arith
if_short false = omega arith

mark_short : (text : List ℕ) → mark_size text ≤ 3
mark_short [] = omega arith
mark_short (a ∷ []) = omega arith
mark_short (a ∷ b ∷ []) = omega arith
mark_short (a ∷ b ∷ c ∷ others) = if_short ((a == 239) && (b == 187) && (c == 191))

-- some bytes of these
all_between : (text : List ℕ) (from to plain : ℕ) → ArePlain text from plain → to ≤ plain → to ≤ length text → list_all is_plain (between from to text) ≡ true
all_between text from to plain are before within =
    let bytes = drop from text in
    list_all-from_AllPass is_plain (between from to text)
    (λ k d l.
    let inside : k < to - from = omega (arith, l, length-take (to - from) bytes) in
    ap is_plain (get_or-take (to - from) bytes k d inside ∙ get_or-drop from text k d ∙ get_or_default text (from + k) d 0 (omega (arith, inside, within)))
    ∙ are (from + k) (omega arith) (omega (arith, inside, before)))

pub plain_to : (text : List ℕ) (s : Spot) (plain index : ℕ) → 3 ≤ s.index → ArePlain text s.index plain → s.index ≤ index → index ≤ plain
    → index ≤ length text → after_plain s (index - s.index) ≡ spot_at text index s
plain_to text s plain index far are after before within =
    let size : length (between s.index index text) ≡ index - s.index =
    length-take-le (index - s.index) (drop s.index text) (omega (arith, length-drop s.index text, after, within)) in
    ap (after_plain s) (sym size)
    ∙ sym (all_plain (mark_size text) (between s.index index text) s (omega (arith, mark_short text, far)) (all_between text s.index index plain are before within))

-- bytes that are searched for the first of another kind
pub searched : (text : List ℕ) (from size : ℕ) → size ≡ prefix_len is_plain (drop from text) → ArePlain text from (from + size)
searched text from size is k after before =
    let at : k ≡ from + (k - from) = omega (arith, after) in
    let inside : k - from < prefix_len is_plain (drop from text) = omega (arith, is, after, before) in
    ap (λ n. is_plain (get_or text n 0)) at ∙ ap is_plain (sym (get_or-drop from text (k - from) 0))
    ∙ prefix_len_passes is_plain (drop from text) (k - from) 0 inside

-- fewer of these
pub still_plain : (text : List ℕ) (from later to : ℕ) → from ≤ later → ArePlain text from to → ArePlain text later to
still_plain text from later to on are k after before = are k (omega (arith, on, after)) before

-- there are no more bytes of this kind than bytes
pub plain_within : (text : List ℕ) (from plain index : ℕ) → from < index → index ≤ plain → ArePlain text from plain → index ≤ length text
plain_within text from plain index after before are = ⊎_elim
    (λ short. absurd (true≢false (sym (are (index - 1) (omega (arith, after)) (omega (arith, after, before))) ∙ ap is_plain (get_or-eq_default text 0 (omega (arith, short, after))))))
    (λ long. long)
    (cases_lt (length text) index)

-- after some bytes of this kind, at once
pub passed_at_once : (text : List ℕ) (s : Spot) (plain index : ℕ) → 3 ≤ s.index → ArePlain text s.index plain → s.index < index → index ≤ plain
    → spot s.line (s.column + (index - s.index)) index false ≡ spot_at text index s
passed_at_once text s plain index far are after before =
    let none : ((index - s.index) == 0) ≡ false = grind (arith, nat_tests, after) in
    let there : index ≡ s.index + (index - s.index) = omega (arith, after) in
    ap (λ i. spot s.line (s.column + (index - s.index)) i false) there
    ∙ ap (λ r. spot s.line (s.column + (index - s.index)) (s.index + (index - s.index)) r) (sym (and-false s.returned))
    ∙ ap (λ n. spot s.line (s.column + (index - s.index)) (s.index + (index - s.index)) (s.returned && n)) (sym none)
    ∙ plain_to text s plain index far are (omega (arith, after)) before (plain_within text s.index plain index after before are)

-- one byte, which is in no byte order mark
no_mark : (mark : ℕ) (s : Spot) (b : ℕ) → mark ≤ s.index → next_spot 0 s b ≡ next_spot mark s b
no_mark mark s b far = grind (arith, nat_tests)

pub one_passed : (text : List ℕ) (s : Spot) (byte : ℕ) → 3 ≤ s.index → s.index < length text → get_or text s.index 0 ≡ byte
    → next_spot 0 s byte ≡ spot_at text (s.index + 1) s
one_passed text s byte far within is =
    let mark = mark_size text in
    let one : (s.index + 1) - s.index ≡ 1 = omega arith in
    let bytes : between s.index (s.index + 1) text ≡ get_or text s.index 0 ∷ [] =
    ap (λ n. take n (drop s.index text)) one ∙ ap (take 1) (drop_more text s.index 0 within) in
    no_mark mark s byte (omega (arith, mark_short text, far))
    ∙ ap (next_spot mark s) (sym is)
    ∙ ap (fold (next_spot mark) s) (sym bytes)
