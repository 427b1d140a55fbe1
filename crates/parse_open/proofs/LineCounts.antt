-- How many lines end before a place, and between two.
use Rattle.std.proofs.Common.{◌≡◌, ◌≤◌, ◌<◌, ℕ, zero, suc, ◌+◌, ◌-◌, ◌==◌, Bool, true, false, not, ◌&&◌, ◌||◌, leb, List, [], ◌∷◌, ◌++◌, length, take, drop}
use Rattle.std.proofs.Common.{get_or}
use Rattle.std.proofs.Common.{Some, inl, inr, refl, sym, ap, ap₂, ◌∙◌, arith, length-append}
use Rattle.parse_open.proofs.Prelude.{eqb-true, false_from_ne_true, if◌then◌else◌, line_at, LineEnding}
use Rattle.std.specs.Prelude.{nat_lt, slice_index}
use Rattle.std.specs.List.{list_any}
use Rattle.std.proofs.Math.Seq.{take-add, take-append-add, take-append_seam, take-suc}
use Rattle.std.proofs.lemmas.Bool.{and_parts, cases_lt, lt-ltb, ltb-true, or_parts, lt-leb}
use Rattle.std.proofs.lemmas.List.{get_or-append-add, take-append-le}
use Rattle.markdown_options.specs.declared.line_ending.LineEnding.TheVariants.{LineFeed, CarriageReturn, CarriageReturnLineFeed}
use Rattle.definition_text.specs.Lines.{ending_text}
use Rattle.definition_text.specs.Lines as text_lines
use Rattle.engine_events.specs.Columns.{between}
use Rattle.event_check.specs.Loose.{ends_line, is_apart, is_return, lines_in}
use Rattle.parse_open.specs.Lines.{LinesAreCounted}

-- whether the last of these bytes is a CR, or the byte before them where there are none
abbrev after : Bool → List ℕ → Bool
after return [] = return
after return (b ∷ bs) = after (b == 13) bs

lines_both : (return : Bool) (count : ℕ) (xs ys : List ℕ) → lines_in return count (xs ++ ys) ≡ lines_in (after return xs) (lines_in return count xs) ys
lines_both return count [] ys = refl
lines_both return count (b ∷ xs) ys = lines_both (b == 13) (if ends_line return b then count + 1 else count) xs ys

one_more : (t : Bool) (count : ℕ) → (if t then count + 1 else count) ≡ count + (if t then 0 + 1 else 0)
one_more true count = omega arith
one_more false count = omega arith

lines_from : (return : Bool) (count : ℕ) (bs : List ℕ) → lines_in return count bs ≡ count + lines_in return 0 bs
lines_from return count [] = omega arith
lines_from return count (b ∷ bs) =
    let t = ends_line return b in
    let others = lines_in (b == 13) 0 bs in
    let next = lines_from (b == 13) (if t then count + 1 else count) bs in
    let known = lines_from (b == 13) (if t then 0 + 1 else 0) bs in
    let more = one_more t count in
    next ∙ omega (arith, known, more)

after_last : (return : Bool) (xs : List ℕ) (b : ℕ) → after return (xs ++ b ∷ []) ≡ (b == 13)
after_last return [] b = refl
after_last return (x ∷ xs) b = after_last (x == 13) xs b

return_is : (text : List ℕ) (i : ℕ) → i ≤ length text → after false (take i text) ≡ is_return text i
return_is text zero h = refl
return_is text (suc i) h =
    let last : suc i - 1 ≡ i = omega arith in
    let some : nat_lt 0 (suc i) ≡ true = lt-ltb 0 (suc i) (omega arith) in
    let within : nat_lt i (length text) ≡ true = lt-ltb i (length text) (omega (arith, h)) in
    ap (after false) (take-suc text i 0 (omega (arith, h)))
    ∙ after_last false (take i text) (get_or text i 0)
    ∙ sym (ap₂ (λ (a b : Bool). a && b && (slice_index text i == 13)) some within)
    ∙ ap (λ (k : ℕ). nat_lt 0 (suc i) && nat_lt k (length text) && (slice_index text k == 13)) (sym last)

-- ---- between two places

lines_between : (text : List ℕ) (i j : ℕ) → i ≤ j → i ≤ length text → line_at text j ≡ line_at text i + lines_in (is_return text i) 0 (between i j text)
lines_between text i j h k =
    let size : j ≡ i + (j - i) = omega (arith, h) in
    ap (λ (n : ℕ). lines_in false 0 (take n text)) size
    ∙ ap (lines_in false 0) (take-add i (j - i) text)
    ∙ lines_both false 0 (take i text) (between i j text)
    ∙ ap (λ return. lines_in return (line_at text i) (between i j text)) (return_is text i k)
    ∙ lines_from (is_return text i) (line_at text i) (between i j text)

no_back : (i j : ℕ) → j < i → j - i ≡ 0
no_back i j h = omega (arith, h)

-- two places are apart if so many lines end between them
pub far_is : (text : List ℕ) (i j count : ℕ) → j ≤ length text → line_at text i + count ≡ line_at text j → is_apart text i j ≡ leb 2 count
far_is text i j count k is = elim (cases_lt j i) [
  | inl back ↦
      let least = lines_between text j i (omega (arith, back)) k in
      let none : count < 2 = omega (arith, least, is) in
      ap (λ (n : ℕ). nat_lt 1 (lines_in (is_return text i) 0 (take n (drop i text)))) (no_back i j back) ∙ sym (lt-leb 2 count none)
  | inr on ↦
      let lines = lines_between text i j on (omega (arith, on, k)) in
      let same : lines_in (is_return text i) 0 (between i j text) ≡ count = omega (arith, lines, is) in
      ap (nat_lt 1) same
]

-- ---- in a line, and after its ending

no_line : (return : Bool) (b : ℕ) → text_lines.ends_line b ≡ false → ends_line return b ≡ false
no_line return b h =
    let parts = or_parts (b == 10) (b == 13) h in
    ap₂ (λ (c f : Bool). c || (f && not return)) parts.1 parts.0

dark_lines : (return : Bool) (count k : ℕ) (bs : List ℕ) → list_any text_lines.ends_line bs ≡ false → lines_in return count (take k bs) ≡ count
dark_lines return count zero bs h = refl
dark_lines return count (suc k) [] h = refl
dark_lines return count (suc k) (b ∷ bs) h =
    let parts = or_parts (text_lines.ends_line b) (list_any text_lines.ends_line bs) h in
    ap (λ t. lines_in (b == 13) (if t then count + 1 else count) (take k bs)) (no_line return b parts.0)
    ∙ dark_lines (b == 13) count k bs parts.1

-- some bytes on in a line, as many lines are ended
line_within : (before content others : List ℕ) (k : ℕ) → list_any text_lines.ends_line content ≡ false → k ≤ length content
    → line_at (before ++ (content ++ others)) (length before + k) ≡ lines_in false 0 before
line_within before content others k dark h =
    ap (lines_in false 0) (take-append-add before (content ++ others) k ∙ ap (λ xs. before ++ xs) (take-append-le k content others h))
    ∙ lines_both false 0 before (take k content)
    ∙ dark_lines (after false before) (lines_in false 0 before) k content dark

same_line : (text before content others : List ℕ) (i : ℕ) → text ≡ before ++ (content ++ others) → list_any text_lines.ends_line content ≡ false
    → length before ≤ i → i ≤ length before + length content → line_at text i ≡ line_at text (length before + length content)
same_line text before content others i parts dark h k =
    let there : length before + (i - length before) ≡ i = omega (arith, h) in
    let short : i - length before ≤ length content = omega (arith, h, k) in
    ap (λ (xs : List ℕ). line_at xs i) parts
    ∙ ap (line_at (before ++ (content ++ others))) (sym there)
    ∙ line_within before content others (i - length before) dark short
    ∙ sym (line_within before content others (length content) dark (omega arith))
    ∙ ap (λ (xs : List ℕ). line_at xs (length before + length content)) (sym parts)

ending_line : (return : Bool) (count : ℕ) (ending : LineEnding) → (take 1 (ending_text (Some ending)) ≡ 10 ∷ [] → return ≡ false)
    → lines_in return count (ending_text (Some ending)) ≡ count + 1
ending_line return count LineFeed h = ap (λ t. if not t then count + 1 else count) (h refl)
ending_line return count CarriageReturn h = refl
ending_line return count CarriageReturnLineFeed h = refl

feed_first : (ending : LineEnding) (others : List ℕ) → take 1 (ending_text (Some ending)) ≡ 10 ∷ [] → get_or (ending_text (Some ending) ++ others) 0 0 ≡ 10
feed_first LineFeed others h = refl
feed_first CarriageReturn others h = let wrong = ap (λ (xs : List ℕ). get_or xs 0 0) h in absurd (omega (arith, wrong))
feed_first CarriageReturnLineFeed others h = let wrong = ap (λ (xs : List ℕ). get_or xs 0 0) h in absurd (omega (arith, wrong))

next_line : (text front others : List ℕ) (ending : LineEnding) → text ≡ front ++ (ending_text (Some ending) ++ others)
    → (0 < length front → get_or text (length front) 0 ≡ 10 → get_or text (length front - 1) 0 ≡ 13 → ⊥)
    → line_at text (length front + length (ending_text (Some ending))) ≡ line_at text (length front) + 1
next_line text front others ending parts apart =
    let size = length (ending_text (Some ending)) in
    let all = front ++ (ending_text (Some ending) ++ others) in
    let up_to : take (length front + size) text ≡ front ++ ending_text (Some ending) =
    ap (take (length front + size)) parts ∙ take-append-add front (ending_text (Some ending) ++ others) size
    ∙ ap (λ xs. front ++ xs) (take-append_seam (ending_text (Some ending)) others) in
    let before : take (length front) text ≡ front = ap (take (length front)) parts ∙ take-append_seam front (ending_text (Some ending) ++ others) in
    let fits : length front ≤ length text =
    (let l = ap length parts in let m = length-append front (ending_text (Some ending) ++ others) in omega (arith, l, m)) in
    let none : length front + 0 ≡ length front = omega arith in
    let here : get_or text (length front) 0 ≡ get_or (ending_text (Some ending) ++ others) 0 0 =
    ap₂ (λ (xs : List ℕ) n. get_or xs n 0) parts (sym none) ∙ get_or-append-add front (ending_text (Some ending) ++ others) 0 0 in
    let no_return : take 1 (ending_text (Some ending)) ≡ 10 ∷ [] → after false front ≡ false = λ feed.
    false_from_ne_true (after false front)
    (λ yes. let is = sym (return_is text (length front) fits) ∙ ap (after false) before ∙ yes in
    let both = and_parts (nat_lt 0 (length front) && nat_lt (length front - 1) (length text)) (slice_index text (length front - 1) == 13) is in
    let some = ltb-true 0 (length front) (and_parts (nat_lt 0 (length front)) (nat_lt (length front - 1) (length text)) both.0).0 in
    apart some (here ∙ feed_first ending others feed) (eqb-true (slice_index text (length front - 1)) 13 both.1)) in
    ap (lines_in false 0) up_to
    ∙ lines_both false 0 front (ending_text (Some ending))
    ∙ ending_line (after false front) (lines_in false 0 front) ending no_return
    ∙ ap (λ (n : ℕ). n + 1) (ap (lines_in false 0) (sym before))

pub lines_are_counted : LinesAreCounted
lines_are_counted = record { same = same_line; next = next_line }
