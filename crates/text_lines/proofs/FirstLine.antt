-- The first line of a text, and the lines of what follows it.
use Rattle.std.proofs.Common.{◌≡◌, ℕ, ◌+◌, ◌<◌, ◌≤◌, List, [], ◌∷◌, ◌++◌, Option, None, Some, false, cond, eqb, refl, sym, ap, ◌∙◌, subst, get_or, length, drop}
use Rattle.std.proofs.Common.{take, arith, suc, not, inl, inr}
use Rattle.std.proofs.lemmas.Bool.{or_parts, eqb-true, cases_Bool, ne_eqb, cond-false, cond-true, cases_lt, or_cases}
use Rattle.std.proofs.lemmas.List.{take-append-drop, drop_more, take_all, drop_all}
use Rattle.std.specs.List.{position_or_len, prefix_len}
use Rattle.std.proofs.lemmas.List.Sums.{passes_at_first}
use Rattle.markdown_options.specs.declared.line_ending.LineEnding.{LineEnding}
use Rattle.markdown_options.specs.declared.line_ending.LineEnding.TheVariants.{CarriageReturnLineFeed, CarriageReturn, LineFeed}
use Rattle.definition_text.specs.Lines.{text_line, lines, first_of, first_line, ends_line, in_first_line}
use Rattle.text_lines.specs.Endings.{BeginsOtherwise, BeginsWithEnding}

-- no byte begins an ending
abbrev pub EndsNowhere : List ℕ → Type 0
EndsNowhere [] = Unit {0}
EndsNowhere (b ∷ bs) = (ends_line b ≡ false) × EndsNowhere bs

-- the lines after a CR that no LF follows
lines_after_return : (rest : List ℕ) → BeginsOtherwise 10 rest → lines (13 ∷ rest) ≡ text_line [] (Some CarriageReturn) ∷ lines rest
lines_after_return [] other = refl
lines_after_return (b ∷ bs) other =
    let no : eqb b 10 ≡ false = ne_eqb b 10 (λ e. other bs (ap (λ x. x ∷ bs) e)) in
    cond-false (eqb b 10) _ _ no

-- an empty line
lines_of_ending : (text : List ℕ) (ending : LineEnding) (rest : List ℕ) → BeginsWithEnding text (Some ending) rest
    → lines text ≡ text_line [] (Some ending) ∷ lines rest
lines_of_ending text CarriageReturnLineFeed rest h = ap lines h
lines_of_ending text CarriageReturn rest h = ap lines h.0 ∙ lines_after_return rest h.1
lines_of_ending text LineFeed rest h = ap lines h

-- a byte that begins no ending stands in the first line
lines_of_byte : (b : ℕ) (bs : List ℕ) → ends_line b ≡ false → lines (b ∷ bs) ≡ in_first_line b (lines bs)
lines_of_byte b bs other =
    let parts = or_parts (eqb b 10) (eqb b 13) other in
    cond-false (eqb b 10) _ _ parts.0 ∙ cond-false (eqb b 13) _ _ parts.1

-- content in front of an ending
pub lines_with_ending : (content after : List ℕ) (ending : LineEnding) (rest : List ℕ) → EndsNowhere content
    → BeginsWithEnding after (Some ending) rest → lines (content ++ after) ≡ text_line content (Some ending) ∷ lines rest
lines_with_ending [] after ending rest none h = lines_of_ending after ending rest h
lines_with_ending (b ∷ bs) after ending rest none h =
    lines_of_byte b (bs ++ after) none.0 ∙ ap (in_first_line b) (lines_with_ending bs after ending rest none.1 h)

-- content that is all
pub lines_without_ending : (b : ℕ) (bs : List ℕ) → EndsNowhere (b ∷ bs) → lines (b ∷ bs) ≡ text_line (b ∷ bs) None ∷ []
lines_without_ending b [] none = lines_of_byte b [] none.0
lines_without_ending b (c ∷ cs) none = lines_of_byte b (c ∷ cs) none.0 ∙ ap (in_first_line b) (lines_without_ending c cs none.1)

-- the content of the first line ends nowhere
pub content_ends_nowhere : (text : List ℕ) → EndsNowhere (take (position_or_len ends_line text) text)
content_ends_nowhere [] = tt
content_ends_nowhere (b ∷ bs) =
    let rest = prefix_len (λ c. not (ends_line c)) bs in
    elim (cases_Bool (ends_line b)) [
      | inl h ↦ subst (λ n. EndsNowhere (take n (b ∷ bs))) (sym (cond-false (not (ends_line b)) (1 + rest) 0 (ap not h))) tt
      | inr h ↦
          let e : cond (not (ends_line b)) (1 + rest) 0 ≡ suc rest = cond-true (not (ends_line b)) (1 + rest) 0 (ap not h) ∙ omega arith in
          subst (λ n. EndsNowhere (take n (b ∷ bs))) (sym e) (h, content_ends_nowhere bs)
    ]

-- what follows the content of the first line begins with CR or LF, or there is nothing
nothing_follows : (text : List ℕ) → BeginsOtherwise 10 (drop (position_or_len ends_line text) text)
    → BeginsOtherwise 13 (drop (position_or_len ends_line text) text)
    → length text ≤ position_or_len ends_line text
nothing_follows text no_feed no_return =
    let n = position_or_len ends_line text in
    elim (cases_lt n (length text)) [
      | inl lt ↦
          let b = get_or text n 0 in
          let e : drop n text ≡ b ∷ drop (n + 1) text = drop_more text n 0 lt in
          elim (or_cases (eqb b 10) (eqb b 13) (passes_at_first ends_line text 0 lt)) [
            | inl p ↦ absurd (no_feed (drop (n + 1) text) (e ∙ ap (λ x. x ∷ drop (n + 1) text) (eqb-true b 10 p)))
            | inr q ↦ absurd (no_return (drop (n + 1) text) (e ∙ ap (λ x. x ∷ drop (n + 1) text) (eqb-true b 13 q)))
          ]
      | inr le ↦ le
    ]

-- a text that ends nowhere is one line
one_line : (text : List ℕ) → 0 < length text → EndsNowhere text → lines text ≡ text_line text None ∷ []
one_line [] some none = absurd (omega arith)
one_line (b ∷ bs) some none = lines_without_ending b bs none

-- the first line, cut off as `split_content` and `split_ending` do
pub next_lines : (text after : List ℕ) (ending : Option LineEnding) (rest : List ℕ) → 0 < length text
    → after ≡ drop (position_or_len ends_line text) text → BeginsWithEnding after ending rest
    → lines text ≡ text_line (take (position_or_len ends_line text) text) ending ∷ lines rest
next_lines text after (Some ending) rest some e h =
    let n = position_or_len ends_line text in
    let whole : text ≡ take n text ++ after = sym (take-append-drop n text) ∙ ap (λ x. take n text ++ x) (sym e) in
    ap lines whole ∙ lines_with_ending (take n text) after ending rest (content_ends_nowhere text) h
next_lines text after None rest some e h =
    let n = position_or_len ends_line text in
    let long = nothing_follows text (subst (BeginsOtherwise 10) e h.1) (subst (BeginsOtherwise 13) e h.2) in
    let all : take n text ≡ text = take_all n text long in
    let none : rest ≡ [] = h.0 ∙ e ∙ drop_all n text long in
    one_line text some (subst EndsNowhere all (content_ends_nowhere text)) ∙ ap (λ t. text_line t None ∷ []) (sym all)
    ∙ ap (λ r. text_line (take n text) None ∷ lines r) (sym none)

-- the first line alone; an empty text begins with an empty one
pub first_line_is : (text after : List ℕ) (ending : Option LineEnding) (rest : List ℕ)
    → after ≡ drop (position_or_len ends_line text) text → BeginsWithEnding after ending rest
    → first_line text ≡ text_line (take (position_or_len ends_line text) text) ending
first_line_is [] after None rest e h = refl
first_line_is [] after (Some CarriageReturnLineFeed) rest e h = let wrong : [] ≡ 13 ∷ 10 ∷ rest = sym e ∙ h in cc
first_line_is [] after (Some CarriageReturn) rest e h = let wrong : [] ≡ 13 ∷ rest = sym e ∙ h.0 in cc
first_line_is [] after (Some LineFeed) rest e h = let wrong : [] ≡ 10 ∷ rest = sym e ∙ h in cc
first_line_is (b ∷ bs) after ending rest e h = ap first_of (next_lines (b ∷ bs) after ending rest (omega arith) e h)

-- what follows an ending is no longer than what it is in
pub shorter_rest : (text : List ℕ) (ending : Option LineEnding) (rest : List ℕ) → BeginsWithEnding text ending rest → length rest ≤ length text
shorter_rest text None rest h = let e = ap length h.0 in omega arith
shorter_rest text (Some CarriageReturnLineFeed) rest h = let e = ap length h in omega arith
shorter_rest text (Some CarriageReturn) rest h = let e = ap length h.0 in omega arith
shorter_rest text (Some LineFeed) rest h = let e = ap length h in omega arith
