-- The lines of a definition: what is cut from a paragraph, and what is read off those lines again.
use Rattle.std.proofs.Common.{◌≡◌, ℕ, ◌+◌, ◌<◌, ◌≤◌, suc, zero, true, false, cond, List, [], ◌∷◌, ◌++◌, take, drop, length, Option, None, Some, refl, sym, ap}
use Rattle.std.proofs.Common.{◌∙◌, subst, ◌⊎◌, inl, inr, arith, append_assoc}
use Rattle.std.proofs.lemmas.Bool.{true≢false, cond-true, cond-false}
use Rattle.std.proofs.lemmas.Option.{none-some}
use Rattle.std.proofs.lemmas.List.{append-nil, length-drop, length-append}
use Rattle.std.proofs.lemmas.List.Sums.{sum_by-append, sum_by-cons}
use Rattle.std.proofs.Math.Seq.{take-length, drop-length}
use Rattle.std.specs.List.{count_by}
use Rattle.markdown_options.specs.declared.line_ending.LineEnding.{LineEnding}
use Rattle.markdown_options.specs.declared.line_ending.LineEnding.TheVariants.{CarriageReturnLineFeed, CarriageReturn, LineFeed}
use Rattle.definition_text.specs.BlockLines.{BlockLine, own_lines}
use Rattle.definition_block.specs.Blocks.{Nil, join}
use Rattle.definition_text.specs.Content.{is_eol, line_ending_code, ending_code, content_of}
use Rattle.text_pieces.specs.ParagraphLines.{HaveNoEnding, AreLines}
use Rattle.definition_inline.specs.Definition.{Definition as LinkDefinition, definition, definition_at}
use Rattle.definition_block.specs.Definitions.{DefinitionCut, cut_into, cut_after, cut_most, definition_lines, line_count, lines_before}
use Rattle.definition_inline.proofs.DefinitionAlone.{definition_alone}

is_ending_code : (e : LineEnding) → is_eol (line_ending_code e) ≡ true
is_ending_code LineFeed = refl
is_ending_code CarriageReturn = refl
is_ending_code CarriageReturnLineFeed = refl

abbrev head_of : List ℕ → ℕ
head_of [] = 0
head_of (c ∷ cs) = c

abbrev tail_of : List ℕ → List ℕ
tail_of [] = []
tail_of (c ∷ cs) = cs

-- the content of one line, and of a line before others
last_content : (line : BlockLine) → content_of (own_lines (line ∷ [])) ≡ line.codes
last_content line = append-nil (line.codes ++ []) ∙ append-nil line.codes

first_content : (line next : BlockLine) (others : List BlockLine) (e : LineEnding) → line.ending ≡ Some e
    → content_of (own_lines (line ∷ next ∷ others)) ≡ line.codes ++ line_ending_code e ∷ content_of (own_lines (next ∷ others))
first_content line next others e h =
    append_assoc line.codes (ending_code line.ending) (content_of (own_lines (next ∷ others)))
    ∙ ap (λ o. line.codes ++ (ending_code o ++ content_of (own_lines (next ∷ others)))) h

-- ---- how many lines a content has

-- what a code counts
abbrev weight : ℕ → ℕ
weight c = cond (is_eol c) 1 0

light : (c : ℕ) → is_eol c ≡ false → weight c ≡ 0
light c h = cond-false (is_eol c) 1 0 h

heavy : (c : ℕ) → is_eol c ≡ true → weight c ≡ 1
heavy c h = cond-true (is_eol c) 1 0 h

no_endings : (cs : List ℕ) → HaveNoEnding cs → count_by is_eol cs ≡ 0
no_endings [] h = refl
no_endings (c ∷ cs) h =
    sum_by-cons weight c cs ∙ ap (λ n. n + count_by is_eol cs) (light c h.0) ∙ ap (λ n. 0 + n) (no_endings cs h.1)

endings_between : (line : BlockLine) (others : List BlockLine) → AreLines (line ∷ others)
    → count_by is_eol (content_of (own_lines (line ∷ others))) ≡ length others
endings_between line [] h = ap (count_by is_eol) (last_content line) ∙ no_endings line.codes h.0
endings_between line (next ∷ others) h =
    let e = h.2.0 in
    let rest = content_of (own_lines (next ∷ others)) in
    let one = sum_by-append weight line.codes (line_ending_code e ∷ rest) in
    let two = sum_by-cons weight (line_ending_code e) rest in
    let three = heavy (line_ending_code e) (is_ending_code e) in
    let four = no_endings line.codes h.0 in
    let five = endings_between next others h.3 in
    ap (count_by is_eol) (first_content line next others e h.2.1) ∙ omega arith

is_filled : (line : BlockLine) (others : List BlockLine) → AreLines (line ∷ others) → 0 < length (content_of (own_lines (line ∷ others)))
is_filled line [] h = let e = ap length (last_content line) in let k = h.1 in omega arith
is_filled line (next ∷ others) h =
    let e = ap length (first_content line next others h.2.0 h.2.1) in
    let k = length-append line.codes (line_ending_code h.2.0 ∷ content_of (own_lines (next ∷ others))) in
    let l = h.1 in
    omega arith

count_filled : (cs : List ℕ) → 0 < length cs → line_count cs ≡ 1 + count_by is_eol cs
count_filled [] h = absurd (omega arith)
count_filled (c ∷ cs) h = refl

pub lines_counted : (ls : List BlockLine) → AreLines ls → line_count (content_of (own_lines ls)) ≡ length ls
lines_counted [] h = refl
lines_counted (line ∷ others) h =
    let e = count_filled (content_of (own_lines (line ∷ others))) (is_filled line others h) in
    let k = endings_between line others h in
    omega arith

-- ---- where a line ends

-- the ending after these codes is that of their line, or it comes later
split_line : (codes rest own after : List ℕ) (k e : ℕ) → HaveNoEnding codes → is_eol e ≡ true → codes ++ k ∷ rest ≡ own ++ e ∷ after
    → ((own ≡ codes) × (rest ≡ after)) ⊎ ((more : List ℕ) × (own ≡ codes ++ k ∷ more) × (rest ≡ more ++ e ∷ after))
split_line [] rest [] after k e clear h same = inl (refl, ap tail_of same)
split_line [] rest (x ∷ own) after k e clear h same = inr (own, ap (λ y. y ∷ own) (sym (ap head_of same)), ap tail_of same)
split_line (c ∷ codes) rest [] after k e clear h same = absurd (true≢false (sym h ∙ sym (ap is_eol (ap head_of same)) ∙ clear.0))
split_line (c ∷ codes) rest (x ∷ own) after k e clear h same =
    let first : x ≡ c = sym (ap head_of same) in
    elim (split_line codes rest own after k e clear.1 h (ap tail_of same)) [
      | inl p ↦ inl (ap (λ y. y ∷ own) first ∙ ap (λ l. c ∷ l) p.0, p.1)
      | inr p ↦ inr (p.0, ap (λ y. y ∷ own) first ∙ ap (λ l. c ∷ l) p.1, p.2)
    ]

-- no line ending stands in a line
no_split : (codes own after : List ℕ) (e : ℕ) → HaveNoEnding codes → is_eol e ≡ true → codes ≡ own ++ e ∷ after → ⊥
no_split [] [] after e clear h same = let k = ap length same in absurd (omega arith)
no_split [] (x ∷ own) after e clear h same = let k = ap length same in absurd (omega arith)
no_split (c ∷ codes) [] after e clear h same = true≢false (sym h ∙ sym (ap is_eol (ap head_of same)) ∙ clear.0)
no_split (c ∷ codes) (x ∷ own) after e clear h same = no_split codes own after e clear.1 h (ap tail_of same)

-- lines before an ending, and those after it
record Split (ls : List BlockLine) (own after : List ℕ) : Type 0 where
  count : ℕ
  some : suc count ≤ length ls
  left : AreLines (drop (suc count) ls)
  own_same : content_of (own_lines (take (suc count) ls)) ≡ own
  after_same : content_of (own_lines (drop (suc count) ls)) ≡ after

split : (ls : List BlockLine) (own after : List ℕ) (e : ℕ) → AreLines ls → is_eol e ≡ true → content_of (own_lines ls) ≡ own ++ e ∷ after → Split ls own after
split [] own after e h is same = absurd (no_split [] own after e tt is same)
split (line ∷ []) own after e h is same = absurd (no_split line.codes own after e h.0 is (sym (last_content line) ∙ same))
split (line ∷ next ∷ others) own after e h is same =
    let k = line_ending_code h.2.0 in
    let whole = first_content line next others h.2.0 h.2.1 in
    elim (split_line line.codes (content_of (own_lines (next ∷ others))) own after k e h.0 is (sym whole ∙ same)) [
      | inl p ↦ record {
        count = 0;
        some = omega arith;
        left = h.3;
        own_same = last_content line ∙ sym p.0;
        after_same = p.1;
      }
      | inr p ↦
          let more = split (next ∷ others) p.0 after e h.3 is p.2 in
          record {
            count = suc more.count;
            some = let m = more.some in omega arith;
            left = more.left;
            own_same =
                first_content line next (take more.count others) h.2.0 h.2.1
                ∙ ap (λ l. line.codes ++ k ∷ l) more.own_same ∙ sym p.1;
            after_same = more.after_same;
          }
    ]

-- ---- what is cut from a paragraph

-- lines of a definition, which say the same alone; and what is left has the content that the definition leaves
pub record Cuts (ls : List BlockLine) (d : LinkDefinition) : Type 0 where
  pub some : 1 ≤ lines_before d.rest ls
  pub within : lines_before d.rest ls ≤ length ls
  pub left : AreLines (drop (lines_before d.rest ls) ls)
  pub again : definition_at (content_of (own_lines (take (lines_before d.rest ls) ls))) ≡ Some (definition d.label d.destination d.title [])
  pub after : content_of (own_lines (drop (lines_before d.rest ls) ls)) ≡ d.rest

cuts_at : (ls : List BlockLine) (d : LinkDefinition) (own : List ℕ) (n : ℕ) → lines_before d.rest ls ≡ n → 1 ≤ n → n ≤ length ls
    → AreLines (drop n ls) → content_of (own_lines (take n ls)) ≡ own → content_of (own_lines (drop n ls)) ≡ d.rest
    → definition_at own ≡ Some (definition d.label d.destination d.title []) → Cuts ls d
cuts_at ls d own n e some within left before after again = record {
  some = omega arith;
  within = omega arith;
  left = subst (λ k. AreLines (drop k ls)) (sym e) left;
  again = ap (λ k. definition_at (content_of (own_lines (take k ls)))) e ∙ ap definition_at before ∙ again;
  after = ap (λ k. content_of (own_lines (drop k ls))) e ∙ after;
}

-- no lines are no definition
not_none : (ls : List BlockLine) (d : LinkDefinition) → definition_at (content_of (own_lines ls)) ≡ Some d → 1 ≤ length ls
not_none [] d h = absurd (none-some d h)
not_none (line ∷ others) d h = omega arith

pub definition_cuts : (ls : List BlockLine) (d : LinkDefinition) → AreLines ls → definition_at (content_of (own_lines ls)) ≡ Some d → Cuts ls d
definition_cuts ls d h found =
    let whole = definition_alone (content_of (own_lines ls)) d found in
    let own = whole.0 in
    elim whole.2 [
      | inl p ↦
          let none : lines_before d.rest ls ≡ length ls = let k = ap line_count p.1 in omega arith in
          let all = drop-length ls in
          cuts_at ls d own (length ls) none (not_none ls d found) (omega arith)
          (subst AreLines (sym all) tt)
          (ap (λ l. content_of (own_lines l)) (take-length ls) ∙ p.0)
          (ap (λ l. content_of (own_lines l)) all ∙ sym p.1)
          whole.1
      | inr p ↦
          let parts = split ls own d.rest p.0 h p.1 p.2 in
          let n = suc parts.count in
          let count : lines_before d.rest ls ≡ n =
          let k = ap line_count (sym parts.after_same) ∙ lines_counted (drop n ls) parts.left ∙ length-drop n ls in
          let m = parts.some in
          omega arith in
          cuts_at ls d own n count (omega arith) parts.some parts.left parts.own_same parts.after_same whole.1
    ]

-- as many definitions as there are lines are enough
no_lines : (most : ℕ) → cut_most most [] ≡ cut_into Nil []
no_lines zero = refl
no_lines (suc most) = refl

same_cuts : (some other : List BlockLine → DefinitionCut) (ls : List BlockLine) (o : Option LinkDefinition)
    → ((d : LinkDefinition) → definition_at (content_of (own_lines ls)) ≡ Some d
    → some (drop (lines_before d.rest ls) ls) ≡ other (drop (lines_before d.rest ls) ls))
    → definition_at (content_of (own_lines ls)) ≡ o → cut_after o ls some ≡ cut_after o ls other
same_cuts some other ls None same e = refl
same_cuts some other ls (Some d) same e =
    ap (λ others. cut_into (join (definition_lines d (take (lines_before d.rest ls) ls)) others.definitions) others.left) (same d e)

pub cut_enough : (most more : ℕ) (ls : List BlockLine) → AreLines ls → length ls ≤ most → length ls ≤ more → cut_most most ls ≡ cut_most more ls
cut_enough zero more [] h p q = sym (no_lines more)
cut_enough zero more (line ∷ others) h p q = absurd (omega arith)
cut_enough (suc most) zero [] h p q = refl
cut_enough (suc most) zero (line ∷ others) h p q = absurd (omega arith)
cut_enough (suc most) (suc more) ls h p q =
    same_cuts (cut_most most) (cut_most more) ls (definition_at (content_of (own_lines ls)))
    (λ d e.
    let cuts = definition_cuts ls d h e in
    let n = lines_before d.rest ls in
    let k = length-drop n ls in
    let one = cuts.some in
    cut_enough most more (drop n ls) cuts.left (omega arith) (omega arith))
    refl
