-- How many lines of a text a leaf passes.
use Rattle.std.proofs.Common.{◌≡◌, ℕ, suc, ◌-◌, ◌<◌, true, false, List, [], ◌∷◌, ◌++◌, Option, None, Some, length, refl, sym, ap, ◌∙◌, subst, inl, inr, arith}
use Rattle.std.proofs.lemmas.List.{length-append}
use Rattle.parse_laid.proofs.Prelude.{AreCode, AreHtml, AreTable, AreTaken, AreText, AtEnding, begun, Between, BlockLine, Break, Constructs, Container}
use Rattle.parse_laid.proofs.Prelude.{ContainerLine, continues, Definition, Fence, FencedCode, going_on, Heading, Html, InAll, IndentedCode, InSome, into}
use Rattle.parse_laid.proofs.Prelude.{IsCodeLine, IsFenceLine, IsHtmlLine, IsLeafLaid, IsOn, IsRowLine, IsTextLine, last_ending, last_ending_or, LeafBlock}
use Rattle.parse_laid.proofs.Prelude.{line_left, LineEnding, LineRest, own_lines, Paragraph, Place, prefixed, Prefixed, rest_line, Table, Within}
use Rattle.parse_laid.specs.Leaves.{EndsAt}
use Rattle.parse_laid.specs.Passed.{lines_on, later, HasLater, LeavesPassLines}
use Rattle.parse_laid.proofs.Taken.{more_taken, each_taken}
use Rattle.parse_laid.proofs.Beginning.{last_more}

length-own : (ls : List BlockLine) → length (own_lines ls) ≡ length ls
length-own [] = refl
length-own (line ∷ []) = refl
length-own (line ∷ next ∷ others) = ap suc (length-own (next ∷ others))

abbrev lines_after : Place → List LineRest
lines_after (Between left) = left
lines_after (Within here left) = left
lines_after (AtEnding ending left) = left

-- a line with the ending of its line of the text
abbrev IsEndedLine : Prefixed → BlockLine → Type 0
IsEndedLine here line = line.ending ≡ (line_left here).beside.ending

text_ended : (on : Constructs) (here : Prefixed) (line : BlockLine) → IsTextLine on here line → IsEndedLine here line
text_ended on here line p = ap (λ (l : BlockLine). l.ending) p.1

code_ended : (on : Constructs) (here : Prefixed) (line : BlockLine) → IsCodeLine on here line → IsEndedLine here line
code_ended on (InAll here) line p = ap (λ (l : BlockLine). l.ending) p.1
code_ended on (InSome here) line p = absurd p

fence_ended : (on : Constructs) (fence : Fence) (here : Prefixed) (line : BlockLine) → IsFenceLine on fence here line → IsEndedLine here line
fence_ended on fence (InAll here) line p = ap (λ (l : BlockLine). l.ending) p.1
fence_ended on fence (InSome here) line p = absurd p

html_ended : (kind : ℕ) (here : Prefixed) (line : BlockLine) → IsHtmlLine kind here line → IsEndedLine here line
html_ended kind (InAll here) line p = ap (λ (l : BlockLine). l.ending) p.1
html_ended kind (InSome here) line p = absurd p

row_ended : (on : Constructs) (here : Prefixed) (line : BlockLine) → IsRowLine on here line → IsEndedLine here line
row_ended on (InAll here) line p = ap (λ (l : BlockLine). l.ending) p.1
row_ended on (InSome here) line p = absurd p

module _ (on : Constructs) where
  -- ---- prefixes leave the ending

  going_ending : (o : Option ContainerLine) (line : LineRest) → (line_left (going_on o line)).beside.ending ≡ line.beside.ending
  going_ending None line = refl
  going_ending (Some more) line = refl

  into_ending : (c : Container) (x : Prefixed) → (line_left (into on c x)).beside.ending ≡ (line_left x).beside.ending
  into_ending c (InAll line) = going_ending (continues on c false line.rest) line
  into_ending c (InSome line) = refl

  prefixed_ending : (around : List Container) (line : LineRest) → (line_left (prefixed on around line)).beside.ending ≡ line.beside.ending
  prefixed_ending [] line = refl
  prefixed_ending (c ∷ around) line = into_ending c (prefixed on around line) ∙ prefixed_ending around line

  module _ (around : List Container) where
    -- ---- lines one after another

    first_on : (n : ℕ) (from : Place) (here : Prefixed) (left : List LineRest) → IsOn on around from here left
        → later n (begun on around from) ≡ lines_on n (line_left here).beside.ending left
    first_on n (Between []) here left p = absurd p
    first_on n (Between (next ∷ others)) here left p =
        ap (λ x. lines_on n (line_left x).beside.ending others) p.0 ∙ ap (lines_on n (line_left here).beside.ending) p.1
    first_on n (Within line others) here left p =
        ap (λ x. lines_on n (line_left x).beside.ending others) p.0 ∙ ap (lines_on n (line_left here).beside.ending) p.1
    first_on n (AtEnding ending others) here left p = absurd p

    taken_on : (ls : List BlockLine) (ending : Option LineEnding) (lines left : List LineRest)
        → AreTaken on around IsEndedLine ls (Between lines) (Between left)
        → lines_on (length ls) ending lines ≡ AtEnding (last_ending_or ending ls) left
    taken_on [] ending lines left p = ap (AtEnding ending) (ap lines_after p)
    taken_on (line ∷ ls) ending [] left p = absurd p.2
    taken_on (line ∷ ls) ending (next ∷ others) left p =
        let same : next.beside.ending ≡ line.ending =
        sym (prefixed_ending around next) ∙ ap (λ x. (line_left x).beside.ending) p.2.0 ∙ sym p.3 in
        ap (λ e. lines_on (length ls) e others) same ∙ ap (lines_on (length ls) line.ending) p.2.1 ∙ taken_on ls line.ending p.1 left p.4

    -- lines of a leaf lead to the ending of the last
    lines_passed : (ls : List BlockLine) (from after to : Place) → 0 < length ls → AreTaken on around IsEndedLine ls from after → EndsAt ls after to
        → to ≡ later (length ls - 1) (begun on around from)
    lines_passed [] from after to some p e = absurd (omega (arith, some))
    lines_passed (line ∷ others) from after to some p e =
        let q = subst (AreTaken on around IsEndedLine others (Between p.1)) e.1 p.4 in
        let n : length others ≡ length (line ∷ others) - 1 = omega arith in
        e.2
        ∙ sym (taken_on others line.ending p.1 e.0 q)
        ∙ ap (λ x. lines_on (length others) x p.1) p.3
        ∙ sym (first_on (length others) from p.0 p.1 p.2)
        ∙ ap (λ k. later k (begun on around from)) n

    one_passed : (from to : Place) (here : LineRest) (left : List LineRest) → IsOn on around from (InAll here) left
        → to ≡ AtEnding here.beside.ending left → to ≡ later 0 (begun on around from)
    one_passed from to here left is e = e ∙ sym (first_on 0 from (InAll here) left is)

    -- ---- leaves

    code_taken : (ls : List BlockLine) (from after : Place) → AreCode on around ls from after
        → (0 < length ls) × AreTaken on around IsEndedLine ls from after
    code_taken [] from after p = absurd p
    code_taken (first ∷ others) from after p = (
      omega arith,
      (
        InAll p.0,
        p.1,
        p.2,
        ap (λ (l : BlockLine). l.ending) p.4,
        each_taken on around (IsCodeLine on) IsEndedLine others (Between p.1) after (code_ended on) p.5,
      ),
    )

    html_taken : (kind : ℕ) (ls : List BlockLine) (from after : Place) → AreHtml on around kind ls from after
        → (0 < length ls) × AreTaken on around IsEndedLine ls from after
    html_taken kind [] from after p = absurd p
    html_taken kind (first ∷ others) from after p = (
      omega arith,
      (
        InAll p.0,
        p.1,
        p.3,
        ap (λ (l : BlockLine). l.ending) p.5,
        each_taken on around (IsHtmlLine kind) IsEndedLine others (Between p.1) after (html_ended kind) p.6,
      ),
    )

    text_taken : (ls : List BlockLine) (from after : Place) → AreText on around ls from after → AreTaken on around IsEndedLine ls from after
    text_taken ls from after p = each_taken on around (IsTextLine on) IsEndedLine ls from after (text_ended on) p.1

    table_taken : (ls : List BlockLine) (from after : Place) → AreTable on around ls from after
        → (0 < length ls) × AreTaken on around IsEndedLine ls from after
    table_taken [] from after p = absurd p
    table_taken (head ∷ []) from after p = absurd p
    table_taken (head ∷ row ∷ others) from after p =
        let q = each_taken on around (IsTextLine on) IsEndedLine (head ∷ []) from p.0 (text_ended on) p.4 in (
          omega arith,
          (
            q.0,
            q.1,
            q.2,
            q.3,
            (
              InAll p.1,
              p.2,
              subst (λ x. IsOn on around x (InAll p.1) p.2) (sym q.4) p.5,
              ap (λ (l : BlockLine). l.ending) p.8,
              each_taken on around (IsRowLine on) IsEndedLine others (Between p.2) after (row_ended on) p.9,
            ),
          ),
        )

    -- as many lines as the leaf has
    own_passed : (taken ls : List BlockLine) (from after to : Place) → 0 < length taken → AreTaken on around IsEndedLine taken from after
        → ls ≡ own_lines taken → EndsAt taken after to
        → (n : ℕ) × (suc n ≡ length ls) × (to ≡ later n (begun on around from))
    own_passed taken ls from after to some p same e =
        let own = ap length same ∙ length-own taken in
        (length taken - 1, omega (arith, own, some), lines_passed taken from after to some p e)

    -- these lines, and one more
    and_one : (ls : List BlockLine) (from under : Place) (here : LineRest) (left : List LineRest) → AreTaken on around IsEndedLine ls from under
        → IsOn on around under (InAll here) left
        → AreTaken on around IsEndedLine (ls ++ rest_line here.rest here.beside ∷ []) from (Between left)
    and_one ls from under here left p is = more_taken on around IsEndedLine ls (rest_line here.rest here.beside) from under (InAll here) left p is refl

    leaf_passed : (leaf : LeafBlock) (from to : Place) → IsLeafLaid on around leaf from to
        → (n : ℕ) × HasLater leaf n × (to ≡ later n (begun on around from))
    leaf_passed (Paragraph ls) from to p = own_passed p.0 ls from p.1 to p.2.0 (text_taken p.0 from p.1 p.2) p.3 p.4
    leaf_passed (Heading rank ls) from to p = elim p [
      | inl h ↦ (0, inl (refl, ap length h.6), one_passed from to h.0 h.1 h.3 h.7)
      | inr h ↦
          let line = rest_line h.2.rest h.2.beside in
          let all = h.0 ++ line ∷ [] in
          let size = length-append h.0 (line ∷ []) in
          let own = ap length h.5 ∙ length-own h.0 in
          let taken = and_one h.0 from h.1 h.2 h.3 (text_taken h.0 from h.1 h.4) h.6 in
          let last : to ≡ AtEnding (last_ending all) h.3 = h.8 ∙ ap (λ e. AtEnding e h.3) (sym (last_more None h.0 line)) in
          let whole = lines_passed all from (Between h.3) to (omega (arith, size)) taken (h.3, refl, last) in
          (length all - 1, inr (omega (arith, size, own)), whole)
    ]
    leaf_passed Break from to p = (0, refl, one_passed from to p.0 p.1 p.2 p.4)
    leaf_passed (IndentedCode ls) from to p =
        let taken = code_taken p.0 from p.1 p.2 in own_passed p.0 ls from p.1 to taken.0 taken.1 p.3 p.4
    leaf_passed (FencedCode info false ls) from to p =
        let q = p.4 in
        let taken = each_taken on around (IsFenceLine on p.0) IsEndedLine ls (Between q.0) (Between p.2) (fence_ended on p.0) q.3 in (
          length ls,
          omega arith,
          p.5 ∙ sym (taken_on ls p.1.beside.ending q.0 p.2 taken) ∙ sym (first_on (length ls) from (InAll p.1) q.0 q.1),
        )
    leaf_passed (FencedCode info true ls) from to p =
        let q = p.6 in
        let line = rest_line p.2.rest p.2.beside in
        let all = ls ++ line ∷ [] in
        let size = length-append ls (line ∷ []) in
        let taken = each_taken on around (IsFenceLine on p.0) IsEndedLine ls (Between q.0) p.3 (fence_ended on p.0) q.3 in
        let more = and_one ls (Between q.0) p.3 p.2 p.4 taken p.7 in
        let last : to ≡ AtEnding (last_ending_or p.1.beside.ending all) p.4 =
        p.9 ∙ ap (λ e. AtEnding e p.4) (sym (last_more p.1.beside.ending ls line)) in (
          length all,
          omega (arith, size),
          last ∙ sym (taken_on all p.1.beside.ending q.0 p.4 more) ∙ sym (first_on (length all) from (InAll p.1) q.0 q.1),
        )
    leaf_passed (Html ls) from to p =
        let taken = html_taken p.0 p.1 from p.2 p.3 in own_passed p.1 ls from p.2 to taken.0 taken.1 p.4 p.5
    leaf_passed (Table ls) from to p =
        let taken = table_taken p.0 from p.1 p.2 in own_passed p.0 ls from p.1 to taken.0 taken.1 p.3 p.4
    leaf_passed (Definition ls label destination title) from to p = own_passed p.0 ls from p.1 to p.2.0 (text_taken p.0 from p.1 p.2) p.3 p.5

pub leaves_pass_lines : LeavesPassLines
leaves_pass_lines = record { passed = λ on around leaf from to p. leaf_passed on around leaf from to p }
