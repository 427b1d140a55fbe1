-- Containers end before the endings that aren't theirs.
use Rattle.std.proofs.Common.{◌≡◌, Bool, true, false, ℕ, suc, zero, ◌≤◌, ◌+◌, leb, cond, List, [], ◌∷◌, Option, None, Some, drop}
use Rattle.std.proofs.Common.{refl, sym, ap, ◌∙◌, subst, inl, inr, arith}
use Rattle.parse_laid.proofs.Prelude.{AtEnding, Between, Blank, Block, Blocks, cases_Bool, cond_both, Cons, Constructs, Container, ContainerLine, continues}
use Rattle.parse_laid.proofs.Prelude.{Ending, false≢true, Footnote, going_on, Holds, InAll, indent, InSome, into, is_blank, is_ending, is_inside, Item, Items}
use Rattle.parse_laid.proofs.Prelude.{join, Leaf, line_left, LineEnding, LineRest, Nil, one, Place, prefixed, Prefixed, Quote, Rest, Starts, Stops, true≢false}
use Rattle.parse_laid.proofs.Prelude.{Within}
use Rattle.std.proofs.lemmas.Bool.{cond-true, cond-false, and_from, and_cases, leb-true}
use Rattle.definition_text.specs.Columns.{is_white}
use Rattle.definition_block.specs.ContainerLine.{container_line}
use Rattle.definition_block.specs.ListItem.{item_continues}
use Rattle.markdown_options.specs.declared.beside.Kind.TheVariants.{Whitespace}
use Rattle.definition_block.specs.Tree.{all_endings}
use Rattle.definition_block.specs.Tree.{front, trailing, without_last, last_of, container_block}
use Rattle.parse_laid.proofs.Trees.{IsBlockLaid, AreBlocksLaid, is_between, split_laid, block_in_line}

-- ---- a quote ends before the ending of its last line

-- what comes after the end of a container: from a place in it to one outside
abbrev StopsBefore : Constructs → List Container → Container → Blocks → Blocks → Place → Place → Type 0
StopsBefore on around c kids others from to =
    (last after : Place) × AreBlocksLaid on (c ∷ around) kids from last × Stops on (c ∷ around) last after × AreBlocksLaid on around others after to

module _ (on : Constructs) (around : List Container) (c : Container) where
  blank_after : (ending : Option LineEnding) (from to : Place) → IsBlockLaid on (c ∷ around) (Blank ending) from to
      → StopsBefore on around c Nil (one (Blank ending)) from to
  blank_after ending (Between []) to p = absurd p.2
  blank_after ending (Between (next ∷ others)) to p = (
    Between (next ∷ others),
    Within p.0 others,
    refl,
    (p.0, p.2.0, refl),
    (to, (p.0, p.1, (refl, p.2.1), p.3, p.4, p.5), refl),
  )
  blank_after ending (Within here others) to p = (Within here others, Within here others, refl, refl, (to, p, refl))
  blank_after ending (AtEnding e others) to p = absurd p.2

  ending_after : (ending : Option LineEnding) (from to : Place) → IsBlockLaid on (c ∷ around) (Ending ending) from to
      → StopsBefore on around c Nil (one (Ending ending)) from to
  ending_after ending from to p = (AtEnding ending p.0, AtEnding ending p.0, p.1, refl, (to, (p.0, refl, p.2), refl))

  -- no block but an ending leads to the next line
  no_block_after : (b : Block) (from under to : Place) → is_ending b ≡ false → IsBlockLaid on (c ∷ around) b from under → under ≡ to
      → is_between to ≡ true → ⊥
  no_block_after b from under to off p same between =
      true≢false (sym between ∙ sym (ap is_between same) ∙ block_in_line on (c ∷ around) b from under off p)

  last_after : (b : Block) (bs : Blocks) (from to : Place) → AreBlocksLaid on (c ∷ around) (Cons b bs) from to → is_between to ≡ true
      → StopsBefore on around c (without_last (Cons b bs)) (last_of (Cons b bs)) from to
  last_after (Ending ending) Nil from to p between =
      ending_after ending from to (p.1.0, p.1.1, sym p.2 ∙ p.1.2)
  last_after (Blank ending) Nil from to p between =
      blank_after ending from to (p.1.0, p.1.1, p.1.2, p.1.3, p.1.4, sym p.2 ∙ p.1.5)
  last_after (Leaf leaf) Nil from to p between = absurd (no_block_after (Leaf leaf) from p.0 to refl p.1 p.2 between)
  last_after (Holds d kids) Nil from to p between = absurd (no_block_after (Holds d kids) from p.0 to refl p.1 p.2 between)
  last_after (Items items) Nil from to p between = absurd p.1
  last_after b (Cons d bs) from to p between =
      let r = last_after d bs p.0 to p.2 between in (r.0, r.1, (p.0, p.1, r.2), r.3, r.4)

-- ---- what is before the endings at the end, and these

join-front_by : (b : Block) (bs : Blocks) (ends : Bool) → join (front bs) (trailing bs) ≡ bs
    → join (cond ends Nil (Cons b (front bs))) (cond ends (Cons b bs) (trailing bs)) ≡ Cons b bs
join-front_by b bs true same = refl
join-front_by b bs false same = ap (Cons b) same

join-front : (bs : Blocks) → join (front bs) (trailing bs) ≡ bs
join-front Nil = refl
join-front (Cons b bs) = join-front_by b bs (all_endings (Cons b bs)) (join-front bs)

-- ---- an item and a footnote definition end before all endings at their end

-- all columns of white space that a container has may be left of a line
dropped_white : (n : ℕ) (rest : Rest) → n ≤ indent rest → is_blank (drop n rest) ≡ true → is_blank rest ≡ true
dropped_white zero rest few h = h
dropped_white (suc n) [] few h = refl
dropped_white (suc n) (code ∷ rest) few h = elim (cases_Bool (is_white code)) [
  | inl e ↦
      let all = cond-true (is_white code) (1 + indent rest) 0 e in
      and_from (is_white code) (is_blank rest) e (dropped_white n rest (omega (arith, few, all)) h)
  | inr e ↦ let none = cond-false (is_white code) (1 + indent rest) 0 e in absurd (omega (arith, few, none))
]

abbrev is_in_all : Prefixed → Bool
is_in_all (InAll line) = true
is_in_all (InSome line) = false

-- a container that leaves a blank rest of blank lines alone
abbrev KeepsBlank : Constructs → Container → Type 0
KeepsBlank on c = (line here : LineRest) → going_on (continues on c false line.rest) line ≡ InAll here → is_blank here.rest ≡ true → is_blank line.rest ≡ true

columns_keep : (size : ℕ) (line here : LineRest) → going_on (item_continues size false line.rest) line ≡ InAll here → is_blank here.rest ≡ true
    → is_blank line.rest ≡ true
columns_keep size line here =
    let rest = line.rest in
    cond_both (is_inside size false rest) (Some (container_line (drop size rest) Whitespace)) None
    (λ o. going_on o line ≡ InAll here → is_blank here.rest ≡ true → is_blank rest ≡ true)
    (λ inside same blank.
    cond_both (is_blank rest) true (leb size (indent rest)) (λ x. x ≡ true → is_blank rest ≡ true) (λ e _. e)
    (λ _ k. dropped_white size rest (leb-true size (indent rest) k) (ap (λ x. is_blank (line_left x).rest) same ∙ blank)) inside)
    (λ _ same blank. absurd (false≢true (ap is_in_all same)))

going_ending : (o : Option ContainerLine) (line here : LineRest) → going_on o line ≡ InAll here → line.beside.ending ≡ here.beside.ending
going_ending None line here same = absurd (false≢true (ap is_in_all same))
going_ending (Some more) line here same = ap (λ x. (line_left x).beside.ending) same

module _ (on : Constructs) (around : List Container) (c : Container) (keeps : KeepsBlank on c) where
  -- a blank line in a container is a blank line outside of it
  into_blank : (x : Prefixed) (here : LineRest) → into on c x ≡ InAll here → is_blank here.rest ≡ true
      → (outer : LineRest) × (x ≡ InAll outer) × (is_blank outer.rest ≡ true) × (here.beside.ending ≡ outer.beside.ending)
  into_blank (InAll line) here same blank =
      (line, refl, keeps line here same blank, sym (going_ending (continues on c false line.rest) line here same))
  into_blank (InSome line) here same blank = absurd (false≢true (ap is_in_all same))

  blank_outside : (ending : Option LineEnding) (from to : Place) → IsBlockLaid on (c ∷ around) (Blank ending) from to
      → IsBlockLaid on around (Blank ending) from to
  blank_outside ending (Between []) to p = absurd p.2
  blank_outside ending (Between (next ∷ others)) to p =
      let outer = into_blank (prefixed on around next) p.0 p.2.0 p.3 in
      (outer.0, p.1, (outer.1, p.2.1), outer.2, p.4 ∙ outer.3, p.5)
  blank_outside ending (Within here others) to p = p
  blank_outside ending (AtEnding e others) to p = absurd p.2

  moved_out : (bs : Blocks) (from to : Place) → all_endings bs ≡ true → AreBlocksLaid on (c ∷ around) bs from to → AreBlocksLaid on around bs from to
  moved_out Nil from to all p = p
  moved_out (Cons (Ending ending) bs) from to all p = (p.0, p.1, moved_out bs p.0 to all p.2)
  moved_out (Cons (Blank ending) bs) from to all p = (p.0, blank_outside ending from p.0 p.1, moved_out bs p.0 to all p.2)
  moved_out (Cons b bs) from to all p = absurd (false≢true all)

  -- what is before the endings at the end leads to no next line
  none_in_front : (bs : Blocks) → all_endings bs ≡ true → front bs ≡ Nil
  none_in_front Nil all = refl
  none_in_front (Cons b bs) all = cond-true (all_endings (Cons b bs)) Nil (Cons b (front bs)) all

  all_trailing : (bs : Blocks) → all_endings (trailing bs) ≡ true
  all_trailing Nil = refl
  all_trailing (Cons b bs) =
      cond_both (all_endings (Cons b bs)) (Cons b bs) (trailing bs) (λ x. all_endings x ≡ true) (λ e. e) (λ _. all_trailing bs)

  front_in_line : (bs : Blocks) (from to : Place) → all_endings bs ≡ false → AreBlocksLaid on (c ∷ around) (front bs) from to → is_between to ≡ false
  front_in_line Nil from to some p = absurd (true≢false some)
  front_in_line (Cons b bs) from to some p =
      let h = subst (λ x. AreBlocksLaid on (c ∷ around) x from to) (cond-false (all_endings (Cons b bs)) Nil (Cons b (front bs)) some) p in
      elim (cases_Bool (all_endings bs)) [
        | inl e ↦
            let last : h.0 ≡ to = subst (λ x. AreBlocksLaid on (c ∷ around) x h.0 to) (none_in_front bs e) h.2 in
            elim (and_cases (is_ending b) (all_endings bs) some) [
              | inl off ↦ sym (ap is_between last) ∙ block_in_line on (c ∷ around) b from h.0 off h.1
              | inr off ↦ absurd (true≢false (sym e ∙ off))
            ]
        | inr e ↦ front_in_line bs h.0 to e h.2
      ]

  any_in_line : (bs : Blocks) (from to : Place) → is_between from ≡ false → AreBlocksLaid on (c ∷ around) (front bs) from to → is_between to ≡ false
  any_in_line bs from to within p = elim (cases_Bool (all_endings bs)) [
    | inl e ↦
        let same : from ≡ to = subst (λ x. AreBlocksLaid on (c ∷ around) x from to) (none_in_front bs e) p in
        sym (ap is_between same) ∙ within
    | inr e ↦ front_in_line bs from to e p
  ]

  stops_here : (at : Place) → is_between at ≡ false → Stops on (c ∷ around) at at
  stops_here (Between left) off = absurd (true≢false off)
  stops_here (Within here left) off = refl
  stops_here (AtEnding ending left) off = refl

  loose_laid : (kids : Blocks) (from first to : Place) → Starts on around c from first → AreBlocksLaid on (c ∷ around) kids first to
      → AreBlocksLaid on around (Cons (Holds c (front kids)) (trailing kids)) from to
  loose_laid kids from first to starts p =
      let parts = split_laid on (c ∷ around) (front kids) (trailing kids) first to
      (subst (λ x. AreBlocksLaid on (c ∷ around) x first to) (sym (join-front kids)) p) in
      let last = parts.0 in (
        last,
        (first, last, starts, parts.1, stops_here last (any_in_line kids first last (ap is_between starts.6) parts.1)),
        moved_out (trailing kids) last to (all_trailing kids) parts.2,
      )

-- the children of a container, which is closed
pub hold_laid : (on : Constructs) (around : List Container) (c : Container) (kids : Blocks) (from first to : Place) → Starts on around c from first
    → AreBlocksLaid on (c ∷ around) kids first to → is_between to ≡ true → AreBlocksLaid on around (container_block c kids) from to
hold_laid on around Quote Nil from first to starts p between =
    absurd (true≢false (sym between ∙ sym (ap is_between p) ∙ ap is_between starts.6))
hold_laid on around Quote (Cons b bs) from first to starts p between =
    let r = last_after on around Quote b bs first to p between in (r.1, (first, r.0, starts, r.2, r.3), r.4)
hold_laid on around (Item item) kids from first to starts p between =
    loose_laid on around (Item item) (λ line here. columns_keep item.size line here) kids from first to starts p
hold_laid on around (Footnote label) kids from first to starts p between =
    loose_laid on around (Footnote label) (λ line here. columns_keep 4 line here) kids from first to starts p
