-- When a list is loose, by the lines of its blocks.
use Rattle.std.proofs.Common.{◌≡◌, ℕ, suc, ◌+◌, ◌≤◌, Bool, true, false, not, leb, ◌&&◌, ◌||◌, refl, sym, ap, ◌∙◌, subst, inl, inr, arith}
use Rattle.std.proofs.lemmas.Bool.{cases_Bool, cond-true, cond-false, and_parts, and_from, false≢true, le-leb, leb-true, not-true}
use Rattle.markdown_options.specs.declared.configuration.Constructs.{Constructs}
use Rattle.definition_block.specs.Container.{Container}
use Rattle.definition_block.specs.Tree.{Block, Holds, Ending, Blank, Blocks, Nil, Cons, join, is_ending, all_endings}
use Rattle.definition_block.specs.Lists.{endings_at_front, is_some_block, has_gap, has_gap_inside, is_loose}
use Rattle.laws_block.specs.TextLines.{AreOn}
use Rattle.laws_block.proofs.TextLines.{split_on}
use Rattle.laws_block.specs.Looseness.{Pair, around, PairLines, AreAlwaysApart, AreApart, SomeAre, SomeAreInList, BetweenItems}
use Rattle.laws_block.specs.Looseness.{InItem, LoosenessIsOfLines, OnlyLoosenessIsTold}

or_right : (a b : Bool) → b ≡ true → (a || b) ≡ true
or_right true b h = refl
or_right false b h = h

or_left : (a b : Bool) → a ≡ true → (a || b) ≡ true
or_left a b h = ap (λ x. x || b) h

-- ---- endings, and a child that is none

abbrev size : Blocks → ℕ
size Nil = 0
size (Cons b bs) = suc (size bs)

-- children that some other than endings are among: endings at the front, and the first that is none
record Front (bs : Blocks) : Type 0 where
  between : Blocks
  second : Block
  after : Blocks
  here : bs ≡ join between (Cons second after)
  are_endings : all_endings between ≡ true
  is_none : is_ending second ≡ false
  count : size between ≡ endings_at_front bs

front : (bs : Blocks) → is_some_block bs ≡ true → Front bs
front Nil p = absurd (false≢true p)
front (Cons b bs) p = elim (cases_Bool (is_ending b)) [
  | inl e ↦
      let more = front bs (sym (ap (λ x. not x || is_some_block bs) e) ∙ p) in
      record {
        between = Cons b more.between;
        second = more.second;
        after = more.after;
        here = ap (Cons b) more.here;
        are_endings = and_from (is_ending b) _ e more.are_endings;
        is_none = more.is_none;
        count = ap suc more.count ∙ sym (cond-true (is_ending b) _ _ e);
      }
  | inr e ↦
      record {
        between = Nil;
        second = b;
        after = bs;
        here = refl;
        are_endings = refl;
        is_none = e;
        count = sym (cond-false (is_ending b) _ _ e);
      }
]

is_some : (es : Blocks) (b : Block) (bs : Blocks) → is_ending b ≡ false → is_some_block (join es (Cons b bs)) ≡ true
is_some Nil b bs h = or_left (not (is_ending b)) (is_some_block bs) (ap not h)
is_some (Cons e es) b bs h = or_right (not (is_ending e)) _ (is_some es b bs h)

leading_endings : (es : Blocks) (b : Block) (bs : Blocks) → all_endings es ≡ true → is_ending b ≡ false
    → endings_at_front (join es (Cons b bs)) ≡ size es
leading_endings Nil b bs p q = cond-false (is_ending b) _ _ q
leading_endings (Cons e es) b bs p q =
    let parts = and_parts (is_ending e) (all_endings es) p in
    cond-true (is_ending e) _ _ parts.0 ∙ ap suc (leading_endings es b bs parts.1 q)

module _ (on : Constructs) where
  -- each ending leads to the next line
  endings_on : (es : Blocks) (a b : ℕ) → all_endings es ≡ true → AreOn on es a b → b ≡ a + size es
  endings_on Nil a b h p = omega (arith, p)
  endings_on (Cons (Ending ending) es) a b h p = let k = p.1 in let more = endings_on es p.0 b h p.2 in omega (arith, k, more)
  endings_on (Cons (Blank ending) es) a b h p = let k = p.1 in let more = endings_on es p.0 b h p.2 in omega (arith, k, more)
  endings_on (Cons x es) a b h p = absurd (false≢true h)

  -- ---- neighbours

  -- two neighbours that are apart, where another child comes first
  further : (b : Block) (bs : Blocks) → SomeAre (AreAlwaysApart on) bs → SomeAre (AreAlwaysApart on) (Cons b bs)
  further b bs h =
      let p = h.pair in
      record {
        pair = record { before = Cons b p.before; first = p.first; between = p.between; second = p.second; after = p.after };
        here = ap (Cons b) h.here;
        are_neighbours = record {
          first_is_none = h.are_neighbours.first_is_none;
          between_are_endings = h.are_neighbours.between_are_endings;
          second_is_none = h.are_neighbours.second_is_none;
        };
        are_apart = λ ls.
            let line = h.are_apart (record {
              top = ls.before_are_on.0;
              first_line = ls.first_line;
              last_line = ls.last_line;
              next_line = ls.next_line;
              before_are_on = ls.before_are_on.2;
              first_is_on = ls.first_is_on;
              between_are_on = ls.between_are_on;
            }) in
            record { line = line.line; after_first = line.after_first; before_second = line.before_second };
      }

  here_first : (b : Block) (bs : Blocks) → is_ending b ≡ false → leb 2 (endings_at_front bs) ≡ true → is_some_block bs ≡ true
      → SomeAre (AreAlwaysApart on) (Cons b bs)
  here_first b bs p q r =
      let f = front bs r in
      let two : 2 ≤ endings_at_front bs = leb-true 2 (endings_at_front bs) q in
      let count = f.count in
      record {
        pair = record { before = Nil; first = b; between = f.between; second = f.second; after = f.after };
        here = ap (Cons b) f.here;
        are_neighbours = record { first_is_none = p; between_are_endings = f.are_endings; second_is_none = f.is_none };
        are_apart = λ ls.
            let next = endings_on f.between ls.last_line ls.next_line f.are_endings ls.between_are_on in
            record { line = suc ls.last_line; after_first = omega arith; before_second = omega (arith, two, count, next) };
      }

  gap_line : (bs : Blocks) → has_gap bs ≡ true → SomeAre (AreAlwaysApart on) bs
  gap_line Nil h = absurd (false≢true h)
  gap_line (Cons b bs) h =
      let first = not (is_ending b) && leb 2 (endings_at_front bs) && is_some_block bs in
      elim (cases_Bool first) [
        | inl e ↦
            let parts = and_parts (not (is_ending b) && leb 2 (endings_at_front bs)) (is_some_block bs) e in
            let others = and_parts (not (is_ending b)) (leb 2 (endings_at_front bs)) parts.0 in
            here_first b bs (not-true (is_ending b) others.0) others.1 parts.1
        | inr e ↦ further b bs (gap_line bs (sym (ap (λ x. x || has_gap bs) e) ∙ h))
      ]

-- two neighbours with two endings between
gap_at : (before : Blocks) (first : Block) (bs : Blocks) → is_ending first ≡ false → leb 2 (endings_at_front bs) ≡ true → is_some_block bs ≡ true
    → has_gap (join before (Cons first bs)) ≡ true
gap_at Nil first bs p q r =
    let two = and_from (not (is_ending first)) (leb 2 (endings_at_front bs)) (ap not p) q in
    or_left (not (is_ending first) && leb 2 (endings_at_front bs) && is_some_block bs) (has_gap bs)
    (and_from (not (is_ending first) && leb 2 (endings_at_front bs)) (is_some_block bs) two r)
gap_at (Cons b before) first bs p q r = or_right _ (has_gap (join before (Cons first bs))) (gap_at before first bs p q r)

-- two neighbours between whose lines another one is
pub line_gap : (on : Constructs) (bs : Blocks) → SomeAre (AreApart on) bs → has_gap bs ≡ true
line_gap on bs h =
    let p = h.pair in
    let n = h.are_neighbours in
    let ls = h.are_apart.0 in
    let line = h.are_apart.1 in
    let after_first = line.after_first in
    let before_second = line.before_second in
    let next = endings_on on p.between ls.last_line ls.next_line n.between_are_endings ls.between_are_on in
    let count = leading_endings p.between p.second p.after n.between_are_endings n.second_is_none in
    let two : 2 ≤ endings_at_front (join p.between (Cons p.second p.after)) = omega (arith, after_first, before_second, count, next) in
    ap has_gap h.here
    ∙ gap_at p.before p.first (join p.between (Cons p.second p.after)) n.first_is_none (le-leb 2 _ two)
    (is_some p.between p.second p.after n.second_is_none)

-- ---- items

-- an item some two neighbouring children of which have a line between them
record InSome (items : Blocks) : Type 0 where
  before : Blocks
  container : Container
  kids : Blocks
  after : Blocks
  here : items ≡ join before (Cons (Holds container kids) after)
  gap : has_gap kids ≡ true

in_later : (b : Block) (bs : Blocks) → InSome bs → InSome (Cons b bs)
in_later b bs s = record { before = Cons b s.before; container = s.container; kids = s.kids; after = s.after; here = ap (Cons b) s.here; gap = s.gap }

in_some : (items : Blocks) → has_gap_inside items ≡ true → InSome items
in_some Nil h = absurd (false≢true h)
in_some (Cons (Holds c kids) bs) h = elim (cases_Bool (has_gap kids)) [
  | inl e ↦ record { before = Nil; container = c; kids = kids; after = bs; here = refl; gap = e }
  | inr e ↦ in_later (Holds c kids) bs (in_some bs (sym (ap (λ x. x || has_gap_inside bs) e) ∙ h))
]
in_some (Cons b bs) h = in_later b bs (in_some bs h)

inside_at : (before : Blocks) (c : Container) (kids after : Blocks) → has_gap kids ≡ true
    → has_gap_inside (join before (Cons (Holds c kids) after)) ≡ true
inside_at Nil c kids after h = or_left (has_gap kids) (has_gap_inside after) h
inside_at (Cons (Holds d others) before) c kids after h = or_right (has_gap others) _ (inside_at before c kids after h)
inside_at (Cons b before) c kids after h = inside_at before c kids after h

has_line : (on : Constructs) (items : Blocks) → is_loose items ≡ true → SomeAreInList (AreAlwaysApart on) items
has_line on items h = elim (cases_Bool (has_gap items)) [
  | inl e ↦ BetweenItems (gap_line on items e)
  | inr e ↦
      let s = in_some items (sym (ap (λ x. x || has_gap_inside items) e) ∙ h) in
      InItem s.before s.container s.kids s.after s.here (gap_line on s.kids s.gap)
]

is_told : (on : Constructs) (items : Blocks) → SomeAreInList (AreApart on) items → is_loose items ≡ true
is_told on items (BetweenItems h) = or_left (has_gap items) (has_gap_inside items) (line_gap on items h)
is_told on items (InItem before c kids after here h) =
    or_right (has_gap items) (has_gap_inside items) (ap has_gap_inside here ∙ inside_at before c kids after (line_gap on kids h))

pub looseness_is_of_lines : LoosenessIsOfLines
looseness_is_of_lines = record { has_line = has_line; is_told = is_told }

-- ---- no other definition

-- the lines of two neighbours among children that stand on lines
pair_lines : (on : Constructs) (p : Pair) (a b : ℕ) → AreOn on (around p) a b → PairLines on p
pair_lines on p a b h =
    let front = split_on on p.before (Cons p.first (join p.between (Cons p.second p.after))) a b h in
    let behind = split_on on p.between (Cons p.second p.after) front.2.0 b front.2.2 in
    record {
      top = a;
      first_line = front.0;
      last_line = front.2.0;
      next_line = behind.0;
      before_are_on = front.1;
      first_is_on = front.2.1;
      between_are_on = behind.1;
    }

are_apart : (on : Constructs) (kids : Blocks) (a b : ℕ) → AreOn on kids a b → SomeAre (AreAlwaysApart on) kids → SomeAre (AreApart on) kids
are_apart on kids a b h some =
    let ls = pair_lines on some.pair a b (subst (λ bs. AreOn on bs a b) some.here h) in
    record { pair = some.pair; here = some.here; are_neighbours = some.are_neighbours; are_apart = (ls, some.are_apart ls) }

apart_in_list : (on : Constructs) (items : Blocks) (a b : ℕ) → AreOn on items a b → SomeAreInList (AreAlwaysApart on) items
    → SomeAreInList (AreApart on) items
apart_in_list on items a b h (BetweenItems some) = BetweenItems (are_apart on items a b h some)
apart_in_list on items a b h (InItem before c kids after here some) =
    let item = split_on on before (Cons (Holds c kids) after) a b (subst (λ bs. AreOn on bs a b) here h) in
    InItem before c kids after here (are_apart on kids item.0 item.2.0 item.2.1 some)

same_answer : (x y : Bool) → (x ≡ true → y ≡ true) → (y ≡ true → x ≡ true) → x ≡ y
same_answer true true p q = refl
same_answer true false p q = sym (p refl)
same_answer false true p q = q refl
same_answer false false p q = refl

pub only_looseness_is_told : OnlyLoosenessIsTold
only_looseness_is_told told tells on items a b h =
    same_answer (told items) (is_loose items) (λ e. is_told on items (apart_in_list on items a b h (tells.has_line on items e)))
    (λ e. tells.is_told on items (apart_in_list on items a b h (has_line on items e)))
