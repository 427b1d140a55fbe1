-- Whatever is added to a list of events, it stays nested and in order.
use Rattle.std.proofs.Common.{◌≡◌, ◌∙◌, ℕ, zero, suc, ◌<◌, ◌-◌, Bool, true, false, ltb, ◌==◌, ◌&&◌, ◌||◌, if◌then◌else◌, List, [], ◌∷◌, ◌++◌}
use Rattle.std.proofs.Common.{length, take, drop, slice_get, Option, None, Some, refl, sym, ap, subst, arith}
use Rattle.std.specs.List.{fold}
use Rattle.std.proofs.lemmas.Bool.{and_parts, eq-eqb, ltb-false}
use Rattle.std.proofs.lemmas.List.{length-take-le, take-append-drop}
use Rattle.std.proofs.lemmas.List.Sums.{fold_push}
use Rattle.std.proofs.lemmas.Option.{same_Some}
use Rattle.std.proofs.Math.Seq.{take-length}
use denote.Enum.Bare.{same_true}
use Rattle.engine_events.specs.contracts.event.Kind.{the_type}
use Rattle.engine_events.specs.declared.event.Event.{Event}
use Rattle.engine_events.specs.declared.event.Kind.{Kind}
use Rattle.engine_events.specs.declared.event.Kind.TheVariants.{Enter, Exit}
use Rattle.engine_events.specs.declared.event.Name.{Name}
use Rattle.engine_events.specs.declared.event.Name.TheVariants as names
use Rattle.engine_events.specs.declared.place.Point.{Point}
use Rattle.engine_events.specs.Events.{event, point_of}
use Rattle.markdown_engine.specs.Order.{AreInOrder, InOrder, IsBalanced, IsNested, MayStand, Reaches, open_after, opened_by, outer, text_start}
use Rattle.markdown_engine.specs.OrderLaws.{nested_append, nested_front, opened_append, stays}
use Rattle.state_parser.specs.declared.merged.Open.{Open}
use Rattle.state_parser.specs.Events.{end_of, is_ending, is_white_at, later, place_of, white_of}
use Rattle.state_parser.specs.Merged.{Merging, Step, blank_left, entered, exited, innermost, is_innermost, left, left_by, left_to, line_ended, line_left}
use Rattle.state_parser.specs.Merged.{moved, nothing, one_left, outside_left, pushed, pushed_by, white_from, white_start, with_white}

-- ---- lists

take_more : {A : Type 0} (xs : List A) (n : ℕ) (a : A) → slice_get xs n ≡ Some a → take (suc n) xs ≡ take n xs ++ a ∷ []
take_more [] n a e = absurd (let f : None ≡ Some a = e in cc)
take_more {A} (x ∷ xs) zero a e = ap (λ (z : A). z ∷ []) (same_Some x a e)
take_more {A} (x ∷ xs) (suc n) a e = ap (λ (z : List A). x ∷ z) (take_more xs n a e)

-- ---- places

abbrev last_place : Point → List Event → Point
last_place from [] = from
last_place from (e ∷ es) = last_place (point_of e) es

end_more : (e : Event) (es : List Event) → place_of (slice_get (e ∷ es) (length es)) ≡ last_place (point_of e) es
end_more e [] = refl
end_more e (f ∷ es) = end_more f es

end_is : (es : List Event) → end_of es ≡ last_place text_start es
end_is [] = refl
end_is (e ∷ es) = let here : length (e ∷ es) - 1 ≡ length es = omega arith in ap (λ (n : ℕ). place_of (slice_get (e ∷ es) n)) here ∙ end_more e es

later_by : (p q : Point) (a b c : Bool) → ltb q.index p.index ≡ a → (q.index == p.index) ≡ b → ltb q.vs p.vs ≡ c → Reaches p (if a || (b && c) then p else q)
later_by p q true b c f g h = stays p
later_by p q false true true f g h = stays p
later_by p q false true false f g h = record { index = ltb-false q.index p.index f; column = λ e. ltb-false q.vs p.vs h }
later_by p q false false c f g h =
    record { index = ltb-false q.index p.index f; column = λ e. absurd (let k : false ≡ true = sym g ∙ eq-eqb q.index p.index (sym e) in cc) }

later_reaches : (p q : Point) → Reaches p (later p q)
later_reaches p q = later_by p q (ltb q.index p.index) (q.index == p.index) (ltb q.vs p.vs) refl refl refl

-- each event is at the place of the one before it, or later
abbrev IsRising : Point → List Event → Type 0
IsRising from es = InOrder from es (last_place from es)

rising_more : (from : Point) (es : List Event) (e : Event) → IsRising from es → Reaches (last_place from es) (point_of e) → IsRising from (es ++ e ∷ [])
rising_more from [] e h k = (k, stays (point_of e))
rising_more from (f ∷ es) e h k = (h.0, rising_more (point_of f) es e h.1 k)

rising_front : (from : Point) (a b : List Event) → IsRising from (a ++ b) → IsRising from a
rising_front from [] b h = stays from
rising_front from (e ∷ a) b h = (h.0, rising_front (point_of e) a b h.1)

-- ---- what is open

abbrev with_name : List Name → Open → List Name
with_name ns o = o.name ∷ ns

-- the names of what is open, the innermost first
abbrev names_of : List Open → List Name
names_of opened = fold with_name [] opened

names_more : (opened : List Open) (o : Open) → names_of (opened ++ o ∷ []) ≡ o.name ∷ names_of opened
names_more opened o = fold_push with_name [] opened o

names_without : (opened : List Open) (o : Open) → slice_get opened (length opened - 1) ≡ Some o
    → names_of opened ≡ o.name ∷ names_of (take (length opened - 1) opened)
names_without [] o e = absurd (let f : None ≡ Some o = e in cc)
names_without (x ∷ xs) o e =
    let here : length (x ∷ xs) - 1 ≡ length xs = omega arith in
    let last : slice_get (x ∷ xs) (length xs) ≡ Some o = ap (slice_get (x ∷ xs)) (sym here) ∙ e in
    let whole : x ∷ xs ≡ take (length xs) (x ∷ xs) ++ o ∷ [] = sym (take-length (x ∷ xs)) ∙ take_more (x ∷ xs) (length xs) o last in
    ap names_of whole ∙ (names_more (take (length xs) (x ∷ xs)) o ∙ ap (λ (n : ℕ). o.name ∷ names_of (take n (x ∷ xs))) (sym here))

record Stands (m : Merging) : Type 0 where
  nested : IsNested [] m.events
  opened : open_after [] m.events ≡ names_of m.opened
  rising : IsRising text_start m.events

added_stands : (e : Event) (m : Merging) (opened : List Open) → Stands m → MayStand e.kind e.name (names_of m.opened)
    → opened_by e.kind e.name (names_of m.opened) ≡ names_of opened → Stands (record { events = m.events ++ moved e m.events ∷ []; opened = opened })
added_stands e m opened h may opens =
    let f = moved e m.events in
    record {
      nested = nested_append [] m.events (f ∷ []) h.nested (subst (MayStand e.kind e.name) (sym h.opened) may, tt);
      opened = opened_append [] m.events (f ∷ []) ∙ (ap (opened_by e.kind e.name) h.opened ∙ opens);
      rising = rising_more text_start m.events f h.rising
          (subst (λ (z : Point). Reaches z (later (end_of m.events) (point_of e))) (end_is m.events) (later_reaches (end_of m.events) (point_of e)));
    }

entered_stands : (last : Option ℕ) (e : Event) (m : Merging) → Enter ≡ e.kind → Stands m → Stands (entered last e m)
entered_stands last e m k h =
    let o : Open = record { name = e.name; last = last } in
    added_stands e m (m.opened ++ o ∷ []) h (subst (λ (z : Kind). MayStand z e.name (names_of m.opened)) k tt)
    (subst (λ (z : Kind). opened_by z e.name (names_of m.opened) ≡ names_of (m.opened ++ o ∷ [])) k (sym (names_more m.opened o)))

left_by_stands : (o : Option Open) (p : Point) (m : Merging) → innermost m ≡ o → Stands m → Stands (left_by o p m)
left_by_stands None p m e h = h
left_by_stands (Some o) p m e h =
    let rest = take (length m.opened - 1) m.opened in
    let found = names_without m.opened o e in
    added_stands (event Exit o.name p None) m rest h (names_of rest, found) (ap outer found)

one_left_stands : (p : Point) (m : Merging) → Stands m → Stands (one_left p m)
one_left_stands p m h = left_by_stands (innermost m) p m refl h

by_test : (t : Bool) (m n : Merging) → Stands m → Stands n → Stands (if t then m else n)
by_test true m n h k = h
by_test false m n h k = k

exited_stands : (e : Event) (m : Merging) → Stands m → Stands (exited e m)
exited_stands e m h = by_test (is_innermost e.name m) (one_left (point_of e) m) m (one_left_stands (point_of e) m h) h

left_stands : (n : ℕ) (p : Point) (m : Merging) → Stands m → Stands (left n p m)
left_stands zero p m h = h
left_stands (suc n) p m h = left_stands n p (one_left p m) (one_left_stands p m h)

-- ---- white space

is_white : (o : Option Event) (kind : Kind) → white_of kind o ≡ true → (e : Event) × (o ≡ Some e) × (e.kind ≡ kind)
is_white None kind h = absurd (let f : false ≡ true = h in cc)
is_white (Some e) kind h = (e, refl, same_true the_type tt e.kind kind (and_parts _ _ h).0)

-- a pair leaves open what was open before it
pair_open : (es : List Event) (n : ℕ) → is_white_at es Enter n ≡ true → is_white_at es Exit (suc n) ≡ true
    → open_after [] (take n es) ≡ open_after [] (take (suc (suc n)) es)
pair_open es n h k =
    let a = is_white (slice_get es n) Enter h in
    let b = is_white (slice_get es (suc n)) Exit k in
    let opened = open_after [] (take n es) in
    let first = ap (open_after []) (take_more es n a.0 a.1) ∙ opened_append [] (take n es) (a.0 ∷ []) in
    let second = ap (open_after []) (take_more es (suc n) b.0 b.1) ∙ opened_append [] (take (suc n) es) (b.0 ∷ []) in
    sym (second ∙ (ap (λ (z : Kind). opened_by z b.0.name (open_after [] (take (suc n) es))) b.2
    ∙ (ap outer first ∙ ap (λ (z : Kind). outer (opened_by z a.0.name opened)) a.2)))

by_pair : (es : List Event) (n : ℕ) (a b : Bool) → is_white_at es Enter n ≡ a → is_white_at es Exit (suc n) ≡ b
    → open_after [] (take (white_from es n) es) ≡ open_after [] (take n es)
    → open_after [] (take (if a && b then white_from es n else suc (suc n)) es) ≡ open_after [] (take (suc (suc n)) es)
by_pair es n true true h k same = same ∙ pair_open es n h k
by_pair es n true false h k same = refl
by_pair es n false b h k same = refl

white_open : (es : List Event) (n : ℕ) → open_after [] (take (white_from es n) es) ≡ open_after [] (take n es)
white_open es zero = refl
white_open es (suc zero) = refl
white_open es (suc (suc n)) = by_pair es n (is_white_at es Enter n) (is_white_at es Exit (suc n)) refl refl (white_open es n)

abbrev without_white : Merging → Merging
without_white m = record { events = take (white_start m.events) m.events; opened = m.opened }

without_white_stands : (m : Merging) → Stands m → Stands (without_white m)
without_white_stands m h =
    let es = m.events in
    let n = white_start es in
    let parts = sym (take-append-drop n es) in
    record {
      nested = nested_front [] (take n es) (drop n es) (subst (IsNested []) parts h.nested);
      opened = white_open es (length es) ∙ (ap (open_after []) (take-length es) ∙ h.opened);
      rising = rising_front text_start (take n es) (drop n es) (subst (IsRising text_start) parts h.rising);
    }

with_white_stands : (first last : Point) (m : Merging) → Stands m → Stands (with_white first last m)
with_white_stands first last m h =
    let o : Open = record { name = names.SpaceOrTab; last = None } in
    let more = names_more m.opened o in
    let begun = added_stands (event Enter names.SpaceOrTab first None) m (m.opened ++ o ∷ []) h tt (sym more) in
    added_stands (event Exit names.SpaceOrTab last None)
    (record { events = m.events ++ moved (event Enter names.SpaceOrTab first None) m.events ∷ []; opened = m.opened ++ o ∷ [] }) m.opened begun
    (names_of m.opened, more) (ap outer more)

-- ---- lines and steps

left_to_stands : (kept : ℕ) (p : Point) (m : Merging) → Stands m → Stands (left_to kept p m)
left_to_stands kept p m h = left_stands (length m.opened - kept) p m h

blank_left_stands : (kept : ℕ) (p : Point) (m : Merging) → Stands m → Stands (blank_left kept p m)
blank_left_stands kept p m h =
    let first = place_of (slice_get m.events (white_start m.events)) in
    by_test (is_white_at m.events Enter (white_start m.events)) (outside_left (white_start m.events) kept m) (left_to kept p m)
    (with_white_stands first (end_of m.events) (left_to kept first (without_white m)) (left_to_stands kept first (without_white m) (without_white_stands m h)))
    (left_to_stands kept p m h)

line_left_stands : (kept : ℕ) (blank : Bool) (p : Point) (m : Merging) → Stands m → Stands (line_left kept blank p m)
line_left_stands kept blank p m h = by_test blank (blank_left kept p m) (left_to kept p m) (blank_left_stands kept p m h) (left_to_stands kept p m h)

pushed_by_stands : (k : Kind) (last : Option ℕ) (e : Event) (m : Merging) → k ≡ e.kind → Stands m → Stands (pushed_by k last e m)
pushed_by_stands Exit last e m f h = exited_stands e m h
pushed_by_stands Enter last e m f h =
    entered_stands last e (if is_ending e then line_ended e m else m) f (by_test (is_ending e) (line_ended e m) m (line_left_stands _ _ (point_of e) m h) h)

steps_stand : (m : Merging) (ss : List Step) → Stands m → Stands (fold pushed m ss)
unfolding pushed
steps_stand m [] h = h
steps_stand m (s ∷ ss) h = steps_stand (pushed m s) ss (pushed_by_stands s.event.kind s.last s.event m refl h)

-- ---- the end

none_open : (xs : List Open) → slice_get xs (length xs - 1) ≡ None → length xs ≡ 0
none_open [] e = refl
none_open (x ∷ xs) e = absurd (past (x ∷ xs) (length (x ∷ xs) - 1) e (omega arith))
  where
    past : (ys : List Open) (i : ℕ) → slice_get ys i ≡ None → i < length ys → ⊥
    past [] i f l = omega arith
    past (y ∷ ys) zero f l = let g : Some y ≡ None = f in cc
    past (y ∷ ys) (suc i) f l = past ys i f (omega arith)

left_by_open : (o : Option Open) (p : Point) (m : Merging) → innermost m ≡ o → length (left_by o p m).opened ≡ length m.opened - 1
left_by_open None p m e = let h = none_open m.opened e in omega arith
left_by_open (Some o) p m e = length-take-le (length m.opened - 1) m.opened (omega arith)

left_open : (n : ℕ) (p : Point) (m : Merging) → length (left n p m).opened ≡ length m.opened - n
left_open zero p m = omega arith
left_open (suc n) p m = let h = left_open n p (one_left p m) in let k = left_by_open (innermost m) p m refl in omega arith

all_left : (blank : Bool) (p : Point) (m : Merging) → length (line_left 0 blank p m).opened ≡ 0
all_left false p m = let h = left_open (length m.opened - 0) p m in omega arith
all_left true p m = by_white (is_white_at m.events Enter (white_start m.events))
  where
    first : Point
    first = place_of (slice_get m.events (white_start m.events))

    by_white : (t : Bool) → length (if t then outside_left (white_start m.events) 0 m else left_to 0 p m).opened ≡ 0
    by_white true = let h = left_open (length m.opened - 0) first (without_white m) in omega arith
    by_white false = let h = left_open (length m.opened - 0) p m in omega arith

no_names : (opened : List Open) → length opened ≡ 0 → names_of opened ≡ []
no_names [] e = refl
no_names (o ∷ os) e = absurd (omega arith)

-- the events of steps are balanced and in order, once all that is open ended
pub steps_whole : (ss : List Step) (blank : Bool) (p : Point)
    → (let es = (line_left 0 blank p (fold pushed nothing ss)).events in IsBalanced es × AreInOrder es)
steps_whole ss blank p =
    let start : Stands nothing = record { nested = tt; opened = refl; rising = stays text_start } in
    let m = fold pushed nothing ss in
    let h = line_left_stands 0 blank p m (steps_stand nothing ss start) in
    let n = line_left 0 blank p m in
    ((h.nested, h.opened ∙ no_names n.opened (all_left blank p m)), (last_place text_start n.events, h.rising))
