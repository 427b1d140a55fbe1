-- What keeps events nested and in order of place.
use Rattle.std.proofs.Common.{◌≡◌, ℕ, ◌∙◌, ◌++◌, Bool, true, false, List, [], ◌∷◌, take, drop, if◌then◌else◌, cond, Option, None, Some, refl, sym, ap, subst}
use Rattle.std.proofs.Common.{arith}
use Rattle.std.proofs.Math.Seq.{take-length}
use Rattle.std.proofs.lemmas.List.{take-append-le, take-append-drop, length-append}
use Rattle.engine_events.specs.Events.{event, point_of}
use Rattle.engine_events.specs.declared.event.Event.{Event}
use Rattle.engine_events.specs.declared.event.Kind.{Kind}
use Rattle.engine_events.specs.declared.event.Kind.TheVariants.{Enter, Exit}
use Rattle.engine_events.specs.declared.event.Link.{Link}
use Rattle.engine_events.specs.declared.event.Name.{Name}
use Rattle.engine_events.specs.declared.place.Point.{Point}
use Rattle.engine_states.specs.declared.state.State.{State}
use Rattle.markdown_engine.specs.declared.attempt.Attempt.{Attempt}
use Rattle.markdown_engine.specs.declared.virtual_text.VirtualByte.{VirtualByte}
use Rattle.markdown_engine.specs.Laws.{IsFed}
use Rattle.markdown_engine.specs.Machine.{frame_at, past_byte, with_enter, with_exit, fresh_config}
use Rattle.markdown_engine.specs.Order.{AreMarks, AreTidy, InOrder, IsInnermost, IsNested, IsTidy, LeadsOn, MayStand, Reaches, open_after, opened_by, outer}
use Rattle.markdown_engine.specs.Order.{text_start}
use Rattle.markdown_engine.specs.Reading.{Config, with_byte, mark, at_point, restore, continuation}
use Rattle.markdown_engine.specs.VirtualText.{is_feed}

-- Places

pub stays : (p : Point) → Reaches p p
stays p = record { index = omega arith; column = λ e. omega arith }

pub reaches_on : (p q r : Point) → Reaches p q → Reaches q r → Reaches p r
reaches_on p q r h k =
    let i = h.index in
    let j = k.index in
    record {
      index = omega arith;
      column = λ e. let a = h.column (omega arith) in let b = k.column (omega arith) in omega arith;
    }

pub from_start : (p : Point) → Reaches text_start p
from_start p = record { index = omega arith; column = λ e. omega arith }

-- Lists of events

pub opened_append : (names : List Name) (a b : List Event) → open_after names (a ++ b) ≡ open_after (open_after names a) b
opened_append names [] b = refl
opened_append names (e ∷ es) b = opened_append (opened_by e.kind e.name names) es b

pub nested_append : (names : List Name) (a b : List Event) → IsNested names a → IsNested (open_after names a) b → IsNested names (a ++ b)
nested_append names [] b h k = k
nested_append names (e ∷ es) b h k = (h.0, nested_append (opened_by e.kind e.name names) es b h.1 k)

pub nested_front : (names : List Name) (a b : List Event) → IsNested names (a ++ b) → IsNested names a
nested_front names [] b h = tt
nested_front names (e ∷ es) b h = (h.0, nested_front (opened_by e.kind e.name names) es b h.1)

pub order_on : (from p q : Point) (es : List Event) → InOrder from es p → Reaches p q → InOrder from es q
order_on from p q [] h k = reaches_on from p q h k
order_on from p q (e ∷ es) h k = (h.0, order_on (point_of e) p q es h.1 k)

-- an event where the others end
pub order_more : (from to : Point) (es : List Event) (e : Event) → InOrder from es (point_of e) → Reaches (point_of e) to → InOrder from (es ++ e ∷ []) to
order_more from to [] e h k = (h, k)
order_more from to (f ∷ es) e h k = (h.0, order_more (point_of f) to es e h.1 k)

-- a later place
pub tidy_on : (es : List Event) (p q : Point) → AreTidy es p → Reaches p q → AreTidy es q
tidy_on es p q h k = record { nested = h.nested; order = order_on text_start p q es h.order k }

-- right after a byte an exit stands at the point
pub exit_place : (b : Bool) (p line : Point) → (if b then (if b then p else line) else p) ≡ p
exit_place true p line = refl
exit_place false p line = refl

-- what is nested is so inside of others, too
opened_in : (kind : Kind) (name : Name) (names outside : List Name) → MayStand kind name names → MayStand kind name (names ++ outside)
    × (opened_by kind name (names ++ outside) ≡ opened_by kind name names ++ outside)
opened_in Enter name names outside h = (tt, refl)
opened_in Exit name names outside h = let e : names ++ outside ≡ name ∷ (h.0 ++ outside) = ap (λ (z : List Name). z ++ outside) h.1 in
    ((h.0 ++ outside, e), rw h.1 refl)

pub nested_in : (names outside : List Name) (es : List Event) → IsNested names es → IsNested (names ++ outside) es
    × (open_after (names ++ outside) es ≡ open_after names es ++ outside)
nested_in names outside [] h = (tt, refl)
nested_in names outside (e ∷ es) h =
    let k = opened_in e.kind e.name names outside h.0 in
    let more = nested_in (opened_by e.kind e.name names) outside es h.1 in
    let there = subst (λ (z : List Name). IsNested z es × (open_after z es ≡ open_after (opened_by e.kind e.name names) es ++ outside)) (sym k.1) more in
    ((k.0, there.0), there.1)

-- What calls do

module _ {M : Type 0} where
  pub fresh_tidy : (p : Point) (machine : M) → IsTidy (fresh_config p machine)
  fresh_tidy p machine = record { nested = tt; order = from_start p }

  pub handed_tidy : (size : ℕ) (c : Config M) (p : Point) (v : Option VirtualByte) → IsFed size c.point p v → IsTidy c → IsTidy (with_byte c p v)
  handed_tidy size c p v fed h = tidy_on c.events c.point p h fed.order

  pub handed_leads : (size : ℕ) (c : Config M) (p : Point) (v : Option VirtualByte) → IsFed size c.point p v → LeadsOn (with_byte c p v)
  handed_leads size c p None fed = λ b e. absurd (let f : None ≡ Some b = e in cc)
  handed_leads size c p (Some w) fed = λ b e. (fed.read w refl).order

  pub moved_tidy : (c : Config M) (p : Point) → Reaches c.point p → IsTidy c → IsTidy (at_point p c)
  moved_tidy c p k h = tidy_on c.events c.point p h k

  pub consumed_tidy : (c : Config M) → Reaches c.point c.next → IsTidy c → IsTidy (past_byte c)
  consumed_tidy c k h = tidy_on c.events c.point c.next h k

  pub entered_tidy : (name : Name) (link : Option Link) (c : Config M) → IsTidy c → IsTidy (with_enter name link c)
  entered_tidy name link c h = let e = event Enter name c.point link in record {
    nested = nested_append [] c.events (e ∷ []) h.nested (tt, tt);
    order = order_more text_start c.point c.events e h.order (stays c.point);
  }

  pub entered_opened : (name : Name) (link : Option Link) (c : Config M) → open_after [] (with_enter name link c).events ≡ name ∷ open_after [] c.events
  entered_opened name link c = opened_append [] c.events (event Enter name c.point link ∷ [])

  -- the exit stands where no event is after it
  pub exited_tidy : (name : Name) (c : Config M) → (let p = if is_feed c.previous then c.line_start else c.point in AreTidy c.events p × Reaches p c.point)
      → IsInnermost name c.events → IsTidy (with_exit name c)
  exited_tidy name c h k = let e = event Exit name (if is_feed c.previous then c.line_start else c.point) None in record {
    nested = nested_append [] c.events (e ∷ []) h.0.nested (k, tt);
    order = order_more text_start c.point c.events e h.0.order h.1;
  }

  pub exited_opened : (name : Name) (c : Config M) (rest : List Name) → open_after [] c.events ≡ name ∷ rest → open_after [] (with_exit name c).events ≡ rest
  exited_opened name c rest h = opened_append [] c.events (event Exit name (if is_feed c.previous then c.line_start else c.point) None ∷ []) ∙ ap outer h

  pub exited_after : (name : Name) (c : Config M) → Reaches c.point c.next → IsInnermost name c.events → IsTidy c → IsTidy (with_exit name (past_byte c))
  exited_after name c k i h =
      let there = exit_place (is_feed c.current) c.next c.line_start in
      exited_tidy name (past_byte c) (subst (λ (z : Point). AreTidy c.events z × Reaches z c.next) (sym there) (consumed_tidy c k h, stays c.next)) i

-- Going back

module _ (fits : List Name → List Attempt → Type 0) where
  -- events that are added change no mark
  pub marks_added : (es more : List Event) (stack : List Attempt) → AreMarks fits es stack → AreMarks fits (es ++ more) stack
  marks_added es more [] h = tt
  marks_added es more (a ∷ rest) h =
      let low = h.0 in
      let longer = length-append es more in
      let same = subst (λ (z : List Event). AreTidy z a.point × fits (open_after [] z) (a ∷ rest)
      × AreMarks fits z rest) (sym (take-append-le a.events es more low)) (h.1, h.2, h.3) in
      (omega (arith, low, longer), same.0, same.1, same.2)

  -- nor does it change what waits further out that an attempt ends well
  pub marks_passed : (a : Attempt) (es : List Event) (stack : List Attempt) → AreMarks fits es (a ∷ stack) → AreMarks fits es stack
  marks_passed a es stack h = subst (λ (z : List Event). AreMarks fits z stack) (take-append-drop a.events es)
      (marks_added (take a.events es) (drop a.events es) stack h.3)

  module _ {M : Type 0} where
    -- an attempt begins
    pub marks_pushed : (check : Bool) (ok nok : State) (c : Config M) (stack : List Attempt) → IsTidy c
        → fits (open_after [] c.events) (mark (frame_at check ok nok c) ∷ stack) → AreMarks fits c.events stack
        → AreMarks fits c.events (mark (frame_at check ok nok c) ∷ stack)
    marks_pushed check ok nok c stack t f h =
        let same = subst (λ (z : List Event). AreTidy z c.point × fits (open_after [] z) (mark (frame_at check ok nok c) ∷ stack)
        × AreMarks fits z stack) (sym (take-length c.events)) (t, f, h) in
        (omega arith, same.0, same.1, same.2)

    -- back at an attempt
    pub restored_tidy : (a : Attempt) (c : Config M) (stack : List Attempt) → AreMarks fits c.events (a ∷ stack) → IsTidy (restore a c)
    restored_tidy a c stack h = h.1

    pub restored_fits : (a : Attempt) (c : Config M) (stack : List Attempt) → AreMarks fits c.events (a ∷ stack)
        → fits (open_after [] (restore a c).events) (a ∷ stack)
    restored_fits a c stack h = h.2

    pub restored_marks : (a : Attempt) (c : Config M) (stack : List Attempt) → AreMarks fits c.events (a ∷ stack) → AreMarks fits (restore a c).events stack
    restored_marks a c stack h = h.3

    pub resumed_tidy : (a : Attempt) (c : Config M) (stack : List Attempt) (well : Bool) → IsTidy c → AreMarks fits c.events (a ∷ stack)
        → IsTidy (continuation a c well)
    resumed_tidy a c stack true t h = elim a.check as (λ b. IsTidy (cond b (restore a c) c)) [ true ↦ restored_tidy a c stack h | false ↦ t ]
    resumed_tidy a c stack false t h = restored_tidy a c stack h

    pub resumed_marks : (a : Attempt) (c : Config M) (stack : List Attempt) (well : Bool) → AreMarks fits c.events (a ∷ stack)
        → AreMarks fits (continuation a c well).events stack
    resumed_marks a c stack true h =
        elim a.check as (λ b. AreMarks fits (cond b (restore a c) c).events stack) [
          | true ↦ restored_marks a c stack h
          | false ↦ marks_passed a c.events stack
              h
        ]
    resumed_marks a c stack false h = restored_marks a c stack h
