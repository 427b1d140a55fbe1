-- The events of the machine of brackets are nested and in order.
use Rattle.std.proofs.Common.{◌≡◌, ℕ, ◌++◌, ◌∙◌, [], ◌∷◌, map, List, true, false, ◌==◌, if◌then◌else◌, refl, sym, ap, subst, Option, Some, None, reverse}
use Rattle.std.proofs.Common.{append-nil}
use Rattle.std.proofs.lemmas.List.{reverse-append}
use Rattle.engine_events.specs.Events.{event}
use Rattle.engine_events.specs.declared.event.Kind.TheVariants.{Enter}
use Rattle.engine_events.specs.declared.event.Name.{Name as EventName}
use Rattle.engine_events.specs.declared.event.Name.TheVariants as names
use Rattle.engine_events.specs.declared.place.Point.{Point}
use Rattle.engine_states.specs.declared.state.Name.{Name}
use Rattle.engine_states.specs.declared.state.State.{State}
use Rattle.engine_states.specs.declared.state.State.TheVariants as states
use Rattle.markdown_engine.specs.declared.attempt.Attempt.{Attempt}
use Rattle.markdown_engine.specs.declared.virtual_text.VirtualByte.{VirtualByte}
use Rattle.markdown_engine.specs.Laws.{IsFed, MovesOn}
use Rattle.markdown_engine.specs.Machine.{frame_at, past_byte, with_enter, with_exit, plain, tries}
use Rattle.markdown_engine.specs.Order.{AreMarks, IsTidy, LeadsOn, Reaches, open_after}
use Rattle.markdown_engine.specs.OrderLaws.{consumed_tidy, entered_opened, entered_tidy, exited_after, exited_opened, handed_leads, handed_tidy, marks_added}
use Rattle.markdown_engine.specs.OrderLaws.{marks_passed, marks_pushed, moved_tidy, restored_fits, restored_marks, restored_tidy}
use Rattle.markdown_engine.specs.Reading.{Config, Effect, with_byte, mark, at_point, continuation}
use Rattle.markdown_engine.specs.StepLaws.{by_test}
use Rattle.tests_engine.specs.Brackets.{Close, Fits, Group, IsOpen, IsSound, Items, Part, Rest, close, close_state, group, group_state, items, items_state}
use Rattle.tests_engine.specs.Brackets.{labels, labels_at, part, rest, rest_state, step_of}

pub no_more : (stack : List Attempt) → reverse (stack ++ []) ≡ reverse stack
no_more stack = ap reverse (append-nil stack)

pub one_more : (stack : List Attempt) (a : Attempt) → reverse (stack ++ a ∷ []) ≡ a ∷ reverse stack
one_more stack a = reverse-append stack (a ∷ [])

module _ {M : Type 0} (stack : List Attempt) where
  Orders : Effect M → Type 0
  Orders e = IsSound e.state (reverse (stack ++ map mark e.pushed)) e.config

  plain_orders : (d : Config M) (s : State) → IsSound s (reverse stack) d → Orders (plain d s)
  unfolding Orders
  plain_orders d s h = subst (λ (z : List Attempt). IsSound s z d) (sym (no_more stack)) h

  tries_orders : (ok nok : State) (d : Config M) (s : State) → IsSound s (mark (frame_at false ok nok d) ∷ reverse stack) d → Orders (tries ok nok d s)
  unfolding Orders
  tries_orders ok nok d s h = subst (λ (z : List Attempt). IsSound s z d) (sym (one_more stack (mark (frame_at false ok nok d)))) h

  refuses : (c : Config M) → IsTidy c → AreMarks Fits c.events (reverse stack) → Orders (plain c states.Nok)
  refuses c t h = plain_orders c states.Nok (record { tidy = t; marks = h; open_names = tt })

  ends : (c : Config M) → IsTidy c → AreMarks Fits c.events (reverse stack) → open_after [] c.events ≡ labels (reverse stack) → Orders (plain c states.Ok)
  ends c t h o = plain_orders c states.Ok (record { tidy = t; marks = h; open_names = o })

  items_orders : (b : Option ℕ) (c : Config M) → c.current ≡ b → IsTidy c → AreMarks Fits c.events (reverse stack)
      → open_after [] c.events ≡ labels (reverse stack) → LeadsOn c → Orders (items b c)
  unfolding items part
  items_orders None c e t h o leads = ends c t h o
  items_orders (Some b) c e t h o leads =
      by_test Orders (b == 40) (tries (states.Next items_state) (states.Next rest_state) c (states.Retry group_state)) (if b == 41 then plain c states.Ok
      else plain (past_byte c) (states.Next items_state))
      (tries_orders (states.Next items_state) (states.Next rest_state) c (states.Retry group_state)
      (record {
        tidy = t;
        marks = marks_pushed Fits false (states.Next items_state) (states.Next rest_state) c (reverse stack) t o h;
        open_names = (o, leads);
      }))
      (by_test Orders (b == 41) (plain c states.Ok) (plain (past_byte c) (states.Next items_state)) (ends c t h o)
      (plain_orders (past_byte c) (states.Next items_state) (record { tidy = consumed_tidy c (leads b e) t; marks = h; open_names = o })))

  rest_orders : (b : Option ℕ) (c : Config M) → c.current ≡ b → IsTidy c → AreMarks Fits c.events (reverse stack)
      → open_after [] c.events ≡ labels (reverse stack) → LeadsOn c → Orders (rest b c)
  unfolding rest part
  rest_orders None c e t h o leads = ends c t h o
  rest_orders (Some b) c e t h o leads =
      plain_orders (past_byte c) (states.Next rest_state) (record { tidy = consumed_tidy c (leads b e) t; marks = h; open_names = o })

  group_orders : (b : Option ℕ) (c : Config M) → c.current ≡ b → IsTidy c → AreMarks Fits c.events (reverse stack)
      → open_after [] c.events ≡ labels (reverse stack) → LeadsOn c → Orders (group b c)
  unfolding group part
  group_orders None c e t h o leads = refuses c t h
  group_orders (Some b) c e t h o leads =
      let inside = with_enter names.Label None c in
      let d = past_byte inside in
      let tidy = consumed_tidy inside (leads b e) (entered_tidy names.Label None c t) in
      let open_names = entered_opened names.Label None c ∙ ap (λ (z : List EventName). names.Label ∷ z) o in
      by_test Orders (b == 40) (tries (states.Next close_state) states.Nok d (states.Next items_state)) (plain c states.Nok)
      (tries_orders (states.Next close_state) states.Nok d (states.Next items_state) (record {
        tidy = tidy;
        marks = marks_pushed Fits false (states.Next close_state) states.Nok d (reverse stack) tidy open_names
            (marks_added Fits c.events (event Enter names.Label c.point None ∷ []) (reverse stack) h);
        open_names = open_names;
      }))
      (refuses c t h)

  close_orders : (b : Option ℕ) (c : Config M) → c.current ≡ b → IsTidy c → AreMarks Fits c.events (reverse stack)
      → open_after [] c.events ≡ names.Label ∷ labels (reverse stack) → LeadsOn c → Orders (close b c)
  unfolding close
  close_orders None c e t h o leads = refuses c t h
  close_orders (Some b) c e t h o leads =
      let d = with_exit names.Label (past_byte c) in
      by_test Orders (b == 41) (plain d states.Ok) (plain c states.Nok)
      (ends d (exited_after names.Label c (leads b e) (labels (reverse stack), o) t) (marks_added Fits c.events _ (reverse stack) h)
      (exited_opened names.Label (past_byte c) (labels (reverse stack)) o))
      (refuses c t h)

  part_orders : (p : Part) (c : Config M) → IsTidy c → AreMarks Fits c.events (reverse stack) → open_after [] c.events ≡ labels_at p (reverse stack) → LeadsOn c
      → Orders (step_of p c)
  part_orders Items c t h o leads = items_orders c.current c refl t h o leads
  part_orders Group c t h o leads = group_orders c.current c refl t h o leads
  part_orders Close c t h o leads = close_orders c.current c refl t h o leads
  part_orders Rest c t h o leads = rest_orders c.current c refl t h o leads

  pub called_orders : (c : Config M) (n : Name) → IsSound (states.Retry n) (reverse stack) c → let e = step_of (part n) c in
      IsSound e.state (reverse (stack ++ map mark e.pushed)) e.config
  unfolding Orders
  called_orders c n h = part_orders (part n) c h.tidy h.marks h.open_names.0 h.open_names.1

module _ {M : Type 0} (stack : List Attempt) where
  pub fed_orders : (size : ℕ) (c : Config M) (n : Name) (p : Point) (v : Option VirtualByte) → IsFed size c.point p v → IsSound (states.Next n) stack c
      → IsSound (states.Retry n) stack (with_byte c p v)
  fed_orders size c n p v fed h = record { tidy = handed_tidy size c p v fed h.tidy; marks = h.marks; open_names = (h.open_names, handed_leads size c p v fed) }

  moved_open : (c : Config M) (s : State) (p : Point) → MovesOn s → IsOpen s stack c → IsOpen s stack (at_point p c)
  moved_open c (states.Error m) p on h = h
  moved_open c (states.Next n) p on h = h
  moved_open c (states.Retry n) p on h = absurd on
  moved_open c states.Ok p on h = h
  moved_open c states.Nok p on h = h

  pub moved_orders : (c : Config M) (s : State) (p : Point) → MovesOn s → Reaches c.point p → IsSound s stack c → IsSound s stack (at_point p c)
  moved_orders c s p on k h = record { tidy = moved_tidy c p k h.tidy; marks = h.marks; open_names = moved_open c s p on h.open_names }

  pub ok_orders : (a : Attempt) (c : Config M) (n : Name) → a.check ≡ false → a.ok ≡ states.Next n → labels (a ∷ stack) ≡ labels_at (part n) stack
      → IsSound states.Ok (a ∷ stack) c → IsSound a.ok stack (continuation a c true)
  ok_orders a c n p q e h =
      let fine : IsSound (states.Next n) stack c =
      record { tidy = h.tidy; marks = marks_passed Fits a c.events stack h.marks; open_names = h.open_names ∙ e } in
      rw p (rw q fine)

  pub nok_orders : (a : Attempt) (c : Config M) (n : Name) → a.nok ≡ states.Next n → labels (a ∷ stack) ≡ labels_at (part n) stack
      → IsSound states.Nok (a ∷ stack) c → IsSound a.nok stack (continuation a c false)
  nok_orders a c n q e h =
      let fine : IsSound (states.Next n) stack (continuation a c false) =
      record {
        tidy = restored_tidy Fits a c stack h.marks;
        marks = restored_marks Fits a c stack h.marks;
        open_names = restored_fits Fits a c stack h.marks ∙ e;
      } in
      rw q fine
