-- A machine whose bodies fit its table is lawful.
use Rattle.std.proofs.Common.{◌≡◌, ℕ, ◌+◌, ◌*◌, ◌<◌, ◌≤◌, ◌∙◌, Bool, true, false, not, ◌&&◌, if◌then◌else◌, List, [], ◌∷◌, ◌++◌, reverse, length, take, drop}
use Rattle.std.proofs.Common.{cond, Option, None, Some, refl, sym, ap, subst, arith, append_assoc}
use Rattle.std.proofs.lemmas.Bool.{and_parts, ltb-true}
use Rattle.std.proofs.lemmas.List.{reverse-append, take-append-drop}
use Rattle.std.proofs.Math.Nat.{mul-add, mul-le-mul_left}
use Rattle.engine_events.specs.declared.event.Event.{Event}
use Rattle.engine_events.specs.declared.event.Name.{Name as EventName}
use Rattle.engine_events.specs.declared.place.Point.{Point}
use Rattle.engine_states.specs.declared.state.Name.{Name}
use Rattle.engine_states.specs.declared.state.State.{State}
use Rattle.engine_states.specs.declared.state.State.TheVariants as states
use Rattle.markdown_engine.specs.declared.attempt.Attempt.{Attempt}
use Rattle.markdown_engine.specs.declared.virtual_text.VirtualByte.{VirtualByte}
use Rattle.markdown_engine.specs.Descent.{DescendsAt}
use Rattle.markdown_engine.specs.DescentLaws.{descends}
use Rattle.markdown_engine.specs.KeptState.{nothing_kept}
use Rattle.markdown_engine.specs.Laws.{ClosesAt, FallsAt, IsFed, KeepsAt, LawfulAt, MovesOn, TidiesAt, remaining}
use Rattle.markdown_engine.specs.Machine.{fresh_config}
use Rattle.markdown_engine.specs.Order.{IsTidy, Reaches, open_after}
use Rattle.markdown_engine.specs.OrderLaws.{fresh_tidy, handed_leads, handed_tidy, moved_tidy, stays}
use Rattle.markdown_engine.specs.Reading.{Config, with_byte, at_point, restore, continuation}
use Rattle.markdown_engine.specs.Resolving.{ResolvesAt, resolves_nothing, settles_whole}
use Rattle.markdown_engine.specs.ResolvingLaws.{no_edits, unedited}
use Rattle.markdown_engine.specs.VirtualText.{is_feed}
use Rattle.engine_programs.specs.Bodies.{Token, Body, names_of, run, step_by}
use Rattle.engine_programs.specs.Sorts.{Sort, after_of, fits, is_nok, left_open, nok_height, ok_height, open_around, wants_end}
use Rattle.engine_programs.specs.Stacks.{Ahead, At, Far, IsValid, Mark, Marks, MayExit, NokGoes, OkGoes, Stands, below, left_by, must_go_well, needs_byte}
use Rattle.engine_programs.specs.Stacks.{needs_end, program_rank, program_valid, program_waits, program_weight}
use Rattle.engine_programs.specs.NameLaws.{exit_on, names_both, never_both, or_first, or_second}
use Rattle.engine_programs.specs.StackLaws.{far_less, far_near, far_weak, marks_more}
use Rattle.engine_programs.specs.AddLaws.{program_adds}
use Rattle.engine_programs.specs.BodyLaws.{called_fine}
use Rattle.engine_programs.specs.KnownLaws.{marks_reversed}
use Rattle.engine_programs.specs.ConsumeLaws.{program_consumes}

module _ (sorts : Name → Sort) (size : ℕ) where
  -- Between the calls

  exits_on : {M : Type 0} (c : Config M) (p : Point) → Reaches c.point p → MayExit sorts size c → MayExit sorts size (at_point p c)
  exits_on c p k h = exit_on (is_feed c.previous) c.line_start c.point p c.events k h

  ahead_on : {M : Type 0} (c : Config M) (p : Point) (v : Option VirtualByte) → IsFed size c.point p v → Ahead sorts size (with_byte c p v)
  ahead_on c p None fed = record { less = λ b e. absurd (let f : None ≡ Some b = e in cc); leads = handed_leads size c p None fed }
  ahead_on c p (Some w) fed = record { less = λ b e. (fed.read w refl).falls; leads = handed_leads size c p (Some w) fed }

  at_moved : {M : Type 0} (n : Name) (st : List Attempt) (c : Config M) (p : Point) → remaining size p ≤ remaining size c.point → Reaches c.point p
      → At sorts size n st c → At sorts size n st (at_point p c)
  at_moved n st c p low k h = record {
    suits = h.suits;
    names = h.names;
    far = far_near sorts size st (remaining size c.point) (remaining size p) (sorts n).moved low h.far;
    exits = λ e. exits_on c p k (h.exits e);
  }

  at_fed : {M : Type 0} (n : Name) (st : List Attempt) (c : Config M) (p : Point) (v : Option VirtualByte) → IsFed size c.point p v → At sorts size n st c
      → At sorts size n st (with_byte c p v)
  at_fed n st c p v fed h = record {
    suits = h.suits;
    names = h.names;
    far = far_near sorts size st (remaining size c.point) (remaining size p) (sorts n).moved fed.forward h.far;
    exits =
        λ e. exit_on (is_feed c.previous) c.line_start c.point p c.events fed.order (h.exits e);
  }

  fed_valid : {M : Type 0} (n : Name) (st : List Attempt) (c : Config M) (p : Point) (v : Option VirtualByte) → IsFed size c.point p v
      → IsValid sorts size (states.Next n) st c → IsValid sorts size (states.Retry n) st (with_byte c p v)
  fed_valid n st c p v fed h = record {
    stands = (at_fed n st c p v fed h.stands.0, ahead_on c p v fed, λ e. absurd (let f : true ≡ false = sym e ∙ h.stands.1 in cc));
    tidy = handed_tidy size c p v fed h.tidy;
    marks = h.marks;
    unedited = h.unedited;
  }

  moved_stands : {M : Type 0} (s : State) (st : List Attempt) (c : Config M) (p : Point) → MovesOn s → remaining size p ≤ remaining size c.point
      → Reaches c.point p → Stands sorts size s st c → Stands sorts size s st (at_point p c)
  moved_stands (states.Error m) st c p on low k h = h
  moved_stands (states.Next n) st c p on low k h = (at_moved n st c p low k h.0, h.1)
  moved_stands (states.Retry n) st c p on low k h = absurd on
  moved_stands states.Ok st c p on low k h =
      (h.0, far_near sorts size st (remaining size c.point) (remaining size p) (needs_byte sorts size st) low h.1, λ e. exits_on c p k (h.2 e))
  moved_stands states.Nok st c p on low k h = h

  moved_valid : {M : Type 0} (s : State) (st : List Attempt) (c : Config M) (p : Point) → MovesOn s → remaining size p ≤ remaining size c.point
      → Reaches c.point p → IsValid sorts size s st c → IsValid sorts size s st (at_point p c)
  moved_valid s st c p on low k h =
      record { stands = moved_stands s st c p on low k h.stands; tidy = moved_tidy c p k h.tidy; marks = h.marks; unedited = h.unedited }

  -- Where an attempt ends

  far_resume : (after moved : Bool) (a : Attempt) (st : List Attempt) (l : ℕ) → Far sorts size st (remaining size a.point) (if after then false else moved)
      → Far sorts size (a ∷ st) l after → Far sorts size st l moved
  far_resume true moved a st l f g = far_weak sorts size st l true moved (λ e. refl) (far_less sorts size st (remaining size a.point) l false g f)
  far_resume false moved a st l f g = far_near sorts size st (remaining size a.point) l moved g f

  far_back : (after moved : Bool) (st : List Attempt) (l : ℕ) → (after ≡ true → ⊥) → Far sorts size st l (if after then false else moved)
      → Far sorts size st l moved
  far_back true moved st l h f = absurd (h refl)
  far_back false moved st l h f = f

  marks_out : {M : Type 0} (a : Attempt) (st : List Attempt) (c : Config M) → Marks sorts size c.tokenize_state (take a.events c.events) st
      → Marks sorts size c.tokenize_state c.events st
  marks_out a st c m = subst (λ (z : List Event). Marks sorts size c.tokenize_state z st) (take-append-drop a.events c.events)
      (marks_more sorts size c.tokenize_state st (take a.events c.events) (drop a.events c.events) m)

  -- an attempt that went well leaves some events open, and the others are around it
  all_open : (k : _) (g : ℕ) (ts : List Token) (rest names : List EventName) → names ≡ names_of k (take g ts) ++ (names_of k (drop g ts) ++ rest)
      → names ≡ names_of k ts ++ rest
  all_open k g ts rest names h =
      h ∙ (sym (append_assoc (names_of k (take g ts)) (names_of k (drop g ts)) rest)
      ∙ ap (λ (z : List EventName). z ++ rest) (sym (names_both k (take g ts) (drop g ts)) ∙ ap (names_of k) (take-append-drop g ts)))

  -- where none is left open, all are around it
  none_given : (k : _) (g : ℕ) (ts : List Token) (rest names : List EventName) → g ≡ 0 → names ≡ names_of k (drop g ts) ++ rest
      → names ≡ names_of k ts ++ rest
  none_given k g ts rest names e h = h ∙ ap (λ (z : ℕ). names_of k (drop z ts) ++ rest) e

  ended_check : (t b : Bool) → t ≡ true → b ≡ true → (t && b) ≡ true
  ended_check true b h k = k
  ended_check false b h k = absurd (let f : false ≡ true = h in cc)

  module _ {M : Type 0} (a : Attempt) (st : List Attempt) (c : Config M) (x : Mark sorts size c.tokenize_state c.events a st)
      (more : Marks sorts size c.tokenize_state (take a.events c.events) st) (tidy : IsTidy c) (unedited : c.map ≡ []) where
    -- after a look ahead
    looked : (s : State) → s ≡ a.ok → a.check ≡ true → OkGoes sorts size a st s → Stands sorts size s st (restore a c)
    looked (states.Error m) q e g = absurd g
    looked (states.Next m) q e g = (
      record {
        suits = g.0;
        names = none_given c.tokenize_state (sorts m).given (sorts m).open_tokens (below sorts size c.tokenize_state st)
            (open_after [] (take a.events c.events)) (g.3 e)
            (x.names ∙ ap (λ (w : State). names_of c.tokenize_state (open_around sorts w a.nok) ++ below sorts size c.tokenize_state st) (sym q));
        far = far_back (sorts m).after (sorts m).moved st (remaining size a.point) (λ w. never_both a.check e (g.2 w)) g.4;
        exits = λ w. x.exits (or_second _ _ (ended_check a.check _ e (ap (λ (z : State). wants_end sorts z (needs_end sorts size st)) (sym q) ∙ w)));
      },
      g.1,
    )
    looked (states.Retry m) q e g = absurd g
    looked states.Ok q e g = (
      x.names ∙ (ap (λ (w : State). names_of c.tokenize_state (open_around sorts w a.nok) ++ below sorts size c.tokenize_state st) (sym q)
          ∙ ap (λ (w : List Token). names_of c.tokenize_state w ++ below sorts size c.tokenize_state st) (sym (g.1 e))),
      g.0,
      λ w. x.exits (or_second _ _ (ended_check a.check _ e (ap (λ (z : State). wants_end sorts z (needs_end sorts size st)) (sym q) ∙ w))),
    )
    looked states.Nok q e g = g

    -- after an attempt
    went : (s : State) → s ≡ a.ok → a.check ≡ false → OkGoes sorts size a st s → Stands sorts size states.Ok (a ∷ st) c → Stands sorts size s st c
    went (states.Error m) q e g h = absurd g
    went (states.Next m) q e g h = (
      record {
        suits = g.0;
        names = all_open c.tokenize_state (sorts m).given (sorts m).open_tokens (below sorts size c.tokenize_state st) (open_after [] c.events)
            (h.0 ∙ ap (λ (w : State). names_of c.tokenize_state (left_open sorts w (left_by sorts size st))
            ++ (names_of c.tokenize_state (open_around sorts w a.nok) ++ below sorts size c.tokenize_state st)) (sym q));
        far = far_resume (sorts m).after (sorts m).moved a st (remaining size c.point) g.4
            (subst (λ (w : State). Far sorts size (a ∷ st) (remaining size c.point) (after_of sorts w)) (sym q) h.1);
        exits = λ w. h.2 (ended_check _ _ (ap not e) (ap (λ (z : State). wants_end sorts z (needs_end sorts size st)) (sym q) ∙ w));
      },
      g.1,
    )
    went (states.Retry m) q e g h = absurd g
    went states.Ok q e g h = (
      h.0 ∙ ap (λ (w : State). names_of c.tokenize_state (left_open sorts w (left_by sorts size st))
          ++ (names_of c.tokenize_state (open_around sorts w a.nok) ++ below sorts size c.tokenize_state st)) (sym q),
      far_near sorts size st (remaining size a.point) (remaining size c.point) (needs_byte sorts size st)
          (let f : Far sorts size (a ∷ st) (remaining size c.point) false = far_weak sorts size (a ∷ st) (remaining size c.point) (after_of sorts a.ok) false
          (λ w. absurd (let f : false ≡ true = w in cc)) h.1 in f) g.0,
      λ w. h.2 (ended_check _ _ (ap not e) (ap (λ (z : State). wants_end sorts z (needs_end sorts size st)) (sym q) ∙ w)),
    )
    went states.Nok q e g h = g

    ok_valid : (b : Bool) → a.check ≡ b → Stands sorts size states.Ok (a ∷ st) c → IsValid sorts size a.ok st (cond b (restore a c) c)
    ok_valid true e h = record { stands = looked a.ok refl e x.ok; tidy = x.tidy; marks = more; unedited = unedited }
    ok_valid false e h = record { stands = went a.ok refl e x.ok h; tidy = tidy; marks = marks_out a st c more; unedited = unedited }

    failed : (s : State) → s ≡ a.nok → NokGoes sorts size a st s → (is_nok s && must_go_well sorts size st) ≡ false → Stands sorts size s st (restore a c)
    failed (states.Error m) q g h = absurd g
    failed (states.Next m) q g h = (
      record {
        suits = g.0;
        names = x.names ∙ ap (λ (w : List Token). names_of c.tokenize_state w ++ below sorts size c.tokenize_state st) (sym g.2);
        far = g.3;
        exits = λ w. x.exits (or_first _ _ (ap (λ (z : State). wants_end sorts z (needs_end sorts size st)) (sym q) ∙ w));
      },
      g.1,
    )
    failed (states.Retry m) q g h = absurd g
    failed states.Ok q g h = (
      x.names ∙ ap (λ (w : List Token). names_of c.tokenize_state w ++ below sorts size c.tokenize_state st) (sym g.0),
      g.1,
      λ w. x.exits (or_first _ _ (ap (λ (z : State). wants_end sorts z (needs_end sorts size st)) (sym q) ∙ w)),
    )
    failed states.Nok q g h = h

  popped_ok : {M : Type 0} (a : Attempt) (st : List Attempt) (c : Config M) → IsValid sorts size states.Ok (a ∷ st) c
      → IsValid sorts size a.ok st (continuation a c true)
  popped_ok a st c h = ok_valid a st c h.marks.0 h.marks.1 h.tidy h.unedited a.check refl h.stands

  popped_nok : {M : Type 0} (a : Attempt) (st : List Attempt) (c : Config M) → IsValid sorts size states.Nok (a ∷ st) c
      → IsValid sorts size a.nok st (continuation a c false)
  popped_nok a st c h =
      let x = h.marks.0 in
      record { stands = failed a st c x h.marks.1 h.tidy h.unedited a.nok refl x.nok h.stands; tidy = x.tidy; marks = h.marks.1; unedited = h.unedited }

  -- The laws

  module _ (most : ℕ) where
    next_back : (after : Bool) (h r : ℕ) → (after ≡ true → ⊥) → r + h + 1 ≤ r + (if after then 0 else h) + 1
    next_back true h r k = absurd (k refl)
    next_back false h r k = omega arith

    next_on : (after : Bool) (h l : ℕ) (a : Attempt) (st : List Attempt) → Far sorts size (a ∷ st) l after → 2 * h + 1 < most
        → most * l + h + 1 ≤ most * remaining size a.point + (if after then 0 else h) + 1
    next_on true h l a st k b =
        let less : l < remaining size a.point = k in
        let one = mul-add most l 1 in
        let room = mul-le-mul_left most (let q : l + 1 ≤ remaining size a.point = omega arith in q) in
        omega (arith, one, room, b)
    next_on false h l a st k b =
        let low : l ≤ remaining size a.point = k in
        let room = mul-le-mul_left most low in
        omega (arith, room)

    ok_weighs : {M : Type 0} (a : Attempt) (st : List Attempt) (c : Config M) (b : Bool) → a.check ≡ b → (s : State) → OkGoes sorts size a st s
        → Far sorts size (a ∷ st) (remaining size c.point) (after_of sorts s) → ((m : Name) → 2 * (sorts m).height + 1 < most)
        → program_weight sorts most size (cond b (restore a c) c) s ≤ most * remaining size a.point + ok_height sorts s + 1
    ok_weighs a st c b q (states.Error m) g far bounds = omega arith
    ok_weighs a st c true q (states.Next m) g far bounds =
        next_back (sorts m).after (sorts m).height (most * remaining size a.point) (λ e. never_both a.check q (g.2 e))
    ok_weighs a st c false q (states.Next m) g far bounds = next_on (sorts m).after (sorts m).height (remaining size c.point) a st far (bounds m)
    ok_weighs a st c b q (states.Retry m) g far bounds = absurd g
    ok_weighs a st c b q states.Ok g far bounds = omega arith
    ok_weighs a st c b q states.Nok g far bounds = omega arith

    nok_weighs : {M : Type 0} (a : Attempt) (st : List Attempt) (c : Config M) (s : State) → NokGoes sorts size a st s
        → program_weight sorts most size (restore a c) s ≤ most * remaining size a.point + nok_height sorts s + 1
    nok_weighs a st c (states.Error m) g = omega arith
    nok_weighs a st c (states.Next m) g = omega arith
    nok_weighs a st c (states.Retry m) g = absurd g
    nok_weighs a st c states.Ok g = omega arith
    nok_weighs a st c states.Nok g = omega arith

module _ {M : Type 0} (sorts : Name → Sort) (most size : ℕ) (bodies : Name → Body M) (least : 1 < most) (fit : (n : Name)
    → fits sorts most n (bodies n) ≡ true) where
  bounds : (m : Name) → 2 * (sorts m).height + 1 < most
  bounds m = ltb-true _ _ (and_parts _ _ (fit m)).0

  was : (s : State) (stack : List Attempt) (a : Attempt) (c : Config M) → program_valid sorts most size c (stack ++ a ∷ []) s
      → IsValid sorts size s (a ∷ reverse stack) c
  was s stack a c h = subst (λ (z : List Attempt). IsValid sorts size s z c) (reverse-append stack (a ∷ [])) h

  program_keeps : KeepsAt size (program_valid sorts most size) (step_by bodies)
  program_keeps = record {
    fed = λ c stack n p v fed h. fed_valid sorts size n (reverse stack) c p v fed h;
    moved = λ c stack s p on low k h. moved_valid sorts size s (reverse stack) c p on low k h;
    called = λ c stack n h.
        let e = run (bodies n) c in
        subst (λ (z : List Attempt). IsValid sorts size e.state z e.config) (marks_reversed sorts size e.pushed stack)
        (called_fine sorts size most least bounds (bodies n) n (reverse stack) c (and_parts _ _ (fit n)).1 h).valid;
    ok = λ c stack a h. popped_ok sorts size a (reverse stack) c (was states.Ok stack a c h);
    nok = λ c stack a h. popped_nok sorts size a (reverse stack) c (was states.Nok stack a c h);
    no_error = λ c stack m h. h.stands;
  }

  program_descends : DescendsAt size (program_valid sorts most size) (step_by bodies) 2 (program_weight sorts most size) (program_waits sorts most size)
  program_descends = record {
    fed = λ c stack n p v h fed. let low = mul-le-mul_left most fed.forward in omega (arith, low);
    called = λ c stack n h. (called_fine sorts size most least bounds (bodies n) n (reverse stack) c (and_parts _ _ (fit n)).1 h).lower;
    fewer = λ c stack n h. (called_fine sorts size most least bounds (bodies n) n (reverse stack) c (and_parts _ _ (fit n)).1 h).fewer;
    pushed = λ c stack n h. (called_fine sorts size most least bounds (bodies n) n (reverse stack) c (and_parts _ _ (fit n)).1 h).below_all;
    ok = λ c stack a h.
        let w = was states.Ok stack a c h in
        let x = w.marks.0 in
        let low = ok_weighs sorts size most a (reverse stack) c a.check refl a.ok x.ok w.stands.1 bounds in
        omega (arith, low);
    nok = λ c stack a h.
        let w = was states.Nok stack a c h in
        let x = w.marks.0 in
        let low = nok_weighs sorts size most a (reverse stack) c a.nok x.nok in
        omega (arith, low);
  }

  program_falls : FallsAt size (program_valid sorts most size) (step_by bodies) (program_rank sorts most size)
  program_falls = descends size (program_valid sorts most size) (step_by bodies) 2 (program_weight sorts most size)
      (program_waits sorts most size) program_descends

  program_tidy : TidiesAt {M = M} (program_valid sorts most size)
  program_tidy c stack s h = h.tidy

  program_closes : ClosesAt {M = M} (program_valid sorts most size)
  program_closes c true h = h.stands.0
  program_closes c false h = absurd (let f : true ≡ false = h.stands in cc)

  -- the laws of reading
  pub program_lawful : LawfulAt size (program_valid sorts most size) (step_by bodies) (program_rank sorts most size)
  program_lawful = record {
    adds = program_adds bodies;
    consumes = program_consumes sorts most size bodies fit;
    keeps = program_keeps;
    falls = program_falls;
    tidies = program_tidy;
    closes = program_closes;
  }

  pub program_resolves : ResolvesAt {M = M} (program_valid sorts most size) resolves_nothing settles_whole
  program_resolves = record {
    well = λ c h. let f : true ≡ false = h.stands in cc;
    begins = λ c h. (h.unedited, ((h.tidy.nested, h.stands.0), h.tidy.order));
    keeps = λ c n ns h. h;
    ordered = λ c h. no_edits c.map (length c.events) h.0;
    whole = λ c h. unedited c.map c.events c.point h.0 h.1;
  }

  -- what is open where a state is called
  pub program_open : (c : Config M) (stack : List Attempt) (n : Name) → program_valid sorts most size c stack (states.Retry n) → (rest : List EventName)
      × (open_after [] c.events ≡ names_of c.tokenize_state (sorts n).open_tokens ++ rest)
  program_open c stack n h = (below sorts size c.tokenize_state (reverse stack), h.stands.0.names)

-- a state that reads on from nothing
pub program_begins : {M : Type 0} (sorts : Name → Sort) (most size : ℕ) (n : Name) (machine : M) (p : Point) → (sorts n).open_tokens ≡ []
    → (sorts n).leaves ≡ [] → (sorts n).byte ≡ false → (sorts n).sure ≡ true → program_valid sorts most size (fresh_config p machine) [] (states.Next n)
program_begins sorts most size n machine p o l b s = record {
  stands = (
    record {
      suits = record {
        yields = λ e. absurd (let f : false ≡ true = e in cc);
        sure = λ e. s;
        plain = λ e. refl;
        firm = λ e. absurd (let f : false ≡ true = e in cc);
        leaves = l;
      };
      names = ap (λ (w : List Token). names_of nothing_kept w ++ []) (sym o);
      far = tt;
      exits = λ e. (fresh_tidy p machine, stays p);
    },
    b,
  );
  tidy = fresh_tidy p machine;
  marks = tt;
  unedited = refl;
}
