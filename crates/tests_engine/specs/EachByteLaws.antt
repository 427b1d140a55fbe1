-- Machines with one state are lawful.
use Rattle.std.proofs.Common.{◌≡◌, ℕ, ◌+◌, ◌*◌, ◌<◌, ◌≤◌, ◌++◌, List, map, Option, Some, None, true, false, refl, subst, sym, ◌∙◌, arith, append-nil, inl}
use Rattle.engine_events.specs.declared.place.Point.{Point}
use Rattle.engine_states.specs.declared.state.Name.{Name}
use Rattle.engine_states.specs.declared.state.State.{State}
use Rattle.engine_states.specs.declared.state.State.TheVariants as states
use Rattle.markdown_engine.specs.declared.attempt.Attempt.{Attempt}
use Rattle.markdown_engine.specs.declared.virtual_text.VirtualByte.{VirtualByte}
use Rattle.markdown_engine.specs.Laws.{BeginAround, ClosesAt, Consumes, FallsAt, IsFed, KeepsAt, LawfulAt, MovesOn, AreNested, TidiesAt, remaining}
use Rattle.markdown_engine.specs.Order.{Reaches}
use Rattle.markdown_engine.specs.OrderLaws.{handed_leads}
use Rattle.markdown_engine.specs.Reading.{Config, with_byte, mark, at_point}
use Rattle.markdown_engine.specs.StepLaws.{some_wait}
use Rattle.tests_engine.specs.EachByte.{GoesOver, HoldsEach, at_byte, each_byte, each_rank, left_at}

module _ {M : Type 0} (size : ℕ) (between after : Config M → Type 0) (stop over : Config M → Config M) (h : GoesOver between after stop over) where
  adds_at : (b : Option ℕ) (c : Config M) (n : Name) → let e = at_byte stop over b c n in AreNested c.events e.pushed e.config.events
  adds_at None c n = h.stops c
  adds_at (Some b) c n = h.adds c

  consumed_at : (b : Option ℕ) (c : Config M) (n : Name) → c.current ≡ b → let e = at_byte stop over b c n in
      Consumes e.state c e.config × BeginAround c e.pushed
  consumed_at None c n e = (inl (h.stays c), tt)
  consumed_at (Some b) c n e = ((b, e, h.consumes c), tt)

  called_at : (b : Option ℕ) (c : Config M) (stack : List Attempt) (n : Name) → c.current ≡ b → HoldsEach between after c stack (states.Retry n) → let e =
      at_byte stop over b c n in HoldsEach between after e.config (stack ++ map mark e.pushed) e.state
  called_at None c stack n e k = (append-nil stack ∙ k.0, h.ends c k.1)
  called_at (Some b) c stack n e k = (append-nil stack ∙ k.0, h.keeps c (k.2 b e) k.1)

  moved_at : (s : State) (c : Config M) (stack : List Attempt) (p : Point) → MovesOn s → Reaches c.point p → HoldsEach between after c stack s
      → HoldsEach between after (at_point p c) stack s
  moved_at (states.Error m) c stack p on order k = k
  moved_at (states.Next n) c stack p on order k = (k.0, h.on c p order k.1)
  moved_at (states.Retry n) c stack p on order k = absurd on
  moved_at states.Ok c stack p on order k = (k.0, h.after_on c p order k.1)
  moved_at states.Nok c stack p on order k = absurd k

  each_keeps : KeepsAt size (HoldsEach between after) (each_byte stop over)
  each_keeps = record {
    fed = λ c stack n p v fed k. (k.0, h.fed size c p v fed k.1, handed_leads size c p v fed);
    moved = λ c stack s p on forward order k. moved_at s c stack p on order k;
    called = λ c stack n k. called_at c.current c stack n refl k;
    ok = λ c stack a k. absurd (some_wait stack a k.0);
    nok = λ c stack a k. absurd k;
    no_error = λ c stack m k. k;
  }

  lower_at : (b : Option ℕ) (c : Config M) (stack : List Attempt) (n : Name) → let e = at_byte stop over b c n in
      each_rank size e.config (stack ++ map mark e.pushed) e.state < left_at size b c
  lower_at None c stack n = omega arith
  lower_at (Some b) c stack n = subst (λ (z : Point). 2 * remaining size z + 2 < 2 * remaining size c.next + 3) (sym (h.consumes c).point) (omega arith)

  fed_at : (c : Config M) (stack : List Attempt) (n : Name) (p : Point) (v : Option VirtualByte) → IsFed size c.point p v
      → each_rank size (with_byte c p v) stack (states.Retry n) ≤ each_rank size c stack (states.Next n)
  fed_at c stack n p None fed = omega arith
  fed_at c stack n p (Some w) fed = let f = (fed.read w refl).falls in let g = fed.forward in omega arith

  each_falls : FallsAt size (HoldsEach between after) (each_byte stop over) (each_rank size)
  each_falls = record {
    fed = λ c stack n p v k fed. fed_at c stack n p v fed;
    called = λ c stack n k. lower_at c.current c stack n;
    ok = λ c stack a k. absurd (some_wait stack a k.0);
    nok = λ c stack a k. absurd k;
  }

  each_tidies : TidiesAt (HoldsEach between after)
  each_tidies c stack (states.Error m) k = absurd k
  each_tidies c stack (states.Next n) k = h.tidy c k.1
  each_tidies c stack (states.Retry n) k = h.tidy c k.1
  each_tidies c stack states.Ok k = h.after_tidy c k.1
  each_tidies c stack states.Nok k = absurd k

  each_closes : ClosesAt (HoldsEach between after)
  each_closes c true k = h.closed c k.1
  each_closes c false k = absurd k

  pub each_lawful : LawfulAt size (HoldsEach between after) (each_byte stop over) (each_rank size)
  each_lawful = record {
    adds = λ c n. adds_at c.current c n;
    consumes = λ c stack n k. consumed_at c.current c n refl;
    keeps = each_keeps;
    falls = each_falls;
    tidies = each_tidies;
    closes = each_closes;
  }
