-- What each call in a body leaves known.
use Rattle.std.proofs.Common.{◌≡◌, ℕ, ◌∙◌, Bool, true, false, not, if◌then◌else◌, List, [], ◌∷◌, ◌++◌}
use Rattle.std.proofs.Common.{Option, None, Some, refl, sym, ap, subst, arith}
use Rattle.engine_events.specs.Events.{event}
use Rattle.engine_events.specs.declared.event.Kind.TheVariants.{Enter as Entering, Exit as Exiting}
use Rattle.engine_events.specs.declared.event.Link.{Link}
use Rattle.engine_events.specs.declared.event.Name.{Name as EventName}
use Rattle.engine_events.specs.declared.place.Point.{Point}
use Rattle.engine_states.specs.declared.resolve.Name.{Name as Resolver}
use Rattle.engine_states.specs.declared.state.Name.{Name}
use Rattle.markdown_engine.specs.declared.attempt.Attempt.{Attempt}
use Rattle.markdown_engine.specs.KeptState.{KeptState}
use Rattle.markdown_engine.specs.Laws.{remaining}
use Rattle.markdown_engine.specs.Machine.{past_byte, with_enter, with_exit}
use Rattle.markdown_engine.specs.Order.{AreTidy, Reaches, open_after, text_start}
use Rattle.markdown_engine.specs.OrderLaws.{consumed_tidy, entered_opened, entered_tidy, exit_place, exited_opened, exited_tidy, nested_append}
use Rattle.markdown_engine.specs.OrderLaws.{order_more, stays}
use Rattle.markdown_engine.specs.Reading.{Config}
use Rattle.markdown_engine.specs.VirtualText.{is_feed}
use Rattle.engine_programs.specs.Bodies.{Token}
use Rattle.engine_programs.specs.Bodies.{name_of, names_of}
use Rattle.engine_programs.specs.Sorts.{Sort, Sight, exited_sight, is_last}
use Rattle.engine_programs.specs.Sorts.{may_end}
use Rattle.engine_programs.specs.Stacks.{HasByte, below}
use Rattle.engine_programs.specs.NameLaws.{not_true, token_is}
use Rattle.engine_programs.specs.StackLaws.{SameBelow, below_same, far_less, marks_more, marks_same}
use Rattle.engine_programs.specs.KnownLaws.{Inv, ends_here}

module _ (sorts : Name → Sort) (size : ℕ) where
  -- What each call leaves

  pub consumed_inv : {M : Type 0} (n : Name) (st : List Attempt) (start : ℕ) (z : Sight) (c : Config M) → z.fed ≡ true → Inv sorts size n st start z c
      → Inv sorts size n st start (record z { moved = true; fed = false; feed = false; spent = true; exits = true; inline = not z.feed }) (past_byte c)
  consumed_inv n st start z c e i =
      let b = i.fed e in
      let less = i.ahead.less b.0 b.1 in
      let leads = i.ahead.leads b.0 b.1 in
      let left = i.left in
      let tidy = consumed_tidy c leads i.tidy in
      let there = exit_place (is_feed c.current) c.next c.line_start in
      record {
        names = i.names;
        far = far_less sorts size st (remaining size c.point) (remaining size c.next) z.moved less i.far;
        tidy = tidy;
        exits = λ w. subst (λ (p : Point). AreTidy c.events p × Reaches p c.next) (sym there) (tidy, stays c.next);
        inline = λ w. i.feed (not_true _ w);
        fed = λ w. absurd (let f : false ≡ true = w in cc);
        feed = λ w. refl;
        ahead = record { less = λ v w. absurd (let f : None ≡ Some v = w in cc); leads = λ v w. absurd (let f : None ≡ Some v = w in cc) };
        marks = i.marks;
        suits = i.suits;
        unedited = i.unedited;
        left = omega arith;
        spent = λ w. omega arith;
      }

  pub entered_inv : {M : Type 0} (t : Token) (link : Option Link) (n : Name) (st : List Attempt) (start : ℕ) (z : Sight) (c : Config M)
      → Inv sorts size n st start z c
      → Inv sorts size n st start (record z { open_tokens = t ∷ z.open_tokens; exits = false }) (with_enter (name_of c.tokenize_state t) link c)
  entered_inv t link n st start z c i =
      let name = name_of c.tokenize_state t in
      record {
        names = entered_opened name link c ∙ ap (λ (w : List EventName). name ∷ w) i.names;
        far = i.far;
        tidy = entered_tidy name link c i.tidy;
        exits = λ w. absurd (let f : false ≡ true = w in cc);
        inline = i.inline;
        fed = i.fed;
        feed = i.feed;
        ahead = record { less = i.ahead.less; leads = i.ahead.leads };
        marks = marks_more sorts size c.tokenize_state st c.events (event Entering name c.point link ∷ []) i.marks;
        suits = i.suits;
        unedited = i.unedited;
        left = i.left;
        spent = i.spent;
      }

  pub exited_inv : {M : Type 0} (t : Token) (opens : List Token) (n : Name) (st : List Attempt) (start : ℕ) (z : Sight) (c : Config M) → opens ≡ z.open_tokens
      → may_end z ≡ true → is_last sorts t opens ≡ true → Inv sorts size n st start z c
      → Inv sorts size n st start (exited_sight sorts z opens) (with_exit (name_of c.tokenize_state t) c)
  exited_inv t [] n st start z c q e h i = absurd (let f : false ≡ true = h in cc)
  exited_inv t (u ∷ more) n st start z c q e h i =
      let name = name_of c.tokenize_state t in
      let rest = names_of c.tokenize_state more ++ below sorts size c.tokenize_state st in
      let last : open_after [] c.events ≡ name ∷ rest =
      i.names ∙ (ap (λ (w : List Token). names_of c.tokenize_state w ++ below sorts size c.tokenize_state st) (sym q)
      ∙ ap (λ (w : Token). name_of c.tokenize_state w ∷ rest) (sym (token_is t u h))) in
      let ends = ends_here sorts size n st start z c e i in
      let place = if is_feed c.previous then c.line_start else c.point in
      let exit = event Exiting name place None in
      record {
        names = exited_opened name c rest last;
        far = i.far;
        tidy = exited_tidy name c ends (rest, last);
        exits = λ w. (
          record {
            nested = nested_append [] c.events (exit ∷ []) ends.0.nested ((rest, last), tt);
            order = order_more text_start place c.events exit ends.0.order (stays place);
          },
          ends.1,
        );
        inline = i.inline;
        fed = i.fed;
        feed = i.feed;
        ahead = record { less = i.ahead.less; leads = i.ahead.leads };
        marks = marks_more sorts size c.tokenize_state st c.events (exit ∷ []) i.marks;
        suits = i.suits;
        unedited = i.unedited;
        left = i.left;
        spent = i.spent;
      }

  -- what is kept changes, and the names that are open don't
  pub kept_inv : {M : Type 0} (k2 : KeptState) (n : Name) (st : List Attempt) (start : ℕ) (z : Sight) (c : Config M)
      → names_of k2 z.open_tokens ≡ names_of c.tokenize_state z.open_tokens → SameBelow sorts size c.tokenize_state k2 st → Inv sorts size n st start z c
      → Inv sorts size n st start z (record c { tokenize_state = k2 })
  kept_inv k2 n st start z c h s i = record {
    names = i.names ∙ (ap (λ (w : List EventName). w ++ below sorts size c.tokenize_state st) (sym h)
        ∙ ap (λ (w : List EventName). names_of k2 z.open_tokens ++ w) (sym (below_same sorts size c.tokenize_state k2 st s)));
    far = i.far;
    tidy = record { nested = i.tidy.nested; order = i.tidy.order };
    exits = i.exits;
    inline = i.inline;
    fed = i.fed;
    feed = i.feed;
    ahead = record { less = i.ahead.less; leads = i.ahead.leads };
    marks = marks_same sorts size c.tokenize_state k2 st c.events s i.marks;
    suits = i.suits;
    unedited = i.unedited;
    left = i.left;
    spent = i.spent;
  }

  -- nothing changes that is spoken of here
  pub same_inv : {M : Type 0} (n : Name) (st : List Attempt) (start : ℕ) (z : Sight) (c : Config M) (r : List Resolver) (f : Bool × Bool × Bool × Bool)
      → Inv sorts size n st start z c → Inv sorts size n st start z (record c { resolvers = r; interrupt = f.0; lazy = f.1; concrete = f.2; pierce = f.3 })
  same_inv n st start z c r f i = record {
    names = i.names;
    far = i.far;
    tidy = record { nested = i.tidy.nested; order = i.tidy.order };
    exits = i.exits;
    inline = i.inline;
    fed = i.fed;
    feed = i.feed;
    ahead = record { less = i.ahead.less; leads = i.ahead.leads };
    marks = i.marks;
    suits = i.suits;
    unedited = i.unedited;
    left = i.left;
    spent = i.spent;
  }

  -- nor does it speak of the machine
  pub moved_inv : {M : Type 0} (n : Name) (st : List Attempt) (start : ℕ) (z : Sight) (c : Config M) (m : M)
      → Inv sorts size n st start z c → Inv sorts size n st start z (record c { machine = m })
  moved_inv n st start z c m i = record {
    names = i.names;
    far = i.far;
    tidy = record { nested = i.tidy.nested; order = i.tidy.order };
    exits = i.exits;
    inline = i.inline;
    fed = i.fed;
    feed = i.feed;
    ahead = record { less = i.ahead.less; leads = i.ahead.leads };
    marks = i.marks;
    suits = i.suits;
    unedited = i.unedited;
    left = i.left;
    spent = i.spent;
  }

  -- more is known
  pub seen_inv : {M : Type 0} (n : Name) (st : List Attempt) (start : ℕ) (z : Sight) (c : Config M) (fed feed inline : Bool)
      → (fed ≡ true → HasByte sorts size c) → (feed ≡ false → is_feed c.current ≡ false) → (inline ≡ true → is_feed c.previous ≡ false)
      → Inv sorts size n st start z c
      → Inv sorts size n st start (record z { fed = fed; feed = feed; inline = inline }) c
  seen_inv n st start z c fed feed inline h k l i =
      record {
        names = i.names;
        far = i.far;
        tidy = i.tidy;
        exits = i.exits;
        inline = l;
        fed = h;
        feed = k;
        ahead = i.ahead;
        marks = i.marks;
        suits = i.suits;
        unedited = i.unedited;
        left = i.left;
        spent = i.spent;
      }
