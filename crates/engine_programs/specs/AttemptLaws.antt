-- What an attempt in a body leaves known, where it goes well and where it fails.
use Rattle.std.proofs.Common.{◌≡◌, ℕ, ◌∙◌, Bool, true, false, not, ◌&&◌, ◌||◌, if◌then◌else◌, List, [], ◌∷◌, ◌++◌}
use Rattle.std.proofs.Common.{length, take, drop, refl, sym, ap, subst, arith}
use Rattle.std.proofs.lemmas.Bool.{and_parts, and_from, eqb-true}
use Rattle.std.proofs.Math.Seq.{take-length}
use Rattle.engine_events.specs.declared.event.Event.{Event}
use Rattle.engine_states.specs.declared.state.Name.{Name}
use Rattle.engine_states.specs.declared.state.State.{State}
use Rattle.engine_states.specs.declared.state.State.TheVariants as states
use Rattle.markdown_engine.specs.declared.attempt.Attempt.{Attempt}
use Rattle.markdown_engine.specs.Laws.{remaining}
use Rattle.markdown_engine.specs.Machine.{frame_at}
use Rattle.markdown_engine.specs.Order.{AreTidy, open_after}
use Rattle.markdown_engine.specs.Reading.{Config, mark}
use Rattle.engine_programs.specs.Bodies.{Token}
use Rattle.engine_programs.specs.Bodies.{names_of}
use Rattle.engine_programs.specs.Sorts.{Sort, Sight, after_of, all_fixed, begins, falls_to, goes_back, implies}
use Rattle.engine_programs.specs.Sorts.{is_nok, left_open, may_end, nok_fits, ok_fits, open_around}
use Rattle.engine_programs.specs.Sorts.{wants_end}
use Rattle.engine_programs.specs.Stacks.{At, Far, Mark, Marks, MayExit, NokGoes, OkGoes, below, ends_back}
use Rattle.engine_programs.specs.Stacks.{must_go_well, needs_byte, needs_end}
use Rattle.engine_programs.specs.NameLaws.{implies_holds}
use Rattle.engine_programs.specs.NameLaws.{none_is, not_so, not_true, or_false, or_first, or_second, tokens_are}
use Rattle.engine_programs.specs.StackLaws.{far_weak}
use Rattle.engine_programs.specs.KnownLaws.{on_parts, suits_on, Inv, ends_here}

module _ (sorts : Name → Sort) (size : ℕ) where
  pub far_either : (after moved z : Bool) (st : List Attempt) (l : ℕ) → (moved ≡ true → (z || after) ≡ true) → Far sorts size st l z
      → Far sorts size st l (if after then false else moved)
  far_either true moved z st l h f = far_weak sorts size st l z false (λ e. absurd (let g : false ≡ true = e in cc)) f
  far_either false moved z st l h f = far_weak sorts size st l z moved (λ e. or_false z (h e)) f

  pub ok_goes : {M : Type 0} (s : State) (n : Name) (st : List Attempt) (start : ℕ) (z : Sight) (c : Config M) (a : Attempt) (m : Name) → a.point ≡ c.point
      → ok_fits sorts n z a.check s ≡ true → implies (after_of sorts s) ((sorts m).yields && not a.check) ≡ true → Inv sorts size n st start z c
      → OkGoes sorts size a st s
  ok_goes (states.Error r) n st start z c a m p h k i = absurd (let f : false ≡ true = h in cc)
  ok_goes (states.Next r) n st start z c a m p h k i =
      let b = and_parts _ _ h in
      let d = and_parts _ _ b.1 in
      let tokens = drop (sorts r).given (sorts r).open_tokens in
      let o = on_parts sorts size n z tokens (z.moved || (sorts r).after) (not a.check || may_end z) r b.0 in (
        suits_on sorts size n z tokens (z.moved || (sorts r).after) (not a.check || may_end z) r st o i.suits,
        not_true _ d.1,
        λ e. not_true _ (and_parts _ _ (implies_holds _ _ k e)).1,
        λ e. eqb-true _ _ (implies_holds _ _ d.0 e),
        far_either (sorts r).after (sorts r).moved z.moved st (remaining size a.point) o.moves (rw p i.far),
      )
  ok_goes (states.Retry r) n st start z c a m p h k i = absurd (let f : false ≡ true = h in cc)
  ok_goes states.Ok n st start z c a m p h k i =
      let b = and_parts _ _ h in (
        far_weak sorts size st (remaining size a.point) z.moved (needs_byte sorts size st) (λ e. implies_holds _ _ b.1 (i.suits.yields e)) (rw p i.far),
        λ e. sym i.suits.leaves ∙ none_is _ (implies_holds _ _ b.0 e),
      )
  ok_goes states.Nok n st start z c a m p h k i = not_so _ _ i.suits.sure (not_true _ h)

  pub nok_goes : {M : Type 0} (s : State) (n : Name) (st : List Attempt) (start : ℕ) (z : Sight) (c : Config M) (a : Attempt) → a.point ≡ c.point
      → open_around sorts a.ok a.nok ≡ z.open_tokens → nok_fits sorts n z s ≡ true → Inv sorts size n st start z c → NokGoes sorts size a st s
  nok_goes (states.Error r) n st start z c a p q h i = absurd (let f : false ≡ true = h in cc)
  nok_goes (states.Next r) n st start z c a p q h i =
      let b = and_parts _ _ h in
      let o = on_parts sorts size n z (sorts r).open_tokens z.moved (may_end z) r b.0 in (
        suits_on sorts size n z (sorts r).open_tokens z.moved (may_end z) r st o i.suits,
        not_true _ b.1,
        o.names ∙ sym q,
        far_weak sorts size st (remaining size a.point) z.moved (sorts r).moved o.moves (rw p i.far),
      )
  nok_goes (states.Retry r) n st start z c a p q h i = absurd (let f : false ≡ true = h in cc)
  nok_goes states.Ok n st start z c a p q h i =
      let b = and_parts _ _ h in (
        sym (q ∙ (tokens_are _ _ b.0 ∙ i.suits.leaves)),
        far_weak sorts size st (remaining size a.point) z.moved (needs_byte sorts size st) (λ e. implies_holds _ _ (and_parts _ _ b.1).0 (i.suits.yields e))
            (rw p i.far),
      )
  nok_goes states.Nok n st start z c a p q h i = tt

  pub record Begins (n : Name) (z : Sight) (check : Bool) (ok nok : State) (m : Name) : Type 0 where
    pub opens : (sorts m).open_tokens ≡ []
    pub stays_there : (sorts m).moved ≡ false
    pub lower : falls_to sorts n z m ≡ true
    pub yields : implies (after_of sorts ok) ((sorts m).yields && not check) ≡ true
    pub sure : (is_nok nok && (sorts n).sure) ≡ true → (sorts m).sure ≡ true
    pub plain : (sorts m).plain ≡ true → ((sorts n).plain && all_fixed z.open_tokens) ≡ true
    pub firm : (not check && wants_end sorts ok (sorts n).firm) ≡ true → (sorts m).firm ≡ true
    pub leaves : (sorts m).leaves ≡ left_open sorts ok (sorts n).leaves
    pub ends : (sorts m).exits ≡ true → may_end z ≡ true

  pub begins_parts : (n : Name) (z : Sight) (check : Bool) (ok nok : State) (m : Name) → begins sorts n z check ok nok m ≡ true → Begins n z check ok nok m
  begins_parts n z check ok nok m h =
      let a = and_parts _ _ h in
      let b = and_parts _ _ a.1 in
      let c = and_parts _ _ b.1 in
      let d = and_parts _ _ c.1 in
      let e = and_parts _ _ d.1 in
      let f = and_parts _ _ e.1 in
      let g = and_parts _ _ f.1 in
      let k = and_parts _ _ g.1 in
      record {
        opens = none_is _ a.0;
        stays_there = not_true _ b.0;
        lower = c.0;
        yields = d.0;
        sure = implies_holds _ _ e.0;
        plain = implies_holds _ _ f.0;
        firm = implies_holds _ _ g.0;
        leaves = tokens_are _ _ k.0;
        ends = implies_holds _ _ k.1;
      }

  pub record GoesBack (n : Name) (z : Sight) (check : Bool) (ok nok : State) : Type 0 where
    pub around : open_around sorts ok nok ≡ z.open_tokens
    pub ends : (wants_end sorts nok (sorts n).firm || (check && wants_end sorts ok (sorts n).firm)) ≡ true → may_end z ≡ true

  pub back_parts : (n : Name) (z : Sight) (check : Bool) (ok nok : State) → goes_back sorts n z check ok nok ≡ true → GoesBack n z check ok nok
  back_parts n z check ok nok h = let a = and_parts _ _ h in record { around = tokens_are _ _ a.0; ends = implies_holds _ _ a.1 }

  pub wants_more : (s : State) (a b : Bool) → (a ≡ true → b ≡ true) → wants_end sorts s a ≡ true → wants_end sorts s b ≡ true
  wants_more (states.Error m) a b h e = e
  wants_more (states.Next m) a b h e = e
  wants_more (states.Retry m) a b h e = e
  wants_more states.Ok a b h e = h e
  wants_more states.Nok a b h e = e

  pub or_more : (a b c d : Bool) → (a ≡ true → c ≡ true) → (b ≡ true → d ≡ true) → (a || b) ≡ true → (c || d) ≡ true
  or_more true b c d h k e = or_first c d (h refl)
  or_more false b c d h k e = or_second c d (k e)

  pub and_more : (a b c : Bool) → (b ≡ true → c ≡ true) → (a && b) ≡ true → (a && c) ≡ true
  and_more a b c h e = let p = and_parts a b e in and_from a c p.0 (h p.1)

  -- the mark of an attempt that is made here
  pub marked : {M : Type 0} (check : Bool) (ok nok : State) (n m : Name) (st : List Attempt) (start : ℕ) (z : Sight) (c : Config M) → GoesBack n z check ok nok
      → Begins n z check ok nok m → ok_fits sorts n z check ok ≡ true → nok_fits sorts n z nok ≡ true → Inv sorts size n st start z c
      → Mark sorts size c.tokenize_state c.events (mark (frame_at check ok nok c)) st
      × Marks sorts size c.tokenize_state (take (length c.events) c.events) st
  marked check ok nok n m st start z c g b h k i =
      let a = mark (frame_at check ok nok c) in
      let names : open_after [] c.events ≡ below sorts size c.tokenize_state (a ∷ st) =
      i.names ∙ ap (λ (w : List Token). names_of c.tokenize_state w ++ below sorts size c.tokenize_state st) (sym g.around) in
      let ends : ends_back sorts size a st ≡ true → MayExit sorts size c =
      λ e. ends_here sorts size n st start z c (g.ends (or_more _ _ _ _ (wants_more nok (needs_end sorts size st) (sorts n).firm i.suits.firm)
      (and_more check _ _ (wants_more ok (needs_end sorts size st) (sorts n).firm i.suits.firm)) e)) i in
      let same = subst (λ (w : List Event). AreTidy w c.point × (ends_back sorts size a st ≡ true → MayExit sorts size (record c { events = w }))
      × (open_after [] w ≡ below sorts size c.tokenize_state (a ∷ st)) × Marks sorts size c.tokenize_state w st) (sym (take-length c.events)) (
        i.tidy,
        ends,
        names,
        i.marks,
      ) in (
        record {
          low = omega arith;
          tidy = same.0;
          exits = same.1;
          names = same.2;
          ok = ok_goes ok n st start z c a m refl h b.yields i;
          nok = nok_goes nok n st start z c a refl g.around k i;
        },
        same.3,
      )

  pub at_begin : {M : Type 0} (check : Bool) (ok nok : State) (n m : Name) (st : List Attempt) (start : ℕ) (z : Sight) (c : Config M)
      → GoesBack n z check ok nok → Begins n z check ok nok m → Inv sorts size n st start z c → At sorts size m (mark (frame_at check ok nok c) ∷ st) c
  at_begin check ok nok n m st start z c g b i =
      let a = mark (frame_at check ok nok c) in
      record {
        suits = record {
          yields = λ w. (and_parts _ _ (implies_holds _ _ b.yields w)).0;
          sure = λ w. let p = and_parts (is_nok nok) (must_go_well sorts size st) w in b.sure (and_from _ _ p.0 (i.suits.sure p.1));
          plain = λ w. let p = and_parts (sorts n).plain (all_fixed z.open_tokens) (b.plain w) in
              and_from _ _ (ap all_fixed g.around ∙ p.1) (i.suits.plain p.0);
          firm = λ w. b.firm (and_more (not check) _ _ (wants_more ok (needs_end sorts size st) (sorts n).firm i.suits.firm) w);
          leaves = b.leaves ∙ ap (left_open sorts ok) i.suits.leaves;
        };
        names = i.names ∙ (ap (λ (w : List Token). names_of c.tokenize_state w ++ below sorts size c.tokenize_state st) (sym g.around)
            ∙ ap (λ (w : List Token). names_of c.tokenize_state w ++ below sorts size c.tokenize_state (a ∷ st)) (sym b.opens));
        far = rw b.stays_there (omega arith);
        exits = λ w. ends_here sorts size n st start z c (b.ends w) i;
      }
