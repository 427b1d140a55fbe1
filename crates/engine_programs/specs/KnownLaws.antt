-- What is known of a state within a body, as its sort says.
use Rattle.std.proofs.Common.{◌≡◌, ℕ, ◌<◌, ◌≤◌, ◌∙◌, Bool, true, false, ◌||◌, List, [], ◌∷◌, ◌++◌, map, reverse}
use Rattle.std.proofs.Common.{refl, sym, ap, append-nil, append_assoc}
use Rattle.std.proofs.lemmas.Bool.{and_parts}
use Rattle.std.proofs.lemmas.List.{reverse-append}
use Rattle.engine_states.specs.declared.state.Name.{Name}
use Rattle.markdown_engine.specs.declared.attempt.Attempt.{Attempt}
use Rattle.markdown_engine.specs.Laws.{remaining}
use Rattle.markdown_engine.specs.Order.{IsTidy, open_after}
use Rattle.markdown_engine.specs.Reading.{Config, Frame, mark}
use Rattle.markdown_engine.specs.VirtualText.{is_feed}
use Rattle.engine_programs.specs.Bodies.{Token}
use Rattle.engine_programs.specs.Bodies.{names_of}
use Rattle.engine_programs.specs.Sorts.{Sort, Sight}
use Rattle.engine_programs.specs.Sorts.{may_end, onward}
use Rattle.engine_programs.specs.Stacks.{Ahead, At, Far, HasByte, Marks, MayExit, Suits, below, left_by}
use Rattle.engine_programs.specs.NameLaws.{exit_here, implies_holds}
use Rattle.engine_programs.specs.NameLaws.{tokens_are}
use Rattle.engine_programs.specs.StackLaws.{far_weak}

module _ (sorts : Name → Sort) (size : ℕ) where
  -- what is known of another state of the same run
  pub record Follows (n : Name) (z : Sight) (tokens : List Token) (moved exits : Bool) (m : Name) : Type 0 where
    pub names : tokens ≡ z.open_tokens
    pub moves : (sorts m).moved ≡ true → moved ≡ true
    pub yields : (sorts n).yields ≡ true → (sorts m).yields ≡ true
    pub sure : (sorts n).sure ≡ true → (sorts m).sure ≡ true
    pub plain : (sorts m).plain ≡ true → (sorts n).plain ≡ true
    pub ends : (sorts m).exits ≡ true → exits ≡ true
    pub firm : (sorts n).firm ≡ true → (sorts m).firm ≡ true
    pub leaves : (sorts m).leaves ≡ (sorts n).leaves

  pub on_parts : (n : Name) (z : Sight) (tokens : List Token) (moved exits : Bool) (m : Name) → onward sorts n z tokens moved exits m ≡ true
      → Follows n z tokens moved exits m
  on_parts n z tokens moved exits m h =
      let a = and_parts _ _ h in
      let b = and_parts _ _ a.1 in
      let c = and_parts _ _ b.1 in
      let d = and_parts _ _ c.1 in
      let e = and_parts _ _ d.1 in
      let f = and_parts _ _ e.1 in
      let g = and_parts _ _ f.1 in
      record {
        names = tokens_are _ _ a.0;
        moves = implies_holds _ _ b.0;
        yields = implies_holds _ _ c.0;
        sure = implies_holds _ _ d.0;
        plain = implies_holds _ _ e.0;
        ends = implies_holds _ _ f.0;
        firm = implies_holds _ _ g.0;
        leaves = tokens_are _ _ g.1;
      }

  pub suits_on : (n : Name) (z : Sight) (tokens : List Token) (moved exits : Bool) (m : Name) (st : List Attempt) → Follows n z tokens moved exits m
      → Suits sorts size st n → Suits sorts size st m
  suits_on n z tokens moved exits m st o s =
      record {
        yields = λ e. o.yields (s.yields e);
        sure = λ e. o.sure (s.sure e);
        plain = λ e. s.plain (o.plain e);
        firm = λ e. o.firm (s.firm e);
        leaves = o.leaves ∙ s.leaves;
      }

  -- What is known within a body

  pub record Inv {M : Type 0} (n : Name) (st : List Attempt) (start : ℕ) (z : Sight) (c : Config M) : Type 0 where
    pub names : open_after [] c.events ≡ names_of c.tokenize_state z.open_tokens ++ below sorts size c.tokenize_state st
    pub far : Far sorts size st (remaining size c.point) z.moved
    pub tidy : IsTidy c
    pub exits : z.exits ≡ true → MayExit sorts size c
    pub inline : z.inline ≡ true → is_feed c.previous ≡ false
    pub fed : z.fed ≡ true → HasByte sorts size c
    pub feed : z.feed ≡ false → is_feed c.current ≡ false
    pub ahead : Ahead sorts size c
    pub marks : Marks sorts size c.tokenize_state c.events st
    pub suits : Suits sorts size st n
    pub unedited : c.map ≡ []
    pub left : remaining size c.point ≤ start
    pub spent : z.spent ≡ true → remaining size c.point < start

  pub ends_by : {M : Type 0} (n : Name) (st : List Attempt) (start : ℕ) (z : Sight) (c : Config M) (a b : Bool) → z.exits ≡ a → z.inline ≡ b → (a || b) ≡ true
      → Inv n st start z c → MayExit sorts size c
  ends_by n st start z c true b p q h i = i.exits p
  ends_by n st start z c false true p q h i = exit_here (is_feed c.previous) c.line_start c.point c.events (i.inline q) i.tidy
  ends_by n st start z c false false p q h i = absurd (let f : false ≡ true = h in cc)

  pub ends_here : {M : Type 0} (n : Name) (st : List Attempt) (start : ℕ) (z : Sight) (c : Config M) → may_end z ≡ true → Inv n st start z c
      → MayExit sorts size c
  ends_here n st start z c h i = ends_by n st start z c z.exits z.inline refl refl h i

  unfoldable pub with_marks : {M : Type 0} → List (Frame M) → List Attempt → List Attempt
  with_marks [] st = st
  with_marks (f ∷ fs) st = with_marks fs (mark f ∷ st)

  pub marks_reversed : {M : Type 0} (fs : List (Frame M)) (stack : List Attempt) → with_marks fs (reverse stack) ≡ reverse (stack ++ map mark fs)
  unfolding with_marks
  marks_reversed [] stack = sym (ap reverse (append-nil stack))
  marks_reversed (f ∷ fs) stack =
      ap (with_marks fs) (sym (reverse-append stack (mark f ∷ []))) ∙ (marks_reversed fs (stack ++ mark f ∷ [])
      ∙ ap reverse (append_assoc stack (mark f ∷ []) (map mark fs)))

  pub at_on : {M : Type 0} (n m : Name) (st : List Attempt) (start : ℕ) (z : Sight) (c : Config M) → Follows n z (sorts m).open_tokens z.moved (may_end z) m
      → Inv n st start z c → At sorts size m st c
  at_on n m st start z c o i = record {
    suits = suits_on n z (sorts m).open_tokens z.moved (may_end z) m st o i.suits;
    names = i.names ∙ ap (λ (w : List Token). names_of c.tokenize_state w ++ below sorts size c.tokenize_state st) (sym o.names);
    far = far_weak sorts size st (remaining size c.point) z.moved (sorts m).moved o.moves i.far;
    exits = λ w. ends_here n st start z c (o.ends w) i;
  }

  pub ends_well : {M : Type 0} (n : Name) (st : List Attempt) (start : ℕ) (z : Sight) (c : Config M) → z.open_tokens ≡ (sorts n).leaves → Inv n st start z c
      → open_after [] c.events ≡ names_of c.tokenize_state (left_by sorts size st) ++ below sorts size c.tokenize_state st
  ends_well n st start z c h i = i.names ∙ ap (λ (w : List Token). names_of c.tokenize_state w ++ below sorts size c.tokenize_state st) (h ∙ i.suits.leaves)
