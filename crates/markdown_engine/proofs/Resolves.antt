-- Resolvers, one after another.
use Rattle.std.proofs.Common.{◌≡◌, ◌∙◌, ℕ, [], ◌∷◌, ◌⊎◌, inl, inr, Bool, true, false, List, refl, ap, subst, sym}
use Rattle.markdown_engine.proofs.Prelude.{Config, context, Context, end_state, found_both, found_in, FoundLabels, HasCompleted, HasFlushed, HoldsAt}
use Rattle.markdown_engine.proofs.Prelude.{IsRefused, nothing_found, Outcome, ParseState, read_with, resolve_all, resolve_each, Resolver, Resolves, SettlesAt}
use Rattle.markdown_engine.proofs.Prelude.{source, State, Steps, Text, text_to, Tokenizer, view_config}
use Rattle.engine_states.specs.declared.subresult.Subresult.{Subresult}
use Rattle.engine_states.specs.declared.state.State.TheVariants as states
use Rattle.markdown_engine.specs.Laws.{Ranks}
use Rattle.markdown_engine.specs.Machine.{Around, HaltsWell, HasHalted, halt_of}
use Rattle.markdown_engine.specs.Resolving.{Settles}
use Rattle.markdown_engine.proofs.Push.{halted_as, unless_refused}

-- what the walk over resolvers keeps
pub record ResolvingOn {M V T A : Type 0} (view : M → V) (resolve : Resolves V) (settled : SettlesAt V) (names : List Resolver) (t : Tokenizer M T A)
    (found : Subresult A) (all : List Resolver) (old : Tokenizer M T A) (first : Subresult A) : Type 0 where
  pub settles : settled (view_config view t) names
  pub resolves : resolve_each resolve names (view_config view t) (found_in found) ≡ resolve_each resolve all (view_config view old) (found_in first)
  pub parse_state : t.parse_state.now ≡ old.parse_state.now
  pub done : found.done ≡ first.done

pub resolving_on : {M V T A : Type 0} (view : M → V) (resolve : Resolves V) (settled : SettlesAt V) (names rest : List Resolver) (n : Resolver)
    (t u : Tokenizer M T A) (found new : Subresult A) (more : FoundLabels) (all : List Resolver) (old : Tokenizer M T A) (first : Subresult A)
    → ((c : Config V) (k : Resolver) (ks : List Resolver) → settled c (k ∷ ks) → settled (resolve c k).config ks) → names ≡ n ∷ rest
    → view_config view u ≡ (resolve (view_config view t) n).config → more ≡ (resolve (view_config view t) n).found
    → found_in new ≡ found_both (found_in found) more → u.parse_state.now ≡ t.parse_state.now → new.done ≡ found.done
    → ResolvingOn view resolve settled names t found all old first → ResolvingOn view resolve settled rest u new all old first
resolving_on {V = V} view resolve settled names rest n t u found new more all old first keeps e ec em ef ep ed h =
    let next = resolve (view_config view t) n in
    let s : settled (view_config view t) (n ∷ rest) = subst (λ (z : List Resolver). settled (view_config view t) z) e h.settles in
    let two : found_in new ≡ found_both (found_in found) next.found = ef ∙ ap (λ (z : FoundLabels). found_both (found_in found) z) em in
    let here : resolve_each resolve (n ∷ rest) (view_config view t) (found_in found) ≡ resolve_each resolve all (view_config view old) (found_in first) =
    subst (λ (z : List Resolver). resolve_each resolve z (view_config view t) (found_in found)
    ≡ resolve_each resolve all (view_config view old) (found_in first)) e h.resolves in
    record {
      settles = subst (λ (z : Config V). settled z rest) (sym ec) (keeps (view_config view t) n rest s);
      resolves = (ap (λ (z : Config V). resolve_each resolve rest z (found_in new)) ec ∙ ap (λ (z : FoundLabels). resolve_each resolve rest next.config z) two)
          ∙ here;
      parse_state = ep ∙ h.parse_state;
      done = ed ∙ h.done;
    }

-- reading that ended went well
pub read_well : {M V T A : Type 0} (view : M → V) (valid : HoldsAt V) (text : Text) (step : Steps V) (s : State) (old new : Tokenizer M T A) (r : State)
    → ((c : Config V) → valid c [] states.Nok → ⊥) → (IsRefused r → ⊥)
    → IsRefused r ⊎ valid (view_config view new) [] r → IsRefused r ⊎ HasFlushed view text step s old new r → valid (view_config view new) [] states.Ok
    × Outcome text step old.attempts.items (view_config view old) [] s (view_config view new) true
read_well view valid text step s old new r never n (inl h) k = absurd (n h)
read_well view valid text step s old new r never n (inr h) (inl k) = absurd (n k)
read_well {V = V} view valid text step s old new r never n (inr h) (inr k) = pick k.well k.state k.outcome
  where
    pick : (w : Bool) → r ≡ end_state w → Outcome text step old.attempts.items (view_config view old) [] s (view_config view new) w
        → valid (view_config view new) [] states.Ok × Outcome text step old.attempts.items (view_config view old) [] s (view_config view new) true
    pick true e o = (subst (λ (z : State). valid (view_config view new) [] z) e h, o)
    pick false e o = absurd (never (view_config view new) (subst (λ (z : State). valid (view_config view new) [] z) e h))

-- and stopped at the end, well
pub halts_well : {M V T A : Type 0} (view : M → V) (valid : HoldsAt V) (steps : Context T → Steps V) (ranks : Ranks T V) (to : ℕ × ℕ) (s : State)
    (old new : Tokenizer M T A) (r : State) → ((c : Config V) → valid c [] states.Nok → ⊥) → (IsRefused r → ⊥)
    → IsRefused r ⊎ valid (view_config view new) [] r → IsRefused r ⊎ HasFlushed view (text_to (source old) to) (steps (read_with old)) s old new r
    → IsRefused r ⊎ HasHalted view steps ranks to true (halt_of view old s) old new r → HaltsWell view steps ranks to s old new
halts_well view valid steps ranks to s old new r never n h k e =
    subst (λ (z : State). HasHalted view steps ranks to true (halt_of view old s) old new z) (well r (unless_refused r n h) (unless_refused r n k))
    (unless_refused r n e)
  where
    pick : (v : Bool) → valid (view_config view new) [] (end_state v) → end_state v ≡ states.Ok
    pick true h = refl
    pick false h = absurd (never (view_config view new) h)

    well : (r : State) → valid (view_config view new) [] r → HasFlushed view (text_to (source old) to) (steps (read_with old)) s old new r → r ≡ states.Ok
    well r h k = k.state ∙ pick k.well (subst (λ (z : State). valid (view_config view new) [] z) k.state h)

-- whatever the tokenizer holds beside what is read
pub halts_as : {M V T A : Type 0} (view : M → V) (steps : Context T → Steps V) (ranks : Ranks T V) (to : ℕ × ℕ) (s : State) (old new later : Tokenizer M T A)
    → halt_of view later states.Ok ≡ halt_of view new states.Ok → Around new later → HaltsWell view steps ranks to s old new
    → HaltsWell view steps ranks to s old later
halts_as view steps ranks to s old new later e ar h = halted_as view steps ranks to true (halt_of view old s) old new later states.Ok e ar h

pub settled_at : {M T : Type 0} (settled : Settles T M) (x y : Context T) (c : Config M) (names : List Resolver) → x ≡ y → settled x c names → settled y c names
settled_at {T = T} settled x y c names e h = subst (λ (z : Context T). settled z c names) e h

pub completed_as : {M V T A : Type 0} (view : M → V) (text : Text) (step : Steps V) (resolve : Resolves V) (all : Bool) (given : State)
    (old new later : Tokenizer M T A) (found : FoundLabels) → view_config view later ≡ view_config view new
    → HasCompleted view text step resolve all given old new found
    → HasCompleted view text step resolve all given old later found
completed_as view text step resolve all given old new later found e h = record { read = h.read; outcome = h.outcome; config = e ∙ h.config; labels = h.labels }

-- what a resolver does, with what is read with
pub resolved_at : {M V T A : Type 0} (view : M → V) (resolves : Context T → Resolves V) (x y : Context T)
    (t u : Tokenizer M T A) (n : Resolver) (found : FoundLabels)
    → x ≡ y → view_config view u ≡ (resolves x (view_config view t) n).config → found ≡ (resolves x (view_config view t) n).found
    → (view_config view u ≡ (resolves y (view_config view t) n).config) × (found ≡ (resolves y (view_config view t) n).found)
resolved_at {T = T} view resolves x y t u n found e ec ef =
    subst (λ (z : Context T). (view_config view u ≡ (resolves z (view_config view t) n).config) × (found ≡ (resolves z (view_config view t) n).found)) e (
      ec,
      ef,
    )

module _ {M V T A : Type 0} (view : M → V) (text : Text) (step : Steps V) (resolve : Resolves V) (s : State) (old mid new : Tokenizer M T A)
    (found : FoundLabels) where
  -- resolvers ran
  pub completed_all : Outcome text step old.attempts.items (view_config view old) [] s (view_config view mid) true
      → view_config view new ≡ (resolve_all resolve (view_config view mid)).config → found ≡ (resolve_all resolve (view_config view mid)).found
      → HasCompleted view text step resolve true s old new found
  completed_all o ec ef = record { read = view_config view mid; outcome = o; config = ec; labels = ef }

  -- none were asked for
  pub completed_none : Outcome text step old.attempts.items (view_config view old) [] s (view_config view mid) true
      → view_config view new ≡ view_config view mid → found ≡ nothing_found → HasCompleted view text step resolve false s old new found
  completed_none o ec ef = record { read = view_config view mid; outcome = o; config = ec; labels = ef }

module _ {M V T A : Type 0} (view : M → V) (text : Text) (step : Steps V) (resolve : Resolves V) (s : State) (old new : Tokenizer M T A)
    (found : FoundLabels) where
  pub completed_if : (a b : Bool) → a ≡ b → HasCompleted view text step resolve a s old new found → HasCompleted view text step resolve b s old new found
  completed_if a b e h = subst (λ (z : Bool). HasCompleted view text step resolve z s old new found) e h

pub all_at : {M T : Type 0} (resolves : Context T → Resolves M) (x y : Context T) (c d : Config M) (found : FoundLabels) → x ≡ y
    → d ≡ (resolve_all (resolves x) c).config → found ≡ (resolve_all (resolves x) c).found
    → (d ≡ (resolve_all (resolves y) c).config) × (found ≡ (resolve_all (resolves y) c).found)
all_at {T = T} resolves x y c d found e ec ef =
    subst (λ (z : Context T). (d ≡ (resolve_all (resolves z) c).config) × (found ≡ (resolve_all (resolves z) c).found)) e (ec, ef)

pub completed_at : {M V T A : Type 0} (view : M → V) (steps : Context T → Steps V) (resolves : Context T
    → Resolves V) (x y : Context T) (text : Text) (s : State) (old new : Tokenizer M T A) (found : FoundLabels) → x ≡ y
    → HasCompleted view text (steps x) (resolves x) true s old new found → HasCompleted view text (steps y) (resolves y) true s old new found
completed_at {T = T} view steps resolves x y text s old new found e h =
    subst (λ (z : Context T). HasCompleted view text (steps z) (resolves z) true s old new found) e h

module _ {M T A : Type 0} where
  pub same_bytes : (t : Tokenizer M T A) (given : ParseState T A) → t.parse_state.now ≡ given → t.parse_state.now.bytes.now ≡ given.bytes.now
  same_bytes t given e = ap (λ (z : ParseState T A). z.bytes.now) e

  pub same_context : (t u : Tokenizer M T A) (given : ParseState T A) → t.parse_state.now ≡ u.parse_state.now → u.parse_state.now ≡ given
      → read_with t ≡ context given
  same_context t u given e f = ap (λ (z : ParseState T A). context z) (e ∙ f)
