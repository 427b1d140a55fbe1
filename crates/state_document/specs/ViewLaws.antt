-- What a state that doesn't ask the machine does is what is seen of it.
use Rattle.std.proofs.Common.{◌≡◌, ◌∙◌, ℕ, Bool, true, false, ◌++◌, map, List, [], ◌∷◌, Option, None, Some, ◌⊎◌, refl, sym, ap, subst, inl, inr, if◌then◌else◌}
use Rattle.std.proofs.lemmas.Bool.{and_parts}
use Rattle.engine_states.specs.declared.state.Block.{Block as BlockName}
use Rattle.engine_states.specs.declared.state.Block.TheVariants as state_block
use Rattle.engine_states.specs.declared.state.Inline.{Inline as InlineName}
use Rattle.engine_states.specs.declared.state.Inline.TheVariants as state_inline
use Rattle.engine_states.specs.declared.state.State.{State}
use Rattle.markdown_engine.specs.declared.attempt.Attempt.{Attempt}
use Rattle.markdown_engine.specs.declared.tokenizer.Tokenizer.{Tokenizer}
use Rattle.markdown_engine.specs.Context.{Context}
use Rattle.markdown_engine.specs.Machine.{Did, IsRefused, config, view_config}
use Rattle.markdown_engine.specs.Reading.{Config, Effect, Frame, mark, seen_as}
use Rattle.markdown_engine.specs.VirtualText.{is_feed}
use Rattle.engine_programs.specs.Bodies.{Body, Answer, Consume, Enter, EnterLink, Exit, Keep, Hold, Flag, Move}
use Rattle.engine_programs.specs.Bodies.{Register, RegisterFirst, Tries, Byte, On, AfterFeed, Test, by_byte, flagging, has, holding, keeping, name_of, run}
use Rattle.engine_programs.specs.Stacks.{Does}
use Rattle.markdown_engine.specs.Machine.{past_byte, to_run_first, to_run_last, with_enter, with_exit}
use Rattle.state_labels.specs.LabelStates.{label_body}
use Rattle.state_flow_leaves.specs.LeavesStates.{leaves_body}
use Rattle.state_containers.specs.ContainerStates.{container_body}
use Rattle.state_document.specs.Views.{Sees, moves_none, through}

module _ {M V : Type 0} (view : M → V) where
  abbrev frame_seen : Frame M → Frame V
  frame_seen f = record { check = f.check; ok = f.ok; nok = f.nok; start = seen_as view f.start }

  abbrev effect_seen : Effect M → Effect V
  effect_seen e = record { config = seen_as view e.config; pushed = map frame_seen e.pushed; state = e.state }

  marks_seen : (fs : List (Frame M)) → map mark (map frame_seen fs) ≡ map mark fs
  marks_seen [] = refl
  marks_seen (f ∷ fs) = ap (λ (marks : List Attempt). mark f ∷ marks) (marks_seen fs)

  seen_by_byte : (v : Option ℕ) (a b : Effect M) (k l : Effect V) → effect_seen a ≡ k → effect_seen b ≡ l → effect_seen (by_byte v a b) ≡ by_byte v k l
  seen_by_byte None a b k l h g = h
  seen_by_byte (Some byte) a b k l h g = g

  seen_if : (t : Bool) (a b : Effect M) (k l : Effect V) → effect_seen a ≡ k → effect_seen b ≡ l
      → effect_seen (if t then a else b) ≡ (if t then k else l)
  seen_if true a b k l h g = h
  seen_if false a b k l h g = g

  -- what the body does to what is seen
  run_seen : (b : Body V) → moves_none b ≡ true → (c : Config M) → effect_seen (run (through view b) c) ≡ run b (seen_as view c)
  run_seen (Answer s) h c = refl
  run_seen (Consume b) h c = run_seen b h (past_byte c)
  run_seen (Enter t b) h c = run_seen b h (with_enter (name_of c.tokenize_state t) None c)
  run_seen (EnterLink t f b) h c = run_seen b h (with_enter (name_of c.tokenize_state t) (f (seen_as view c)) c)
  run_seen (Exit t b) h c = run_seen b h (with_exit (name_of c.tokenize_state t) c)
  run_seen (Keep f same b) h c = run_seen b h (keeping (λ d. f (seen_as view d)) c)
  run_seen (Hold i name b) h c = run_seen b h (holding i name c)
  run_seen (Flag f b) h c = run_seen b h (flagging (λ d. f (seen_as view d)) c)
  run_seen (Move f b) h c = absurd (let g : false ≡ true = h in cc)
  run_seen (Register r b) h c = run_seen b h (to_run_last r c)
  run_seen (RegisterFirst r b) h c = run_seen b h (to_run_first r c)
  run_seen (Tries check ok nok s) h c = refl
  run_seen (Byte a b) h c = let p = and_parts (moves_none a) (moves_none b) h in
      seen_by_byte c.current _ _ _ _ (run_seen a p.0 c) (run_seen b p.1 c)
  run_seen (On p a b) h c = let q = and_parts (moves_none a) (moves_none b) h in
      seen_if (has p c.current) _ _ _ _ (run_seen a q.0 c) (run_seen b q.1 c)
  run_seen (AfterFeed a b) h c = let p = and_parts (moves_none a) (moves_none b) h in
      seen_if (is_feed c.previous) _ _ _ _ (run_seen a p.0 c) (run_seen b p.1 c)
  run_seen (Test t a b) h c = let p = and_parts (moves_none a) (moves_none b) h in
      seen_if (t (seen_as view c)) _ _ _ _ (run_seen a p.0 c) (run_seen b p.1 c)

  module _ {T A : Type 0} (old new : Tokenizer M T A) (s : State) where
    did_seen : (b : Body V) → moves_none b ≡ true → Did (λ m. m) (run (through view b) (config old)) old new s → Did view (run b (view_config view old)) old new s
    did_seen b h d = let seen = run_seen b h (config old) in record {
      config = ap (seen_as view) d.config ∙ ap (λ (e : Effect V). e.config) seen;
      attempts = d.attempts ∙ ap (λ (marks : List Attempt). old.attempts.items ++ marks)
          (sym (marks_seen (run (through view b) (config old)).pushed) ∙ ap (λ (e : Effect V). map mark e.pushed) seen);
      state = d.state ∙ ap (λ (e : Effect V). e.state) seen;
    }

    or_did : (b : Body V) → moves_none b ≡ true → IsRefused s ⊎ Did (λ m. m) (run (through view b) (config old)) old new s
        → IsRefused s ⊎ Did view (run b (view_config view old)) old new s
    or_did b h (inl r) = inl r
    or_did b h (inr d) = inr (did_seen b h d)

    -- a state that does a body does what is seen of it
    pub sees : (a : Body M) (b : Body V) → a ≡ through view b → moves_none b ≡ true → Does a old new s → Sees view b old new s
    sees a b e h d = let whole = subst (λ (w : Body M). Does w old new s) e d in (whole.0, or_did b h whole.1)

-- ---- the states of other crates that documents stand on

module _ {T M V : Type 0} (view : M → V) (x : Context T) where
  containers_through : (n : BlockName) → container_body {T = T} {M = M} x n ≡ through view (container_body {T = T} {M = V} x n)
  containers_through state_block.BlockQuoteStart = refl
  containers_through n = refl

  leaves_through : (n : BlockName) → leaves_body {T = T} {M = M} x n ≡ through view (leaves_body {T = T} {M = V} x n)
  leaves_through state_block.BlankLineStart = refl
  leaves_through n = refl

  labels_through : (n : InlineName) → label_body {T = T} {M = M} x n ≡ through view (label_body {T = T} {M = V} x n)
  labels_through state_inline.LabelStart = refl
  labels_through n = refl

module _ {T : Type 0} (V : Type 0) (x : Context T) where
  pub containers_move_none : (n : BlockName) → moves_none {V = V} (container_body x n) ≡ true
  containers_move_none state_block.BlockQuoteStart = refl
  containers_move_none n = refl

  pub leaves_move_none : (n : BlockName) → moves_none {V = V} (leaves_body x n) ≡ true
  leaves_move_none state_block.BlankLineStart = refl
  leaves_move_none n = refl

  pub labels_move_none : (n : InlineName) → moves_none {V = V} (label_body x n) ≡ true
  labels_move_none state_inline.LabelStart = refl
  labels_move_none n = refl

module _ {M V T A : Type 0} (view : M → V) (old new : Tokenizer M T A) (s : State) (x : Context T) where
  pub container_sees : (n : BlockName) → Does (container_body x n) old new s → Sees view (container_body x n) old new s
  container_sees n d = sees view old new s (container_body x n) (container_body x n) (containers_through view x n) (containers_move_none V x n) d

  pub leaf_sees : (n : BlockName) → Does (leaves_body x n) old new s → Sees view (leaves_body x n) old new s
  leaf_sees n d = sees view old new s (leaves_body x n) (leaves_body x n) (leaves_through view x n) (leaves_move_none V x n) d

  pub label_sees : (n : InlineName) → Does (label_body x n) old new s → Sees view (label_body x n) old new s
  label_sees n d = sees view old new s (label_body x n) (label_body x n) (labels_through view x n) (labels_move_none V x n) d
