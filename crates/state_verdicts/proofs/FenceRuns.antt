-- The bytes of an opening fence.
use Rattle.std.proofs.Common.{◌≡◌, ◌∙◌, ℕ, suc, ◌+◌, min, true, false, ◌==◌, List, [], ◌∷◌, drop, Some, inl, inr, refl, sym, ap, subst, arith}
use Rattle.state_verdicts.proofs.BlockPrelude.{after_line, as_byte, AtHand, byte, cases_Bool, Config, Context, Event, feed, Flows, GoesOn, is_eol, is_feed}
use Rattle.state_verdicts.proofs.BlockPrelude.{KeptState, line_of, more, no_limit, nothing, Point, Sees, tab, Text, text_byte}
use Rattle.definition_text.specs.Runs.{after_run, run as run_length}
use Rattle.engine_states.specs.declared.state.State.TheVariants as states
use Rattle.state_verdicts.proofs.BlockTurns.{and_on, byte_at, does_next, fed, stays}
use Rattle.state_verdicts.proofs.FenceStates as steps
use Rattle.state_verdicts.proofs.LineCodes.{after_more, line_more, line_none, prefix_more, prefix_none, rest_more}
use Rattle.state_verdicts.proofs.Markers.{Marker, marker_inner, no_feed_at, white_apart}
use Rattle.state_verdicts.proofs.Standing.{Here}

module _ {T : Type 0} (x : Context T) (text : Text) (c0 : Config Flows) (m : ℕ) (marker : Marker m) (k : KeptState) (es : List Event) where
  -- what is kept: the byte, how many there are, and how many columns of white space may follow
  abbrev pub fenced : ℕ → ℕ → KeptState
  fenced size columns = record k { marker = m; size = size; size_c = columns }

  -- at a place after so many bytes of the fence
  pub record Opening (n : ℕ) (c : Config Flows) (p : Point) : Type 0 where
    pub columns : ℕ
    pub at : AtHand text c p
    pub here : Here text c0 es (fenced (min n no_limit) columns) c
    pub apart : is_feed c.previous ≡ false

  -- the fence is behind
  pub record Opened (c : Config Flows) (n : ℕ) (codes : List ℕ) : Type 0 where
    pub config : Config Flows
    pub mid : Point
    pub rest : List ℕ
    pub goes : GoesOn x text c (states.Retry steps.sequence) config (states.Retry steps.sequence)
    pub opening : Opening (n + run_length m (line_of codes)) config mid
    pub sees : Sees text mid rest
    pub is : rest ≡ drop (run_length m (line_of codes)) codes
    pub line : line_of rest ≡ after_run m (line_of codes)
    pub same : after_line rest ≡ after_line codes
    pub stop : run_length m (line_of rest) ≡ 0

  stops : (c : Config Flows) (n : ℕ) (p : Point) (codes : List ℕ) → Opening n c p → Sees text p codes → run_length m (line_of codes) ≡ 0 → Opened c n codes
  stops c n p codes h s none = record {
    config = c;
    mid = p;
    rest = codes;
    goes = stays x text c (states.Retry steps.sequence);
    opening = subst (λ (i : ℕ). Opening i c p) (let e : n ≡ n + run_length m (line_of codes) = omega (arith, none) in e) h;
    sees = s;
    is = ap (λ (i : ℕ). drop i codes) (sym none);
    line = ap (λ (i : ℕ). drop i (line_of codes)) (sym none);
    same = refl;
    stop = none;
  }

  byte_is : {n : ℕ} {c : Config Flows} {p : Point} → Opening n c p → c.tokenize_state.marker ≡ m
  byte_is h = ap (λ (s : KeptState). s.marker) h.here.kept

  longer_is : (n b : ℕ) (c : Config Flows) (p q : Point) → Opening n c p → text.byte (text.start p) ≡ Some (as_byte b q) → (b == m) ≡ true
      → Opening (n + 1) (feed text (steps.longer c)) q
  longer_is n b c p q h e is = record {
    columns = h.columns;
    at = fed text (steps.longer c) q (h.at.next (as_byte b q) e);
    here = record {
      events = h.here.events;
      kept = ap (λ (s : KeptState). record s { size = more s.size }) h.here.kept
          ∙ ap (λ (i : ℕ). fenced i h.columns) (let j : more (min n no_limit) ≡ min (n + 1) no_limit = omega arith in j);
      map = h.here.map;
      resolvers = h.here.resolvers;
    };
    apart = ap is_feed (byte_at h.at e) ∙ no_feed_at m marker b is;
  }

  no_marker : (code : ℕ) (cs : List ℕ) → (code == m) ≡ false → run_length m (line_of (code ∷ cs)) ≡ 0
  no_marker code cs other = elim (cases_Bool (is_eol code)) [
    | inl eol ↦ ap (run_length m) (line_none code cs eol)
    | inr inner ↦ ap (run_length m) (line_more code cs inner) ∙ prefix_none (λ b. b == m) code (line_of cs) other
  ]

  -- over the fence
  pub over_fence : (codes : List ℕ) {p : Point} → Sees text p codes → (n : ℕ) (c : Config Flows) → Opening n c p → Opened c n codes
  over_fence [] {p} (nothing e) n c h = stops c n p [] h (nothing e) refl
  over_fence (code ∷ cs) {p} (byte {q = q} apart e s) n c h = elim (cases_Bool (code == m)) [
    | inl is ↦
        let inner = marker_inner m marker code is in
        let seen : (text_byte code == m) ≡ true = marker.itself code ∙ is in
        let l = line_more code cs inner in
        let size : run_length m (line_of (code ∷ cs)) ≡ suc (run_length m (line_of cs)) =
        ap (run_length m) l ∙ prefix_more (λ b. b == m) code (line_of cs) is in
        let o = over_fence cs s (n + 1) (feed text (steps.longer c)) (longer_is n (text_byte code) c p q h e seen) in record {
          config = o.config;
          mid = o.mid;
          rest = o.rest;
          goes = and_on x text (does_next x text steps.sequence steps.sequence c (steps.longer c) (steps.sequence_longer x (text_byte code) c (byte_at h.at e)
              (ap (λ (i : ℕ). text_byte code == i) (byte_is h) ∙ seen))) o.goes;
          opening = subst (λ (i : ℕ). Opening i o.config o.mid)
              (let j : n + 1 + run_length m (line_of cs) ≡ n + run_length m (line_of (code ∷ cs)) = omega (arith, size) in j) o.opening;
          sees = o.sees;
          is = o.is ∙ ap (λ (i : ℕ). drop i (code ∷ cs)) (sym size);
          line = o.line ∙ sym (ap (after_run m) l ∙ rest_more (λ b. b == m) code (line_of cs) is);
          same = o.same ∙ sym (after_more code cs inner);
          stop = o.stop;
        }
    | inr other ↦ stops c n p (code ∷ cs) h (byte apart e s) (no_marker code cs other)
  ]
  over_fence (code ∷ cs) {p} (tab most e f s) n c h = stops c n p (9 ∷ cs) h (tab most e f s) (no_marker 9 cs (white_apart m marker 9 refl))
