-- A state that goes on at columns of a sort goes over all of them.
use Rattle.std.proofs.Common.{◌≡◌, ◌∙◌, ℕ, Bool, true, false, List, [], ◌∷◌, drop, Some, inl, inr, refl, sym, ap, subst}
use Rattle.state_verdicts.proofs.BlockPrelude.{as_byte, AtHand, cases_Bool, Config, Event, feed, is_feed, KeptState, Name, past_byte, plain, Point, prefix_len}
use Rattle.state_verdicts.proofs.BlockPrelude.{run, Text, text_byte}
use Rattle.engine_programs.specs.Bodies.{Body}
use Rattle.engine_states.specs.declared.state.State.TheVariants as states
use Rattle.state_verdicts.specs.Columns.{SeesColumns, along, ended}
use Rattle.state_verdicts.specs.Machines.{GoesOnBy}
use Rattle.state_verdicts.proofs.LineCodes.{rest_more, rest_none}
use Rattle.state_verdicts.proofs.MachineTurns.{and_on, byte_at, does_next, fed, stays}
use Rattle.state_verdicts.proofs.Standing.{Here, KeepsFlags, fed_here, past_here}
use Rattle.state_verdicts.proofs.StretchReads.{apart_feed}

module _ {W : Type 0} (bodies : Name → Body W) (text : Text) (name : Name) (is sort : ℕ → Bool) (no_feed : is 10 ≡ false)
    (seen : (code : ℕ) → is (text_byte code) ≡ sort code)
    (does : (b : ℕ) (c : Config W) → c.current ≡ Some b → is b ≡ true → run (bodies name) c ≡ plain (past_byte c) (states.Next name))
    (c0 : Config W) (es : List Event) (k : KeptState) where
  -- where the state stands then
  pub record OverColumns (c : Config W) (codes : List ℕ) : Type 0 where
    pub config : Config W
    pub end : Point
    pub goes : GoesOnBy bodies text c (states.Retry name) config (states.Retry name)
    pub at : AtHand text config end
    pub here : Here text c0 es k config
    pub apart : is_feed config.previous ≡ false
    pub flags : KeepsFlags c config
    pub sees : SeesColumns text end (drop (prefix_len sort codes) codes)

  stands : (c : Config W) (p : Point) (codes : List ℕ) → SeesColumns text p codes → drop (prefix_len sort codes) codes ≡ codes → AtHand text c p
      → Here text c0 es k c → is_feed c.previous ≡ false → OverColumns c codes
  stands c p codes s none at here apart = record {
    config = c;
    end = p;
    goes = stays bodies text c (states.Retry name);
    at = at;
    here = here;
    apart = apart;
    flags = record { lazy = refl; pierce = refl };
    sees = subst (λ (l : List ℕ). SeesColumns text p l) (sym none) s;
  }

  pub over_columns : (codes : List ℕ) {p : Point} → SeesColumns text p codes → (c : Config W) → AtHand text c p → Here text c0 es k c
      → is_feed c.previous ≡ false → OverColumns c codes
  over_columns [] {p} (ended e) c at here apart = stands c p [] (ended e) refl at here apart
  over_columns (code ∷ cs) {p} (along {q = q} e s) c at here apart = elim (cases_Bool (sort code)) [
    | inl h ↦
        let byte = byte_at at e in
        let is_it : is (text_byte code) ≡ true = seen code ∙ h in
        let o = over_columns cs s (feed text (past_byte c)) (fed text (past_byte c) q (at.next (as_byte (text_byte code) q) e))
        (fed_here text c0 (past_here text c0 here)) (ap is_feed byte ∙ apart_feed is no_feed (text_byte code) is_it) in record {
          config = o.config;
          end = o.end;
          goes = and_on bodies text (does_next bodies text name name c (past_byte c) (does (text_byte code) c byte is_it)) o.goes;
          at = o.at;
          here = o.here;
          apart = o.apart;
          flags = record { lazy = o.flags.lazy; pierce = o.flags.pierce };
          sees = subst (λ (l : List ℕ). SeesColumns text o.end l) (sym (rest_more sort code cs h)) o.sees;
        }
    | inr h ↦ stands c p (code ∷ cs) (along e s) (rest_none sort code cs h) at here apart
  ]
