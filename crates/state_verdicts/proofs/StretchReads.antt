-- A state that goes on at bytes of a sort goes over a stretch of them.
use Rattle.std.proofs.Common.{◌≡◌, ◌∙◌, ℕ, Bool, true, false, ◌==◌, List, Some, inl, inr, sym, ap}
use Rattle.state_verdicts.proofs.BlockPrelude.{as_byte, AtHand, cases_Bool, Config, eqb-true, Event, feed, is_feed, KeptState, Name, past_byte, plain, Point}
use Rattle.state_verdicts.proofs.BlockPrelude.{run, Text}
use Rattle.engine_programs.specs.Bodies.{Body}
use Rattle.engine_states.specs.declared.state.State.TheVariants as states
use Rattle.state_verdicts.specs.Machines.{GoesOnBy}
use Rattle.state_verdicts.specs.Stretch.{Stretch, ended, longer}
use Rattle.state_verdicts.proofs.MachineTurns.{and_on, byte_at, does_next, fed, stays}
use Rattle.state_verdicts.proofs.Standing.{Here, fed_here, past_here}

-- a byte of a sort without line feeds is none
pub apart_feed : (is : ℕ → Bool) → is 10 ≡ false → (b : ℕ) → is b ≡ true → (b == 10) ≡ false
apart_feed is none b h = elim (cases_Bool (b == 10)) [ inl e ↦ absurd (let f : true ≡ false = sym h ∙ (ap is (eqb-true b 10 e) ∙ none) in cc) | inr e ↦ e ]

module _ {W : Type 0} (bodies : Name → Body W) (text : Text) (name : Name) (is : ℕ → Bool) (no_feed : is 10 ≡ false)
    (does : (b : ℕ) (c : Config W) → c.current ≡ Some b → is b ≡ true → run (bodies name) c ≡ plain (past_byte c) (states.Next name))
    (c0 : Config W) (es : List Event) (k : KeptState) where
  -- where the state stands then
  pub record Over (c : Config W) (end : Point) : Type 0 where
    pub config : Config W
    pub goes : GoesOnBy bodies text c (states.Retry name) config (states.Retry name)
    pub at : AtHand text config end
    pub here : Here text c0 es k config
    pub apart : is_feed config.previous ≡ false

  pub over_stretch : {n : ℕ} {q end : Point} → Stretch text is n q end → (c : Config W) → AtHand text c q → Here text c0 es k c → is_feed c.previous ≡ false
      → Over c end
  over_stretch (ended stop) c at here apart =
      record { config = c; goes = stays bodies text c (states.Retry name); at = at; here = here; apart = apart }
  over_stretch (longer {b = b} {q = q} e h rest) c at here apart =
      let byte = byte_at at e in
      let o = over_stretch rest (feed text (past_byte c)) (fed text (past_byte c) q (at.next (as_byte b q) e))
      (fed_here text c0 (past_here text c0 here)) (ap is_feed byte ∙ apart_feed is no_feed b h) in record {
        config = o.config;
        goes = and_on bodies text (does_next bodies text name name c (past_byte c) (does b c byte h)) o.goes;
        at = o.at;
        here = o.here;
        apart = o.apart;
      }
