-- No state of code or math changes whether the line is lazy.
use Rattle.std.proofs.Common.{◌≡◌, ◌∙◌, Bool, true, false, cond, if◌then◌else◌, List, [], ◌∷◌, Option, None, Some, ℕ, refl, sym}
use Rattle.state_verdicts.proofs.BlockPrelude.{Config, Context, feed, Flows, GoesOn, has, is_feed, Name, run, State, Text}
use Rattle.engine_programs.specs.Bodies.{AfterFeed, Answer, Body, Byte, Consume, Enter, EnterLink, Exit, Flag, Hold, Keep, Move, On, Register, RegisterFirst}
use Rattle.engine_programs.specs.Bodies.{Test, Tries, by_byte, step_by}
use Rattle.engine_states.specs.declared.state.Block.TheVariants as state_block
use Rattle.engine_states.specs.declared.state.Inline.TheVariants as state_inline
use Rattle.engine_states.specs.declared.state.Name.TheVariants.{Block, Inline}
use Rattle.engine_states.specs.declared.state.State.TheVariants as states
use Rattle.markdown_engine.specs.Reading.{Effect, Frame, Runs, ends-nok, ends-ok, first, hand_on, next, retry, second}
use Rattle.state_flow.specs.Flows.{flows_bodies}
use Rattle.state_verdicts.specs.BlockVerdicts.{Reads}
use Rattle.state_verdicts.specs.Machines.{ReadsBy}

-- the states of code and math, and those that they attempt
pub data RawState : Name → Type 0 where
  begins : RawState (Block state_block.RawFlowStart)
  before_open : RawState (Block state_block.RawFlowBeforeSequenceOpen)
  in_open : RawState (Block state_block.RawFlowSequenceOpen)
  before_info : RawState (Block state_block.RawFlowInfoBefore)
  in_info : RawState (Block state_block.RawFlowInfo)
  before_meta : RawState (Block state_block.RawFlowMetaBefore)
  in_meta : RawState (Block state_block.RawFlowMeta)
  at_break : RawState (Block state_block.RawFlowAtNonLazyBreak)
  closing : RawState (Block state_block.RawFlowCloseStart)
  before_close : RawState (Block state_block.RawFlowBeforeSequenceClose)
  in_close : RawState (Block state_block.RawFlowSequenceClose)
  after_close : RawState (Block state_block.RawFlowSequenceCloseAfter)
  before_line : RawState (Block state_block.RawFlowContentBefore)
  at_line : RawState (Block state_block.RawFlowContentStart)
  before_chunk : RawState (Block state_block.RawFlowBeforeContentChunk)
  in_chunk : RawState (Block state_block.RawFlowContentChunk)
  ends : RawState (Block state_block.RawFlowAfter)
  before_ending : RawState (Block state_block.NonLazyContinuationStart)
  after_ending : RawState (Block state_block.NonLazyContinuationAfter)
  before_white : RawState (Inline state_inline.SpaceOrTabStart)
  in_white : RawState (Inline state_inline.SpaceOrTabInside)
  after_white : RawState (Inline state_inline.SpaceOrTabAfter)

-- reading ends, or goes on with one of them
abbrev pub Within : State → Type 0
Within (states.Next n) = RawState n
Within (states.Retry n) = RawState n
Within s = Unit {0}

module _ {W : Type 0} where
  -- what is done goes on with them, and leaves it as it is whether the line is lazy
  abbrev Stays : Body W → Type 0
  Stays (Answer s) = Within s
  Stays (Consume b) = Stays b
  Stays (Enter t b) = Stays b
  Stays (EnterLink t f b) = Stays b
  Stays (Exit t b) = Stays b
  Stays (Keep f same b) = Stays b
  Stays (Hold i name b) = Stays b
  Stays (Flag f b) = ((c : Config W) → (f c).lazy ≡ c.lazy) × Stays b
  Stays (Move f b) = Stays b
  Stays (Register r b) = Stays b
  Stays (RegisterFirst r b) = Stays b
  Stays (Tries check ok nok s) = Within ok × Within nok × Within s
  Stays (Byte a b) = Stays a × Stays b
  Stays (On p a b) = Stays a × Stays b
  Stays (AfterFeed a b) = Stays a × Stays b
  Stays (Test t a b) = Stays a × Stays b

  -- where each of these attempts ends, reading goes on with them
  abbrev Waits : List (Frame W) → Type 0
  Waits [] = Unit {0}
  Waits (f ∷ fs) = (Within f.ok × Within f.nok) × Waits fs

  -- what was done goes on with them, and left it as it was whether the line is lazy
  record Kept (lazy : Bool) (e : Effect W) : Type 0 where
    pub same : e.config.lazy ≡ lazy
    pub on : Within e.state
    pub waits : Waits e.pushed

  by_test : (l is : Bool) (a b : Effect W) → Kept l a → Kept l b → Kept l (if is then a else b)
  by_test l true a b h k = h
  by_test l false a b h k = k

  by_current : (l : Bool) (v : Option ℕ) (a b : Effect W) → Kept l a → Kept l b → Kept l (by_byte v a b)
  by_current l None a b h k = h
  by_current l (Some v) a b h k = k

  runs_on : (b : Body W) (c : Config W) (l : Bool) → Stays b → c.lazy ≡ l → Kept l (run b c)
  runs_on (Answer s) c l h e = record { same = e; on = h; waits = tt }
  runs_on (Consume b) c l h e = runs_on b _ l h e
  runs_on (Enter t b) c l h e = runs_on b _ l h e
  runs_on (EnterLink t f b) c l h e = runs_on b _ l h e
  runs_on (Exit t b) c l h e = runs_on b _ l h e
  runs_on (Keep f same b) c l h e = runs_on b _ l h e
  runs_on (Hold i name b) c l h e = runs_on b _ l h e
  runs_on (Flag f b) c l h e = runs_on b _ l h.1 (h.0 c ∙ e)
  runs_on (Move f b) c l h e = runs_on b _ l h e
  runs_on (Register r b) c l h e = runs_on b _ l h e
  runs_on (RegisterFirst r b) c l h e = runs_on b _ l h e
  runs_on (Tries check ok nok s) c l h e = record { same = e; on = h.2; waits = ((h.0, h.1), tt) }
  runs_on (Byte a b) c l h e = by_current l c.current (run a c) (run b c) (runs_on a c l h.0 e) (runs_on b c l h.1 e)
  runs_on (On p a b) c l h e = by_test l (has p c.current) (run a c) (run b c) (runs_on a c l h.0 e) (runs_on b c l h.1 e)
  runs_on (AfterFeed a b) c l h e = by_test l (is_feed c.previous) (run a c) (run b c) (runs_on a c l h.0 e) (runs_on b c l h.1 e)
  runs_on (Test t a b) c l h e = by_test l (t c) (run a c) (run b c) (runs_on a c l h.0 e) (runs_on b c l h.1 e)

  success : (f : Frame W) (d : Config W) (is : Bool) → (cond is (hand_on f.start d) d).lazy ≡ d.lazy
  success f d true = refl
  success f d false = refl

  module _ (bodies : Name → Body W) (stay : (n : Name) → RawState n → Stays (bodies n)) (text : Text) where
    stays_lazy : {c d : Config W} {fs : List (Frame W)} {s : State} {v : Bool} → Runs text (step_by bodies) c fs s d v → Within s → Waits fs → d.lazy ≡ c.lazy
    stays_lazy ends-ok h k = refl
    stays_lazy ends-nok h k = refl
    stays_lazy {c} (next {n = n} r) h k =
        let e = runs_on (bodies n) (feed text c) c.lazy (stay n h) refl in stays_lazy r e.on e.waits ∙ e.same
    stays_lazy {c} (retry {n = n} r) h k = let e = runs_on (bodies n) c c.lazy (stay n h) refl in stays_lazy r e.on e.waits ∙ e.same
    stays_lazy (first {d = d} {f = f} r t) h k = stays_lazy t k.0.0 tt ∙ (success f d f.check ∙ stays_lazy r h k.1)
    stays_lazy (second r t) h k = stays_lazy t k.0.1 tt ∙ stays_lazy r h k.1

module _ {T : Type 0} (x : Context T) where
  -- over spaces and tabs, if there are any
  abbrev over_them : {n : Name} → RawState n → (RawState n × Unit {0} × RawState (Inline state_inline.SpaceOrTabStart)) × RawState n
  over_them h = ((h, tt, before_white), h)

  -- to the next line, or to the end
  abbrev on_lines : RawState (Block state_block.RawFlowAtNonLazyBreak) × RawState (Block state_block.RawFlowAfter)
      × RawState (Block state_block.NonLazyContinuationStart)
  on_lines = (at_break, ends, before_ending)

  raw_stays : (n : Name) → RawState n → Stays (flows_bodies x n)
  unfolding flows_bodies
  raw_stays n begins = before_open
  raw_stays n before_open = ((in_open, tt), ((in_open, tt), ((in_open, tt), tt)))
  raw_stays n in_open = ((tt, (over_them before_meta, over_them before_info)), (in_open, (tt, (over_them before_meta, over_them before_info))))
  raw_stays n before_info = (((λ c. refl), on_lines), (((λ c. refl), on_lines), (tt, in_info)))
  raw_stays n in_info = (before_info, (before_info, (over_them before_meta, (tt, in_info))))
  raw_stays n before_meta = (before_info, (before_info, (tt, in_meta)))
  raw_stays n in_meta = (before_info, (before_info, (over_them before_info, (tt, in_meta))))
  raw_stays n at_break = (before_line, ends)
  raw_stays n closing = over_them before_close
  raw_stays n before_close = (tt, (in_close, tt))
  raw_stays n in_close = ((tt, over_them after_close), (in_close, (tt, over_them after_close)))
  raw_stays n after_close = (tt, (tt, tt))
  raw_stays n before_line = ((ends, at_line, closing), tt)
  raw_stays n at_line = (before_chunk, over_them before_chunk)
  raw_stays n before_chunk = (on_lines, (on_lines, in_chunk))
  raw_stays n in_chunk = (before_chunk, (before_chunk, in_chunk))
  raw_stays n ends = ((λ c. refl), tt)
  raw_stays n before_ending = (after_ending, tt)
  raw_stays n after_ending = ((tt, tt), (tt, tt))
  raw_stays n before_white = (tt, (in_white, tt))
  raw_stays n in_white = (after_white, (in_white, after_white))
  raw_stays n after_white = tt

  module _ (text : Text) where
    -- reading among them leaves it as it was
    reads_lazy : (c d : Config Flows) (s : State) (w : Bool) → Reads x text c s d w → Within s → d.lazy ≡ c.lazy
    unfolding ReadsBy
    reads_lazy c d s w r h = stays_lazy (flows_bodies x) raw_stays text r h tt

    -- so does reading that goes on among them
    pub still_lazy : {c d : Config Flows} {s t : State} (e : Config Flows) (w : Bool) → Within s → Within t → GoesOn x text c s d t → Reads x text d t e w
        → d.lazy ≡ c.lazy
    still_lazy {c} {d} {s} {t} e w h k g r = sym (reads_lazy d e t w r k) ∙ reads_lazy c e s w (g.there e w r) h
