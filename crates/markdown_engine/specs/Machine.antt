-- What the calls of a tokenizer do.
use Rattle.std.specs.Prelude.{◌≡◌, ℕ, ◌+◌, ◌≤◌, ◌<◌, Bool, true, false, if◌then◌else◌, length, List, [], ◌∷◌, ◌++◌, map, OnOk, Option, None, Result, ◌⊎◌}
use Rattle.markdown_options.specs.declared.configuration.Constructs.{Constructs}
use Rattle.engine_events.specs.declared.event.Name.{Name}
use Rattle.engine_events.specs.declared.event.Kind.TheVariants.{Enter, Exit}
use Rattle.engine_states.specs.declared.state.State.{State}
use Rattle.engine_states.specs.declared.state.State.TheVariants as states
use Rattle.engine_events.specs.declared.event.Link.{Link}
use Rattle.engine_events.specs.Events.{event}
pub use Rattle.engine_states.specs.States.{IsRefused}
pub use Rattle.markdown_engine.specs.Reading.{past_byte}
use Rattle.markdown_engine.specs.declared.tokenizer.Tokenizer.{Tokenizer}
use Rattle.engine_states.specs.declared.subresult.Subresult.{Subresult}
use Rattle.engine_edits.specs.Edits.{edits_of}
use Rattle.markdown_engine.specs.KeptState.{kept_state, nothing_kept}
use Rattle.markdown_engine.specs.Context.{Context, context}
use Rattle.markdown_engine.specs.Resolving.{FoundLabels, ResolverResult, Resolves, resolution, found_in}
use Rattle.markdown_engine.specs.Reading.{Config, Effect, Frame, Steps, Outcome, Runs, end_state, mark, at_point, seen_as}
use Rattle.engine_states.specs.declared.resolve.Name.{Name as Resolver}
use Rattle.markdown_engine.specs.Resolvers.{with_first, with_last}
use Rattle.markdown_engine.specs.VirtualText.{Source, Text, Walks, is_before, is_feed, place_in, text_to}
use Rattle.engine_events.specs.declared.place.Point.{Point}
use Rattle.markdown_engine.specs.Laws.{HoldsAt, Ranks, remaining}
use Rattle.markdown_engine.specs.Order.{AreWhole, Reaches}
use Rattle.markdown_engine.specs.Turns.{Halt, halt_at, halted, range_start, turns}

module _ {M T A : Type 0} where
  abbrev pub config : Tokenizer M T A → Config M
  config t = record {
    events = t.events.items;
    point = t.point;
    next = t.next;
    line_start = t.line_start;
    previous = t.previous;
    current = t.current;
    tokenize_state = kept_state t.tokenize_state;
    map = edits_of t.map;
    resolvers = t.resolvers.items;
    interrupt = t.interrupt;
    lazy = t.lazy;
    concrete =
        t.concrete;
    pierce = t.pierce;
    machine = t.machine;
  }

  -- the same, with what is seen of the machine
  abbrev pub view_config : {V : Type 0} → (M → V) → Tokenizer M T A → Config V
  view_config view t = seen_as view (config t)

  -- what it reads from
  abbrev pub source : Tokenizer M T A → Source
  source t = record { bytes = t.parse_state.now.bytes.now; skips = t.skips.entries }

  -- where it reads, as bytes
  abbrev pub bytes_of : Tokenizer M T A → List ℕ
  bytes_of t = t.parse_state.now.bytes.now

  -- what it reads with
  abbrev pub read_with : Tokenizer M T A → Context T
  read_with t = context t.parse_state.now

  abbrev pub constructs_of : Tokenizer M T A → Constructs
  constructs_of t = (read_with t).options.constructs

  abbrev pub tables_of : Tokenizer M T A → T
  tables_of t = (read_with t).tables

  -- the labels of the definitions, and of the footnotes
  abbrev pub definitions_of : Tokenizer M T A → List (List ℕ)
  definitions_of t = (read_with t).definitions

  abbrev pub footnotes_of : Tokenizer M T A → List (List ℕ)
  footnotes_of t = (read_with t).footnotes

-- an index and a column of a tab there that are at or after others
pub record IsAfter (from to : ℕ × ℕ) : Type 0 where
  pub index : from.0 ≤ to.0
  pub column : from.0 ≡ to.0 → from.1 ≤ to.1

-- places to cut a text of so many bytes at, each at or after the one before
abbrev pub AreCuts : ℕ × ℕ → List (ℕ × ℕ) → ℕ → Type 0
AreCuts from [] size = Unit {0}
AreCuts from (c ∷ cs) size = IsAfter from c × (c.0 < size) × AreCuts c cs size

-- where a range begins: where reading is, or, if the range leaves a gap, over it at the range's start
abbrev pub Begins : Source → ℕ × ℕ → Point → Point → Type 0
Begins s from p q = let place = place_in s.skips p in ((is_before from place ≡ false) × (q ≡ p)) ⊎ ((is_before from place ≡ true) × Walks s.bytes from place q)

-- a text goes on after the end of a range: it has the same bytes, ends there or later, and up to there nothing else is skipped; with the end handed in it ends
-- right there
pub record GoesOn (s : Source) (to : ℕ × ℕ) (end : Bool) (more : Source) (limit : ℕ × ℕ) : Type 0 where
  pub bytes : more.bytes ≡ s.bytes
  pub after : IsAfter to limit
  pub starts : (p : Point) → is_before to p ≡ true → place_in more.skips p ≡ place_in s.skips p
  pub ends : end ≡ true → (more ≡ s) × (limit ≡ to)

module _ {M T A : Type 0} where
  -- what is read from stayed
  pub record Around (old new : Tokenizer M T A) : Type 0 where
    pub parse_state : new.parse_state.now ≡ old.parse_state.now
    pub skips : new.skips.entries ≡ old.skips.entries

  pub record OpensRange (from : ℕ × ℕ) (old new : Tokenizer M T A) : Type 0 where
    pub point : Point
    pub begins : Begins (source old) from old.point point
    pub forward : remaining (length old.parse_state.now.bytes.now) point ≤ remaining (length old.parse_state.now.bytes.now) old.point
    pub order : Reaches old.point point
    pub config : config new ≡ at_point point (config old)
    pub attempts : new.attempts.items ≡ old.attempts.items
    pub same : Around old new

  -- memory was refused, so that nothing can be read any more
  abbrev pub HasFailed : Tokenizer M T A → Type 0
  HasFailed t = t.failed ≡ true

  -- what was read is whole
  abbrev pub IsWhole : Tokenizer M T A → Type 0
  IsWhole t = AreWhole t.events.items t.point

  -- memory was refused, or what was read is whole
  abbrev pub IsWholeUnlessRefused : Tokenizer M T A → State → Type 0
  IsWholeUnlessRefused t s = IsRefused s ⊎ IsWhole t

  -- no attempt waits
  abbrev pub NothingWaits : Tokenizer M T A → Type 0
  NothingWaits t = t.attempts.items ≡ []

  -- the attempts that wait are the same
  abbrev pub KeepsAttempts : Tokenizer M T A → Tokenizer M T A → Type 0
  KeepsAttempts old new = new.attempts ≡ old.attempts

  -- nothing waits any more
  pub record HasEnded (t : Tokenizer M T A) (s : State) : Type 0 where
    pub attempts : NothingWaits t
    pub state : (s ≡ states.Ok) ⊎ (s ≡ states.Nok)

  -- what is read, and by which options and tables, is the same
  abbrev pub KeepsParseState : Tokenizer M T A → Tokenizer M T A → Type 0
  KeepsParseState old new = new.parse_state ≡ old.parse_state

  -- neither the text nor what is skipped was touched
  pub record SameText (old new : Tokenizer M T A) : Type 0 where
    pub parse_state : new.parse_state ≡ old.parse_state
    pub skips : new.skips ≡ old.skips

  -- a part of a call changed the configuration so
  pub record Became (c : Config M) (old new : Tokenizer M T A) : Type 0 where
    pub config : config new ≡ c
    pub attempts : KeepsAttempts old new
    pub text : SameText old new

  -- an attempt begins, unless memory is wanted; nothing else changes
  pub record Began {E : Type 0} (f : Frame M) (old new : Tokenizer M T A) (result : Result (Unit {0}) E) : Type 0 where
    pub config : config new ≡ config old
    pub text : SameText old new
    pub pushed : OnOk result (new.attempts.items ≡ old.attempts.items ++ mark f ∷ [])

  -- where `push` stops: at the range's end, or with nothing that waits
  abbrev pub HasReached : ℕ × ℕ → Tokenizer M T A → State → Type 0
  HasReached to t (states.Error m) = Unit {0}
  HasReached to t (states.Next n) = is_before to (place_in t.skips.entries t.point) ≡ false
  HasReached to t (states.Retry n) = ⊥
  HasReached to t states.Ok = NothingWaits t
  HasReached to t states.Nok = NothingWaits t

module _ {M V T A : Type 0} (view : M → V) where
  -- the machine may go on with a state
  abbrev pub IsValid : HoldsAt V → Tokenizer M T A → State → Type 0
  IsValid valid t s = valid (view_config view t) t.attempts.items s

  -- the same, with no attempt that waits
  abbrev pub IsValidAlone : HoldsAt V → Tokenizer M T A → State → Type 0
  IsValidAlone valid t s = valid (view_config view t) [] s

  -- the tokenizer failed, or the state is valid
  abbrev pub IsValidUnlessFailed : HoldsAt V → Tokenizer M T A → State → Type 0
  IsValidUnlessFailed valid t s = HasFailed t ⊎ IsValid valid t s

  -- memory was refused, or the state is valid
  abbrev pub IsValidUnlessRefused : HoldsAt V → Tokenizer M T A → State → Type 0
  IsValidUnlessRefused valid t s = IsRefused s ⊎ IsValid valid t s

  -- a call did what the step says
  pub record Did (e : Effect V) (old new : Tokenizer M T A) (s : State) : Type 0 where
    pub config : view_config view new ≡ e.config
    pub attempts : new.attempts.items ≡ old.attempts.items ++ map mark e.pushed
    pub state : s ≡ e.state

  -- or memory was wanted
  abbrev pub Shows : Effect V → Tokenizer M T A → Tokenizer M T A → State → Type 0
  Shows e old new s = Around old new × (IsRefused s ⊎ Did e old new s)

  -- what `push` leaves: reading a text from what is left is reading it from what was there
  pub record Goes (text : Text) (step : Steps V) (state : State) (old new : Tokenizer M T A) (s : State) : Type 0 where
    pub back : (d : Config V) (w : Bool) → Outcome text step new.attempts.items (view_config view new) [] s d w
        → Outcome text step old.attempts.items (view_config view old) [] state d w

  -- however the text goes on after the range
  abbrev pub GoesAll : Steps V → Source → ℕ × ℕ → Bool → State → Tokenizer M T A → Tokenizer M T A → State → Type 0
  GoesAll step s to end given old new state = (more : Source) (limit : ℕ × ℕ) → GoesOn s to end more limit → Goes (text_to more limit) step given old new state

  abbrev pub HasPushed : Steps V → ℕ × ℕ → Bool → State → Tokenizer M T A → Tokenizer M T A → State → Type 0
  HasPushed step to end given old new state = Around old new × (IsRefused state ⊎ GoesAll step (source old) to end given old new state)

  -- a range was read from its start
  abbrev pub HasPushedFrom : Steps V → ℕ × ℕ → ℕ × ℕ → State → Tokenizer M T A → Tokenizer M T A → State → Type 0
  HasPushedFrom step from to given old new state = (start : Tokenizer M T A) × OpensRange from old start × HasPushed step to false given start new state

  -- where a tokenizer is
  abbrev pub halt_of : Tokenizer M T A → State → Halt V
  halt_of t s = record { config = view_config view t; attempts = t.attempts.items; state = s }

  -- reading went on from here, up to where it stops; what is read from stayed
  pub record HasHalted (step : Context T → Steps V) (rank : Ranks T V) (to : ℕ × ℕ) (end : Bool) (from : Halt V) (old new : Tokenizer M T A)
      (s : State) : Type 0 where
    pub same : Around old new
    pub halt : let x = read_with old in halt_of new s ≡ halted (step x) (source old) to end (rank x) from

  -- a range was read from its start
  abbrev pub HaltsFrom : (Context T → Steps V) → Ranks T V → ℕ × ℕ → ℕ × ℕ → State → Tokenizer M T A → Tokenizer M T A → State → Type 0
  HaltsFrom step rank from to given old new s =
      HasHalted step rank to false (halt_at (range_start (source old) from old.point) (halt_of old given)) old new s

  -- the end of a text was read
  abbrev pub HaltsWell : (Context T → Steps V) → Ranks T V → ℕ × ℕ → State → Tokenizer M T A → Tokenizer M T A → Type 0
  HaltsWell step rank to given old new = HasHalted step rank to true (halt_of old given) old new states.Ok

  -- reading ended, and this is what it comes to
  pub record HasFlushed (text : Text) (step : Steps V) (given : State) (old new : Tokenizer M T A) (s : State) : Type 0 where
    pub well : Bool
    pub state : s ≡ end_state well
    pub outcome : Outcome text step old.attempts.items (view_config view old) [] given (view_config view new) well

  -- the same, and reading went well; then resolvers ran if that was asked for, and found this
  pub record HasCompleted (text : Text) (step : Steps V) (resolve : Resolves V) (all : Bool) (given : State) (old new : Tokenizer M T A)
      (found : FoundLabels) : Type 0 where
    pub read : Config V
    pub outcome : Outcome text step old.attempts.items (view_config view old) [] given read true
    pub config : view_config view new ≡ (resolution resolve all read).config
    pub labels : found ≡ (resolution resolve all read).found

  -- the same, with what the tokenizer reads with
  abbrev pub Completes : (Context T → Steps V) → (Context T → Resolves V) → ℕ × ℕ → Bool → State → Tokenizer M T A → Tokenizer M T A → FoundLabels → Type 0
  Completes step resolve to all given old new found =
      HasCompleted (text_to (source old) to) (step (read_with old)) (resolve (read_with old)) all given old new found

  -- resolvers left this, and found this
  pub record IsResolved (r : ResolverResult V) (new : Tokenizer M T A) (given : Subresult A) : Type 0 where
    pub config : view_config view new ≡ r.config
    pub found : found_in given ≡ r.found

  -- the text read at once
  pub record ReadWhole (from : Source) (step : Steps V) (given : State) (old new : Tokenizer M T A) (s : State) : Type 0 where
    pub well : Bool
    pub state : s ≡ end_state well
    pub runs : Runs (text_to from (length from.bytes, 0)) step (view_config view old) [] given (view_config view new) well

  -- what the loop of `push` keeps
  pub record Turn (valid : HoldsAt V) (step : Steps V) (to : ℕ × ℕ) (end : Bool) (first : Tokenizer M T A) (given : State) (t : Tokenizer M T A)
      (s : State) : Type 0 where
    pub same : Around first t
    pub holds : IsValidUnlessRefused valid t s
    pub reads : IsRefused s ⊎ GoesAll step (source first) to end given first t s
    pub turned : IsRefused s ⊎ ((k : ℕ) × (turns step (source first) to end k (halt_of first given) ≡ halt_of t s))

-- of a state that works on any machine: all of the machine is seen
abbrev pub Answers : {M T A : Type 0} → Effect M → Tokenizer M T A → Tokenizer M T A → State → Type 0
Answers e old new s = Shows (λ m. m) e old new s

-- the measure of the loop: a refusal is at the bottom
abbrev pub weight : State → ℕ → ℕ
weight (states.Error m) n = 0
weight (states.Next n) r = r + 1
weight (states.Retry n) r = r + 1
weight states.Ok r = r + 1
weight states.Nok r = r + 1

module _ {M : Type 0} where
  -- nothing was read
  abbrev pub fresh_config : Point → M → Config M
  fresh_config p machine = record {
    events = [];
    point = p;
    next = p;
    line_start = p;
    previous = None;
    current = None;
    tokenize_state = nothing_kept;
    map = [];
    resolvers = [];
    interrupt = false;
    lazy = false;
    concrete = false;
    pierce = false;
    machine = machine;
  }

  abbrev pub with_enter : Name → Option Link → Config M → Config M
  with_enter name link c = record c { events = c.events ++ event Enter name c.point link ∷ [] }

  abbrev pub with_exit : Name → Config M → Config M
  with_exit name c = record c { events = c.events ++ event Exit name (if is_feed c.previous then c.line_start else c.point) None ∷ [] }

  -- with a resolver registered, to run last or first
  abbrev pub to_run_last : Resolver → Config M → Config M
  to_run_last name c = record c { resolvers = with_last name c.resolvers }

  abbrev pub to_run_first : Resolver → Config M → Config M
  to_run_first name c = record c { resolvers = with_first name c.resolvers }

  -- an attempt that begins here
  abbrev pub frame_at : Bool → State → State → Config M → Frame M
  frame_at check ok nok c = record { check = check; ok = ok; nok = nok; start = c }

  -- a call that makes no attempt
  abbrev pub plain : Config M → State → Effect M
  plain c s = record { config = c; pushed = []; state = s }

  -- a call that makes one attempt last
  abbrev pub tries : State → State → Config M → State → Effect M
  tries ok nok c s = record { config = c; pushed = frame_at false ok nok c ∷ []; state = s }

  -- a call that looks ahead last
  abbrev pub checks : State → State → Config M → State → Effect M
  checks ok nok c s = record { config = c; pushed = frame_at true ok nok c ∷ []; state = s }
