-- What stands while an attempt is read by any machine: its events so far, and what is kept.
use Rattle.std.proofs.Common.{◌≡◌, ◌∙◌, Bool, false, if◌then◌else◌, List, [], ◌∷◌, ◌++◌, None, Some, ap, refl, append_assoc}
use Rattle.state_verdicts.proofs.Prelude.{Config, event, Event, EventName, feed, is_feed, KeptState, past_byte, Point, Text, with_enter, with_exit}
use Rattle.engine_events.specs.declared.event.Kind.TheVariants.{Enter, Exit}
use Rattle.engine_events.specs.declared.event.Name.TheVariants as names
use Rattle.state_verdicts.specs.WhiteSpace.{ending_events}

-- over a line ending
abbrev pub past_ending : {W : Type 0} → Config W → Config W
past_ending c = with_exit names.LineEnding (past_byte (with_enter names.LineEnding None c))

-- two more events
pub two : (l : List Event) (a b : Event) → (l ++ a ∷ []) ++ b ∷ [] ≡ l ++ (a ∷ b ∷ [])
two l a b = simp append_assoc refl

-- the events of a line ending
pub ended_events : {W : Type 0} (c : Config W) (p q : Point) → c.current ≡ Some 10 → c.point ≡ p → c.next ≡ q
    → (past_ending c).events ≡ c.events ++ ending_events p q
ended_events c p q h at next =
    ap (λ (b : Bool). (c.events ++ event Enter names.LineEnding c.point None ∷ [])
    ++ event Exit names.LineEnding (if b then (if b then c.next else c.line_start) else c.next) None ∷ []) (ap is_feed h)
    ∙ (ap (λ (r : Point). (c.events ++ event Enter names.LineEnding r None ∷ []) ++ event Exit names.LineEnding c.next None ∷ []) at
    ∙ (ap (λ (r : Point). (c.events ++ event Enter names.LineEnding p None ∷ []) ++ event Exit names.LineEnding r None ∷ []) next
    ∙ two c.events (event Enter names.LineEnding p None) (event Exit names.LineEnding q None)))

-- how the text stands among its containers is as before
pub record KeepsFlags {W : Type 0} (c d : Config W) : Type 0 where
  pub lazy : d.lazy ≡ c.lazy
  pub pierce : d.pierce ≡ c.pierce

module _ {W : Type 0} (text : Text) (c0 : Config W) where
  -- these events stand, and this is kept
  pub record Here (es : List Event) (k : KeptState) (c : Config W) : Type 0 where
    pub events : c.events ≡ es
    pub kept : c.tokenize_state ≡ k
    pub map : c.map ≡ c0.map
    pub resolvers : c.resolvers ≡ c0.resolvers

  pub enters : {es : List Event} {k : KeptState} {c : Config W} {p : Point} (name : EventName) → Here es k c → c.point ≡ p
      → Here (es ++ event Enter name p None ∷ []) k (with_enter name None c)
  enters {es} {k} {c} {p} name h at = record {
    events = ap (λ (q : Point). c.events ++ event Enter name q None ∷ []) at ∙ ap (λ (l : List Event). l ++ event Enter name p None ∷ []) h.events;
    kept = h.kept;
    map = h.map;
    resolvers = h.resolvers;
  }

  pub exits : {es : List Event} {k : KeptState} {c : Config W} {p : Point} (name : EventName) → Here es k c → is_feed c.previous ≡ false → c.point ≡ p
      → Here (es ++ event Exit name p None ∷ []) k (with_exit name c)
  exits {es} {k} {c} {p} name h apart at = record {
    events =
        ap (λ (b : Bool). c.events ++ event Exit name (if b then c.line_start else c.point) None ∷ []) apart
        ∙ (ap (λ (q : Point). c.events ++ event Exit name q None ∷ []) at ∙ ap (λ (l : List Event). l ++ event Exit name p None ∷ []) h.events);
    kept = h.kept;
    map = h.map;
    resolvers = h.resolvers;
  }

  -- the same with something else kept
  pub keeping_here : {es : List Event} {k : KeptState} {c : Config W} (f : KeptState → KeptState) (goal : KeptState) → f k ≡ goal → Here es k c
      → Here es goal (record c { tokenize_state = f c.tokenize_state })
  keeping_here f goal e h = record { events = h.events; kept = ap f h.kept ∙ e; map = h.map; resolvers = h.resolvers }

  -- over a byte
  pub past_here : {es : List Event} {k : KeptState} {c : Config W} → Here es k c → Here es k (past_byte c)
  past_here h = record { events = h.events; kept = h.kept; map = h.map; resolvers = h.resolvers }

  -- the next one is handed in
  pub fed_here : {es : List Event} {k : KeptState} {c : Config W} → Here es k c → Here es k (feed text c)
  fed_here h = record { events = h.events; kept = h.kept; map = h.map; resolvers = h.resolvers }

  -- an event round a byte that ends no line
  pub around_here : {es : List Event} {k : KeptState} {c : Config W} {p q : Point} (name : EventName) → Here es k c → c.point ≡ p → c.next ≡ q
      → is_feed c.current ≡ false
      → Here ((es ++ event Enter name p None ∷ []) ++ event Exit name q None ∷ []) k (with_exit name (past_byte (with_enter name None c)))
  around_here name h at next apart = exits name (past_here (enters name h at)) apart next

  -- over a line ending
  pub ending_here : {es : List Event} {k : KeptState} {c : Config W} {p q : Point} → Here es k c → c.current ≡ Some 10 → c.point ≡ p → c.next ≡ q
      → Here (es ++ ending_events p q) k (past_ending c)
  ending_here {c = c} {p = p} {q = q} h feed_is at next = record {
    events = ended_events c p q feed_is at next ∙ ap (λ (l : List Event). l ++ ending_events p q) h.events;
    kept = h.kept;
    map = h.map;
    resolvers = h.resolvers;
  }
