-- Spaces and tabs up to the end of a line: what a state comes to that goes over them, if there are any, to a state that wants the end.
use Rattle.std.proofs.Common.{◌≡◌, ◌∙◌, ℕ, ◌≤◌, ◌⊎◌, Bool, true, false, not, ◌==◌, ◌&&◌, ◌||◌, nat_lt, List, [], ◌∷◌, ◌++◌, Some, None, inl, inr}
use Rattle.std.proofs.Common.{refl, sym, ap, subst, arith, append_assoc, append-nil}
use Rattle.state_verdicts.proofs.BlockPrelude.{after_line, as_byte, AtHand, bare, byte, byte_of, cases_Bool, Config, event, Event, feed, has, indent, is_eol}
use Rattle.state_verdicts.proofs.BlockPrelude.{is_feed, is_white, KeptState, line_of, LineEnds, list_all, lt-ltb, Name, no_limit, nothing, part, plain, Point}
use Rattle.state_verdicts.proofs.BlockPrelude.{run, Sees}
use Rattle.state_verdicts.proofs.BlockPrelude.{SkipsOnce, tab, Text, text_byte, tries}
use Rattle.engine_events.specs.declared.event.Kind.TheVariants.{Enter, Exit}
use Rattle.engine_events.specs.declared.event.Name.TheVariants as names
use Rattle.engine_programs.specs.Bodies.{Body}
use Rattle.engine_states.specs.declared.state.Inline.TheVariants as state_inline
use Rattle.engine_states.specs.declared.state.State.TheVariants as states
use Rattle.state_verdicts.specs.Lines.{has_ending, is_filled}
use Rattle.state_verdicts.specs.Machines.{GoesOnBy}
use Rattle.state_verdicts.specs.WhiteSpace.{white_events, white_if}
use Rattle.state_verdicts.proofs.LineCodes.{after_bare, after_none, bare_apart, blank_bare, line_more, line_none, none_white, prefix_more}
use Rattle.state_verdicts.proofs.LineCodes.{weight, white_within}
use Rattle.state_verdicts.proofs.MachineTurns.{and_on, byte_at, does, end_at, fed_again, feeds, still_at, tried}
use Rattle.state_verdicts.proofs.Seen.{seen_eol, seen_feed}
use Rattle.state_verdicts.proofs.Standing.{Here, fed_here}
use Rattle.state_verdicts.proofs.WhiteReads.{Attempted, ReadsWhite, attempted, spaced}

-- a state that fails but at the end of the line, which may be that of the text
pub record WantsEnd {W : Type 0} (bodies : Name → Body W) : Type 0 where
  pub name : Name
  pub may_end : Bool
  pub stops : (b : ℕ) (c : Config W) → c.current ≡ Some b → (b == 10) ≡ false → run (bodies name) c ≡ plain c states.Nok
  pub stops_at_end : may_end ≡ false → (c : Config W) → c.current ≡ None → run (bodies name) c ≡ plain c states.Nok

or_true : (b : Bool) → (b || true) ≡ true
or_true true = refl
or_true false = refl

pub and_true : (b : Bool) → (b && true) ≡ b
and_true true = refl
and_true false = refl

module _ {W : Type 0} (bodies : Name → Body W) (text : Text) (after : WantsEnd bodies) where
  -- the line ends here: its ending is at hand, or the text's end where that is enough
  pub record LineOver (c : Config W) (p : Point) (codes : List ℕ) : Type 0 where
    pub ends : LineEnds text p
    pub sees : Sees text p (after_line codes)
    pub stands : (c.current ≡ Some 10) ⊎ ((c.current ≡ None) × (after.may_end ≡ true))

  -- what the state comes to
  abbrev AtEnd : Bool → Config W → Point → List ℕ → Type 0
  AtEnd true c p codes = LineOver c p codes
  AtEnd false c p codes = run (bodies after.name) c ≡ plain c states.Nok

  -- the line is blank from here on, and ends as it must
  abbrev pub blank : List ℕ → Bool
  blank codes = list_all is_white (line_of codes) && (after.may_end || has_ending codes)

  by_text_end : (is : Bool) → after.may_end ≡ is → (c : Config W) (p : Point) → AtHand text c p → text.byte (text.start p) ≡ None → AtEnd (is || false) c p []
  by_text_end true h c p at e = record { ends = ap (λ v. has (λ b. not (b == 10)) (byte_of v)) e; sees = nothing e; stands = inr (end_at at e, h) }
  by_text_end false h c p at e = after.stops_at_end h c (end_at at e)

  line_over : (c : Config W) (p q : Point) (code : ℕ) (cs : List ℕ) → AtHand text c p → text.byte (text.start p) ≡ Some (as_byte (text_byte code) q)
      → is_eol code ≡ true → Sees text p (code ∷ cs) → LineOver c p (code ∷ cs)
  line_over c p q code cs at e eol s =
      let feed_is : text.byte (text.start p) ≡ Some (as_byte 10 q) = e ∙ ap (λ (b : ℕ). Some (as_byte b q)) (seen_eol code eol) in record {
        ends = ap (λ v. has (λ b. not (b == 10)) (byte_of v)) feed_is;
        sees = subst (λ (ds : List ℕ). Sees text p ds) (sym (after_none code cs eol)) s;
        stands = inl (byte_at at feed_is);
      }

  at_after : (codes : List ℕ) {p : Point} → Sees text p codes → indent codes ≡ 0 → (c : Config W) → AtHand text c p → AtEnd (blank codes) c p codes
  at_after [] {p} (nothing e) none c at = by_text_end after.may_end refl c p at e
  at_after (code ∷ cs) {p} (byte {q = q} apart e s) none c at = elim (cases_Bool (is_eol code)) [
    | inl eol ↦
        subst (λ (is : Bool). AtEnd is c p (code ∷ cs)) (sym (ap (λ (l : List ℕ). list_all is_white l && (after.may_end || has_ending (code ∷ cs)))
        (line_none code cs eol) ∙ (ap (λ (l : List ℕ). after.may_end || is_filled l) (after_none code cs eol) ∙ or_true after.may_end)))
        (line_over c p q code cs at e eol (byte apart e s))
    | inr inner ↦
        subst (λ (is : Bool). AtEnd is c p (code ∷ cs)) (sym (ap (λ (l : List ℕ). list_all is_white l && (after.may_end || has_ending (code ∷ cs)))
        (line_more code cs inner) ∙ ap (λ (b : Bool). (b && list_all is_white (line_of cs)) && (after.may_end || has_ending (code ∷ cs)))
        (none_white code cs none)))
        (after.stops (text_byte code) c (byte_at at e) (seen_feed code ∙ inner))
  ]
  at_after (code ∷ cs) (tab most e f s) none c at = absurd (let g : true ≡ false = none_white 9 cs none in cc)

  -- a state went over the white space, and the line ends there
  pub record Spaced (c0 : Config W) (c : Config W) (s : Name) (es : List Event) (k : KeptState) (p : Point) (codes : List ℕ) : Type 0 where
    pub config : Config W
    pub columns : ℕ
    pub end : Point
    pub goes : GoesOnBy bodies text c (states.Retry s) config (states.Retry after.name)
    pub at : AtHand text config end
    pub here : Here text c0 (es ++ white_events codes (text.start p) (text.start end)) (spaced columns k) config
    pub apart : is_feed c.previous ≡ false → is_feed config.previous ≡ false
    pub over : LineOver config end codes

  -- what is left where it fails: of what is kept, only the columns that may follow have changed
  pub record Failed (c0 d : Config W) (k : KeptState) : Type 0 where
    pub columns : ℕ
    pub kept : d.tokenize_state ≡ spaced columns k
    pub map : d.map ≡ c0.map
    pub resolvers : d.resolvers ≡ c0.resolvers

  abbrev pub SpacedIf : Bool → Config W → Config W → Name → List Event → KeptState → Point → List ℕ → Type 0
  SpacedIf true c0 c s es k p codes = Spaced c0 c s es k p codes
  SpacedIf false c0 c s es k p codes = (d : Config W) × GoesOnBy bodies text c (states.Retry s) d states.Nok × Failed c0 d k

  module _ (spaces : ReadsWhite bodies) (once : SkipsOnce text) (c0 c d : Config W) (s : Name) (es : List Event) (w : ℕ) (k : KeptState) (p : Point)
      (at : AtHand text d p) (here : Here text c0 es (spaced w k) d) (same : d.previous ≡ c.previous) where
    -- at once at the end of the line
    pub at_once : (codes : List ℕ) → Sees text p codes → indent codes ≡ 0 → run (bodies s) c ≡ plain d (states.Retry after.name)
        → SpacedIf (blank codes) c0 c s es k p codes
    at_once codes sees none e = by_end (blank codes) (at_after codes sees none d at)
      where
        by_end : (is : Bool) → AtEnd is d p codes → SpacedIf is c0 c s es k p codes
        by_end true o = record {
          config = d;
          columns = w;
          end = p;
          goes = does bodies text s c d (states.Retry after.name) e;
          at = at;
          here = record {
            events = here.events ∙ (sym (append-nil es) ∙ ap (λ (i : ℕ). es ++ white_if (nat_lt 0 i) (text.start p) (text.start p)) (sym none));
            kept = here.kept;
            map = here.map;
            resolvers = here.resolvers;
          };
          apart = λ h. ap is_feed same ∙ h;
          over = o;
        }
        by_end false o = (
          d,
          and_on bodies text (does bodies text s c d (states.Retry after.name) e) (does bodies text after.name d d states.Nok o),
          record { columns = w; kept = here.kept; map = here.map; resolvers = here.resolvers },
        )

    -- over white space
    module _ (whole : k.connect ≡ false) (code : ℕ) (cs : List ℕ) (sees : Sees text p (code ∷ cs)) (is_it : is_white code ≡ true)
        (room : weight (line_of (code ∷ cs)) ≤ no_limit) where
      abbrev pub readied : Config W
      readied = record d { tokenize_state = spaced no_limit k }

      attempt : Attempted bodies spaces text c0 k es readied p (bare (code ∷ cs))
      attempt = attempted bodies spaces text c0 k es no_limit readied p (still_at refl refl refl at)
          (record { events = here.events; kept = refl; map = here.map; resolvers = here.resolvers }) whole code cs sees is_it
          (let most = white_within (code ∷ cs) in omega (arith, most, room))

      abbrev last : Config W
      last = feed text attempt.config

      abbrev tried_there : Type 0
      tried_there = run (bodies s) c ≡ tries (states.Next after.name) states.Nok readied (part state_inline.SpaceOrTabStart)

      goes_there : tried_there → GoesOnBy bodies text c (states.Retry s) last (states.Retry after.name)
      goes_there e = and_on bodies text (tried bodies text s c readied attempt.config (states.Next after.name) states.Nok (part state_inline.SpaceOrTabStart) e
          attempt.reads) (feeds bodies text after.name attempt.config)

      by_end : tried_there → (is : Bool) → AtEnd is last attempt.end (bare (code ∷ cs)) → SpacedIf is c0 c s es k p (code ∷ cs)
      by_end e true o = let f = fed_here text c0 attempt.there.here in record {
        config = last;
        columns = attempt.columns;
        end = attempt.end;
        goes = goes_there e;
        at = fed_again text attempt.config attempt.end once attempt.there.at;
        here = record {
          events = f.events ∙ (append_assoc es (event Enter names.SpaceOrTab (text.start p) None ∷ [])
              (event Exit names.SpaceOrTab (text.start attempt.end) None ∷ [])
              ∙ ap (λ (b : Bool). es ++ white_if b (text.start p) (text.start attempt.end))
              (sym (let size = prefix_more is_white code cs is_it in lt-ltb 0 (indent (code ∷ cs)) (omega (arith, size)))));
          kept = f.kept;
          map = f.map;
          resolvers = f.resolvers;
        };
        apart = λ h. attempt.there.apart;
        over = record { ends = o.ends; sees = subst (λ (ds : List ℕ). Sees text attempt.end ds) (after_bare (code ∷ cs)) o.sees; stands = o.stands };
      }
      by_end e false o = (
        last,
        and_on bodies text (goes_there e) (does bodies text after.name last last states.Nok o),
        record {
          columns = attempt.columns;
          kept = attempt.there.here.kept;
          map = attempt.there.here.map;
          resolvers = attempt.there.here.resolvers;
        },
      )

      pub over_white : tried_there → SpacedIf (blank (code ∷ cs)) c0 c s es k p (code ∷ cs)
      over_white e =
          subst (λ (is : Bool). SpacedIf is c0 c s es k p (code ∷ cs))
          (ap (λ (b : Bool). b && (after.may_end || has_ending (bare (code ∷ cs)))) (blank_bare (code ∷ cs))
          ∙ ap (λ (l : List ℕ). list_all is_white (line_of (code ∷ cs)) && (after.may_end || is_filled l)) (after_bare (code ∷ cs)))
          (by_end e (blank (bare (code ∷ cs))) (at_after (bare (code ∷ cs)) attempt.sees (bare_apart (code ∷ cs)) last
          (fed_again text attempt.config attempt.end once attempt.there.at)))
