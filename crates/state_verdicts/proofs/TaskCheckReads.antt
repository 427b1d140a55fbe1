-- The states of a check of a task list item read what the definition calls one, and nothing else.
use Rattle.std.proofs.Common.{◌≡◌, ◌∙◌, ℕ, ◌^◌, ◌<◌, Bool, true, false, not, ◌==◌, ◌&&◌, ◌||◌, if◌then◌else◌, List, [], ◌∷◌, ◌++◌}
use Rattle.std.proofs.Common.{drop, length}
use Rattle.std.proofs.Common.{Option, Some, None, inl, inr, refl, sym, ap, subst, arith, append_assoc}
use Rattle.state_verdicts.proofs.Prelude.{as_byte, at_byte, byte, cases_Bool, Config, Context, eqb-true, event, Event, EventName, feed, hand_on, Inlines}
use Rattle.state_verdicts.proofs.Prelude.{is_eol}
use Rattle.state_verdicts.proofs.Prelude.{is_feed, KeptState, list_all, Name, nothing, past_byte, plain, Point, run, Sees, tab, Text, text_byte}
use Rattle.state_verdicts.proofs.Prelude.{tries, with_enter, with_exit}
use Rattle.state_verdicts.proofs.BlockPrelude.{bare, indent, is_space_or_tab, is_white, line_of, no_limit}
use Rattle.definition_inline.specs.GfmTaskListItem.{check_of, is_apart, is_done}
use Rattle.definition_text.specs.Content.{is_space}
use Rattle.engine_events.specs.declared.event.Kind.TheVariants.{Enter, Exit}
use Rattle.engine_events.specs.declared.event.Name.TheVariants as names
use Rattle.engine_programs.specs.Bodies.{Body}
use Rattle.engine_states.specs.declared.state.Inline.TheVariants as state_inline
use Rattle.engine_states.specs.declared.state.Name.TheVariants.{Inline}
use Rattle.engine_states.specs.declared.state.State.{State}
use Rattle.engine_states.specs.declared.state.State.TheVariants as states
use Rattle.markdown_engine.specs.Machine.{checks}
use Rattle.state_inline.specs.Inlines.{bodies}
use Rattle.state_verdicts.specs.Beginnings.{beginning}
use Rattle.state_verdicts.specs.GfmTaskListItem.{ApartFromTabs, CheckVerdict, TaskCheckVerdict, begins_with_tab, check_events, goes_on_after_lines, value_name}
use Rattle.state_verdicts.specs.Lines.{SkipsOnce}
use Rattle.state_verdicts.specs.Machines.{AtHand, GoesOnBy, ReadsBy}
use Rattle.state_verdicts.specs.Verdicts.{Reads}
use Rattle.state_verdicts.proofs.LineCodes.{bare_apart, line_within, none_white, rest_more, rest_none, weight_four, white_within}
use Rattle.state_verdicts.proofs.MachineTurns.{and_on, byte_at, checked, does, does_next, end_at, ends_well, fails, fed, fed_again, feeds, tried}
use Rattle.state_verdicts.proofs.Seen.{seen_feed, seen_sort, seen_white, white_inner}
use Rattle.state_verdicts.proofs.Standing.{Here, around_here, exits, fed_here}
use Rattle.state_verdicts.proofs.WhiteReads.{Attempted, ReadsWhite, attempted, spaced}

abbrev start : Name
start = Inline state_inline.GfmTaskListItemCheckStart

abbrev inside : Name
inside = Inline state_inline.GfmTaskListItemCheckInside

abbrev close : Name
close = Inline state_inline.GfmTaskListItemCheckClose

abbrev after : Name
after = Inline state_inline.GfmTaskListItemCheckAfter

abbrev ahead : Name
ahead = Inline state_inline.GfmTaskListItemCheckAfterSpaceOrTab

abbrev white_start : Name
white_start = Inline state_inline.SpaceOrTabStart

-- an event round the byte
abbrev rounded : EventName → Config Inlines → Config Inlines
rounded name c = with_exit name (past_byte (with_enter name None c))

eight : (l : List Event) (a b e f g h i j : Event)
    → (((((((l ++ a ∷ []) ++ b ∷ []) ++ e ∷ []) ++ f ∷ []) ++ g ∷ []) ++ h ∷ []) ++ i ∷ []) ++ j ∷ [] ≡ l ++ (a ∷ b ∷ e ∷ f ∷ g ∷ h ∷ i ∷ j ∷ [])
eight l a b e f g h i j = simp append_assoc refl

-- an event round a byte that may be a line ending
round_any : {text : Text} {c0 : Config Inlines} {es : List Event} {k : KeptState} {c : Config Inlines} {p q : Point} (name : EventName) → Here text c0 es k c
    → c.point ≡ p → c.next ≡ q → Here text c0 ((es ++ event Enter name p None ∷ []) ++ event Exit name q None ∷ []) k (rounded name c)
round_any {text} {c0} {es} {k} {c} {p} {q} name h at next = record {
  events = ap (λ (r : Point). (c.events ++ event Enter name c.point None ∷ []) ++ event Exit name r None ∷ [])
      (by_feed (is_feed c.current) ∙ next)
      ∙ (ap (λ (r : Point). (c.events ++ event Enter name r None ∷ []) ++ event Exit name q None ∷ []) at
      ∙ ap (λ (l : List Event). (l ++ event Enter name p None ∷ []) ++ event Exit name q None ∷ []) h.events);
  kept = h.kept;
  map = h.map;
  resolvers = h.resolvers;
}
  where
    by_feed : (b : Bool) → (if b then (if b then c.next else c.line_start) else c.next) ≡ c.next
    by_feed true = refl
    by_feed false = refl

-- ---- what the definition says

three_or : (a b c : Bool) → ((a || b) || c) ≡ ((a || c) || b)
three_or true b true = refl
three_or true b false = refl
three_or false true true = refl
three_or false true false = refl
three_or false false true = refl
three_or false false false = refl

-- white space is seen as a space, a tab or a line ending
seen_space : (c : ℕ) → (((text_byte c == 9) || (text_byte c == 10)) || (text_byte c == 32)) ≡ is_space c
seen_space c = three_or (text_byte c == 9) (text_byte c == 10) (text_byte c == 32)
    ∙ (ap (λ (b : Bool). b || (text_byte c == 10)) (seen_white c) ∙ ap (λ (b : Bool). is_white c || b) (seen_feed c))

seen_letter : (c : ℕ) → ((text_byte c == 120) || (text_byte c == 88)) ≡ ((c == 120) || (c == 88))
seen_letter = seen_sort (λ b. (b == 120) || (b == 88)) refl refl refl refl

closing_is : (c : ℕ) → (text_byte c == 93) ≡ (c == 93)
closing_is = seen_sort (λ b. b == 93) refl refl refl refl

done_space : (c : ℕ) → is_space c ≡ true → is_done c ≡ Some false
done_space c h = ap (λ (b : Bool). if b then Some false else (if (c == 120) || (c == 88) then Some true else None)) h

done_letter : (c : ℕ) → is_space c ≡ false → ((c == 120) || (c == 88)) ≡ true → is_done c ≡ Some true
done_letter c h k = ap (λ (b : Bool). if b then Some false else (if (c == 120) || (c == 88) then Some true else None)) h
    ∙ ap (λ (b : Bool). if b then Some true else None) k

done_none : (c : ℕ) → is_space c ≡ false → ((c == 120) || (c == 88)) ≡ false → is_done c ≡ None
done_none c h k = ap (λ (b : Bool). if b then Some false else (if (c == 120) || (c == 88) then Some true else None)) h
    ∙ ap (λ (b : Bool). if b then Some true else None) k

abbrev mark_if : Bool → Option Bool → Option Bool
mark_if is done = if is then done else None

no_mark : (b : Bool) → mark_if b None ≡ None
no_mark true = refl
no_mark false = refl

no_check : (mark : ℕ) (ds : List ℕ) → is_done mark ≡ None → check_of (91 ∷ mark ∷ ds) ≡ None
no_check mark [] h = refl
no_check mark (closing ∷ others) h = ap (mark_if ((closing == 93) && is_apart others)) h ∙ no_mark ((closing == 93) && is_apart others)

-- something is left after the white space
abbrev is_left : List ℕ → Bool
is_left [] = false
is_left (c ∷ cs) = true

line_goes_on : (c : ℕ) (cs : List ℕ) → goes_on_after_lines (c ∷ cs) ≡ true → is_eol c ≡ true → list_all is_space cs ≡ false
line_goes_on c cs h eol = by_all (list_all is_space cs) refl
  where
    by_all : (b : Bool) → list_all is_space cs ≡ b → b ≡ false
    by_all true k = absurd (let f : false ≡ true = sym (ap (λ (b : Bool). (not b || not (list_all is_space cs)) && goes_on_after_lines cs) eol
        ∙ ap (λ (b : Bool). not b && goes_on_after_lines cs) k) ∙ h in cc)
    by_all false k = refl

goes_on_rest : (c : ℕ) (cs : List ℕ) → goes_on_after_lines (c ∷ cs) ≡ true → goes_on_after_lines cs ≡ true
goes_on_rest c cs h = by_first (not (is_eol c) || not (list_all is_space cs)) h
  where
    by_first : (b : Bool) → (b && goes_on_after_lines cs) ≡ true → goes_on_after_lines cs ≡ true
    by_first true k = k
    by_first false k = absurd (let f : false ≡ true = k in cc)

-- white space is all that is left exactly if spaces and tabs are
all_space : (codes : List ℕ) → goes_on_after_lines codes ≡ true → not (list_all is_space codes) ≡ is_left (bare codes)
all_space [] h = refl
all_space (c ∷ cs) h = elim (cases_Bool (is_white c)) [
  | inl is ↦
      ap (λ (b : Bool). not ((b || is_eol c) && list_all is_space cs)) is
      ∙ (all_space cs (goes_on_rest c cs h) ∙ ap is_left (sym (rest_more is_white c cs is)))
  | inr is ↦ (elim (cases_Bool (is_eol c)) [
    | inl eol ↦ ap (λ (b : Bool). not ((b || is_eol c) && list_all is_space cs)) is ∙ (ap (λ (b : Bool). not (b && list_all is_space cs)) eol
        ∙ ap not (line_goes_on c cs h eol))
    | inr inner ↦ ap (λ (b : Bool). not ((b || is_eol c) && list_all is_space cs)) is ∙ ap (λ (b : Bool). not (b && list_all is_space cs)) inner
  ]) ∙ ap is_left (sym (rest_none is_white c cs is))
]

-- ---- what the states do

module _ {T : Type 0} (texts : List ℕ → Option (List ℕ)) (is_punctuation : ℕ → Bool) (x : Context T) (text : Text) where
  abbrev machine : Name → Body Inlines
  machine = bodies texts is_punctuation x

  as_reads : (c d : Config Inlines) (s : State) (w : Bool) → ReadsBy machine text c s d w → Reads texts is_punctuation x text c s d w
  unfolding Reads ReadsBy
  as_reads c d s w r = r

  inlines_white : ReadsWhite machine
  unfolding bodies
  inlines_white = record { start = refl; inside = refl; after = refl }

  start_does : (c : Config Inlines) (on : Bool) → c.current ≡ Some 91 → x.options.constructs.gfm_task_list_item ≡ on → run (machine start) c
      ≡ (if on then plain (rounded names.GfmTaskListItemMarker (with_enter names.GfmTaskListItemCheck None c)) (states.Next inside) else plain c states.Nok)
  unfolding bodies
  start_does c on h k = rw (h, k) refl

  inside_none : (c : Config Inlines) → c.current ≡ None → run (machine inside) c ≡ plain c states.Nok
  unfolding bodies
  inside_none c h = rw h refl

  inside_space : (b : ℕ) (c : Config Inlines) → c.current ≡ Some b → (((b == 9) || (b == 10)) || (b == 32)) ≡ true
      → run (machine inside) c ≡ plain (rounded names.GfmTaskListItemValueUnchecked c) (states.Next close)
  unfolding bodies
  inside_space b c h k = rw (h, k) refl

  inside_letter : (b : ℕ) (c : Config Inlines) (is : Bool) → c.current ≡ Some b → (((b == 9) || (b == 10)) || (b == 32)) ≡ false
      → ((b == 120) || (b == 88)) ≡ is → run (machine inside) c
      ≡ (if is then plain (rounded names.GfmTaskListItemValueChecked c) (states.Next close) else plain c states.Nok)
  unfolding bodies
  inside_letter b c is h k l = rw (h, k, l) refl

  close_none : (c : Config Inlines) → c.current ≡ None → run (machine close) c ≡ plain c states.Nok
  unfolding bodies
  close_none c h = rw h refl

  close_does : (c : Config Inlines) → c.current ≡ Some 93
      → run (machine close) c ≡ plain (with_exit names.GfmTaskListItemCheck (rounded names.GfmTaskListItemMarker c)) (states.Next after)
  unfolding bodies
  close_does c h = rw h refl

  close_other : (b : ℕ) (c : Config Inlines) (is : Bool) → c.current ≡ Some b → (b == 93) ≡ false → c.point.vs ≡ 0 → (b == 32) ≡ is
      → run (machine close) c ≡ plain c states.Nok
  unfolding bodies
  close_other b c true h k l m = rw (h, k, m, l) refl
  close_other b c false h k l m = rw (h, k, m) refl

  after_none : (c : Config Inlines) → c.current ≡ None → run (machine after) c ≡ plain c states.Nok
  unfolding bodies
  after_none c h = rw h refl

  after_feed : (b : ℕ) (c : Config Inlines) → c.current ≡ Some b → (b == 10) ≡ true → run (machine after) c ≡ plain c states.Ok
  unfolding bodies
  after_feed b c h k = rw (h, k) refl

  after_white : (b : ℕ) (c : Config Inlines) → c.current ≡ Some b → (b == 10) ≡ false → is_space_or_tab b ≡ true
      → run (machine after) c ≡ checks states.Ok states.Nok c (states.Retry ahead)
  unfolding bodies
  after_white b c h k l = rw (h, k, l) refl

  after_other : (b : ℕ) (c : Config Inlines) → c.current ≡ Some b → (b == 10) ≡ false → is_space_or_tab b ≡ false → run (machine after) c ≡ plain c states.Nok
  unfolding bodies
  after_other b c h k l = rw (h, k, l) refl

  ahead_none : (c : Config Inlines) → c.current ≡ None → run (machine ahead) c ≡ plain c states.Nok
  unfolding bodies
  ahead_none c h = rw h refl

  ahead_white : (b : ℕ) (c : Config Inlines) → c.current ≡ Some b → is_space_or_tab b ≡ true → run (machine ahead) c
      ≡ tries (states.Next ahead) states.Nok (record c { tokenize_state = spaced no_limit c.tokenize_state }) (states.Retry white_start)
  unfolding bodies
  ahead_white b c h k = rw (h, k) refl

  ahead_other : (b : ℕ) (c : Config Inlines) → c.current ≡ Some b → is_space_or_tab b ≡ false → run (machine ahead) c ≡ plain c states.Ok
  unfolding bodies
  ahead_other b c h k = rw (h, k) refl

  -- ---- reading

  module _ (c : Config Inlines) (p q : Point) (cs : List ℕ) (once : SkipsOnce text) (whole : c.tokenize_state.connect ≡ false) (few : length cs < 2 ^ 62)
      (apart_tabs : ApartFromTabs text q) where
    -- at the `[`, and after it
    abbrev at : Config Inlines
    at = at_byte c p 91 q

    abbrev opened : Config Inlines
    opened = rounded names.GfmTaskListItemMarker (with_enter names.GfmTaskListItemCheck None at)

    abbrev second : Config Inlines
    second = feed text opened

    second_at : AtHand text second q
    second_at = fed text opened q refl

    abbrev Checks : Option Bool → Type 0
    Checks o = CheckVerdict (beginning texts is_punctuation x text c 91 p q cs) o

    stops : (d : Config Inlines) → GoesOnBy machine text at (states.Retry start) d states.Nok → Checks None
    stops d g = (d, as_reads at d (states.Retry start) false (fails machine text at d (states.Retry start) g))

    module _ (on : x.options.constructs.gfm_task_list_item ≡ true) where
      goes : GoesOnBy machine text at (states.Retry start) second (states.Retry inside)
      goes = does_next machine text start inside at opened (start_does at true refl on)

      abbrev es : List Event
      es = ((c.events ++ event Enter names.GfmTaskListItemCheck p None ∷ []) ++ event Enter names.GfmTaskListItemMarker p None ∷ [])
          ++ event Exit names.GfmTaskListItemMarker q None ∷ []

      second_here : Here text at es c.tokenize_state second
      second_here = record { events = refl; kept = refl; map = refl; resolvers = refl }

      -- after what stands between the brackets
      module _ (done : Bool) (mark : ℕ) (r : Point) (ds : List ℕ) (now : cs ≡ mark ∷ ds) (e : text.byte (text.start q) ≡ Some (as_byte (text_byte mark) r))
          (reads_mark : run (machine inside) second ≡ plain (rounded (value_name done) second) (states.Next close)) (is_mark : is_done mark ≡ Some done) where
        abbrev third : Config Inlines
        third = feed text (rounded (value_name done) second)

        third_at : AtHand text third r
        third_at = fed text (rounded (value_name done) second) r (second_at.next (as_byte (text_byte mark) r) e)

        third_here : Here text at ((es ++ event Enter (value_name done) (text.start q) None ∷ []) ++ event Exit (value_name done) r None ∷ [])
            c.tokenize_state third
        third_here = fed_here text at (round_any (value_name done) second_here second_at.point (second_at.next (as_byte (text_byte mark) r) e))

        goes_third : GoesOnBy machine text at (states.Retry start) third (states.Retry close)
        goes_third = and_on machine text goes (does_next machine text inside close second (rounded (value_name done) second) reads_mark)

        stops_third : run (machine close) third ≡ plain third states.Nok → Checks None
        stops_third h = stops third (and_on machine text goes_third (does machine text close third third states.Nok h))

        -- after the `]`
        module _ (t : Point) (others : List ℕ) (closes : ds ≡ 93 ∷ others) (f : text.byte (text.start r) ≡ Some (as_byte 93 t)) (s : Sees text t others) where
          abbrev closed : Config Inlines
          closed = with_exit names.GfmTaskListItemCheck (rounded names.GfmTaskListItemMarker third)

          abbrev last : Config Inlines
          last = feed text closed

          last_at : AtHand text last t
          last_at = fed text closed t (third_at.next (as_byte 93 t) f)

          abbrev all_events : List Event
          all_events = c.events ++ check_events done p q (text.start q) r (text.start r) t

          last_here : Here text at all_events c.tokenize_state last
          last_here =
              let apart : is_feed third.current ≡ false = ap is_feed (byte_at third_at f) in
              let next = third_at.next (as_byte 93 t) f in
              let g = exits text at names.GfmTaskListItemCheck (around_here text at names.GfmTaskListItemMarker third_here third_at.point next apart) apart
              next in
              record {
                events = g.events ∙ eight c.events (event Enter names.GfmTaskListItemCheck p None) (event Enter names.GfmTaskListItemMarker p None)
                    (event Exit names.GfmTaskListItemMarker q None) (event Enter (value_name done) (text.start q) None) (event Exit (value_name done) r None)
                    (event Enter names.GfmTaskListItemMarker (text.start r) None) (event Exit names.GfmTaskListItemMarker t None)
                    (event Exit names.GfmTaskListItemCheck t None);
                kept = g.kept;
                map = g.map;
                resolvers = g.resolvers;
              }

          goes_last : GoesOnBy machine text at (states.Retry start) last (states.Retry after)
          goes_last = and_on machine text goes_third (does_next machine text close after third closed (close_does third (byte_at third_at f)))

          stops_last : run (machine after) last ≡ plain last states.Nok → Checks None
          stops_last h = stops last (and_on machine text goes_last (does machine text after last last states.Nok h))

          -- a check is there
          found : (d : Config Inlines) (columns : ℕ) → GoesOnBy machine text last (states.Retry after) d states.Ok → d.events ≡ last.events
              → d.point ≡ last.point → d.tokenize_state ≡ spaced columns c.tokenize_state → d.map ≡ c.map → d.resolvers ≡ c.resolvers → Checks (Some done)
          found d columns g events point kept map resolvers = (
            d,
            columns,
            r,
            t,
            as_reads at d (states.Retry start) true (ends_well machine text at d (states.Retry start) (and_on machine text goes_last g)),
            record { events = events ∙ last_here.events; point = point ∙ last_at.point; kept = kept; map = map; resolvers = resolvers },
            subst (λ (l : List ℕ). Sees text t (drop 2 l)) (sym (now ∙ ap (λ (l : List ℕ). mark ∷ l) closes)) s,
          )

          -- white space follows
          module _ (code : ℕ) (ls : List ℕ) (there : others ≡ code ∷ ls) (is : is_white code ≡ true) (b : ℕ) (u : Point)
              (g : text.byte (text.start t) ≡ Some (as_byte b u)) (inner : (b == 10) ≡ false) (white : is_space_or_tab b ≡ true) where
            abbrev readied : Config Inlines
            readied = record last { tokenize_state = spaced no_limit last.tokenize_state }

            a : Attempted machine inlines_white text at c.tokenize_state all_events readied t (bare (code ∷ ls))
            a = attempted machine inlines_white text at c.tokenize_state all_events no_limit readied t
                (record { point = last_at.point; current = last_at.current; next = last_at.next })
                (record { events = last_here.events; kept = ap (spaced no_limit) last_here.kept; map = last_here.map; resolvers = last_here.resolvers }) whole
                code ls (subst (λ (l : List ℕ). Sees text t l) there s) is
                (let most = white_within (code ∷ ls) in
                let size = weight_four (line_of (code ∷ ls)) in
                let within = line_within (code ∷ ls) in
                let one = ap length now in
                let two = ap length closes in
                let three = ap length there in omega (arith, few, most, size, within, one, two, three))

            abbrev seen : Config Inlines
            seen = feed text a.config

            seen_at : AtHand text seen a.end
            seen_at = fed_again text a.config a.end once a.there.at

            looks : GoesOnBy machine text last (states.Retry ahead) seen (states.Retry ahead)
            looks = and_on machine text (tried machine text ahead last readied a.config (states.Next ahead) states.Nok (states.Retry white_start)
                (ahead_white b last (byte_at last_at g) white) a.reads) (feeds machine text ahead a.config)

            goes_back : (w : Bool) (d : Config Inlines) → ReadsBy machine text last (states.Retry ahead) d w
                → GoesOnBy machine text last (states.Retry after) (hand_on last d) (if w then states.Ok else states.Nok)
            goes_back w d k = checked machine text after last last d states.Ok states.Nok (states.Retry ahead)
                (after_white b last (byte_at last_at g) inner white) w k

            by_rest : (rest : List ℕ) → bare (code ∷ ls) ≡ rest → Sees text a.end rest → Checks (mark_if (is_left rest) (Some done))
            by_rest [] h (nothing k) = stops (hand_on last seen) (and_on machine text goes_last (goes_back false seen
                (fails machine text last seen (states.Retry ahead) (and_on machine text looks (does machine text ahead seen seen states.Nok
                (ahead_none seen (end_at seen_at k)))))))
            by_rest (d ∷ rest) h (byte apart k l) = goes_well (text_byte d) (byte_at seen_at k)
                (seen_white d ∙ none_white d rest (ap indent (sym h) ∙ bare_apart (code ∷ ls)))
              where
                goes_well : (v : ℕ) → seen.current ≡ Some v → is_space_or_tab v ≡ false → Checks (Some done)
                goes_well v m n = let h = fed_here text at a.there.here in found (hand_on last seen) a.columns (goes_back true seen
                    (ends_well machine text last seen (states.Retry ahead) (and_on machine text looks (does machine text ahead seen seen states.Ok
                    (ahead_other v seen m n))))) refl refl h.kept h.map h.resolvers
            by_rest (d ∷ rest) h (tab most k m n) =
                absurd (let f : true ≡ false = none_white 9 rest (ap indent (sym h) ∙ bare_apart (code ∷ ls)) in cc)

            over_space : goes_on_after_lines (code ∷ ls) ≡ true → Checks (mark_if (is_apart (code ∷ ls)) (Some done))
            over_space lines = subst (λ (w : Bool). Checks (mark_if w (Some done))) (sym (all_space (code ∷ ls) lines)
                ∙ (ap (λ (w : Bool). not ((w || is_eol code) && list_all is_space ls)) is
                ∙ sym (ap (λ (w : Bool). (w || is_eol code) && not (list_all is_space ls)) is))) (by_rest (bare (code ∷ ls)) refl a.sees)

          after_it : (l : List ℕ) → others ≡ l → Sees text t l → goes_on_after_lines l ≡ true → Checks (mark_if (is_apart l) (Some done))
          after_it [] h (nothing k) lines = stops_last (after_none last (end_at last_at k))
          after_it (code ∷ ls) h (byte {q = u} apart g k) lines = elim (cases_Bool (is_white code)) [
            | inl is ↦ over_space code ls h is (text_byte code) u g (seen_feed code ∙ white_inner code is) (seen_white code ∙ is) lines
            | inr black ↦ elim (cases_Bool (is_eol code)) [
              | inl eol ↦
                  subst (λ (w : Bool). Checks (mark_if w (Some done))) (sym (ap (λ (w : Bool). (w || is_eol code) && not (list_all is_space ls)) black
                  ∙ (ap (λ (w : Bool). w && not (list_all is_space ls)) eol ∙ ap not (line_goes_on code ls lines eol))))
                  (found last last.tokenize_state.size_c (does machine text after last last states.Ok
                  (after_feed (text_byte code) last (byte_at last_at g) (seen_feed code ∙ eol))) refl refl (kept_same last_here.kept) last_here.map
                  last_here.resolvers)
              | inr inner ↦
                  subst (λ (w : Bool). Checks (mark_if w (Some done))) (sym (ap (λ (w : Bool). (w || is_eol code) && not (list_all is_space ls)) black
                  ∙ ap (λ (w : Bool). w && not (list_all is_space ls)) inner))
                  (stops_last (after_other (text_byte code) last (byte_at last_at g) (seen_feed code ∙ inner) (seen_white code ∙ black)))
            ]
          ]
            where
              kept_same : last.tokenize_state ≡ c.tokenize_state → last.tokenize_state ≡ spaced last.tokenize_state.size_c c.tokenize_state
              kept_same k = k ∙ ap (λ (i : ℕ). spaced i c.tokenize_state) (ap (λ (t : KeptState). t.size_c) (sym k))
          after_it (code ∷ ls) h (tab {q = u} most g k m) lines = over_space 9 ls h refl 9 u g refl refl lines

        at_close : (l : List ℕ) → ds ≡ l → Sees text r l → goes_on_after_lines l ≡ true → Checks (check_of (91 ∷ mark ∷ l))
        at_close [] h (nothing k) lines = stops_third (close_none third (end_at third_at k))
        at_close (closing ∷ others) h (byte {q = t} apart g k) lines = elim (cases_Bool (closing == 93)) [
          | inl is ↦
              let closing_it = eqb-true closing 93 is in
              subst (λ (o : Option Bool). Checks o) (ap (mark_if (is_apart others)) (sym is_mark)
              ∙ sym (ap (λ (w : Bool). mark_if (w && is_apart others) (is_done mark)) is))
              (after_it t others (h ∙ ap (λ (i : ℕ). i ∷ others) closing_it) (g ∙ ap (λ (i : ℕ). Some (as_byte (text_byte i) t)) closing_it) k others refl k
              (goes_on_rest closing others lines))
          | inr is ↦
              subst (λ (o : Option Bool). Checks o) (sym (ap (λ (w : Bool). mark_if (w && is_apart others) (is_done mark)) is))
              (stops_third (close_other (text_byte closing) third (text_byte closing == 32) (byte_at third_at g) (closing_is closing ∙ is)
              (ap (λ (v : Point). v.vs) third_at.point ∙ apart_tabs (text_byte mark) r e) refl))
        ]
        at_close (closing ∷ others) h (tab most g k m) lines = stops_third (close_other 9 third false (byte_at third_at g) refl
            (ap (λ (v : Point). v.vs) third_at.point ∙ apart_tabs (text_byte mark) r e) refl)

      at_mark : (l : List ℕ) → cs ≡ l → Sees text q l → begins_with_tab l ≡ false → goes_on_after_lines l ≡ true → Checks (check_of (91 ∷ l))
      at_mark [] h (nothing k) no_tab lines = stops second (and_on machine text goes (does machine text inside second second states.Nok
          (inside_none second (end_at second_at k))))
      at_mark (mark ∷ ds) h (byte {q = r} apart e s) no_tab lines = elim (cases_Bool (is_space mark)) [
        | inl is ↦ at_close false mark r ds h e (inside_space (text_byte mark) second (byte_at second_at e) (seen_space mark ∙ is)) (done_space mark is) ds
            refl s
            (goes_on_rest mark ds lines)
        | inr is ↦ elim (cases_Bool ((mark == 120) || (mark == 88))) [
          | inl letter ↦ at_close true mark r ds h e (inside_letter (text_byte mark) second true (byte_at second_at e) (seen_space mark ∙ is)
              (seen_letter mark ∙ letter)) (done_letter mark is letter) ds refl s (goes_on_rest mark ds lines)
          | inr other ↦ subst (λ (o : Option Bool). Checks o) (sym (no_check mark ds (done_none mark is other)))
              (stops second (and_on machine text goes (does machine text inside second second states.Nok
              (inside_letter (text_byte mark) second false (byte_at second_at e) (seen_space mark ∙ is) (seen_letter mark ∙ other)))))
        ]
      ]
      at_mark (mark ∷ ds) h (tab most e f s) no_tab lines = absurd (let g : true ≡ false = no_tab in cc)

    by_switch : (on : Bool) → x.options.constructs.gfm_task_list_item ≡ on → Sees text q cs → begins_with_tab cs ≡ false → goes_on_after_lines cs ≡ true
        → Checks (if on then check_of (91 ∷ cs) else None)
    by_switch true h s no_tab lines = at_mark h cs refl s no_tab lines
    by_switch false h s no_tab lines = stops at (does machine text start at at states.Nok (start_does at false refl h))

pub task_check_verdict : (T : Type 0) → TaskCheckVerdict T
task_check_verdict T texts is_punctuation x text c p q cs s once whole few no_tab apart lines =
    by_switch texts is_punctuation x text c p q cs once whole few apart x.options.constructs.gfm_task_list_item refl s no_tab lines
