-- An attempt at indented code goes on after four columns where there are as many, and fails elsewhere.
use Rattle.std.proofs.Common.{◌≡◌, ◌∙◌, ℕ, ◌-◌, ◌<◌, min, Bool, true, false, not, ◌==◌, ◌&&◌, leb, List, [], ◌∷◌, ◌++◌, drop, Some, None}
use Rattle.std.proofs.Common.{inl, inr}
use Rattle.std.proofs.Common.{refl, sym, ap, subst, arith, append_assoc}
use Rattle.std.proofs.lemmas.Bool.{ne_eqb}
use Rattle.state_verdicts.proofs.BlockPrelude.{as_byte, AtHand, cases_Bool, cases_lt, Config, Context, event, Event, feed, Flows, GoesOn, has, indent, InLine}
use Rattle.state_verdicts.proofs.BlockPrelude.{is_eol, is_space_or_tab, is_white, KeptState, le-leb, line_of, list_all, lt-leb, lt-ltb, Name, part, plain}
use Rattle.state_verdicts.proofs.BlockPrelude.{Point}
use Rattle.state_verdicts.proofs.BlockPrelude.{run, SkipsOnce, State, Text, text_byte, tries, with_enter}
use Rattle.engine_events.specs.declared.event.Kind.TheVariants.{Enter, Exit}
use Rattle.engine_events.specs.declared.event.Name.TheVariants as names
use Rattle.engine_states.specs.declared.state.Block.TheVariants as state_block
use Rattle.engine_states.specs.declared.state.Inline.TheVariants as state_inline
use Rattle.engine_states.specs.declared.state.Name.TheVariants.{Block}
use Rattle.engine_states.specs.declared.state.State.TheVariants as states
use Rattle.markdown_engine.specs.Reading.{at_point}
use Rattle.state_flow.specs.Flows.{flows_bodies}
use Rattle.state_verdicts.specs.BlockVerdicts.{at_hand, line}
use Rattle.state_verdicts.specs.CodeIndented.{CodeIndentedVerdict, IndentVerdict}
use Rattle.state_verdicts.specs.Columns.{SeesColumns, along, ended}
use Rattle.state_verdicts.proofs.BlockTurns.{and_on, byte_at, does, fails, fed, fed_again, feeds, tried}
use Rattle.state_verdicts.proofs.ColumnReads.{Taken, TakenIf, attempted}
use Rattle.state_verdicts.proofs.LineCodes.{indent_line, line_more, line_none, prefix_more, prefix_none, rest_more, rest_none}
use Rattle.state_verdicts.proofs.Seen.{seen_feed, seen_white, white_inner}
use Rattle.state_verdicts.proofs.Standing.{fed_here}
use Rattle.state_verdicts.proofs.WhiteReads.{flows_white, spaced}

abbrev pub start : Name
start = Block state_block.CodeIndentedStart

abbrev at_break : Name
at_break = Block state_block.CodeIndentedAtBreak

-- before the indent
abbrev pub readied : Config Flows → Config Flows
readied c = record (with_enter names.CodeIndented None c) { tokenize_state = record c.tokenize_state { size_c = 4 } }

pub three : (l : List Event) (a b e : Event) → ((l ++ a ∷ []) ++ b ∷ []) ++ e ∷ [] ≡ l ++ (a ∷ b ∷ e ∷ [])
three l a b e = simp append_assoc refl

module _ {T : Type 0} (x : Context T) where
  start_off : (c : Config Flows) → x.options.constructs.code_indented ≡ false → run (flows_bodies x start) c ≡ plain c states.Nok
  unfolding flows_bodies
  start_off c h = rw h refl

  start_interrupts : (c : Config Flows) → x.options.constructs.code_indented ≡ true → c.interrupt ≡ true → run (flows_bodies x start) c ≡ plain c states.Nok
  unfolding flows_bodies
  start_interrupts c h k = rw (h, k) refl

  start_black : (c : Config Flows) → x.options.constructs.code_indented ≡ true → c.interrupt ≡ false → has is_space_or_tab c.current ≡ false
      → run (flows_bodies x start) c ≡ plain c states.Nok
  unfolding flows_bodies
  start_black c h k l = rw (h, k, l) refl

  start_white : (c : Config Flows) → x.options.constructs.code_indented ≡ true → c.interrupt ≡ false → has is_space_or_tab c.current ≡ true
      → run (flows_bodies x start) c ≡ tries (states.Next at_break) states.Nok (readied c) (part state_inline.SpaceOrTabStart)
  unfolding flows_bodies
  start_white c h k l = rw (h, k, l) refl

  break_other : (b : ℕ) (c : Config Flows) → c.current ≡ Some b → (b == 10) ≡ false → (c.tokenize_state.size_c == 0) ≡ false
      → run (flows_bodies x at_break) c ≡ plain c states.Nok
  unfolding flows_bodies
  break_other b c h k l = rw (h, k, l) refl

-- a line that isn't blank has something after its white space
record Something (codes : List ℕ) : Type 0 where
  pub code : ℕ
  pub rest : List ℕ
  pub is : drop (indent codes) codes ≡ code ∷ rest
  pub inner : is_eol code ≡ false

something : (codes : List ℕ) → list_all is_white (line_of codes) ≡ false → Something codes
something [] h = absurd (let f : true ≡ false = h in cc)
something (c ∷ cs) h = elim (cases_Bool (is_white c)) [
  | inl is ↦
      let line : list_all is_white (line_of (c ∷ cs)) ≡ list_all is_white (line_of cs) =
      ap (list_all is_white) (line_more c cs (white_inner c is)) ∙ ap (λ (b : Bool). b && list_all is_white (line_of cs)) is in
      let o = something cs (sym line ∙ h) in
      record { code = o.code; rest = o.rest; is = rest_more is_white c cs is ∙ o.is; inner = o.inner }
  | inr is ↦ record { code = c; rest = cs; is = rest_none is_white c cs is; inner = inner_by (is_eol c) refl }
]
  where
    inner_by : (b : Bool) → is_eol c ≡ b → b ≡ false
    inner_by true k = absurd (let f : true ≡ false = sym (ap (list_all is_white) (line_none c cs k)) ∙ h in cc)
    inner_by false k = refl

module _ {T : Type 0} (here : InLine T) (once : SkipsOnce here.text) (whole : here.config.tokenize_state.connect ≡ false)
    (filled : list_all is_white (line_of here.codes) ≡ false) where
  abbrev c0 : Config Flows
  c0 = at_hand here

  abbrev x : Context T
  x = here.context

  abbrev text : Text
  text = here.text

  abbrev p : Point
  p = here.place

  abbrev k : KeptState
  k = here.config.tokenize_state

  at_p : AtHand text c0 p
  at_p = fed text (at_point p here.config) p refl

  abbrev begins : State
  begins = states.Retry start

  stops : run (flows_bodies x start) c0 ≡ plain c0 states.Nok → IndentVerdict here false
  stops h = (c0, fails x text c0 c0 begins (does x text start c0 c0 states.Nok h))

  abbrev es : List Event
  es = c0.events ++ event Enter names.CodeIndented (text.start p) None ∷ []

  abbrev pub Reads_white : Type 0
  Reads_white = Taken (flows_bodies x) (flows_white x) text c0 k es (readied c0) p 4 here.codes

  module _ (does_it : run (flows_bodies x start) c0 ≡ tries (states.Next at_break) states.Nok (readied c0) (part state_inline.SpaceOrTabStart))
      (o : Reads_white) where
    abbrev last : Config Flows
    last = feed text o.config

    last_at : AtHand text last o.end
    last_at = fed_again text o.config o.end once o.at

    goes : GoesOn x text c0 begins last (states.Retry at_break)
    goes = and_on x text (tried x text start c0 (readied c0) o.config (states.Next at_break) states.Nok (part state_inline.SpaceOrTabStart) does_it o.reads)
        (feeds x text at_break o.config)

    by_count : (long : Bool) → leb 4 (indent here.codes) ≡ long → IndentVerdict here long
    by_count true h =
        let four : min 4 (indent here.codes) ≡ 4 = by_four (indent here.codes) h in
        let f = fed_here text c0 o.here in (
          last,
          o.end,
          goes,
          record {
            events = f.events ∙ three c0.events (event Enter names.CodeIndented (text.start p) None) (event Enter names.SpaceOrTab (text.start p) None)
                (event Exit names.SpaceOrTab (text.start o.end) None);
            at = last_at;
            kept = f.kept ∙ ap (λ (i : ℕ). spaced i k) (let j : 4 - min 4 (indent here.codes) ≡ 0 = omega (arith, four) in j);
            map = f.map;
            resolvers = f.resolvers;
          },
          subst (λ (i : ℕ). SeesColumns text o.end (drop i here.codes)) four o.sees,
        )
      where
        by_four : (n : ℕ) → leb 4 n ≡ true → min 4 n ≡ 4
        by_four n e = elim (cases_lt n 4) [
          | inl few ↦ absurd (let f : true ≡ false = sym e ∙ lt-leb 4 n few in cc)
          | inr most ↦ omega (arith, most)
        ]
    by_count false h =
        let few = by_few (indent here.codes) h in
        let thing = something here.codes filled in
        let count : min 4 (indent here.codes) ≡ indent here.codes = omega (arith, few) in
        let seen : SeesColumns text o.end (thing.code ∷ thing.rest) =
        subst (λ (l : List ℕ). SeesColumns text o.end l) (ap (λ (i : ℕ). drop i here.codes) count ∙ thing.is) o.sees in
        at_other thing.code thing.rest thing.inner seen (let n : 0 < 4 - min 4 (indent here.codes) = omega (arith, few, count) in n)
      where
        by_few : (n : ℕ) → leb 4 n ≡ false → n < 4
        by_few n e = elim (cases_lt n 4) [
          | inl few ↦ few
          | inr most ↦ absurd (let f : false ≡ true = sym e ∙ le-leb 4 n most in cc)
        ]

        at_other : (code : ℕ) (rest : List ℕ) → is_eol code ≡ false → SeesColumns text o.end (code ∷ rest) → 0 < 4 - min 4 (indent here.codes)
            → IndentVerdict here false
        at_other code rest inner (along e s) some = (
          last,
          fails x text c0 last begins (and_on x text goes (does x text at_break last last states.Nok
              (break_other x (text_byte code) last (byte_at last_at e) (seen_feed code ∙ inner)
              (ap (λ (t : KeptState). t.size_c == 0) (fed_here text c0 o.here).kept
              ∙ ne_eqb (4 - min 4 (indent here.codes)) 0 (λ z. omega (arith, some, z)))))),
        )

  -- a line with an indent
  indented : run (flows_bodies x start) c0 ≡ tries (states.Next at_break) states.Nok (readied c0) (part state_inline.SpaceOrTabStart)
      → TakenIf (flows_bodies x) (flows_white x) text c0 k true es (readied c0) p 4 here.codes → IndentVerdict here (leb 4 (indent (line here)))
  indented h o = subst (λ (is : Bool). IndentVerdict here is) (ap (leb 4) (sym (indent_line here.codes))) (by_count h o (leb 4 (indent here.codes)) refl)

  -- the white space at the front is read
  pub white_read : (code : ℕ) (cs : List ℕ) → here.codes ≡ code ∷ cs → is_white code ≡ true → SeesColumns text p (code ∷ cs) → Reads_white
  white_read code cs is white s =
      let size = prefix_more is_white code cs white in
      let all = ap indent is in
      subst (λ (b : Bool). TakenIf (flows_bodies x) (flows_white x) text c0 k b es (readied c0) p 4 here.codes)
      (lt-ltb 0 (min 4 (indent here.codes)) (omega (arith, size, all)))
      (attempted (flows_bodies x) (flows_white x) text c0 k es 4 (readied c0) p (record { point = at_p.point; current = at_p.current; next = at_p.next })
      (record { events = refl; kept = refl; map = refl; resolvers = refl }) whole here.codes (subst (λ (l : List ℕ). SeesColumns text p l) (sym is) s))

  pub white_does : x.options.constructs.code_indented ≡ true → c0.interrupt ≡ false → (code : ℕ) {q : Point} → is_white code ≡ true
      → text.byte (text.start p) ≡ Some (as_byte (text_byte code) q)
      → run (flows_bodies x start) c0 ≡ tries (states.Next at_break) states.Nok (readied c0) (part state_inline.SpaceOrTabStart)
  white_does on free code white e = start_white x c0 on free (ap (has is_space_or_tab) (byte_at at_p e) ∙ (seen_white code ∙ white))

  by_codes : x.options.constructs.code_indented ≡ true → c0.interrupt ≡ false → (codes : List ℕ) → here.codes ≡ codes → SeesColumns text p codes
      → IndentVerdict here (leb 4 (indent (line here)))
  by_codes on free [] is (ended e) = absurd (let f : true ≡ false = sym (ap (λ (l : List ℕ). list_all is_white (line_of l)) is) ∙ filled in cc)
  by_codes on free (code ∷ cs) is (along e s) = elim (cases_Bool (is_white code)) [
    | inl white ↦ indented (white_does on free code white e) (white_read code cs is white (along e s))
    | inr black ↦
        let none = prefix_none is_white code cs black in
        let all = ap indent is in
        let line = indent_line here.codes in
        subst (λ (b : Bool). IndentVerdict here b) (sym (lt-leb 4 (indent (line_of here.codes)) (omega (arith, none, all, line))))
        (stops (start_black x c0 on free (ap (has is_space_or_tab) (byte_at at_p e) ∙ (seen_white code ∙ black))))
  ]

  by_switches : (on interrupts : Bool) → x.options.constructs.code_indented ≡ on → c0.interrupt ≡ interrupts → SeesColumns text p here.codes
      → IndentVerdict here (not interrupts && (on && leb 4 (indent (line here))))
  by_switches true true h k s = stops (start_interrupts x c0 h k)
  by_switches true false h k s = by_codes h k here.codes refl s
  by_switches false true h k s = stops (start_off x c0 h)
  by_switches false false h k s = stops (start_off x c0 h)

pub code_indented_verdict : (T : Type 0) → CodeIndentedVerdict T
code_indented_verdict T here s whole once filled =
    by_switches here once whole filled here.context.options.constructs.code_indented here.config.interrupt refl refl s
