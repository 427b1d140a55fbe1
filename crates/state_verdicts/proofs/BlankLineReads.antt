-- An attempt at a blank line reads one where nothing but spaces and tabs is left of the line, and nothing else.
use Rattle.std.proofs.Common.{◌≡◌, ◌∙◌, ℕ, ◌^◌, ◌<◌, ◌≤◌, Bool, true, false, ◌==◌, List, [], ◌∷◌, length, Some, None, inl, inr, refl}
use Rattle.std.proofs.Common.{ap}
use Rattle.std.proofs.Common.{subst, arith}
use Rattle.state_verdicts.proofs.BlockPrelude.{AtHand, byte, cases_Bool, Config, Context, Flows, has, InLine, is_space_or_tab, is_white, line_of, list_all}
use Rattle.state_verdicts.proofs.BlockPrelude.{Name}
use Rattle.state_verdicts.proofs.BlockPrelude.{no_limit, nothing, part, plain, Point, run, Sees, SkipsOnce, tab, Text, text_byte, tries}
use Rattle.engine_states.specs.declared.state.Block.TheVariants as state_block
use Rattle.engine_states.specs.declared.state.Inline.TheVariants as state_inline
use Rattle.engine_states.specs.declared.state.Name.TheVariants.{Block}
use Rattle.engine_states.specs.declared.state.State.TheVariants as states
use Rattle.markdown_engine.specs.Reading.{at_point}
use Rattle.state_flow.specs.Flows.{flows_bodies}
use Rattle.state_verdicts.specs.BlankLine.{BlankLineVerdict, BlankVerdict}
use Rattle.state_verdicts.specs.BlockVerdicts.{at_hand, line}
use Rattle.state_verdicts.proofs.BlockTurns.{and_on, byte_at, does, end_at, ends_well, fails, fed}
use Rattle.state_verdicts.proofs.LineCodes.{prefix_none, weight, weight_four}
use Rattle.state_verdicts.proofs.Seen.{seen_white}
use Rattle.state_verdicts.proofs.WhiteLines.{SpacedIf, WantsEnd, and_true, at_once, blank, over_white}
use Rattle.state_verdicts.proofs.WhiteReads.{flows_white, spaced}

abbrev start : Name
start = Block state_block.BlankLineStart

abbrev after : Name
after = Block state_block.BlankLineAfter

module _ {T : Type 0} (x : Context T) where
  start_white : (b : ℕ) (c : Config Flows) → c.current ≡ Some b → is_space_or_tab b ≡ true → run (flows_bodies x start) c
      ≡ tries (states.Next after) states.Nok (record c { tokenize_state = spaced no_limit c.tokenize_state }) (part state_inline.SpaceOrTabStart)
  unfolding flows_bodies
  start_white b c h k = rw (h, k) refl

  start_black : (c : Config Flows) → has is_space_or_tab c.current ≡ false → run (flows_bodies x start) c ≡ plain c (states.Retry after)
  unfolding flows_bodies
  start_black c h = rw h refl

  after_line : (c : Config Flows) → c.current ≡ Some 10 → run (flows_bodies x after) c ≡ plain c states.Ok
  unfolding flows_bodies
  after_line c h = rw h refl

  after_none : (c : Config Flows) → c.current ≡ None → run (flows_bodies x after) c ≡ plain c states.Ok
  unfolding flows_bodies
  after_none c h = rw h refl

  after_other : (b : ℕ) (c : Config Flows) → c.current ≡ Some b → (b == 10) ≡ false → run (flows_bodies x after) c ≡ plain c states.Nok
  unfolding flows_bodies
  after_other b c h k = rw (h, k) refl

  abbrev wants_end : WantsEnd (flows_bodies x)
  wants_end = record { name = after; may_end = true; stops = after_other; stops_at_end = λ e c h. absurd (let f : true ≡ false = e in cc) }

module _ {T : Type 0} (here : InLine T) (once : SkipsOnce here.text) (few : length (line_of here.codes) < 2 ^ 62)
    (whole : here.config.tokenize_state.connect ≡ false) where
  abbrev c : Config Flows
  c = at_hand here

  abbrev x : Context T
  x = here.context

  abbrev text : Text
  text = here.text

  abbrev p : Point
  p = here.place

  at_p : AtHand text c p
  at_p = fed text (at_point p here.config) p refl

  abbrev Goes : Bool → List ℕ → Type 0
  Goes is codes = SpacedIf (flows_bodies x) text (wants_end x) is c c start c.events c.tokenize_state p codes

  goes : (codes : List ℕ) → Sees text p codes → weight (line_of codes) ≤ no_limit → Goes (blank (flows_bodies x) text (wants_end x) codes) codes
  goes [] (nothing e) room = at_once (flows_bodies x) text (wants_end x) (flows_white x) once c c c start c.events c.tokenize_state.size_c c.tokenize_state p
      at_p
      (record { events = refl; kept = refl; map = refl; resolvers = refl }) refl [] (nothing e) refl
      (start_black x c (ap (has is_space_or_tab) (end_at at_p e)))
  goes (code ∷ cs) (byte apart e s) room = elim (cases_Bool (is_white code)) [
    | inl is ↦ over_white (flows_bodies x) text (wants_end x) (flows_white x) once c c c start c.events c.tokenize_state.size_c c.tokenize_state p at_p
        (record { events = refl; kept = refl; map = refl; resolvers = refl }) refl whole code cs (byte apart e s) is room
        (start_white x (text_byte code) c (byte_at at_p e) (seen_white code ∙ is))
    | inr is ↦ at_once (flows_bodies x) text (wants_end x) (flows_white x) once c c c start c.events c.tokenize_state.size_c c.tokenize_state p at_p
        (record { events = refl; kept = refl; map = refl; resolvers = refl }) refl (code ∷ cs) (byte apart e s) (prefix_none is_white code cs is)
        (start_black x c (ap (has is_space_or_tab) (byte_at at_p e) ∙ (seen_white code ∙ is)))
  ]
  goes (code ∷ cs) (tab most e f s) room =
      over_white (flows_bodies x) text (wants_end x) (flows_white x) once c c c start c.events c.tokenize_state.size_c c.tokenize_state p at_p
      (record { events = refl; kept = refl; map = refl; resolvers = refl }) refl whole 9 cs (tab most e f s) refl room (start_white x 9 c (byte_at at_p e) refl)

  found : (is : Bool) → Goes is here.codes → BlankVerdict here is
  found true o = (
    o.config,
    o.columns,
    o.end,
    ends_well x text c o.config (states.Retry start) (and_on x text o.goes (does x text after o.config o.config states.Ok (elim o.over.stands [
      | inl h ↦ after_line x o.config h
      | inr h ↦ after_none x o.config h.0
    ]))),
    record { events = o.here.events; at = o.at; kept = o.here.kept; map = o.here.map; resolvers = o.here.resolvers },
    o.over.ends,
    o.over.sees,
  )
  found false (d, g, f) = (d, fails x text c d (states.Retry start) g)

  reads : Sees text p here.codes → BlankVerdict here (list_all is_white (line here))
  reads s =
      subst (λ (is : Bool). BlankVerdict here is) (and_true (list_all is_white (line here)))
      (found (blank (flows_bodies x) text (wants_end x) here.codes) (goes here.codes s
      (let w = weight_four (line_of here.codes) in omega (arith, w, few))))

pub blank_line_verdict : (T : Type 0) → BlankLineVerdict T
blank_line_verdict T here s once few whole = reads here once few whole s
