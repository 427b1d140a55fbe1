-- A parser stands after the ending of a line or a blank line, if that is written.
use Rattle.std.proofs.Common.{◌≡◌, inl, inr, ℕ, true, false, List, [], Option, None, Some, refl, sym, ap, ◌∙◌, subst}
use Rattle.parse_events.proofs.Prelude.{after_row, always_go_on, AreEnding, around, AtEnding, Between, Blank, blank_one, Constructs}
use Rattle.parse_events.proofs.Prelude.{Container, End, Ending, EndsLine, Err, forest_in, GoesOn, GoesOnInLine, HasSameOpen}
use Rattle.parse_events.proofs.Prelude.{IsInLine, IsParsing, IsPastCode, join, LevelsGoOn, line_after, line_at, LineEnding, LineRest, lines, Nodes, Ok}
use Rattle.parse_events.proofs.Prelude.{one_block, OnOk, Opened, opened, Parser, Place, Reading, Result, Single, Standing, standing, Stands}
use Rattle.parse_events.proofs.Prelude.{true≢false, unread, void_nodes, Walk, Within, WritesEnding, written_to}
use Rattle.markdown_options.specs.declared.beside.Kind.TheVariants.{Whitespace}
use Rattle.engine_events.specs.declared.event.Name.TheVariants as n
use Rattle.parse_raw.specs.Laid.{WritesBlankLaid}
use Rattle.parse_raw.proofs.Endings.{ending_nodes}
use Rattle.parse_laid.specs.Laid.{IsBlankLaid}
use Rattle.parse_laid.specs.Places.{line_left}
use Rattle.parse_events.proofs.Blanks.{blank_stands}
use Rattle.parse_events.proofs.Endings.{begun_more, ending_stands, line_apart}
use Rattle.parse_events.proofs.Kept.{KeepsOpen, parsing_after, stands_there}

-- no line is left after one that has no ending
none_left : (text : List ℕ) (s : Standing) (left : List LineRest) → IsInLine text s → s.ending ≡ None → left ≡ unread Whitespace (lines s.left) → left ≡ []
none_left text s left line none is = is ∙ ap (λ (bs : List ℕ). unread Whitespace (lines bs)) (line.last none)

module _ {A : Type 0} (r : Reading) (text : List ℕ) (front : Nodes) where
  -- the ending in unclosed code at the top is written already
  code_ended : (go : LevelsGoOn r text front) (o : Opened) (within : List Container) (ending : Option LineEnding) (left : List LineRest) (w : Walk A)
      → Stands r text front o within (AtEnding ending left) w → IsPastCode text o (AtEnding ending left) w
      → Stands r text front (opened (join o.kids (one_block (Ending ending))) o.outer o.places) within (Between left) w
  code_ended go o within None left w was past = record {
    constructs = was.constructs;
    around = was.around;
    same = was.same;
    order = was.order;
    at = inl (past.2, past.3, tt);
    spells = let line = line_at text (written_to w).index in go.no_ending o (forest_in text w.out) line line past.0 was.spells;
    begun = begun_more o (Ending None);
    ends = λ top. (was.ends top).0 ∙ sym (blank_one false o.kids (Ending None));
  }
  code_ended go o within (Some e) left w was past = record {
    constructs = was.constructs;
    around = was.around;
    same = was.same;
    order = was.order;
    at = inl (past.2, past.3, tt);
    spells = let line = line_at text (written_to w).index in go.in_code o (forest_in text w.out) line line e past.0 past.1 was.spells;
    begun = begun_more o (Ending (Some e));
    ends = λ top. (was.ends top).0 ∙ sym (blank_one false o.kids (Ending (Some e)));
  }

module _ {A : Type 0} where
  -- where no line is begun
  pub no_line_ends : (old new : Parser A) (r : Reading) (ending : Option LineEnding) → old.walk.is_in_line ≡ false → new ≡ old
      → GoesOn r (Single (Ending ending)) old new
  no_line_ends old new r ending none stays text front o within inner p to next was =
      let left = next.laid.1.0 in
      let stands : Stands r text front o within (AtEnding ending left) old.walk =
      subst (λ (q : Place). Stands r text front o within q old.walk) next.laid.1.1 was.stands in
      let ended : Stands r text front (opened (join o.kids (one_block (Ending ending))) o.outer o.places) within (Between left) old.walk =
      elim stands.at [
        | inl at ↦ absurd (true≢false (sym at.0.line.begun ∙ none))
        | inr past ↦ code_ended r text front (always_go_on r text front) o within ending left old.walk stands past
      ] in
      subst (λ (x : Parser A). IsParsing r text front (after_row o (Single (Ending ending))) inner to x) (sym stays) (
      parsing_after r text front o (Ending ending) within inner p to old old refl was (record { lists = refl; items = refl; places = refl; first = refl }) (
      stands_there r text front (opened (join o.kids (one_block (Ending ending))) o.outer o.places) within inner (Between left) to old.walk next.laid.0 next.laid.1.2 ended))

  pub line_ends : (old new : Parser A) (r : Reading) (ending : Option LineEnding) → old.walk.is_in_line ≡ true → KeepsOpen old new
      → EndsLine (standing old.walk) (standing new.walk) → WritesEnding n.LineEnding old.walk new.walk → HasSameOpen (standing old.walk) (standing new.walk)
      → line_after new.walk ≡ line_after old.walk → GoesOn r (Single (Ending ending)) old new
  line_ends old new r ending some keeps ends writes same after text front o within inner p to next was =
      let left = next.laid.1.0 in
      let more = opened (join o.kids (one_block (Ending ending))) o.outer o.places in
      let stands : Stands r text front o within (AtEnding ending left) old.walk =
      subst (λ (q : Place). Stands r text front o within q old.walk) next.laid.1.1 was.stands in
      let ended : Stands r text front more within (Between left) new.walk =
      elim stands.at [
        | inl at ↦
            let st = at.0 in
            let outside : ending ≡ None → o.outer ≡ [] =
            λ none. next.last (next.laid.1.2 ∙ ap Between (none_left text (standing old.walk) left st.line (st.ending ∙ none) st.unread)) in
            let nodes : AreEnding text n.LineEnding ending (void_nodes text n.LineEnding (written_to old.walk) (line_after old.walk)) =
            subst (λ (e : Option LineEnding). AreEnding text n.LineEnding e (void_nodes text n.LineEnding (written_to old.walk) (line_after old.walk))) st.ending (
            subst (λ (x : End). AreEnding text n.LineEnding old.walk.ending (void_nodes text n.LineEnding x (line_after old.walk))) (sym at.1) (
            ending_nodes text n.LineEnding (standing old.walk) refl st.line)) in
            ending_stands r text front (always_go_on r text front) o within ending left old.walk new.walk outside st at.1 at.2 stands ends writes same after nodes
            (line_apart text (standing old.walk) st.line)
        | inr past ↦ absurd (true≢false (sym some ∙ past.2.begun))
      ] in
      parsing_after r text front o (Ending ending) within inner p to old new refl was keeps (
      stands_there r text front more within inner (Between left) to new.walk next.laid.0 next.laid.1.2 ended)

  -- a blank line
  pub blank_goes_on : (old new : Parser A) (r : Reading) (ending : Option LineEnding) → KeepsOpen old new → WritesBlankLaid old.walk new.walk
      → (old.walk.is_in_line ≡ true → line_after new.walk ≡ line_after old.walk) → GoesOnInLine r (Single (Blank ending)) old new
  blank_goes_on old new r ending keeps writes after text front o within inner (Between left) to in_line next was = absurd (true≢false (sym in_line))
  blank_goes_on old new r ending keeps writes after text front o within inner (AtEnding last left) to in_line next was = absurd next.laid.1.2
  blank_goes_on old new r ending keeps writes after text front o within inner (Within here left) to in_line next was =
      let blank = next.laid.1 in
      let others = blank.1 in
      let more = opened (join o.kids (one_block (Blank ending))) o.outer o.places in
      let laid : IsBlankLaid old.walk.on.now (around (standing old.walk)) ending (Within here left) (Between others) =
      subst (λ (on : Constructs). IsBlankLaid on (around (standing old.walk)) ending (Within here left) (Between others)) (sym was.stands.constructs) (
      subst (λ (cs : List Container). IsBlankLaid r.parse.constructs cs ending (Within here left) (Between others)) (sym was.stands.around) (
      subst (λ (q : Place). IsBlankLaid r.parse.constructs within ending (Within here left) q) blank.5 blank)) in
      let ended : Stands r text front more within (Between others) new.walk =
      elim was.stands.at [
        | inl at ↦
            let st = at.0 in
            let last : here.beside.ending ≡ ending = ap (λ (l : LineRest). l.beside.ending) (ap line_left blank.2.0) ∙ sym blank.4 in
            let outside : ending ≡ None → o.outer ≡ [] =
            λ none. next.last (blank.5 ∙ ap Between (sym blank.2.1 ∙ none_left text (standing old.walk) left st.line (st.ending ∙ last ∙ none) st.unread)) in
            blank_stands r text front (always_go_on r text front) o within here left others ending old.walk new.walk outside was.stands
            (writes text ending here left (Between others) st at.1 was.stands.order laid) last (line_apart text (standing old.walk) st.line) (after st.line.begun)
        | inr past ↦ absurd past
      ] in
      parsing_after r text front o (Blank ending) within inner (Within here left) to old new refl was keeps (
      stands_there r text front more within inner (Between others) to new.walk next.laid.0 blank.5 ended)

  -- if the call succeeds
  pub line_ended : {T E : Type 0} (result : Result T E) (old new : Parser A) → old.walk.is_in_line ≡ true → KeepsOpen old new
      → OnOk result (EndsLine (standing old.walk) (standing new.walk)) → OnOk result (WritesEnding n.LineEnding old.walk new.walk)
      → OnOk result (HasSameOpen (standing old.walk) (standing new.walk)) → OnOk result (line_after new.walk ≡ line_after old.walk)
      → OnOk result ((r : Reading) (ending : Option LineEnding) → GoesOn r (Single (Ending ending)) old new)
  line_ended (Ok x) old new some keeps ends writes same after = λ r ending. line_ends old new r ending some keeps ends writes same after
  line_ended (Err e) old new some keeps ends writes same after = tt

  pub blank_ended : {T E : Type 0} (result : Result T E) (old new : Parser A) → KeepsOpen old new → OnOk result (WritesBlankLaid old.walk new.walk)
      → (old.walk.is_in_line ≡ true → OnOk result (line_after new.walk ≡ line_after old.walk))
      → OnOk result ((r : Reading) (ending : Option LineEnding) → GoesOnInLine r (Single (Blank ending)) old new)
  blank_ended (Ok x) old new keeps writes after = λ r ending. blank_goes_on old new r ending keeps writes after
  blank_ended (Err e) old new keeps writes after = tt
