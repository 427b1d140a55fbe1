-- A walk stands in a line, if it is begun.
use Rattle.std.proofs.Common.{◌≡◌, inl, inr, ◌≤◌, ◌+◌, ℕ, true, Bool, false, List, [], ◌∷◌, Option, refl, sym, ap, ◌∙◌, subst, arith, length, map, drop, reverse}
use Rattle.parse_events.proofs.Prelude.{AreEndsAlike, around, AtEnding, bare_container, begun, Between, Constructs, Container, containers, End, EndsInLine}
use Rattle.parse_events.proofs.Prelude.{forest_in, Growth, HasSameOpen, is_in_line, IsLineBegun, IsWrittenToRest, LevelsGoOn, line_at, LineEnding, LineRest}
use Rattle.parse_events.proofs.Prelude.{lines_are_counted, Nodes, Opened, Place, Reading, rest_start, Spells, standing, Stands, StandsAt, true≢false, Walk}
use Rattle.parse_events.proofs.Prelude.{whole, with_nodes, Within, WritesLine, written_to}
use Rattle.parse_lines.specs.Ends.{IsInLineFrom}
use Rattle.parse_lines.proofs.Ends.{line_follows, rest_to_end, start_line}
use Rattle.parse_events.proofs.Endings.{quiet_mute}
use Rattle.parse_events.proofs.LastBlank.{begun_ends, next_more}

abbrev some_container : List Container → Bool
some_container [] = false
some_container (c ∷ cs) = true

none_mapped : (f : Container → Container) (cs : List Container) → map f cs ≡ [] → cs ≡ []
none_mapped f [] none = refl
none_mapped f (c ∷ cs) none = absurd (true≢false (ap some_container none))

-- as many lines end before each index of the line from which on something is left
pub on_line : {A : Type 0} (text : List ℕ) (here : LineRest) (left : List LineRest) (w : Walk A) (i : ℕ) → StandsAt text (Within here left) (standing w)
    → IsWrittenToRest w → (written_to w).index ≤ i → i ≤ w.line_end → line_at text i ≡ line_at text w.line_end
on_line text here left w i st wr first last =
    let before = st.line.before in
    let content = st.line.content in
    let parts = st.line.parts in
    let is : written_to w ≡ rest_start w.line_end (drop st.columns (whole content)) = wr ∙ ap (rest_start w.line_end) (st.rest ∙ st.suffix) in
    let least : (rest_start w.line_end (whole content)).index ≤ (rest_start w.line_end (drop st.columns (whole content))).index =
    (line_follows text before content _ w.line_end 0 st.columns parts st.line.end (omega arith)).forward in
    let start : (rest_start w.line_end (whole content)).index ≡ length before = ap (λ (x : End). x.index) (start_line before content w.line_end parts.bytes st.line.end) in
    let at : (written_to w).index ≡ (rest_start w.line_end (drop st.columns (whole content))).index = ap (λ (x : End). x.index) is in
    let end : w.line_end ≡ length before + length content = st.line.end in
    let low : length before ≤ i = omega (arith, least, start, at, first) in
    let high : i ≤ length before + length content = omega (arith, end, last) in
    lines_are_counted.same text before content _ i parts.parts parts.dark low high ∙ ap (line_at text) (sym end)

-- where a walk in a line is written up to
pub rest_before_end : {A : Type 0} (text : List ℕ) (here : LineRest) (left : List LineRest) (w : Walk A) → StandsAt text (Within here left) (standing w)
    → IsWrittenToRest w → (written_to w).index ≤ w.line_end
rest_before_end text here left w st wr =
    let is : written_to w ≡ rest_start w.line_end (drop st.columns (whole st.line.content)) = wr ∙ ap (rest_start w.line_end) (st.rest ∙ st.suffix) in
    let most : (rest_start w.line_end (drop st.columns (whole st.line.content))).index ≤ w.line_end =
    (rest_to_end text st.line.before st.line.content _ w.line_end st.columns st.line.parts st.line.end).forward in
    omega (arith, most, ap (λ (x : End). x.index) is)

-- the line of a walk
pub rest_line_at : {A : Type 0} (text : List ℕ) (here : LineRest) (left : List LineRest) (w : Walk A) (i : ℕ) → StandsAt text (Within here left) (standing w)
    → IsWrittenToRest w → (written_to w).index ≤ i → i ≤ w.line_end → line_at text i ≡ line_at text (written_to w).index
rest_line_at text here left w i st wr first last =
    on_line text here left w i st wr first last
    ∙ sym (on_line text here left w (written_to w).index st wr (omega arith) (rest_before_end text here left w st wr))

-- as many lines end before two places of a line
from_line : (text : List ℕ) (first index : ℕ) → IsInLineFrom text first index → line_at text index ≡ line_at text first
from_line text first index is =
    let begins = is.begins in
    let forward = is.forward in
    let within = is.within in
    lines_are_counted.same text is.before is.content is.after index is.parts is.dark (omega (arith, begins, forward)) within
    ∙ sym (lines_are_counted.same text is.before is.content is.after first is.parts is.dark (omega (arith, begins)) (omega (arith, begins)))

module _ {A : Type 0} (r : Reading) (text : List ℕ) (front : Nodes) (go : LevelsGoOn r text front) where
  pub begun_stands : (o : Opened) (within : List Container) (p : Place) (old new : Walk A) → is_in_line (begun r.parse.constructs within p) ≡ true
      → ((ending : Option LineEnding) (left : List LineRest) → p ≡ AtEnding ending left → o.outer ≡ [] → ⊥) → Stands r text front o within p old
      → IsLineBegun (standing old) (standing new) → WritesLine old new → HasSameOpen (standing old) (standing new)
      → (old.is_in_line ≡ true → new ≡ old) → EndsInLine old new → Stands r text front o within (begun r.parse.constructs within p) new
  begun_stands o within (Between []) old new some never was begins writes same stays line = absurd (true≢false (sym some))
  begun_stands o within (Between (next ∷ others)) old new some never was begins writes same stays line =
      elim was.at [
        | inl at ↦
            let places : begun old.on.now (around (standing old)) (Between (next ∷ others)) ≡ begun r.parse.constructs within (Between (next ∷ others)) =
            ap (λ (on : Constructs). begun on (around (standing old)) (Between (next ∷ others))) was.constructs
            ∙ ap (λ (cs : List Container). begun r.parse.constructs cs (Between (next ∷ others))) was.around in
            let written = writes text next others at.0 at.1 was.order in
            let quiet = written.0 in
            record {
              constructs = same.0 ∙ was.constructs;
              around = ap reverse same.1 ∙ was.around;
              same = was.same;
              order = quiet.writes.order;
              at = inl (subst (λ (p : Place). StandsAt text p (standing new)) places (begins text (Between (next ∷ others)) refl at.0), written.1, tt);
              spells =
                  subst (λ (g : Growth). Spells r text front o g (line_at text (written_to new).index)) (sym quiet.writes.forest) (
                  subst (λ (k : ℕ). Spells r text front o (with_nodes (forest_in text old.out) quiet.nodes) k) (sym (from_line text _ _ (line text next others at.0 at.1 was.order))) (
                  go.mute o (forest_in text old.out) (line_at text (written_to old).index) quiet.nodes (quiet_mute quiet.nodes quiet.quiet) was.begun was.spells));
              begun = was.begun;
              ends = λ top.
                  subst (AreEndsAlike (begun r.parse.constructs within (Between (next ∷ others))) o.kids) (sym (ap (λ (g : Growth). g.kids) quiet.writes.forest)) (
                  begun_ends r.parse.constructs within next others o.kids (forest_in text old.out).kids quiet.nodes
                  (none_mapped bare_container within (was.same ∙ ap containers top)) (next_more next others at.0.kind old.left.now at.0.unread)
                  (quiet_mute quiet.nodes quiet.quiet) (was.ends top));
            }
        | inr past ↦ absurd past
      ]
  begun_stands o within (Within here left) old new some never was begins writes same stays line =
      elim was.at [
        | inl at ↦ subst (λ (w : Walk A). Stands r text front o within (Within here left) w) (sym (stays at.0.line.begun)) was
        | inr past ↦ absurd past
      ]
  begun_stands o within (AtEnding ending left) old new some never was begins writes same stays line =
      elim was.at [
        | inl at ↦ subst (λ (w : Walk A). Stands r text front o within (AtEnding ending left) w) (sym (stays at.0.line.begun)) was
        | inr past ↦ absurd (never ending left refl past.0)
      ]
