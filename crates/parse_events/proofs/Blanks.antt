-- A walk stands after a blank line, if that is written.
use Rattle.std.proofs.Common.{◌≡◌, inl, inr, ◌+◌, ℕ, List, [], Option, None, Some, refl, sym, ap, ◌∙◌, subst, reverse, arith}
use Rattle.parse_events.proofs.Prelude.{append, AreEnding, AreQuiet, Between, Blank, Container, End, ends_in_blank, forest_in, Growth, IsBegun, join}
use Rattle.parse_events.proofs.Prelude.{LevelsGoOn, line_after, line_at, LineEnding, LineRest, Nodes, one, one_block, Opened, opened, Reading, Spells}
use Rattle.parse_events.proofs.Prelude.{standing, Stands, Walk, with_nodes, Within, written_to}
use Rattle.engine_events.specs.declared.event.Name.TheVariants as n
use Rattle.parse_raw.specs.Laid.{WritesBlank}
use Rattle.parse_events.proofs.Endings.{IsApart, begun_more, next_line, quiet_mute, with_none}
use Rattle.parse_events.proofs.LastBlank.{blank_ends}
use Rattle.parse_events.proofs.Lines.{rest_before_end, on_line}
use Rattle.parse_events.proofs.Leaves.{with_both}

module _ (r : Reading) (text : List ℕ) (front : Nodes) (go : LevelsGoOn r text front) where
  spells_blank : (o : Opened) (ending : Option LineEnding) (g h : Growth) (before ns : Nodes) (from to : ℕ) → (ending ≡ None → o.outer ≡ []) → IsBegun o
      → AreQuiet before → AreEnding text n.BlankLineEnding ending ns → h ≡ with_nodes g (append before ns)
      → ((e : LineEnding) → ending ≡ Some e → line_at text to ≡ line_at text from + 1) → Spells r text front o g (line_at text from)
      → Spells r text front (opened (join o.kids (one_block (Blank ending))) o.outer o.places) h (line_at text to)
  spells_blank o None g h before ns from to outside begun quiet is grown next spells =
      let mid = with_nodes g before in
      let same : h ≡ mid = grown ∙ sym (with_both g before ns) ∙ ap (with_nodes mid) is ∙ with_none mid in
      subst (λ (x : Growth). Spells r text front (opened (join o.kids (one_block (Blank None))) o.outer o.places) x (line_at text to)) (sym same) (
      go.no_blank o mid (line_at text from) (line_at text to) (outside refl) (go.mute o g (line_at text from) before (quiet_mute before quiet) begun spells))
  spells_blank o (Some e) g h before ns from to outside begun quiet is grown next spells =
      let more = opened (join o.kids (one_block (Blank (Some e)))) o.outer o.places in
      let mid = with_nodes g before in
      let same : h ≡ with_nodes mid (one is.0) = grown ∙ sym (with_both g before ns) ∙ ap (with_nodes mid) is.1 in
      subst (λ (x : Growth). Spells r text front more x (line_at text to)) (sym same) (
      subst (λ (k : ℕ). Spells r text front more (with_nodes mid (one is.0)) k) (sym (next e refl)) (
      go.blank o mid (line_at text from) e is.0 (record { named = is.2; empty = is.3; bytes = is.4 }) begun (
      go.mute o g (line_at text from) before (quiet_mute before quiet) begun spells)))

module _ {A : Type 0} (r : Reading) (text : List ℕ) (front : Nodes) (go : LevelsGoOn r text front) where
  pub blank_stands : (o : Opened) (within : List Container) (here : LineRest) (left lines : List LineRest) (ending : Option LineEnding) (old new : Walk A)
      → (ending ≡ None → o.outer ≡ []) → Stands r text front o within (Within here left) old → WritesBlank text ending (Between lines) old new
      → here.beside.ending ≡ ending → IsApart text old.line_end → line_after new ≡ line_after old
      → Stands r text front (opened (join o.kids (one_block (Blank ending))) o.outer o.places) within (Between lines) new
  blank_stands o within here left lines ending old new outside was written is apart after =
      elim was.at [
        | inl at ↦
            record {
              constructs = written.around.0 ∙ was.constructs;
              around = ap reverse written.around.1 ∙ was.around;
              same = was.same;
              order = written.writes.order;
              at = inl (written.stands, written.written, tt);
              spells =
                  spells_blank r text front go o ending (forest_in text old.out) (forest_in text new.out) written.before written.nodes (written_to old).index
                  (written_to new).index outside was.begun written.are_quiet written.are_ending written.writes.forest
                  (λ e some. ap (λ (x : End). line_at text x.index) (written.written ∙ after)
                  ∙ next_line text (standing old) e at.0.line (at.0.ending ∙ is ∙ some) apart
                  ∙ ap (λ (k : ℕ). k + 1) (sym (on_line text here left old (written_to old).index at.0 at.1 (omega arith) (rest_before_end text here left old at.0 at.1))))
                  was.spells;
              begun = begun_more o (Blank ending);
              ends = λ top.
                  ap (λ (g : Growth). ends_in_blank g.kids) written.writes.forest
                  ∙ blank_ends text ending here left o.kids (forest_in text old.out).kids written.before written.nodes
                  (quiet_mute written.before written.are_quiet) written.are_ending is (λ none. sym at.0.rest ∙ written.space none) (was.ends top);
            }
        | inr past ↦ absurd past
      ]
