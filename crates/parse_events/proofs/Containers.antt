-- A walk stands after the start or the end of a container or a list, if that is written.
use Rattle.std.proofs.Common.{◌≡◌, ◌⊎◌, inl, inr, ◌≤◌, ◌-◌, ℕ, Bool, true, false, List, [], ◌∷◌, sym, ap, ap₂, ◌∙◌, subst, length, map}
use Rattle.parse_events.proofs.Prelude.{AreQuiet, around, AtEnding, bare_container, Between, blank_one, Block, Blocks, Container, containers, End, end_at}
use Rattle.parse_events.proofs.Prelude.{end_in, ends_in_blank, entered, Event, Exits, forest_in, Growth, HasStart, Holds, InContainer, InList, innermost}
use Rattle.parse_events.proofs.Prelude.{is_in_list, is_item, IsAfterOther, IsBegun, IsNamed, IsOfList, IsPastCode, IsStartName, Items, join, level, Level}
use Rattle.parse_events.proofs.Prelude.{LevelsGoOn, line_at, Name, named, Nil, NoBlock, Node, node_name, Nodes, one, one_block, opened, Opened, Place, Reading}
use Rattle.parse_events.proofs.Prelude.{rest_start, Spells, Standing, standing, Stands, StandsAt, true≢false, Walk, with_nodes, Within, within, written_to}
use Rattle.definition_text.specs.Columns.{Rest}
use Rattle.engine_events.specs.declared.event.Name.TheVariants as n
use Rattle.block_starts.specs.View.{rest_of}
use Rattle.event_grammar.specs.declared.slot.Between.TheVariants.{Lines}
use Rattle.event_grammar.specs.Points.{spot_of}
use Rattle.parse_output.specs.Ends.{exit_at}
use Rattle.parse_output.specs.Forest.{exited}
use Rattle.parse_slots.specs.Left.{IsFilled}
use Rattle.parse_references.specs.Sound.{IsSound}
use Rattle.parse_open.specs.Filled.{holder_form}
use Rattle.parse_open.proofs.Ends.{exited_other}
use Rattle.parse_events.specs.Stands.{IsWrittenAt}
use Rattle.parse_events.proofs.Endings.{begun_more, quiet_mute, with_none}
use Rattle.parse_events.proofs.LastBlank.{other_ends}
use Rattle.parse_events.proofs.Leaves.{HoldsOthers, ends_holding}

module _ (r : Reading) (text : List ℕ) (front : Nodes) (go : LevelsGoOn r text front) where
  -- white space before a start
  spells_space : (o : Opened) (g : Growth) (space : Nodes) (line : ℕ) → IsBegun o ⊎ (space ≡ Nil) → AreQuiet space → Spells r text front o g line
      → Spells r text front o (with_nodes g space) line
  spells_space o g space line (inl begun) quiet spells = go.mute o g line space (quiet_mute space quiet) begun spells
  spells_space o g space line (inr none) quiet spells =
      subst (λ (x : Growth). Spells r text front o x line) (sym (ap (with_nodes g) none ∙ with_none g)) spells

  pub spells_start : (o : Opened) (c : Container) (goes_on : Bool) (enter : Event) (g mid h : Growth) (space : Nodes) (first : Node) (from other : ℕ)
      → IsBegun o ⊎ (space ≡ Nil) → AreQuiet space → mid ≡ with_nodes g space → h ≡ with_nodes (entered mid enter) (one first)
      → is_in_list o.outer ≡ is_item (InContainer c goes_on) → IsNamed (InContainer c goes_on) enter.name
      → IsOfList (InContainer c goes_on) (innermost g.outer) → (spot_of enter).index ≤ length text → IsStartName (node_name first)
      → named n.Definition (one first) ≡ [] → HasStart r text front (InContainer c goes_on) enter.name NoBlock (one first)
      → IsFilled Lines (holder_form (InContainer c goes_on)) first → IsSound r.parse.constructs r.tables.names text first
      → line_at text (spot_of enter).index ≡ line_at text from → Spells r text front o g (line_at text from)
      → Spells r text front (within (InContainer c goes_on) o) h (line_at text other)
  spells_start o c goes_on enter g mid h space first from other nothing quiet white grown stands is of_list fits start none has filled sound line spells =
      let new = within (InContainer c goes_on) o in
      subst (λ (x : Growth). Spells r text front new x (line_at text other)) (sym (grown ∙ ap (λ (x : Growth). with_nodes (entered x enter) (one first)) white)) (
      go.container o (with_nodes g space) (line_at text other) c goes_on enter first stands is of_list fits start none has filled sound (
      subst (λ (k : ℕ). Spells r text front o (with_nodes g space) k) (sym line) (
      spells_space o g space (line_at text from) nothing quiet spells)))

abbrev some_level : List Level → Bool
some_level [] = false
some_level (l ∷ levels) = true

-- what stands at a place still does, where all that tells it is the same
pub record IsSameLine {A : Type 0} (old new : Walk A) : Type 0 where
  pub size : new.size ≡ old.size
  pub left : new.left.now ≡ old.left.now
  pub rest : rest_of new.rest ≡ rest_of old.rest
  pub line_end : new.line_end ≡ old.line_end
  pub written : written_to new ≡ written_to old

-- after a block that isn't unclosed code
pub after_other : (o : Opened) (b : Block) (bs : Blocks) (levels : List Level) (p : Place) → HoldsOthers b
    → IsAfterOther (opened (join bs (one_block b)) levels o.places) p
after_other o b bs levels (Between left) other = tt
after_other o b bs levels (Within here left) other = tt
after_other o b bs levels (AtEnding ending left) other = λ outside. ends_holding false bs b other

module _ {A : Type 0} where
  pub written_still : (p : Place) (old new : Walk A) → IsSameLine old new → IsWrittenAt p old → IsWrittenAt p new
  written_still (Between left) old new same wr =
      same.written ∙ wr ∙ ap₂ (λ (a : ℕ) (b : List ℕ). end_at (a - length b) 0) (sym same.size) (sym same.left)
  written_still (Within here left) old new same wr = same.written ∙ wr ∙ ap₂ (λ (a : ℕ) (b : Rest). rest_start a b) (sym same.line_end) (sym same.rest)
  written_still (AtEnding ending left) old new same wr = same.written ∙ wr ∙ ap (λ (a : ℕ). end_at a 0) (sym same.line_end)

  no_past : (text : List ℕ) (o : Opened) (p : Place) (w : Walk A) (l : Level) (levels : List Level) → o.outer ≡ l ∷ levels → IsPastCode text o p w → ⊥
  no_past text o (Between left) w l levels is past = past
  no_past text o (Within here left) w l levels is past = past
  no_past text o (AtEnding ending left) w l levels is past = true≢false (ap some_level (sym is ∙ past.0))

  module _ (r : Reading) (text : List ℕ) (front : Nodes) (go : LevelsGoOn r text front) where
    -- the innermost container ends
    pub container_ends : (o : Opened) (c : Container) (goes_on : Bool) (before : Blocks) (levels : List Level) (outer inner : List Container) (p : Place) (name : Name)
        (old new : Walk A) → o.outer ≡ level (InContainer c goes_on) before ∷ levels → Stands r text front o outer p old
        → new.on.now ≡ old.on.now → around (standing new) ≡ inner → map bare_container inner ≡ containers levels
        → (StandsAt text p (standing old) → StandsAt text p (standing new)) → IsSameLine old new → Exits text name old.out new.out
        → Stands r text front (opened (join before (one_block (Holds c o.kids))) levels o.places) inner p new
    container_ends o c goes_on before levels outer inner p name old new is was on inside same still line exits =
        elim was.at [
          | inl at ↦
              record {
                constructs = on ∙ was.constructs;
                around = inside;
                same = same;
                order = exits.order;
                at = inl (still at.0, written_still p old new line at.1, after_other o (Holds c o.kids) before levels p tt);
                spells =
                    let exit = exit_at text name (end_in old.out) in
                    let more = opened (join before (one_block (Holds c o.kids))) levels o.places in
                    subst (λ (g : Growth). Spells r text front more g (line_at text (written_to new).index)) (sym exits.forest) (
                    subst (λ (x : End). Spells r text front more (exited (forest_in text old.out) exit) (line_at text x.index)) (sym line.written) (
                    go.container_ends o (forest_in text old.out) c goes_on before levels exit is was.spells));
                begun = begun_more (opened before levels o.places) (Holds c o.kids);
                ends = λ top.
                    other_ends p (join before (one_block (Holds c o.kids))) (forest_in text new.out).kids
                    (ap (λ (g : Growth). ends_in_blank g.kids) exits.forest
                    ∙ exited_other r text front o (forest_in text old.out) (InContainer c goes_on) before levels (line_at text (written_to old).index)
                    (exit_at text name (end_in old.out)) is was.spells)
                    (blank_one false before (Holds c o.kids));
              }
          | inr past ↦ absurd (no_past text o p old (level (InContainer c goes_on) before) levels is past)
        ]

    -- the innermost list ends
    pub list_ends : (o : Opened) (before items : Blocks) (item : Block) (levels : List Level) (outer : List Container) (p : Place) (name : Name)
        (old new : Walk A) → o.outer ≡ level InList before ∷ levels → o.kids ≡ join items (one_block item) → Stands r text front o outer p old
        → standing new ≡ standing old → map bare_container outer ≡ containers levels
        → IsSameLine old new → Exits text name old.out new.out
        → Stands r text front (opened (join before (one_block (Items o.kids))) levels o.places) outer p new
    list_ends o before items item levels outer p name old new is last was stays same line exits =
        elim was.at [
          | inl at ↦
              record {
                constructs = ap (λ (s : Standing). s.on) stays ∙ was.constructs;
                around = ap around stays ∙ was.around;
                same = same;
                order = exits.order;
                at = inl (subst (StandsAt text p) (sym stays) at.0, written_still p old new line at.1, after_other o (Items o.kids) before levels p tt);
                spells =
                    let exit = exit_at text name (end_in old.out) in
                    let more = opened (join before (one_block (Items o.kids))) levels o.places in
                    subst (λ (g : Growth). Spells r text front more g (line_at text (written_to new).index)) (sym exits.forest) (
                    subst (λ (x : End). Spells r text front more (exited (forest_in text old.out) exit) (line_at text x.index)) (sym line.written) (
                    go.list_ends o (forest_in text old.out) before items item levels exit is last was.spells));
                begun = begun_more (opened before levels o.places) (Items o.kids);
                ends = λ top.
                    other_ends p (join before (one_block (Items o.kids))) (forest_in text new.out).kids
                    (ap (λ (g : Growth). ends_in_blank g.kids) exits.forest
                    ∙ exited_other r text front o (forest_in text old.out) InList before levels (line_at text (written_to old).index)
                    (exit_at text name (end_in old.out)) is was.spells)
                    (blank_one false before (Items o.kids));
              }
          | inr past ↦ absurd (no_past text o p old (level InList before) levels is past)
        ]
