-- A walk stands after a leaf or a blank line, if that is written.
use Rattle.std.proofs.Common.{◌≡◌, inl, inr, ◌≤◌, ℕ, Bool, true, false, List, [], ◌++◌, Option, None, Some, refl, sym, ap, ◌∙◌, subst, arith, length, length-append, reverse}
use Rattle.parse_events.proofs.Prelude.{append, append-assoc, AreQuiet, Around, AtEnding, Blank, Block, Blocks, ConsBlock, Container, End, Ending, ending_text}
use Rattle.parse_events.proofs.Prelude.{ends_in_blank, ends_unclosed, forest_in, Growth, Holds, is_in_list, is_unclosed, IsBegun, IsInLine, Items, join, Leaf}
use Rattle.parse_events.proofs.Prelude.{leaf_definitions, LeafBlock, LevelsGoOn, line_at, LineEnding, LineRest, next_stands, Nil, NoBlock, Node, node_end}
use Rattle.parse_events.proofs.Prelude.{node_start, Nodes, one, one_block, Opened, opened, Place, read_leaf, Reading, Spells, Standing, standing, Stands, Walk}
use Rattle.parse_events.proofs.Prelude.{with_nodes, Within, WritesLeaf, WritesToEnd, written_to}
use Rattle.definition_inline.specs.Definition.{Definition}
use Rattle.event_grammar.specs.declared.slot.Between.TheVariants.{Lines}
use Rattle.event_grammar.specs.declared.slot.Form.TheVariants.{Plain}
use Rattle.parse_raw.specs.Written.{SpellsLeaf}
use Rattle.parse_slots.specs.Left.{IsFilled}
use Rattle.parse_events.proofs.Endings.{begun_more, quiet_mute}
use Rattle.parse_events.proofs.LastBlank.{leaf_ends}
use Rattle.parse_events.proofs.Lines.{rest_line_at}

-- in a line, no more is written than the text has
pub line_in_text : (text : List ℕ) (s : Standing) → IsInLine text s → s.line_end ≤ length text
line_in_text text s line =
    let parts = ap length line.parts.parts in
    let after = ending_text s.ending ++ s.left in
    let first = length-append line.before (line.content ++ after) in
    let second = length-append line.content after in
    let end = line.end in
    omega (arith, parts, first, second, end)

pub with_both : (g : Growth) (ns ms : Nodes) → with_nodes (with_nodes g ns) ms ≡ with_nodes g (append ns ms)
with_both g ns ms = ap (λ (kids : Nodes). record { kids = kids; outer = g.outer }) (append-assoc g.kids ns ms)

-- the last of some blocks and one more
pub ends_with : (before : Bool) (bs : Blocks) (leaf : LeafBlock) → ends_unclosed before (join bs (one_block (Leaf leaf))) ≡ is_unclosed leaf
ends_with before NoBlock leaf = refl
ends_with before (ConsBlock (Leaf first) bs) leaf = ends_with (is_unclosed first) bs leaf
ends_with before (ConsBlock (Holds c kids) bs) leaf = ends_with false bs leaf
ends_with before (ConsBlock (Items items) bs) leaf = ends_with false bs leaf
ends_with before (ConsBlock (Ending None) bs) leaf = ends_with before bs leaf
ends_with before (ConsBlock (Ending (Some ending)) bs) leaf = ends_with false bs leaf
ends_with before (ConsBlock (Blank None) bs) leaf = ends_with before bs leaf
ends_with before (ConsBlock (Blank (Some ending)) bs) leaf = ends_with false bs leaf

-- a block that holds others
abbrev pub HoldsOthers : Block → Type 0
HoldsOthers (Leaf leaf) = ⊥
HoldsOthers (Holds c kids) = Unit {0}
HoldsOthers (Items items) = Unit {0}
HoldsOthers (Ending ending) = ⊥
HoldsOthers (Blank ending) = ⊥

pub ends_holding : (before : Bool) (bs : Blocks) (b : Block) → HoldsOthers b → ends_unclosed before (join bs (one_block b)) ≡ false
ends_holding before NoBlock (Leaf leaf) holds = absurd holds
ends_holding before NoBlock (Holds c kids) holds = refl
ends_holding before NoBlock (Items items) holds = refl
ends_holding before NoBlock (Ending ending) holds = absurd holds
ends_holding before NoBlock (Blank ending) holds = absurd holds
ends_holding before (ConsBlock (Leaf first) bs) b holds = ends_holding (is_unclosed first) bs b holds
ends_holding before (ConsBlock (Holds c kids) bs) b holds = ends_holding false bs b holds
ends_holding before (ConsBlock (Items items) bs) b holds = ends_holding false bs b holds
ends_holding before (ConsBlock (Ending None) bs) b holds = ends_holding before bs b holds
ends_holding before (ConsBlock (Ending (Some ending)) bs) b holds = ends_holding false bs b holds
ends_holding before (ConsBlock (Blank None) bs) b holds = ends_holding before bs b holds
ends_holding before (ConsBlock (Blank (Some ending)) bs) b holds = ends_holding false bs b holds

module _ (r : Reading) (text : List ℕ) (front : Nodes) (go : LevelsGoOn r text front) where
  -- a leaf after nodes that spell nothing
  pub spells_leaf : (o : Opened) (leaf : LeafBlock) (g h : Growth) (before : Nodes) (node : Node) (from to : ℕ) → is_in_list o.outer ≡ false → IsBegun o
      → AreQuiet before → SpellsLeaf r.parse.constructs r.tables.names text (next_stands o).top (read_leaf r (next_stands o) leaf) (leaf_definitions leaf) node
      → IsFilled Lines Plain node → h ≡ with_nodes g (append before (one node)) → line_at text (node_start node).index ≡ line_at text from → (node_start node).index ≤ length text
      → (node_end node).index ≡ to → Spells r text front o g (line_at text from)
      → Spells r text front (opened (join o.kids (one_block (Leaf leaf))) o.outer o.places) h (line_at text to)
  spells_leaf o leaf g h before (Around enter kids exit) from to bare begun quiet own filled grown start within end spells =
      let more = opened (join o.kids (one_block (Leaf leaf))) o.outer o.places in
      let mid = with_nodes g before in
      subst (λ (x : Growth). Spells r text front more x (line_at text to)) (with_both g before (one (Around enter kids exit)) ∙ sym grown) (
      subst (λ (k : ℕ). Spells r text front more (with_nodes mid (one (Around enter kids exit))) (line_at text k)) end (
      go.leaf o mid leaf enter exit kids bare (record { is_block = own.is_block; blocks = own.blocks; defined = own.definitions; filled = filled; sound = own.sound }) within (
      subst (λ (k : ℕ). Spells r text front o mid k) (sym start) (
      go.mute o g (line_at text from) before (quiet_mute before quiet) begun spells))))

module _ {A : Type 0} (r : Reading) (text : List ℕ) (front : Nodes) (go : LevelsGoOn r text front) where
  pub leaf_stands : (o : Opened) (within : List Container) (here : LineRest) (left lines : List LineRest) (ending : Option LineEnding) (leaf : LeafBlock)
      (old new : Walk A) → is_in_list o.outer ≡ false → Stands r text front o within (Within here left) old → (o.outer ≡ [] → is_unclosed leaf ≡ false)
      → WritesLeaf r.parse.constructs r.tables.names text (next_stands o).top (read_leaf r (next_stands o) leaf) (leaf_definitions leaf) (AtEnding ending lines) old new
      → Stands r text front (opened (join o.kids (one_block (Leaf leaf))) o.outer o.places) within (AtEnding ending lines) new
  leaf_stands o within here left lines ending leaf old new bare was closed written =
      elim was.at [
        | inl at ↦
            record {
              constructs = written.around.0 ∙ was.constructs;
              around = ap reverse written.around.1 ∙ was.around;
              same = was.same;
              order = written.writes.order;
              at = inl (written.stands, written.written, λ top. ends_with false o.kids leaf ∙ closed top);
              spells =
                  spells_leaf r text front go o leaf (forest_in text old.out) (forest_in text new.out) written.before written.node (written_to old).index
                  (written_to new).index bare was.begun written.are_quiet written.spells written.filled
                  written.writes.forest
                  (rest_line_at text here left old (node_start written.node).index at.0 at.1 written.starts written.begins)
                  (let end = line_in_text text (standing old) at.0.line in let begins = written.begins in omega (arith, end, begins))
                  (written.ends ∙ sym (ap (λ (x : End). x.index) written.written))
                  was.spells;
              begun = begun_more o (Leaf leaf);
              ends = λ top.
                  let ends =
                  leaf_ends o.kids (Leaf leaf) (forest_in text old.out).kids written.before Nil written.node refl written.spells.is_block tt in
                  (ap (λ (g : Growth). ends_in_blank g.kids) written.writes.forest ∙ ends.0, ends.1);
            }
        | inr past ↦ absurd past
      ]

  -- fenced code at the top that isn't closed
  pub code_stands : (o : Opened) (within : List Container) (here : LineRest) (left : List LineRest) (to : Place) (leaf : LeafBlock)
      (old new : Walk A) → o.outer ≡ [] → Stands r text front o within (Within here left) old → is_unclosed leaf ≡ true
      → (next_stands o).top ≡ true → leaf_definitions leaf ≡ [] → WritesToEnd r.parse.constructs r.tables.names text (read_leaf r (next_stands o) leaf) to old new
      → Stands r text front (opened (join o.kids (one_block (Leaf leaf))) o.outer o.places) within to new
  code_stands o within here left to leaf old new outside was unclosed top none written =
      let more = opened (join o.kids (one_block (Leaf leaf))) o.outer o.places in
      elim was.at [
        | inl at ↦
            subst (λ (p : Place). Stands r text front more within p new) (sym written.last) (
            record {
              constructs = written.around.0 ∙ was.constructs;
              around = ap reverse written.around.1 ∙ was.around;
              same = was.same;
              order = written.writes.order;
              at = inr (outside, ends_with false o.kids leaf ∙ unclosed, written.stands, written.written);
              spells =
                  spells_leaf r text front go o leaf (forest_in text old.out) (forest_in text new.out) written.before written.node (written_to old).index
                  (written_to new).index (ap is_in_list outside) was.begun written.are_quiet
                  (subst (λ (t : Bool). SpellsLeaf r.parse.constructs r.tables.names text t (read_leaf r (next_stands o) leaf) (leaf_definitions leaf) written.node) (sym top)
                  (subst (λ (ds : List Definition). SpellsLeaf r.parse.constructs r.tables.names text true (read_leaf r (next_stands o) leaf) ds written.node) (sym none)
                  written.spells))
                  written.filled written.writes.forest
                  (rest_line_at text here left old (node_start written.node).index at.0 at.1 written.starts written.begins)
                  (let end = line_in_text text (standing old) at.0.line in let begins = written.begins in omega (arith, end, begins))
                  written.ends
                  was.spells;
              begun = begun_more o (Leaf leaf);
              ends = λ top.
                  let ends =
                  leaf_ends o.kids (Leaf leaf) (forest_in text old.out).kids written.before Nil written.node refl written.spells.is_block tt in
                  (ap (λ (g : Growth). ends_in_blank g.kids) written.writes.forest ∙ ends.0, ends.1);
            })
        | inr past ↦ absurd past
      ]
