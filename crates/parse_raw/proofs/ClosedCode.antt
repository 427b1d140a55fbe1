-- What is written of fenced code and math that a fence closes (CommonMark 4.5).
use Rattle.std.proofs.Common.{◌≡◌, ◌⊎◌, ℕ, Bool, true, false, List, [], ◌∷◌, ◌++◌, Option, None, Some, refl, sym, ap, ap₂, subst, ◌∙◌, flat_map, length, reverse}
use Rattle.parse_raw.proofs.Prelude.{append, append-nil, AreBlocksAlike, AreLeavesAlike, AreNames, AreRaw, AreTaken, around, Around, at_ending, AtEnding}
use Rattle.parse_raw.proofs.Prelude.{Between, block_info, block_names, BlockLine, blocks_of, child, chunk_name, code_parts, cond-true, Cons, Constructs}
use Rattle.parse_raw.proofs.Prelude.{Container, End, end_at, end_in, end_part, EndPart, enter_at, exit_at, Exits, Fence, fence_name, fence_start}
use Rattle.parse_raw.proofs.Prelude.{fenced_lines, FencedCode}
use Rattle.parse_raw.proofs.Prelude.{FenceNames, HasSameOpen, InAll, info_by, info_of, info_text, inside_of, is_listed, IsFenceLine, IsInOrder}
use Rattle.parse_raw.proofs.Prelude.{IsWrittenToRest, kids_in, kids_of, last_ending_or, line_left, LineEnding, LineRest, math_info, math_start, Meaning, Name}
use Rattle.parse_raw.proofs.Prelude.{named, Names, Node, node_name, Nodes, one, one_block, PassesLine, Place, prefixed, raw_parts, RawPart, read_leaf, Reading}
use Rattle.parse_raw.proofs.Prelude.{same_name, standing, Standing, StandsAt, Walk, Within, writes_both, WritesLeaf, WritesNextLine, WritesOpened}
use Rattle.parse_raw.proofs.Prelude.{WritesOpening, written_to}
use Rattle.engine_events.specs.declared.event.Name.TheVariants as n
use Rattle.definition_page.specs.Page as page
use Rattle.event_grammar.specs.declared.slot.Between.TheVariants.{Lines}
use Rattle.event_grammar.specs.declared.slot.Child.TheVariants.{As}
use Rattle.event_grammar.specs.declared.slot.Form.TheVariants.{Closing, Plain}
use Rattle.event_grammar.specs.declared.slot.Slot.{Slot}
use Rattle.event_grammar.specs.declared.slot.Slot.TheVariants.{Opt}
use Rattle.event_grammar.specs.Grammar.{many, row}
use Rattle.event_grammar.specs.Slots.{may_end, take_child}
use Rattle.event_meaning.specs.Blocks.{code_fenced_of, math_flow_of}
use Rattle.parse_slots.specs.Left.{Fill, IsFilled, took}
use Rattle.parse_slots.proofs.Steps.{fill_both, fill_taken, filled_by}
use Rattle.parse_references.specs.Sound.{AreSound, holding_names, is_asked_on, IsSound}
use Rattle.parse_references.proofs.Sound.{sound_fill, sound_of_on}
use Rattle.parse_lines.proofs.Quiet.{quiet_fill}
use Rattle.parse_laid.specs.Leaves.{IsClosedLaid}
use Rattle.parse_laid.specs.Places.{IsOn}
use Rattle.parse_laid.proofs.Taken.{after_taken}
use Rattle.definition_block.specs.CodeFenced.{is_fence_end}
use Rattle.parse_raw.specs.FenceParts.{WritesClosing, block_name}
use Rattle.parse_raw.specs.RawLines.{TakesChunks}
use Rattle.parse_raw.proofs.ClosingFence.{closed_alike, info_read, parts_closed}
use Rattle.parse_raw.proofs.FencedCode.{closed_leaf, math_string}
use Rattle.parse_raw.proofs.LeafNodes.{leaf_written}
use Rattle.parse_raw.proofs.NextLines.{next_written, none_unread}
use Rattle.parse_raw.proofs.Nodes.{quiet_parts, raw_append, raw_parts_append, raw_quiet, named_append}
use Rattle.parse_raw.proofs.Runs.{closing_of}

-- ---- the block's name

pub block_is : (names : FenceNames) (math : Bool) → AreNames math names
    → (names.block ≡ block_name math) × (is_listed block_names names.block ≡ true) × (same_name names.block n.Definition ≡ false)
    × (same_name names.block n.Data ≡ false)
block_is names true are =
    subst (λ (x : Name). (x ≡ n.MathFlow) × (is_listed block_names x ≡ true) × (same_name x n.Definition ≡ false) × (same_name x n.Data ≡ false)) (sym are.block)
    (refl, refl, refl, refl)
block_is names false are =
    subst (λ (x : Name). (x ≡ n.CodeFenced) × (is_listed block_names x ≡ true) × (same_name x n.Definition ≡ false) × (same_name x n.Data ≡ false)) (sym are.block)
    (refl, refl, refl, refl)

-- a line with another after it has an ending
pub ending_some : (text : List ℕ) (ending : Option LineEnding) (next : LineRest) (others : List LineRest) (s : Standing)
    → StandsAt text (AtEnding ending (next ∷ others)) s → (own : LineEnding) × (ending ≡ Some own)
ending_some text None next others s st = absurd (none_unread next others s.left (st.line.last st.ending) st.unread)
ending_some text (Some own) next others s st = (own, refl)

-- ---- the block's row

-- what a block of code or math may hold after its first fence
abbrev pub chunk_slots : Bool → List Slot
chunk_slots true = many n.MathFlowChunk ∷ Opt (As n.MathFlowFence Closing) ∷ []
chunk_slots false = many n.CodeFlowChunk ∷ Opt (As n.CodeFencedFence Closing) ∷ []

pub record HasBlockRow (math : Bool) : Type 0 where
  pub opening : take_child (row (block_name math) Plain) (fence_name math) ≡ Some (took Plain (chunk_slots math))
  pub chunks : TakesChunks (chunk_name math) (chunk_slots math)
  pub closing : take_child (chunk_slots math) (fence_name math) ≡ Some (took Closing [])
  pub ends : may_end (chunk_slots math) ≡ true

pub block_row : (math : Bool) → HasBlockRow math
block_row true = record {
  opening = refl;
  chunks = record { chunk = refl; between = record { space = refl; ending = refl; blank = refl; quote = refl } };
  closing = refl;
  ends = refl;
}
block_row false = record {
  opening = refl;
  chunks = record { chunk = refl; between = record { space = refl; ending = refl; blank = refl; quote = refl } };
  closing = refl;
  ends = refl;
}

-- its fence and what follows fill its row
pub block_filled : (math : Bool) (node first : Node) (others : Nodes) (rest : List Slot) → node_name node ≡ block_name math → kids_of node ≡ Cons first others
    → node_name first ≡ fence_name math → IsFilled Lines Plain first → Fill Lines (chunk_slots math) others rest → may_end rest ≡ true
    → IsFilled Lines Plain node
block_filled true node first others rest named kids first_is filled fill may =
    filled_by Lines Plain n.MathFlow rest node named
    (subst (λ (ns : Nodes). Fill Lines (row n.MathFlow Plain) ns rest) (sym kids)
    (fill_both (fill_taken Lines (row n.MathFlow Plain) n.MathFlowFence Plain (chunk_slots true) first first_is refl filled) fill)) may
block_filled false node first others rest named kids first_is filled fill may =
    filled_by Lines Plain n.CodeFenced rest node named
    (subst (λ (ns : Nodes). Fill Lines (row n.CodeFenced Plain) ns rest) (sym kids)
    (fill_both (fill_taken Lines (row n.CodeFenced Plain) n.CodeFencedFence Plain (chunk_slots false) first first_is refl filled) fill)) may

-- where its construct is on, and its fence is sound, it is: no string follows that fence
pub block_sound : (on : Constructs) (names : Names) (text : List ℕ) (math : Bool) (node first : Node) (others : Nodes) (rest : List Slot)
    → is_asked_on on (block_name math) ≡ true → node_name node ≡ block_name math → kids_of node ≡ Cons first others → IsSound on names text first
    → Fill Lines (chunk_slots math) others rest → may_end rest ≡ true → IsSound on names text node
block_sound on names text true node first others rest made named kids sound fill may =
    sound_of_on on names text node (ap (is_listed holding_names) named) (ap (is_asked_on on) named ∙ made)
    (subst (AreSound on names text) (sym kids) (sound, sound_fill on names text 2 Lines (chunk_slots true) rest others refl fill may))
block_sound on names text false node first others rest made named kids sound fill may =
    sound_of_on on names text node (ap (is_listed holding_names) named) (ap (is_asked_on on) named ∙ made)
    (subst (AreSound on names text) (sym kids) (sound, sound_fill on names text 2 Lines (chunk_slots false) rest others refl fill may))

module _ (names : Names) (text : List ℕ) (top : Bool) where
  abbrev pub leaf_of : Bool → Nodes → page.PageLeaf
  leaf_of true kids = math_flow_of names text top kids
  leaf_of false kids = code_fenced_of names text top kids

  pub block_alike : (m m' : Meaning) (math : Bool) (name : Name) (kids : Nodes) (from to : End) (leaf leaf' : page.PageLeaf) → name ≡ block_name math
      → leaf_of math kids ≡ leaf' → AreLeavesAlike m m' leaf leaf'
      → AreBlocksAlike m m' (one_block (page.Leaf leaf)) (blocks_of names text top (one (Around (enter_at text name from) kids (exit_at text name to))))
  block_alike m m' true name kids from to leaf leaf' is same alike =
      subst (λ (x : Name). AreBlocksAlike m m' (one_block (page.Leaf leaf)) (blocks_of names text top (one (Around (enter_at text x from) kids (exit_at text x to))))) (sym is)
      (subst (AreLeavesAlike m m' leaf) (sym same) alike, tt)
  block_alike m m' false name kids from to leaf leaf' is same alike =
      subst (λ (x : Name). AreBlocksAlike m m' (one_block (page.Leaf leaf)) (blocks_of names text top (one (Around (enter_at text x from) kids (exit_at text x to))))) (sym is)
      (subst (AreLeavesAlike m m' leaf) (sym same) alike, tt)

  -- the info of a block, by its first child
  abbrev pub found_of : Bool → Node → Option (List ℕ)
  found_of true node = Some math_info
  found_of false node = info_of names text (child n.CodeFencedFenceInfo (kids_of node))

  pub closed_is : (math : Bool) (first last : Node) (inner : Nodes) → node_name first ≡ fence_name math → node_name last ≡ fence_name math → AreRaw inner
      → leaf_of math (Cons first (append inner (one last))) ≡ page.FencedCode (found_of math first) true (fenced_lines false (raw_parts text inner))
  closed_is true first last inner one_is last_is raw =
      closed_leaf names text top n.MathFlowFence (Some math_info) first last inner (ap (λ (x : Name). same_name x n.MathFlowFence) one_is)
      (ap (λ (x : Name). same_name x n.MathFlowFence) last_is) raw.math
  closed_is false first last inner one_is last_is raw =
      let kids = Cons first (append inner (one last)) in
      let same = ap (λ (x : Name). same_name x n.CodeFencedFence) one_is in
      let inside : kids_in n.CodeFencedFence kids ≡ kids_of first =
      ap inside_of (cond-true (same_name (node_name first) n.CodeFencedFence) (Some first) (child n.CodeFencedFence (append inner (one last))) same) in
      closed_leaf names text top n.CodeFencedFence (info_of names text (child n.CodeFencedFenceInfo (kids_in n.CodeFencedFence kids))) first last inner same
      (ap (λ (x : Name). same_name x n.CodeFencedFence) last_is) raw.code
      ∙ ap (λ (ns : Nodes). page.FencedCode (info_of names text (child n.CodeFencedFenceInfo ns)) true (fenced_lines false (raw_parts text inner))) inside

-- the info that is read is the one that is found
pub info_found : (r : Reading) (text : List ℕ) (top math : Bool) (info : List ℕ) (fence : Fence) (node : Node) → info ≡ fence.info
    → block_info math r.parse.constructs r.tables.names fence.info (info_of r.tables.names text (child n.CodeFencedFenceInfo (kids_of node)))
    → info_text r info ≡ found_of r.tables.names text top math node
info_found r text top true info fence node is own =
    ap (info_text r) (is ∙ own) ∙ ap Some (math_string r.parse.constructs r.tables.names)
info_found r text top false info fence node is own = info_read r info ∙ ap (info_by r.parse.constructs r.tables.names) is ∙ sym own

-- the line of a fence has an ending, where a line follows the lines of the block
first_some : {A : Type 0} (text : List ℕ) (ls : List BlockLine) (left : List LineRest) (next : LineRest) (others : List LineRest) (old : Walk A) (here : LineRest)
    (fence : Fence) → StandsAt text (Within here left) (standing old)
    → AreTaken old.on.now (around (standing old)) (IsFenceLine old.on.now fence) ls (Between left) (Between (next ∷ others))
    → (own : LineEnding) × (here.beside.ending ≡ Some own)
first_some text [] [] next others old here fence st taken = absurd (cc)
first_some text (line ∷ ls) [] next others old here fence st taken = absurd taken.2
first_some text ls (y ∷ ys) next others old here fence st taken =
    ending_some text here.beside.ending y ys (standing old) (at_ending text here (y ∷ ys) (standing old) st)

module _ {A : Type 0} (r : Reading) (first : Bool) (text : List ℕ) (top : Bool) (fence_names : FenceNames) where
  closed_by : (info : List ℕ) (ls : List BlockLine) (here own : LineRest) (left : List LineRest) (to : Place) (fence : Fence) (end : LineRest) (follow after : List LineRest)
      (old l x e d : Walk A) → old.on.now ≡ r.parse.constructs → StandsAt text (Within here left) (standing old) → info ≡ fence.info
      → WritesOpened r.parse.constructs r.tables.names text fence here.beside.ending ls after fence_names old l
      → AreTaken old.on.now (around (standing old)) (IsFenceLine old.on.now fence) ls (Between left) (Between after)
      → IsOn old.on.now (around (standing old)) (Between after) (InAll end) follow → is_fence_end old.on.now fence end.rest ≡ true → to ≡ AtEnding end.beside.ending follow
      → PassesLine (standing l) (standing x) → WritesNextLine l x → HasSameOpen (standing l) (standing x) → WritesClosing fence_names x e
      → (IsInOrder text e.out → Exits text fence_names.block e.out d.out) → standing d ≡ standing e → written_to d ≡ written_to e
      → WritesLeaf r.parse.constructs r.tables.names text top (read_leaf r (record { top = top; first = first }) (FencedCode info true ls)) [] to old d
  closed_by info ls here own left to fence end follow [] old l x e d by st info_is o taken on is_end to_is passes writes kept closes exits same_d end_d = absurd on
  closed_by info ls here own left to fence end follow (next ∷ others) old l x e d by st info_is o taken on is_end to_is passes writes kept closes exits same_d end_d =
      let last = last_ending_or here.beside.ending ls in
      let passed = next_written text l x last next others o.lines.stands o.lines.written o.lines.writes.order passes writes in
      let on_l : l.on.now ≡ old.on.now = o.lines.around.0 ∙ o.around.0 in
      let open_l : (standing l).outermost ≡ (standing old).outermost = o.lines.around.1 ∙ o.around.1 in
      let line : line_left (prefixed l.on.now (around (standing l)) next) ≡ end =
      ap₂ (λ (c : Constructs) (cs : List Container). line_left (prefixed c (reverse cs) next)) on_l open_l ∙ ap line_left on.0 in
      let st_x : StandsAt text (Within end others) (standing x) = subst (λ (k : LineRest). StandsAt text (Within k others) (standing x)) line passed.stands in
      let cl = closes o.math text end others o.are st_x passed.written passed.writes.order (closing_of old.on.now o.math fence end.rest o.mark o.some is_end) in
      let inner = append o.lines.nodes (append passed.nodes cl.quiet.nodes) in
      let inner_writes = writes_both text o.fenced.out l.out cl.space.out o.lines.nodes (append passed.nodes cl.quiet.nodes) o.lines.writes (
      writes_both text l.out x.out cl.space.out passed.nodes cl.quiet.nodes passed.writes cl.quiet.writes) in
      let raw = raw_append o.lines.nodes (append passed.nodes cl.quiet.nodes) o.lines.raw (
      raw_append passed.nodes cl.quiet.nodes passed.raw (raw_quiet cl.quiet.nodes cl.quiet.quiet)) in
      let kids = Cons o.node (append inner (one cl.node)) in
      let kids_writes = writes_both text o.entered.out o.fenced.out e.out (one o.node) (append inner (one cl.node)) o.writes_fence (
      writes_both text o.fenced.out cl.space.out e.out inner (one cl.node) inner_writes cl.writes) in
      let exited = exits cl.writes.order in
      let block = block_is fence_names o.math o.are in
      let made = subst (λ (c : Constructs). is_asked_on c (block_name o.math) ≡ true) by o.made in
      let none : named n.Definition kids ≡ [] =
      named_append n.Definition (one o.node) (append inner (one cl.node))
      ∙ ap₂ (λ (xs ys : List Node). xs ++ ys) o.definitions (
      named_append n.Definition inner (one cl.node) ∙ ap₂ (λ (xs ys : List Node). xs ++ ys) raw.definitions cl.definitions) in
      let first_end = first_some text ls left next others old here fence st taken in
      let last_end = ending_some text last next others (standing l) o.lines.stands in
      let parts : raw_parts text inner ≡ EndPart first_end.0 ∷ flat_map code_parts ls =
      raw_parts_append text o.lines.nodes (append passed.nodes cl.quiet.nodes)
      ∙ ap₂ (λ (ps qs : List RawPart). ps ++ qs) o.lines.parts (
      raw_parts_append text passed.nodes cl.quiet.nodes
      ∙ ap₂ (λ (ps qs : List RawPart). ps ++ qs) passed.parts (quiet_parts text cl.quiet.nodes cl.quiet.quiet) ∙ append-nil (end_part last))
      ∙ parts_closed o.math here.beside.ending ls ∙ ap (λ (k : Option LineEnding). end_part k ++ flat_map code_parts ls) first_end.1 in
      let found = found_of r.tables.names text top o.math o.node in
      let same = same_d ∙ cl.same in
      let node = Around (enter_at text fence_names.block (end_in o.space.out)) kids (exit_at text fence_names.block (end_in e.out)) in
      let slots = chunk_slots o.math in
      let has = block_row o.math in
      let between = has.chunks.between in
      let inner_fill : Fill Lines slots inner slots =
      fill_both (o.lines.fill slots has.chunks)
      (fill_both (passed.fill slots between) (quiet_fill slots cl.quiet.nodes between.space between.quote cl.quiet.quiet)) in
      let others_fill = fill_both inner_fill (fill_taken Lines slots (fence_name o.math) Closing [] cl.node cl.named_so has.closing cl.filled) in
      let filled = block_filled o.math node o.node (append inner (one cl.node)) [] block.0 refl o.named_so o.filled others_fill refl in
      leaf_written text r.parse.constructs r.tables.names top (read_leaf r (record { top = top; first = first }) (FencedCode info true ls)) to old o.space o.entered e d
      fence_names.block kids o.quiet o.enters kids_writes exited block.1 block.2 block.3 none
      (λ m m'. block_alike r.tables.names text top m m' o.math fence_names.block kids (end_in o.space.out) (end_in e.out)
      (read_leaf r (record { top = top; first = first }) (FencedCode info true ls)) (page.FencedCode found true (fenced_lines false (raw_parts text inner))) block.0
      (closed_is r.tables.names text top o.math o.node cl.node inner o.named_so cl.named_so raw)
      (closed_alike m m' r top info found first_end.0 ls last_end.0 (raw_parts text inner) (info_found r text top o.math info fence o.node info_is o.info) parts
      (ap (λ (k : Option LineEnding). last_ending_or k ls) (sym first_end.1) ∙ last_end.1)))
      (subst (λ (p : Place). StandsAt text p (standing d)) (ap (AtEnding end.beside.ending) on.1 ∙ sym to_is) (
      subst (StandsAt text (AtEnding end.beside.ending others)) (sym same_d) cl.stands))
      (ap (λ (s : Standing). s.on) same ∙ kept.0 ∙ on_l, ap (λ (s : Standing). s.outermost) same ∙ kept.1 ∙ open_l)
      end_d (cl.written ∙ ap (λ (s : Standing). end_at s.line_end 0) (sym same_d)) o.starts o.begins
      filled (block_sound r.parse.constructs r.tables.names text o.math node o.node (append inner (one cl.node)) [] made block.0 refl o.sound others_fill refl)

  pub closed_written : (info : List ℕ) (ls : List BlockLine) (here : LineRest) (left : List LineRest) (to : Place) (count : ℕ) (old l x e d : Walk A) → count ≡ length ls
      → StandsAt text (Within here left) (standing old) → IsWrittenToRest old → IsInOrder text old.out → old.on.now ≡ r.parse.constructs
      → IsClosedLaid old.on.now (around (standing old)) info ls (Within here left) to
      → WritesOpening r.parse.constructs r.tables.names count fence_names old l
      → PassesLine (standing l) (standing x) → WritesNextLine l x → HasSameOpen (standing l) (standing x) → WritesClosing fence_names x e
      → (IsInOrder text e.out → Exits text fence_names.block e.out d.out) → standing d ≡ standing e → written_to d ≡ written_to e
      → WritesLeaf r.parse.constructs r.tables.names text top (read_leaf r (record { top = top; first = first }) (FencedCode info true ls)) [] to old d
  closed_written info ls here left to count old l x e d size st at order by laid opens =
      let on = old.on.now in
      let cs = around (standing old) in
      let fence = laid.0 in
      let fenced = laid.6 in
      let more = after_taken on cs (IsFenceLine on fence) ls fenced.0 laid.3 fenced.3 in
      let own : laid.1 ≡ here = sym (ap line_left fenced.1.0) in
      let taken = subst (λ (ks : List LineRest). AreTaken on cs (IsFenceLine on fence) ls (Between ks) (Between more.0)) (sym fenced.1.1) (
      subst (AreTaken on cs (IsFenceLine on fence) ls (Between fenced.0)) more.1 fenced.3) in
      let starts = subst (λ (k : LineRest). (fence_start on k.rest ≡ Some fence) ⊎ (math_start on k.rest ≡ Some fence)) own fenced.2 in
      let opened = opens text fence here left more.0 ls size st at order starts taken in
      closed_by info ls here laid.1 left to fence laid.2 laid.4 more.0 old l x e d by st laid.5 opened taken
      (subst (λ (p : Place). IsOn on cs p (InAll laid.2) laid.4) more.1 laid.7) laid.8 laid.9
