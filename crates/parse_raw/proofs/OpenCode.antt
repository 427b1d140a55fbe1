-- What is written of fenced code and math that no fence closes (CommonMark 4.5).
use Rattle.std.proofs.Common.{◌≡◌, ◌⊎◌, ℕ, ◌<◌, Bool, true, false, not, ◌||◌, List, [], ◌∷◌, ◌++◌, Option, None, Some, refl, sym, ap, ap₂, subst, ◌∙◌, flat_map, length, arith}
use Rattle.parse_raw.proofs.Prelude.{AreFencedAlike, AreRaw, AreTaken, around, at_ending, AtEnding, Between, BlockLine, child, chunk_name, code_parts}
use Rattle.parse_raw.proofs.Prelude.{Around, cond-true, Cons, end_at, end_in, end_part, EndPart, ends_in, enter_at, exit_at, Exits, Fence, fence_name}
use Rattle.parse_raw.proofs.Prelude.{fence_start, fenced_lines, FencedCode, FenceNames, HasSameOpen, info_of, inside_of, IsFenceLine, IsInOrder}
use Rattle.parse_raw.proofs.Prelude.{Constructs, IsWrittenToRest, kids_in, kids_of}
use Rattle.parse_raw.proofs.Prelude.{last_ending_or, line_left, LineEnding, LineRest, math_info, math_start, Name, named, Names, Node, node_name, Nodes, one}
use Rattle.parse_raw.proofs.Prelude.{own_lines, parts_after, Place, raw_lines_are_alike, raw_parts, RawPart, read_leaf, Reading, same_name, Standing, standing}
use Rattle.parse_raw.proofs.Prelude.{StandsAt, Walk, Within, writes_both, WritesLeaf, WritesOpened, WritesOpening, written_to}
use Rattle.engine_events.specs.declared.event.Name.TheVariants as n
use Rattle.definition_text.specs.BlockLines.{block_line}
use Rattle.definition_page.specs.Page as page
use Rattle.parse_laid.specs.Leaves.{IsUnclosedLaid}
use Rattle.parse_references.specs.Sound.{is_asked_on}
use Rattle.parse_raw.specs.FenceParts.{block_name}
use Rattle.parse_raw.proofs.ClosedCode.{block_alike, block_filled, block_is, block_row, block_sound, chunk_slots, ending_some, found_of, info_found, leaf_of}
use Rattle.parse_raw.proofs.ClosingFence.{chunk_same}
use Rattle.parse_raw.proofs.FencedCode.{open_leaf}
use Rattle.parse_raw.proofs.LeafNodes.{leaf_written}
use Rattle.parse_raw.proofs.Nodes.{named_append}
use Rattle.parse_raw.proofs.RawBlocks.{line_parts, parts_own}

-- ---- what it spells

same_lines : (math : Bool) (ls : List BlockLine) → flat_map (line_parts (chunk_name math)) ls ≡ flat_map code_parts ls
same_lines math [] = refl
same_lines math (line ∷ ls) = ap₂ (λ (ps qs : List RawPart). ps ++ qs) (chunk_same math line) (same_lines math ls)

own_alike : (end : LineEnding) (line : BlockLine) (others : List BlockLine)
    → AreFencedAlike (own_lines (line ∷ others)) (fenced_lines true (EndPart end ∷ flat_map code_parts (own_lines (line ∷ others))))
own_alike end line [] = raw_lines_are_alike.unclosed end (block_line line.codes None line.before) []
own_alike end line (next ∷ others) = raw_lines_are_alike.unclosed end line (own_lines (next ∷ others))

-- in a container
pub inside_alike : (math : Bool) (first : Option LineEnding) (ls : List BlockLine) → (0 < length ls → (end : LineEnding) × (first ≡ Some end))
    → AreFencedAlike (own_lines ls) (fenced_lines true (parts_after (chunk_name math) first ls))
inside_alike math first [] some = (refl, refl)
inside_alike math first (line ∷ others) some =
    let end = some (omega arith) in
    let parts : parts_after (chunk_name math) first (line ∷ others) ≡ EndPart end.0 ∷ flat_map code_parts (own_lines (line ∷ others)) =
    ap₂ (λ (k : Option LineEnding) (ps : List RawPart). end_part k ++ ps) end.1 (parts_own (chunk_name math) line others ∙ same_lines math (own_lines (line ∷ others))) in
    subst (λ (ps : List RawPart). AreFencedAlike (own_lines (line ∷ others)) (fenced_lines true ps)) (sym parts) (own_alike end.0 line others)

module _ (names : Names) (text : List ℕ) (top : Bool) where
  -- in a container a line is last, and at the top one where white space is
  abbrev pub is_line_last : Nodes → Bool
  is_line_last inner = not (top || false) || ends_in n.SpaceOrTab false inner

  pub open_is : (math : Bool) (first : Node) (inner : Nodes) → node_name first ≡ fence_name math → AreRaw inner
      → leaf_of names text top math (Cons first inner)
      ≡ page.FencedCode (found_of names text top math first) false (fenced_lines (is_line_last inner) (raw_parts text inner))
  open_is true first inner one_is raw = open_leaf names text top n.MathFlowFence (Some math_info) first inner (ap (λ (x : Name). same_name x n.MathFlowFence) one_is) raw.math
  open_is false first inner one_is raw =
      let kids = Cons first inner in
      let same = ap (λ (x : Name). same_name x n.CodeFencedFence) one_is in
      let inside : kids_in n.CodeFencedFence kids ≡ kids_of first =
      ap inside_of (cond-true (same_name (node_name first) n.CodeFencedFence) (Some first) (child n.CodeFencedFence inner) same) in
      open_leaf names text top n.CodeFencedFence (info_of names text (child n.CodeFencedFenceInfo (kids_in n.CodeFencedFence kids))) first inner same raw.code
      ∙ ap (λ (ns : Nodes). page.FencedCode (info_of names text (child n.CodeFencedFenceInfo ns)) false (fenced_lines (is_line_last inner) (raw_parts text inner))) inside

-- ---- in a walk

pub fence_end : {A : Type 0} (text : List ℕ) (ls : List BlockLine) (left after : List LineRest) (old : Walk A) (here : LineRest) (fence : Fence)
    → StandsAt text (Within here left) (standing old)
    → AreTaken old.on.now (around (standing old)) (IsFenceLine old.on.now fence) ls (Between left) (Between after) → 0 < length ls
    → (own : LineEnding) × (here.beside.ending ≡ Some own)
fence_end text [] left after old here fence st taken some = absurd (omega (arith, some))
fence_end text (line ∷ ls) [] after old here fence st taken some = absurd taken.2
fence_end text (line ∷ ls) (y ∷ ys) after old here fence st taken some =
    ending_some text here.beside.ending y ys (standing old) (at_ending text here (y ∷ ys) (standing old) st)

-- Where such code is laid, it begins with its fence, and these lines are written.
pub record BeginsCode {A : Type 0} (r : Reading) (text info : List ℕ) (ls : List BlockLine) (here : LineRest) (to : Place) (fence_names : FenceNames)
    (old new : Walk A) : Type 0 where
  pub fence : Fence
  pub after : List LineRest
  pub info_is : info ≡ fence.info
  pub opened : WritesOpened r.parse.constructs r.tables.names text fence here.beside.ending ls after fence_names old new
  pub made : is_asked_on r.parse.constructs (block_name opened.math) ≡ true
  pub some : 0 < length ls → (own : LineEnding) × (here.beside.ending ≡ Some own)
  pub last : to ≡ AtEnding (last_ending_or here.beside.ending ls) after
  pub kept : HasSameOpen (standing old) (standing new)

pub begins_code : {A : Type 0} (r : Reading) (text info : List ℕ) (ls : List BlockLine) (here : LineRest) (left : List LineRest) (to : Place)
    (fence_names : FenceNames) (count : ℕ) (old l : Walk A) → count ≡ length ls
    → StandsAt text (Within here left) (standing old) → IsWrittenToRest old → IsInOrder text old.out → old.on.now ≡ r.parse.constructs
    → IsUnclosedLaid old.on.now (around (standing old)) info ls (Within here left) to
    → WritesOpening r.parse.constructs r.tables.names count fence_names old l → BeginsCode r text info ls here to fence_names old l
begins_code r text info ls here left to fence_names count old l size st at order by laid opens =
    let on = old.on.now in
    let cs = around (standing old) in
    let fence = laid.0 in
    let fenced = laid.4 in
    let own : laid.1 ≡ here = sym (ap line_left fenced.1.0) in
    let taken = subst (λ (ks : List LineRest). AreTaken on cs (IsFenceLine on fence) ls (Between ks) (Between laid.2)) (sym fenced.1.1) fenced.3 in
    let starts = subst (λ (k : LineRest). (fence_start on k.rest ≡ Some fence) ⊎ (math_start on k.rest ≡ Some fence)) own fenced.2 in
    let o = opens text fence here left laid.2 ls size st at order starts taken in
    record {
      fence = fence;
      after = laid.2;
      info_is = laid.3;
      opened = o;
      made = subst (λ (c : Constructs). is_asked_on c (block_name o.math) ≡ true) by o.made;
      some = fence_end text ls left laid.2 old here fence st taken;
      last = laid.5 ∙ ap (λ (k : LineRest). AtEnding (last_ending_or k.beside.ending ls) laid.2) own;
      kept = (o.lines.around.0 ∙ o.around.0, o.lines.around.1 ∙ o.around.1);
    }

module _ {A : Type 0} (r : Reading) (first : Bool) (text : List ℕ) (fence_names : FenceNames) where
  pub inside_written : (info : List ℕ) (ls : List BlockLine) (here : LineRest) (to : Place) (old l d : Walk A)
      → BeginsCode r text info ls here to fence_names old l
      → (IsInOrder text l.out → Exits text fence_names.block l.out d.out) → standing d ≡ standing l → written_to d ≡ written_to l
      → WritesLeaf r.parse.constructs r.tables.names text false (read_leaf r (record { top = false; first = first }) (FencedCode info false ls)) [] to old d
  inside_written info ls here to old l d begins exits same_d end_d =
      let o = begins.opened in
      let kids = Cons o.node o.lines.nodes in
      let kids_writes = writes_both text o.entered.out o.fenced.out l.out (one o.node) o.lines.nodes o.writes_fence o.lines.writes in
      let block = block_is fence_names o.math o.are in
      let none : named n.Definition kids ≡ [] =
      named_append n.Definition (one o.node) o.lines.nodes ∙ ap₂ (λ (xs ys : List Node). xs ++ ys) o.definitions o.lines.raw.definitions in
      let found = found_of r.tables.names text false o.math o.node in
      let alike = inside_alike o.math here.beside.ending ls begins.some in
      let alike_parts = subst (λ (ps : List RawPart). AreFencedAlike (own_lines ls) (fenced_lines true ps)) (sym o.lines.parts) alike in
      let leaf = read_leaf r (record { top = false; first = first }) (FencedCode info false ls) in
      let node = Around (enter_at text fence_names.block (end_in o.space.out)) kids (exit_at text fence_names.block (end_in l.out)) in
      let has = block_row o.math in
      let lines_fill = o.lines.fill (chunk_slots o.math) has.chunks in
      let filled = block_filled o.math node o.node o.lines.nodes (chunk_slots o.math) block.0 refl o.named_so o.filled lines_fill has.ends in
      leaf_written text r.parse.constructs r.tables.names false leaf to old o.space o.entered l d
      fence_names.block kids o.quiet o.enters kids_writes (exits o.lines.writes.order) block.1 block.2 block.3 none
      (λ m m'. block_alike r.tables.names text false m m' o.math fence_names.block kids (end_in o.space.out) (end_in l.out)
      leaf (page.FencedCode found false (fenced_lines true (raw_parts text o.lines.nodes))) block.0
      (open_is r.tables.names text false o.math o.node o.lines.nodes o.named_so o.lines.raw)
      (info_found r text false o.math info begins.fence o.node begins.info_is o.info, refl, alike_parts.0, alike_parts.1))
      (subst (λ (p : Place). StandsAt text p (standing d)) (sym begins.last) (
      subst (StandsAt text (AtEnding (last_ending_or here.beside.ending ls) begins.after)) (sym same_d) o.lines.stands))
      (ap (λ (s : Standing). s.on) same_d ∙ begins.kept.0, ap (λ (s : Standing). s.outermost) same_d ∙ begins.kept.1)
      end_d (o.lines.written ∙ ap (λ (s : Standing). end_at s.line_end 0) (sym same_d)) o.starts o.begins
      filled (block_sound r.parse.constructs r.tables.names text o.math node o.node o.lines.nodes (chunk_slots o.math) begins.made block.0 refl o.sound lines_fill has.ends)
