-- What is written of fenced code and math at the top that no fence closes, with the ending of its last line (CommonMark 4.5).
use Rattle.std.proofs.Common.{◌≡◌, ◌⊎◌, ℕ, ◌-◌, ◌<◌, Bool, true, false, ◌&&◌, List, [], ◌∷◌, ◌++◌, Option, None, Some, inl, inr, refl, sym, ap, ap₂, subst, ◌∙◌, flat_map, length, arith}
use Rattle.parse_raw.proofs.Prelude.{append, AreEnding, AreFencedAlike, Around, Between, BlockLine, code_parts, cond-false, Cons, cut, End, end_at, end_in}
use Rattle.parse_raw.proofs.Prelude.{end_part, ends_in, EndsLine, enter_at, exit_at, Exits, false≢true, fenced_lines, FencedCode, FenceNames, HasSameOpen}
use Rattle.parse_raw.proofs.Prelude.{is_nil, is_there, IsInOrder, last_ending_or, LineEnding, LineRest, list_all, named, Nil, Node, Nodes, one, Place}
use Rattle.parse_raw.proofs.Prelude.{raw_lines_are_alike, raw_parts, RawPart, read_leaf, Reading, same_name, Standing, standing, StandsAt, Walk, Writes}
use Rattle.parse_raw.proofs.Prelude.{writes_around, writes_both, WritesEnding, WritesOpening, written_to}
use Rattle.engine_events.specs.declared.event.Name.TheVariants as n
use Rattle.definition_page.specs.Page as page
use Rattle.parse_output.proofs.Forests.{append-nil}
use Rattle.parse_slots.proofs.Steps.{fill_both}
use Rattle.parse_raw.specs.Laid.{WritesReadUnclosed, WritesToEnd}
use Rattle.parse_raw.proofs.Bytes.{line_ending_fits}
use Rattle.parse_raw.proofs.Blank.{end_written}
use Rattle.parse_raw.proofs.ClosedCode.{block_alike, block_filled, block_is, block_row, block_sound, chunk_slots, found_of, info_found}
use Rattle.parse_raw.proofs.ClosingFence.{parts_closed}
use Rattle.parse_raw.proofs.Endings.{ending_fills, ending_last, ending_parts, ending_raw}
use Rattle.parse_raw.proofs.LeafNodes.{spelled}
use Rattle.parse_raw.proofs.Nodes.{ends_append, named_append, raw_append, raw_parts_append}
use Rattle.parse_raw.proofs.OpenCode.{BeginsCode, begins_code, inside_written, open_is}

-- ---- what it spells

-- the lines after the line of the fence, each with its ending, where a line that is empty has one or white space is last
alike_by : (spaced : Bool) (first : Option LineEnding) (ls : List BlockLine) → (0 < length ls → (end : LineEnding) × (first ≡ Some end))
    → (list_all is_there ls ≡ true) ⊎ (spaced ≡ true) → ((end : LineEnding) → first ≡ Some end → ls ≡ [] → spaced ≡ false)
    → AreFencedAlike ls (fenced_lines spaced (end_part first ++ flat_map code_parts ls))
alike_by true None [] some there last = (refl, refl)
alike_by false None [] some there last = (refl, refl)
alike_by spaced None (line ∷ ls) some there last = let end = some (omega arith) in let none : None ≡ Some end.0 = end.1 in absurd (cc)
alike_by true (Some end) [] some there last = absurd (false≢true (sym (last end refl refl)))
alike_by false (Some end) [] some there last = (refl, refl)
alike_by true (Some end) (line ∷ ls) some there last = raw_lines_are_alike.unclosed end line ls
alike_by false (Some end) (line ∷ ls) some (inl there) last = raw_lines_are_alike.fenced end (line ∷ ls) there
alike_by false (Some end) (line ∷ ls) some (inr spaced) last = absurd (false≢true spaced)

-- without an ending, white space is last that was before it
spaced_none : (text : List ℕ) (ending : Option LineEnding) (ns ms : Nodes) → AreEnding text n.LineEnding ending ms → ending ≡ None
    → ends_in n.SpaceOrTab false ns ≡ true → ends_in n.SpaceOrTab false (append ns ms) ≡ true
spaced_none text ending ns ms are none spaced =
    let nothing : ms ≡ Nil = subst (λ (e : Option LineEnding). AreEnding text n.LineEnding e ms) none are in
    ap (λ (ks : Nodes). ends_in n.SpaceOrTab false (append ns ks)) nothing ∙ ap (ends_in n.SpaceOrTab false) (append-nil ns) ∙ spaced

spaced_some : (text : List ℕ) (ending : Option LineEnding) (end : LineEnding) (ns ms : Nodes) → AreEnding text n.LineEnding ending ms → ending ≡ Some end
    → ends_in n.SpaceOrTab false (append ns ms) ≡ false
spaced_some text ending end ns ms are is =
    ends_append n.SpaceOrTab false ns ms
    ∙ ending_last text (ends_in n.SpaceOrTab false ns) end ms (subst (λ (e : Option LineEnding). AreEnding text n.LineEnding e ms) is are)

top_alike : (text : List ℕ) (first : Option LineEnding) (ls : List BlockLine) (ns ms : Nodes) → AreEnding text n.LineEnding (last_ending_or first ls) ms
    → (0 < length ls → (end : LineEnding) × (first ≡ Some end))
    → (list_all is_there ls ≡ true) ⊎ ((last_ending_or first ls ≡ None) × (ends_in n.SpaceOrTab false ns ≡ true))
    → AreFencedAlike ls (fenced_lines (ends_in n.SpaceOrTab false (append ns ms)) (end_part first ++ flat_map code_parts ls))
top_alike text first ls ns ms are some there =
    alike_by (ends_in n.SpaceOrTab false (append ns ms)) first ls some
    (elim there [
      | inl all ↦ inl all
      | inr none ↦ inr (spaced_none text (last_ending_or first ls) ns ms are none.0 none.1)
    ])
    (λ end is nothing. spaced_some text (last_ending_or first ls) end ns ms are (ap (last_ending_or first) nothing ∙ is))

-- ---- in a walk

module _ {A : Type 0} (r : Reading) (first : Bool) (text : List ℕ) (fence_names : FenceNames) where
  pub outside_written : (info : List ℕ) (ls : List BlockLine) (here : LineRest) (to : Place) (old l e d : Walk A)
      → BeginsCode r text info ls here to fence_names old l → (standing old).outermost ≡ []
      → EndsLine (standing l) (standing e) → WritesEnding n.LineEnding l e → HasSameOpen (standing l) (standing e)
      → (IsInOrder text e.out → Exits text fence_names.block e.out d.out) → standing d ≡ standing e → written_to d ≡ written_to e
      → WritesToEnd r.parse.constructs r.tables.names text (read_leaf r (record { top = true; first = first }) (FencedCode info false ls)) to old d
  outside_written info ls here to old l e d begins outermost ends writes kept exits same_d end_d =
      let o = begins.opened in
      let last = last_ending_or here.beside.ending ls in
      let done = end_written text n.LineEnding l e last begins.after refl line_ending_fits o.lines.stands o.lines.written o.lines.writes.order writes in
      let inner = append o.lines.nodes done.nodes in
      let kids = Cons o.node inner in
      let kids_writes = writes_both text o.entered.out o.fenced.out e.out (one o.node) inner o.writes_fence (
      writes_both text o.fenced.out l.out e.out o.lines.nodes done.nodes o.lines.writes done.writes) in
      let exited = exits done.writes.order in
      let block = block_is fence_names o.math o.are in
      let raw = raw_append o.lines.nodes done.nodes o.lines.raw (ending_raw text last done.nodes done.are_ending) in
      let none : named n.Definition kids ≡ [] =
      named_append n.Definition (one o.node) inner ∙ ap₂ (λ (xs ys : List Node). xs ++ ys) o.definitions raw.definitions in
      let found = found_of r.tables.names text true o.math o.node in
      let parts : raw_parts text inner ≡ end_part here.beside.ending ++ flat_map code_parts ls =
      raw_parts_append text o.lines.nodes done.nodes
      ∙ ap₂ (λ (ps qs : List RawPart). ps ++ qs) o.lines.parts (ending_parts text last done.nodes done.are_ending)
      ∙ parts_closed o.math here.beside.ending ls in
      let lines = fenced_lines (ends_in n.SpaceOrTab false inner) (raw_parts text inner) in
      let alike : AreFencedAlike ls lines =
      subst (λ (ps : List RawPart). AreFencedAlike ls (fenced_lines (ends_in n.SpaceOrTab false inner) ps)) (sym parts) (
      top_alike text here.beside.ending ls o.lines.nodes done.nodes done.are_ending begins.some (o.lines.there (o.around.1 ∙ outermost))) in
      let leaf = read_leaf r (record { top = true; first = first }) (FencedCode info false ls) in
      let node = Around (enter_at text fence_names.block (end_in o.space.out)) kids (exit_at text fence_names.block (end_in e.out)) in
      let slots = chunk_slots o.math in
      let has = block_row o.math in
      let inner_fill =
      fill_both (o.lines.fill slots has.chunks) (ending_fills text n.LineEnding slots last done.nodes has.chunks.between.ending refl refl done.are_ending) in
      let whole : cut node ≡ one node = cond-false (same_name fence_names.block n.Data && is_nil kids) _ _ (ap (λ (t : Bool). t && is_nil kids) block.3) in
      let writes_node = subst (Writes text o.space.out d.out) whole (
      writes_around text o.space.out o.entered.out e.out d.out fence_names.block kids o.enters kids_writes exited) in
      record {
        before = o.quiet.nodes;
        are_quiet = o.quiet.quiet;
        node = node;
        spells =
            spelled text r.parse.constructs r.tables.names true leaf fence_names.block kids (end_in o.space.out) (end_in e.out) block.1 block.2 none
            (λ m m'. block_alike r.tables.names text true m m' o.math fence_names.block kids (end_in o.space.out) (end_in e.out) leaf
            (page.FencedCode found false lines) block.0 (open_is r.tables.names text true o.math o.node inner o.named_so raw)
            (info_found r text true o.math info begins.fence o.node begins.info_is o.info, refl, alike.0, alike.1))
            (block_sound r.parse.constructs r.tables.names text o.math node o.node inner slots begins.made block.0 refl o.sound inner_fill has.ends);
        writes = writes_both text old.out o.space.out d.out o.quiet.nodes (one node) o.quiet.writes writes_node;
        ending = last;
        left = begins.after;
        last = begins.last;
        stands = subst (StandsAt text (Between begins.after)) (sym same_d) (ends text last begins.after o.lines.stands);
        around = (
          ap (λ (s : Standing). s.on) same_d ∙ kept.0 ∙ begins.kept.0,
          ap (λ (s : Standing). s.outermost) same_d ∙ kept.1 ∙ begins.kept.1,
        );
        written = end_d ∙ done.written ∙ ap (λ (s : Standing). end_at (s.size - length s.left) 0) (sym same_d);
        starts = o.starts;
        begins = o.begins;
        ends = sym (ap (λ (end : End). end.index) end_d);
        filled = block_filled o.math node o.node inner slots block.0 refl o.named_so o.filled inner_fill has.ends;
      }

-- ---- in a container or at the top

module _ {A : Type 0} (r : Reading) (first : Bool) (info : List ℕ) (ls : List BlockLine) (fence_names : FenceNames) (count : ℕ) (old l : Walk A)
    (size : count ≡ length ls) (opens : WritesOpening r.parse.constructs r.tables.names count fence_names old l) where
  pub outside_read : (e d : Walk A) → (standing l).outermost ≡ [] → EndsLine (standing l) (standing e) → WritesEnding n.LineEnding l e
      → HasSameOpen (standing l) (standing e) → ((text : List ℕ) → IsInOrder text e.out → Exits text fence_names.block e.out d.out)
      → standing d ≡ standing e → written_to d ≡ written_to e → WritesReadUnclosed r first (FencedCode info false ls) old d
  outside_read e d outermost ends writes kept exits same_d end_d = (
    λ some text here left to st at order by laid.
        let begins = begins_code r text info ls here left to fence_names count old l size st at order by laid opens in
        let none : length (standing old).outermost ≡ 0 = ap length (sym begins.kept.1 ∙ outermost) in
        absurd (omega (arith, some, none)),
    λ top text here left to st at order by laid.
        outside_written r first text fence_names info ls here to old l e d
        (begins_code r text info ls here left to fence_names count old l size st at order by laid opens) top ends writes kept (exits text) same_d end_d,
  )

  pub inside_read : (d : Walk A) → 0 < length (standing l).outermost → ((text : List ℕ) → IsInOrder text l.out → Exits text fence_names.block l.out d.out)
      → standing d ≡ standing l → written_to d ≡ written_to l → WritesReadUnclosed r first (FencedCode info false ls) old d
  inside_read d some exits same_d end_d = (
    λ own text here left to st at order by laid.
        inside_written r first text fence_names info ls here to old l d
        (begins_code r text info ls here left to fence_names count old l size st at order by laid opens) (exits text) same_d end_d,
    λ top text here left to st at order by laid.
        let begins = begins_code r text info ls here left to fence_names count old l size st at order by laid opens in
        let none : length (standing l).outermost ≡ 0 = ap length (begins.kept.1 ∙ top) in
        absurd (omega (arith, some, none)),
  )
