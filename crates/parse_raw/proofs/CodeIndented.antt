-- What is written of indented code, step by step (CommonMark 4.4).
use Rattle.std.proofs.Common.{◌≡◌, ℕ, ◌+◌, ◌-◌, ◌≤◌, Bool, false, List, [], ◌∷◌, ◌++◌, inl, refl, sym, ap, subst, ◌∙◌, drop, length, take, arith}
use Rattle.definition_text.specs.Columns.{is_blank}
use Rattle.parse_raw.proofs.Prelude.{all_prefix, AreTaken, around, at_ending, AtEnding, Between, block_codes, BlockLine, chunk_parts, Constructs, drop-drop}
use Rattle.parse_raw.proofs.Prelude.{End, end_at, ending_text, EndsAt, Enters, Exits, InAll, indent, InSome, is_white, IsAfterWhite, IsCharBoundary, IsCutLine, IsInOrder}
use Rattle.parse_raw.proofs.Prelude.{IsLeafLaid, IsLineOf, IsWrittenToRest, last_ending, line_follows, line_left, LineRest, min, Names, outdent, own_lines}
use Rattle.parse_raw.proofs.Prelude.{Place, Prefixed, raw_lines, raw_lines_are_alike, raw_parts, RawPart, Rest, rest_line, rest_of, rest_start, rest_to_end}
use Rattle.parse_raw.proofs.Prelude.{space_written, Standing, standing, StandsAt, Walk, whole, Within, WritesCutLines, WritesLeaf, WritesQuiet, WritesUpTo}
use Rattle.parse_raw.proofs.Prelude.{written_to}
use Rattle.engine_events.specs.declared.event.Name.TheVariants as n
use Rattle.definition_block.specs.Tree.{IndentedCode}
use Rattle.definition_page.specs.Page as page
use Rattle.event_grammar.specs.declared.slot.Between.TheVariants.{Lines}
use Rattle.event_grammar.specs.declared.slot.Form.TheVariants.{Plain}
use Rattle.event_grammar.specs.declared.slot.Slot.{Slot}
use Rattle.event_grammar.specs.Grammar.{many, row}
use Rattle.parse_slots.proofs.Steps.{filled_by}
use Rattle.parse_references.proofs.Sound.{sound_filled}
use Rattle.parse_raw.specs.RawLines.{TakesChunks}
use Rattle.parse_alike.specs.BlockLines.{AreCodeLinesAlike}
use Rattle.parse_laid.specs.Leaves.{AreCode, IsCodeLine}
use Rattle.parse_raw.proofs.Prelude.{append-nil, Around, end_in, enter_at, exit_at, false≢true, list_all, take-append-drop}
use Rattle.parse_raw.proofs.LeafNodes.{leaf_written}
use Rattle.parse_raw.proofs.RawBlocks.{WritesFirst, all_exact, all_written, block_exact, own_count, taken_as}
use Rattle.std.proofs.Common.{ap₂}
use Rattle.event_definition.specs.CodeIndented.{indented_written}
use Rattle.event_definition.specs.Pieces.{token}
use Rattle.event_definition.specs.RawLines.{raw_lines as raw_lines_written}
use Rattle.event_definition.specs.Written.{Written, and_then, before_rest, inside, whole_rest, with_rest}
use Rattle.parse_pieces.proofs.Written.{pieces_both}
use Rattle.parse_pieces.specs.Written.{WritesPieces}
use Rattle.parse_lines.proofs.Written.{space_pieces}
use Rattle.parse_lines.specs.Pieces.{left_in_line}
use Rattle.parse_raw.proofs.Prelude.{void_nodes, Writes}
use Rattle.parse_raw.specs.Pieces.{WritesCutPieces, WritesToEnding}
use Rattle.parse_raw.proofs.Pieces.{rest_token}
use Rattle.parse_lines.proofs.Cuts.{line_end_cut}
use Rattle.parse_raw.proofs.RawLines.{has_some, rest_written}

-- a later line is one of which four columns are cut
code_line : (on : Constructs) (here : Prefixed) (line : BlockLine) → IsCodeLine on here line → IsCutLine (outdent 4) here line
code_line on (InAll own) line is = (own, refl, is.1)
code_line on (InSome own) line is = absurd is

-- the row of indented code after its first line
abbrev chunk_slots : List Slot
chunk_slots = many n.CodeFlowChunk ∷ []

-- of a line that isn't blank something is left
cut_some : (k : ℕ) (rest : Rest) → is_blank rest ≡ false → outdent k rest ≡ [] → ⊥
cut_some k rest dark none =
    let j = min k (indent rest) in
    let whole_is : take j rest ≡ rest = sym (append-nil (take j rest)) ∙ ap (λ (xs : Rest). take j rest ++ xs) (sym none) ∙ take-append-drop j rest in
    false≢true (sym dark ∙ ap (list_all is_white) (sym whole_is) ∙ all_prefix is_white j rest (omega arith))

module _ {A : Type 0} (text : List ℕ) where
  -- columns of white space are written, and begin where the line's rest does
  pub record WritesIndent (k : ℕ) (here : LineRest) (old a : Walk A) : Type 0 where
    pub quiet : WritesQuiet text old.out a.out
    pub same : standing a ≡ standing old
    pub before : List ℕ
    pub content : List ℕ
    pub after : List ℕ
    pub columns : ℕ
    pub line : IsLineOf text before content after
    pub end : a.line_end ≡ length before + length content
    pub rest : outdent k here.rest ≡ drop columns (whole content)
    pub at : written_to a ≡ rest_start a.line_end (drop columns (whole content))
    pub starts : (written_to old).index ≤ (written_to a).index
    pub begins : (written_to a).index ≤ old.line_end
    pub exact : WritesPieces text (token n.SpaceOrTab (before_rest (rest_of old.rest) (outdent k (rest_of old.rest)))) old.out a.out
    pub same_rest : outdent k (rest_of old.rest) ≡ drop columns (whole content)

  pub indent_written : (k : ℕ) (here : LineRest) (left : List LineRest) (old a : Walk A) → StandsAt text (Within here left) (standing old) → IsWrittenToRest old
      → IsInOrder text old.out → standing a ≡ standing old → written_to a ≡ rest_start old.line_end (outdent k (rest_of old.rest))
      → WritesUpTo n.SpaceOrTab (rest_start old.line_end (outdent k (rest_of old.rest))) old a → WritesIndent k here old a
  indent_written k here left old a st at order same to writes =
      let start = rest_of old.rest in
      let j = min k (indent start) in
      let before = st.line.before in
      let content = st.line.content in
      let after = ending_text old.ending ++ old.left.now in
      let columns = st.columns + j in
      let rest_at = st.rest ∙ st.suffix in
      let cut : outdent k start ≡ drop columns (whole content) = ap (drop j) rest_at ∙ drop-drop j st.columns (whole content) in
      let further : IsAfterWhite (outdent k start) start =
      record { count = j; is = refl; white = all_prefix is_white j start (omega arith) } in
      let mid = rest_start old.line_end (outdent k start) in
      let quiet = space_written text before content after st.columns old.line_end start (outdent k start) old.out a.out mid st.line.parts st.line.end rest_at at order
      further refl (λ o f. writes text o f) in
      let line_end : a.line_end ≡ old.line_end = ap (λ (s : Standing). s.line_end) same in
      let mid_is : rest_start old.line_end (drop columns (whole content)) ≡ written_to a = ap (rest_start old.line_end) (sym cut) ∙ sym to in
      let from_is : rest_start old.line_end (drop st.columns (whole content)) ≡ written_to old = ap (rest_start old.line_end) (sym rest_at) ∙ sym at in
      let onward = line_follows text before content after old.line_end st.columns columns st.line.parts st.line.end (omega arith) in
      let to_end = rest_to_end text before content after old.line_end columns st.line.parts st.line.end in
      record {
        quiet = quiet;
        same = same;
        before = before;
        content = content;
        after = after;
        columns = columns;
        line = st.line.parts;
        end = line_end ∙ st.line.end;
        rest = ap (outdent k) (sym st.rest) ∙ cut;
        at = sym mid_is ∙ ap (λ (e : ℕ). rest_start e (drop columns (whole content))) (sym line_end);
        starts = omega (arith, onward.forward, ap (λ (e : End). e.index) mid_is, ap (λ (e : End). e.index) from_is);
        begins = omega (arith, to_end.forward, ap (λ (e : End). e.index) mid_is);
        exact =
            space_pieces text before content after st.columns old.line_end start (outdent k start) old.out a.out mid st.line.parts st.line.end rest_at at order
            further refl (λ o f. writes text o f) to;
        same_rest = cut;
      }

  code_by : (on : Constructs) (names : Names) (top : Bool) (ls : List BlockLine) (count more : ℕ) (here : LineRest) (left : List LineRest) (to after : Place)
      (taken : List BlockLine) (old a b c e d : Walk A) → count ≡ length ls → more ≡ count - 1 → StandsAt text (Within here left) (standing old)
      → AreCode old.on.now (around (standing old)) taken (Within here left) after → ls ≡ own_lines taken → EndsAt taken after to
      → WritesIndent 4 here old a
      → Enters text n.CodeIndented a.out b.out → standing b ≡ standing a → written_to b ≡ written_to a
      → standing c ≡ standing b → written_to c ≡ end_at b.line_end 0 → WritesUpTo n.CodeFlowChunk (end_at b.line_end 0) b c
      → WritesCutLines n.CodeFlowChunk (outdent 4) more c e → WritesCutPieces n.CodeFlowChunk (outdent 4) more c e
      → (IsInOrder text e.out → Exits text n.CodeIndented e.out d.out) → standing d ≡ standing e → written_to d ≡ written_to e
      → WritesLeaf on names text top (page.IndentedCode ls) [] to old d
      × WritesToEnding text (indented_written old.on.now (standing old).outermost count (left_in_line (standing old))) old d
  code_by on names top ls count more here left to after [] old a b c e d size fewer st code is ends space enters same_b end_b same_c end_c writes_c lines exact
      exits same_d end_d = absurd code
  code_by on names top ls count more here left to after (first ∷ others) old a b c e d size fewer st code is ends space enters same_b end_b same_c end_c writes_c
      lines exact exits same_d end_d =
      let same : standing b ≡ standing old = same_b ∙ space.same in
      let line_b : b.line_end ≡ a.line_end = ap (λ (s : Standing). s.line_end) same_b in
      let at_b : written_to b ≡ rest_start b.line_end (drop space.columns (whole space.content)) =
      end_b ∙ space.at ∙ ap (λ (k : ℕ). rest_start k (drop space.columns (whole space.content))) (sym line_b) in
      let boundary : IsCharBoundary text b.line_end =
      subst (IsCharBoundary text) (sym (ap (λ (s : Standing). s.line_end) same)) (line_end_cut text (standing old) st.line) in
      let chunk = rest_written text n.CodeFlowChunk b c space.before space.content space.after space.columns space.line (line_b ∙ space.end) boundary at_b
      enters.order (inl refl) writes_c in
      let own : code.0 ≡ here = sym (ap line_left code.2.0) in
      let first_is : rest_line (outdent 4 here.rest) here.beside ≡ first = ap (λ (l : LineRest). rest_line (outdent 4 l.rest) l.beside) (sym own) ∙ sym code.4 in
      let st_c : StandsAt text (AtEnding here.beside.ending left) (standing c) =
      subst (StandsAt text (AtEnding here.beside.ending left)) (sym (same_c ∙ same)) (at_ending text here left (standing old) st) in
      let one : WritesFirst text n.CodeFlowChunk first left b c =
      record {
        nodes = chunk.nodes;
        writes = chunk.writes;
        raw = chunk.raw;
        parts =
            chunk.parts ∙ ap (λ (r : Rest). chunk_parts n.CodeFlowChunk (block_codes r)) (sym space.rest)
            ∙ ap (λ (l : BlockLine). chunk_parts n.CodeFlowChunk l.codes) first_is;
        stands = subst (λ (l : BlockLine). StandsAt text (AtEnding l.ending left) (standing c)) first_is st_c;
        around = (ap (λ (s : Standing). s.on) same_c, ap (λ (s : Standing). s.outermost) same_c);
        written = end_c ∙ ap (λ (s : Standing). end_at s.line_end 0) (sym same_c);
      } in
      let fits : more ≡ length others = omega (arith, fewer, size, ap length is, own_count first others) in
      let taken_code = taken_as old.on.now (around (standing old)) (IsCodeLine old.on.now) (IsCutLine (outdent 4)) others (Between code.1) after (code_line old.on.now) code.5 in
      let taken_b : AreTaken b.on.now (around (standing b)) (IsCutLine (outdent 4)) others (Between left) (Between ends.0) =
      subst (λ (s : Standing). AreTaken s.on (around s) (IsCutLine (outdent 4)) others (Between left) (Between ends.0)) (sym same) (
      subst (λ (ls : List LineRest). AreTaken old.on.now (around (standing old)) (IsCutLine (outdent 4)) others (Between ls) (Between ends.0)) (sym code.2.1) (
      subst (AreTaken old.on.now (around (standing old)) (IsCutLine (outdent 4)) others (Between code.1)) ends.1 taken_code
      )) in
      let all = all_written text n.CodeFlowChunk (outdent 4) first others left ends.0 more b c e (inl refl) one fits taken_b lines in
      let alike : AreCodeLinesAlike ls (raw_lines (raw_parts text all.nodes)) =
      subst (λ (xs : List BlockLine). AreCodeLinesAlike xs (raw_lines (raw_parts text all.nodes))) (sym is) (
      subst (λ (ps : List RawPart). AreCodeLinesAlike (own_lines (first ∷ others)) (raw_lines ps)) (sym all.parts) (raw_lines_are_alike.code (own_lines (first ∷ others)))
      ) in
      let line_end = ap (λ (s : Standing). s.line_end) same_d in
      let row_is = row n.CodeIndented Plain in
      let takes : TakesChunks n.CodeFlowChunk chunk_slots =
      record { chunk = refl; between = record { space = refl; ending = refl; blank = refl; quote = refl } } in
      let dark : is_blank here.rest ≡ false = ap (λ (l : LineRest). is_blank l.rest) (sym own) ∙ code.6 in
      let some : drop space.columns (whole space.content) ≡ [] → ⊥ = λ none. cut_some 4 here.rest dark (space.rest ∙ none) in
      let front = chunk.taken row_is chunk_slots (has_some (drop space.columns (whole space.content)) some) refl in
      let node = Around (enter_at text n.CodeIndented (end_in a.out)) all.nodes (exit_at text n.CodeIndented (end_in e.out)) in
      let filled = filled_by Lines Plain n.CodeIndented chunk_slots node refl (all.fill row_is chunk_slots front takes) refl in
      let start = rest_of old.rest in
      let inner = outdent 4 start in
      let chunk_end : written_to c ≡ end_at b.line_end 0 = end_c in
      let token_written = subst (λ (r : Rest). WritesPieces text (token n.CodeFlowChunk r) b.out c.out) (sym space.same_rest)
      (rest_token text space.before space.content space.after b.line_end space.line (line_b ∙ space.end) n.CodeFlowChunk space.columns b.out c.out at_b chunk_end
      (subst (λ (e : End). Writes text b.out c.out (void_nodes text n.CodeFlowChunk (written_to b) e)) (sym chunk_end)
      (subst (Writes text b.out c.out) chunk.is chunk.writes))) in
      let lines_exact = all_exact text n.CodeFlowChunk (outdent 4) first others left ends.0 more b c e (inl refl) one fits taken_b exact in
      let block = block_exact text n.CodeIndented n.CodeFlowChunk (outdent 4) 4 more inner a b c e d (λ r. refl) refl enters end_b token_written same_c lines_exact
      (exits all.writes.order) same_d end_d in
      let here = with_rest inner (left_in_line (standing old)) in
      let block_old = subst (λ (w : Written). WritesToEnding text w a d)
      (ap₂ (λ (s : Standing) (k : ℕ). inside n.CodeIndented (and_then (whole_rest n.CodeFlowChunk (with_rest inner (left_in_line s)))
      (raw_lines_written s.on s.outermost n.CodeFlowChunk 4 k))) same fewer) block in
      let leaf = leaf_written text on names top (page.IndentedCode ls) to old a b e d n.CodeIndented all.nodes space.quiet enters all.writes
      (exits all.writes.order) refl refl refl all.raw.definitions (λ m m'. (alike, tt))
      (subst (λ (p : Place). StandsAt text p (standing d)) (sym ends.2) (subst (StandsAt text (AtEnding (last_ending (first ∷ others)) ends.0)) (sym same_d) all.stands)) (
        ap (λ (s : Standing). s.on) same_d ∙ all.around.0 ∙ ap (λ (s : Standing). s.on) same,
        ap (λ (s : Standing). s.outermost) same_d ∙ all.around.1 ∙ ap (λ (s : Standing). s.outermost) same,
      )
      end_d (all.written ∙ ap (λ (k : ℕ). end_at k 0) (sym line_end)) space.starts space.begins filled
      (sound_filled on names text 2 Lines Plain n.CodeIndented node refl refl filled) in (
        leaf,
        record {
          pieces = pieces_both text (token n.SpaceOrTab (before_rest start inner))
              (inside n.CodeIndented (and_then (whole_rest n.CodeFlowChunk here) (raw_lines_written old.on.now (standing old).outermost n.CodeFlowChunk 4 (count - 1)))).pieces
              old.out a.out d.out space.exact block_old.pieces;
          left = block_old.left;
        },
      )

  pub code_written : (on : Constructs) (names : Names) (top : Bool) (ls : List BlockLine) (count more : ℕ) (here : LineRest) (left : List LineRest) (to : Place)
      (old a b c e d : Walk A) → count ≡ length ls → more ≡ count - 1 → StandsAt text (Within here left) (standing old)
      → IsLeafLaid old.on.now (around (standing old)) (IndentedCode ls) (Within here left) to
      → WritesIndent 4 here old a
      → Enters text n.CodeIndented a.out b.out → standing b ≡ standing a → written_to b ≡ written_to a
      → standing c ≡ standing b → written_to c ≡ end_at b.line_end 0 → WritesUpTo n.CodeFlowChunk (end_at b.line_end 0) b c
      → WritesCutLines n.CodeFlowChunk (outdent 4) more c e → WritesCutPieces n.CodeFlowChunk (outdent 4) more c e
      → (IsInOrder text e.out → Exits text n.CodeIndented e.out d.out) → standing d ≡ standing e → written_to d ≡ written_to e
      → WritesLeaf on names text top (page.IndentedCode ls) [] to old d
      × WritesToEnding text (indented_written old.on.now (standing old).outermost count (left_in_line (standing old))) old d
  code_written on names top ls count more here left to old a b c e d size fewer st laid =
      code_by on names top ls count more here left to laid.1 laid.0 old a b c e d size fewer st laid.2 laid.3 laid.4
