-- What is written of an HTML block, step by step (CommonMark 4.6).
use Rattle.std.proofs.Common.{◌≡◌, ℕ, zero, suc, ◌-◌, Bool, true, false, ◌&&◌, List, [], ◌∷◌, ◌++◌, Option, None, Some, inl, inr, refl, sym, ap, subst, ◌∙◌, drop, flat_map, length, arith}
use Rattle.std.specs.Prelude.{if◌then◌else◌}
use Rattle.parse_raw.proofs.Prelude.{AreHtmlLinesAlike, AreTaken, around, AtEnding, Between, BlockLine, chunk_parts, Constructs, end_at, EndsAt, Enters, Exits}
use Rattle.parse_raw.proofs.Prelude.{InAll, InSome, IsCutLine, IsInOrder, IsLeafLaid, IsWrittenToRest, last_ending, line_left, LineRest, Names, own_lines}
use Rattle.parse_raw.proofs.Prelude.{Place, Prefixed, raw_lines, raw_parts, RawPart, rest_line, rest_start, Standing, standing, StandsAt, Walk, Within}
use Rattle.parse_raw.proofs.Prelude.{WritesCutLines, WritesLeaf, WritesUpTo, written_to}
use Rattle.engine_events.specs.declared.event.Name.TheVariants as n
use Rattle.std.proofs.lemmas.Bool.{cases_Bool, cond-false, cond-true}
use Rattle.definition_text.specs.Columns.{Rest, bare, block_codes, bytes_of, indent, is_byte}
use Rattle.definition_text.specs.Indents.{small_indent}
use Rattle.definition_block.specs.HtmlFlow.{html_kind, html_start}
use Rattle.definition_block.specs.Tree.{Html}
use Rattle.definition_page.specs.Page as page
use Rattle.parse_laid.specs.Leaves.{AreHtml, IsHtmlLine}
use Rattle.event_grammar.specs.declared.slot.Between.TheVariants.{Lines}
use Rattle.event_grammar.specs.declared.slot.Form.TheVariants.{Plain}
use Rattle.event_grammar.specs.declared.slot.Slot.{Slot}
use Rattle.event_grammar.specs.Grammar.{many}
use Rattle.parse_lines.proofs.Quiet.{quiet_none}
use Rattle.parse_slots.proofs.Steps.{filled_by}
use Rattle.parse_references.proofs.Sound.{sound_filled_full}
use Rattle.parse_raw.proofs.Prelude.{Around, end_in, enter_at, exit_at}
use Rattle.event_grammar.specs.Trees.{Nodes, Cons, Nil}
use Rattle.parse_output.specs.Forest.{is_nil}
use Rattle.parse_raw.specs.RawLines.{TakesChunks, html_chunk, parts_after}
use Rattle.parse_raw.proofs.LeafNodes.{leaf_written, rest_within}
use Rattle.parse_raw.proofs.RawBlocks.{WritesFirst, all_exact, all_written, block_exact, html_alike, line_parts, own_count, parts_own, taken_as}
use Rattle.parse_raw.proofs.RawLines.{whole_written}
use Rattle.std.proofs.Common.{ap₂}
use Rattle.parse_raw.proofs.Prelude.{rest_of}
use Rattle.event_definition.specs.HtmlFlow.{html_written as html_pieces}
use Rattle.event_definition.specs.Pieces.{Pieces, token}
use Rattle.event_definition.specs.RawLines.{raw_lines as raw_lines_written}
use Rattle.event_definition.specs.Written.{Written, and_then, inside, whole_rest}
use Rattle.parse_pieces.specs.Written.{WritesPieces}
use Rattle.parse_lines.specs.Pieces.{left_in_line}
use Rattle.parse_raw.specs.Pieces.{WritesCutPieces, WritesToEnding}
use Rattle.parse_raw.proofs.Pieces.{none_before, none_cut}

-- a later line is a line of which nothing is cut
html_line : (kind : ℕ) (here : Prefixed) (line : BlockLine) → IsHtmlLine kind here line → IsCutLine (λ rest. rest) here line
html_line kind (InAll own) line is = (own, refl, is.1)
html_line kind (InSome own) line is = absurd is

-- bytes that are left of a line are there before spaces and tabs are taken off
none_behind : (k : ℕ) (rest : Rest) → bytes_of rest ≡ [] → bytes_of (drop k rest) ≡ []
none_behind zero rest none = none
none_behind (suc k) [] none = refl
none_behind (suc k) (code ∷ rest) none = elim (cases_Bool (is_byte code)) [
  | inl byte ↦ let wrong = sym (cond-true (is_byte code) (code ∷ bytes_of rest) (bytes_of rest) byte) ∙ none in absurd (cc)
  | inr other ↦ none_behind k rest (sym (cond-false (is_byte code) (code ∷ bytes_of rest) (bytes_of rest) other) ∙ none)
]

nothing_after : (xs ys : List ℕ) → xs ++ ys ≡ [] → ys ≡ []
nothing_after [] ys none = none
nothing_after (x ∷ xs) ys none = absurd (cc)

no_kind : (paragraph_open : Bool) → html_kind paragraph_open [] ≡ None
no_kind true = refl
no_kind false = refl

no_start : (kind : ℕ) (may : Bool) (found : Option ℕ) → found ≡ None → (if may then found else None) ≡ Some kind → ⊥
no_start kind true found none is = let wrong : None ≡ Some kind = sym none ∙ is in absurd (cc)
no_start kind false found none is = absurd (cc)

-- an HTML block starts with something
start_some : (on : Constructs) (interrupts : Bool) (rest : Rest) (kind : ℕ) → html_start on interrupts rest ≡ Some kind → block_codes rest ≡ [] → ⊥
start_some on interrupts rest kind is none =
    let bare_none : bytes_of (bare rest) ≡ [] = none_behind (indent rest) rest (nothing_after _ (bytes_of rest) none) in
    no_start kind (on.html_flow && small_indent on rest) (html_kind interrupts (bytes_of (bare rest)))
    (ap (html_kind interrupts) bare_none ∙ no_kind interrupts) is

no_chunk : (codes : List ℕ) (ps : List RawPart) → [] ≡ html_chunk codes ++ ps → codes ≡ []
no_chunk [] ps none = refl
no_chunk (c ∷ cs) ps none = absurd (cc)

-- so its nodes are some
html_some : (text : List ℕ) (first : BlockLine) (others : List BlockLine) (ns : Nodes) → (first.codes ≡ [] → ⊥)
    → raw_parts text ns ≡ flat_map (line_parts n.HtmlFlowData) (own_lines (first ∷ others)) → is_nil ns ≡ false
html_some text first others Nil some parts =
    absurd (some (no_chunk first.codes (parts_after n.HtmlFlowData first.ending others) (parts ∙ sym (parts_own n.HtmlFlowData first others))))
html_some text first others (Cons node ns) some parts = refl

-- the row of an HTML block
abbrev html_row : List Slot
html_row = many n.HtmlFlowData ∷ []

module _ {A : Type 0} (text : List ℕ) where
  html_by : (on : Constructs) (names : Names) (top : Bool) (ls : List BlockLine) (count more kind : ℕ) (here : LineRest) (left : List LineRest) (to after : Place)
      (taken : List BlockLine) (old b c e d : Walk A) → count ≡ length ls → more ≡ count - 1 → StandsAt text (Within here left) (standing old)
      → IsWrittenToRest old → IsInOrder text old.out → AreHtml old.on.now (around (standing old)) kind taken (Within here left) after → ls ≡ own_lines taken
      → EndsAt taken after to
      → Enters text n.HtmlFlow old.out b.out → standing b ≡ standing old → written_to b ≡ written_to old
      → standing c ≡ standing b → written_to c ≡ end_at b.line_end 0 → WritesUpTo n.HtmlFlowData (end_at b.line_end 0) b c
      → WritesCutLines n.HtmlFlowData (λ rest. rest) more c e → WritesCutPieces n.HtmlFlowData (λ rest. rest) more c e
      → (IsInOrder text e.out → Exits text n.HtmlFlow e.out d.out) → standing d ≡ standing e → written_to d ≡ written_to e
      → WritesLeaf on names text top (page.Html ls) [] to old d
      × WritesToEnding text (html_pieces old.on.now (standing old).outermost count (left_in_line (standing old))) old d
  html_by on names top ls count more kind here left to after [] old b c e d size fewer st at order html is ends enters same_b end_b same_c end_c writes_c lines exact
      exits same_d end_d = absurd html
  html_by on names top ls count more kind here left to after (first ∷ others) old b c e d size fewer st at order html is ends enters same_b end_b same_c end_c
      writes_c lines exact exits same_d end_d =
      let st_b = subst (StandsAt text (Within here left)) (sym same_b) st in
      let at_b : IsWrittenToRest b = end_b ∙ at ∙ ap (λ (s : Standing). rest_start s.line_end s.rest) (sym same_b) in
      let line = whole_written text n.HtmlFlowData b c here left (inr (inr (inl refl))) st_b at_b enters.order same_c end_c writes_c in
      let own : html.0 ≡ here = sym (ap line_left html.3.0) in
      let first_is : rest_line here.rest here.beside ≡ first = ap (λ (l : LineRest). rest_line l.rest l.beside) (sym own) ∙ sym html.5 in
      let one : WritesFirst text n.HtmlFlowData first left b c =
      record {
        nodes = line.nodes;
        writes = line.writes;
        raw = line.raw;
        parts = line.parts ∙ ap (λ (l : BlockLine). chunk_parts n.HtmlFlowData l.codes) first_is;
        stands = subst (λ (l : BlockLine). StandsAt text (AtEnding l.ending left) (standing c)) first_is line.stands;
        around = (ap (λ (s : Standing). s.on) line.same, ap (λ (s : Standing). s.outermost) line.same);
        written = line.written;
      } in
      let fits : more ≡ length others = omega (arith, fewer, size, ap length is, own_count first others) in
      let taken_html = taken_as old.on.now (around (standing old)) (IsHtmlLine kind) (IsCutLine (λ rest. rest)) others (Between html.1) after (html_line kind) html.6 in
      let taken_b : AreTaken b.on.now (around (standing b)) (IsCutLine (λ rest. rest)) others (Between left) (Between ends.0) =
      subst (λ (s : Standing). AreTaken s.on (around s) (IsCutLine (λ rest. rest)) others (Between left) (Between ends.0)) (sym same_b) (
      subst (λ (ls : List LineRest). AreTaken old.on.now (around (standing old)) (IsCutLine (λ rest. rest)) others (Between ls) (Between ends.0)) (sym html.3.1) (
      subst (AreTaken old.on.now (around (standing old)) (IsCutLine (λ rest. rest)) others (Between html.1)) ends.1 taken_html
      )) in
      let all = all_written text n.HtmlFlowData (λ rest. rest) first others left ends.0 more b c e (inr (inr (inl refl))) one fits taken_b lines in
      let alike : AreHtmlLinesAlike ls (raw_lines (raw_parts text all.nodes)) =
      subst (λ (xs : List BlockLine). AreHtmlLinesAlike xs (raw_lines (raw_parts text all.nodes))) (sym is) (
      subst (λ (ps : List RawPart). AreHtmlLinesAlike (own_lines (first ∷ others)) (raw_lines ps)) (sym all.parts) (html_alike (own_lines (first ∷ others)))
      ) in
      let line_end = ap (λ (s : Standing). s.line_end) same_d in
      let takes : TakesChunks n.HtmlFlowData html_row = record { chunk = refl; between = record { space = refl; ending = refl; blank = refl; quote = refl } } in
      let node = Around (enter_at text n.HtmlFlow (end_in old.out)) all.nodes (exit_at text n.HtmlFlow (end_in e.out)) in
      let filled = filled_by Lines Plain n.HtmlFlow html_row node refl (all.fill html_row html_row (line.fill html_row takes) takes) refl in
      let chunk = subst (λ (ps : Pieces). WritesPieces text ps b.out c.out)
      (none_before n.SpaceOrTab (rest_of b.rest) (token n.HtmlFlowData (rest_of b.rest))) line.exact in
      let lines_exact = all_exact text n.HtmlFlowData (λ rest. rest) first others left ends.0 more b c e (inr (inr (inl refl))) one fits taken_b exact in
      let block = block_exact text n.HtmlFlow n.HtmlFlowData (λ rest. rest) 0 more (rest_of b.rest) old b c e d none_cut refl enters end_b chunk same_c lines_exact
      (exits all.writes.order) same_d end_d in
      let leaf = leaf_written text on names top (page.Html ls) to old old b e d n.HtmlFlow all.nodes (quiet_none text old.out order) enters all.writes
      (exits all.writes.order) refl refl refl all.raw.definitions (λ m m'. (alike, tt))
      (subst (λ (p : Place). StandsAt text p (standing d)) (sym ends.2) (subst (StandsAt text (AtEnding (last_ending (first ∷ others)) ends.0)) (sym same_d) all.stands)) (
        ap (λ (s : Standing). s.on) same_d ∙ all.around.0 ∙ ap (λ (s : Standing). s.on) same_b,
        ap (λ (s : Standing). s.outermost) same_d ∙ all.around.1 ∙ ap (λ (s : Standing). s.outermost) same_b,
      )
      end_d (all.written ∙ ap (λ (k : ℕ). end_at k 0) (sym line_end)) (omega arith) (rest_within text old here left st at)
      filled (sound_filled_full on names text 2 Lines Plain n.HtmlFlow node refl refl refl
      (html_some text first others all.nodes
      (λ none. start_some old.on.now html.2 html.0.rest kind html.4
      (ap (λ (l : LineRest). block_codes l.rest) own ∙ ap (λ (l : BlockLine). l.codes) first_is ∙ none)) all.parts)
      refl filled) in (
        leaf,
        subst (λ (w : Written). WritesToEnding text w old d)
            (ap₂ (λ (s : Standing) (k : ℕ). inside n.HtmlFlow (and_then (whole_rest n.HtmlFlowData (left_in_line s))
            (raw_lines_written s.on s.outermost n.HtmlFlowData 0 k))) same_b fewer) block,
      )

  pub html_written : (on : Constructs) (names : Names) (top : Bool) (ls : List BlockLine) (count more : ℕ) (here : LineRest) (left : List LineRest) (to : Place)
      (old b c e d : Walk A) → count ≡ length ls → more ≡ count - 1 → StandsAt text (Within here left) (standing old) → IsWrittenToRest old
      → IsInOrder text old.out → IsLeafLaid old.on.now (around (standing old)) (Html ls) (Within here left) to
      → Enters text n.HtmlFlow old.out b.out → standing b ≡ standing old → written_to b ≡ written_to old
      → standing c ≡ standing b → written_to c ≡ end_at b.line_end 0 → WritesUpTo n.HtmlFlowData (end_at b.line_end 0) b c
      → WritesCutLines n.HtmlFlowData (λ rest. rest) more c e → WritesCutPieces n.HtmlFlowData (λ rest. rest) more c e
      → (IsInOrder text e.out → Exits text n.HtmlFlow e.out d.out) → standing d ≡ standing e → written_to d ≡ written_to e
      → WritesLeaf on names text top (page.Html ls) [] to old d
      × WritesToEnding text (html_pieces old.on.now (standing old).outermost count (left_in_line (standing old))) old d
  html_written on names top ls count more here left to old b c e d size fewer st at order laid =
      html_by on names top ls count more laid.0 here left to laid.2 laid.1 old b c e d size fewer st at order laid.3 laid.4 laid.5
