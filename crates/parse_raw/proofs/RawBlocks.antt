-- What is written of a raw block, step by step (CommonMark 4.4 and 4.6).
use Rattle.std.proofs.Common.{◌≡◌, ℕ, suc, false, List, [], ◌∷◌, ◌++◌, Option, None, Some, refl, sym, ap, ap₂, subst, ◌∙◌}
use Rattle.std.proofs.Common.{append_assoc, flat_map, length, reverse}
use Rattle.std.proofs.lemmas.Grind.{flat_map-append}
use Rattle.parse_raw.proofs.Prelude.{append, append-nil, AreHtmlLinesAlike, AreRaw, AreTaken, around, AtEnding, Between, BlockLine, bytes_of, Chunk}
use Rattle.parse_raw.proofs.Prelude.{chunk_parts, Code, Constructs, Container, end_at, end_part, EndPart, HasSameOpen, html_chunk, IsChunkName, IsCutLine}
use Rattle.parse_raw.proofs.Prelude.{last_ending, LineEnding, LineRest, Name, Nodes, own_lines, parts_after, Place, Prefixed, raw_lines, raw_parts, RawPart}
use Rattle.parse_raw.proofs.Prelude.{Rest, standing, StandsAt, Walk, Writes, writes_both, WritesCutLines, written_to}
use Rattle.engine_events.specs.declared.event.Name.TheVariants as n
use Rattle.event_grammar.specs.declared.slot.Between.TheVariants.{Lines}
use Rattle.event_grammar.specs.declared.slot.Slot.{Slot}
use Rattle.parse_slots.specs.Left.{Fill}
use Rattle.parse_slots.proofs.Steps.{fill_both}
use Rattle.parse_raw.specs.RawLines.{TakesChunks}
use Rattle.parse_alike.specs.BlockLines.{HtmlPart, html_end, html_parts, html_text}
use Rattle.parse_raw.proofs.Nodes.{raw_append, raw_parts_append}
use Rattle.parse_raw.proofs.RawLines.{bytes_stay}
use Rattle.parse_raw.proofs.Prelude.{Enters, Exits, outdent, same_name, Standing}
use Rattle.event_definition.specs.Pieces.{token}
use Rattle.event_definition.specs.RawLines.{raw_lines as raw_lines_written}
use Rattle.event_definition.specs.Written.{Written, and_then, inside, whole_rest, with_rest}
use Rattle.parse_pieces.proofs.Written.{pieces_around}
use Rattle.parse_pieces.specs.Written.{WritesPieces}
use Rattle.parse_lines.specs.Pieces.{left_at_ending, left_in_line}
use Rattle.parse_raw.specs.Pieces.{WritesCutPieces, WritesToEnding, cut_lines}
use Rattle.parse_raw.proofs.Pieces.{lines_are, then_written}

-- ---- the parts of lines

-- those of a line: what is left of it, and its ending
abbrev pub line_parts : Name → BlockLine → List RawPart
line_parts name line = chunk_parts name line.codes ++ end_part line.ending

pub parts_own : (name : Name) (first : BlockLine) (others : List BlockLine)
    → chunk_parts name first.codes ++ parts_after name first.ending others ≡ flat_map (line_parts name) (own_lines (first ∷ others))
parts_own name first [] = sym (append-nil (chunk_parts name first.codes ++ []))
parts_own name first (next ∷ others) =
    let own = chunk_parts name first.codes in
    sym (append_assoc own (end_part first.ending) (chunk_parts name next.codes ++ parts_after name next.ending others))
    ∙ ap (λ (ps : List RawPart). (own ++ end_part first.ending) ++ ps) (parts_own name next others)

pub own_count : (first : BlockLine) (others : List BlockLine) → length (own_lines (first ∷ others)) ≡ suc (length others)
own_count first [] = refl
own_count first (next ∷ others) = ap suc (own_count next others)

-- ---- HTML

raw_lines_both : (ps qs : List RawPart) → raw_lines (ps ++ qs) ≡ raw_lines ps ++ raw_lines qs
raw_lines_both [] qs = refl
raw_lines_both (Chunk text ∷ ps) qs = ap (λ (ls : List BlockLine). raw_lines (Chunk text ∷ []) ++ ls) (raw_lines_both ps qs)
raw_lines_both (EndPart ending ∷ ps) qs = ap (λ (ls : List BlockLine). raw_lines (EndPart ending ∷ []) ++ ls) (raw_lines_both ps qs)

abbrev made : List RawPart → List HtmlPart
made ps = flat_map html_parts (raw_lines ps)

made_both : (ps qs : List RawPart) → made (ps ++ qs) ≡ made ps ++ made qs
made_both ps qs = ap (flat_map html_parts) (raw_lines_both ps qs) ∙ flat_map-append html_parts (raw_lines ps) (raw_lines qs)

made_chunk : (codes : List Code) → html_text (bytes_of codes) ≡ made (html_chunk codes)
made_chunk [] = refl
made_chunk (c ∷ cs) =
    let bytes = bytes_of (c ∷ cs) in
    sym (append-nil (html_text (bytes_of bytes) ++ []) ∙ append-nil (html_text (bytes_of bytes)) ∙ ap html_text (bytes_stay (c ∷ cs)).1)

made_end : (ending : Option LineEnding) → html_end ending ≡ made (end_part ending)
made_end None = refl
made_end (Some ending) = refl

made_line : (line : BlockLine) → html_parts line ≡ made (line_parts n.HtmlFlowData line)
made_line line =
    ap₂ (λ (xs ys : List HtmlPart). xs ++ ys) (made_chunk line.codes) (made_end line.ending)
    ∙ sym (made_both (html_chunk line.codes) (end_part line.ending))

-- lines of HTML are alike to what is left of each, and their endings
pub html_alike : (ls : List BlockLine) → AreHtmlLinesAlike ls (raw_lines (flat_map (line_parts n.HtmlFlowData) ls))
html_alike [] = refl
html_alike (line ∷ ls) =
    ap₂ (λ (xs ys : List HtmlPart). xs ++ ys) (made_line line) (html_alike ls)
    ∙ sym (made_both (line_parts n.HtmlFlowData line) (flat_map (line_parts n.HtmlFlowData) ls))

-- ---- lines of a text

-- lines of one kind are of another
pub taken_as : (on : Constructs) (around : List Container) (P Q : Prefixed → BlockLine → Type 0) (ls : List BlockLine) (from to : Place)
    → ((here : Prefixed) (line : BlockLine) → P here line → Q here line) → AreTaken on around P ls from to → AreTaken on around Q ls from to
taken_as on around P Q [] from to f taken = taken
taken_as on around P Q (line ∷ ls) from to f taken =
    (taken.0, taken.1, taken.2, f taken.0 line taken.3, taken_as on around P Q ls (Between taken.1) to f taken.4)

-- ---- in a walk

-- the first line is written up to its ending, without the white space that is cut
pub record WritesFirst {A : Type 0} (text : List ℕ) (name : Name) (first : BlockLine) (left : List LineRest) (b c : Walk A) : Type 0 where
  pub nodes : Nodes
  pub writes : Writes text b.out c.out nodes
  pub raw : AreRaw nodes
  pub parts : raw_parts text nodes ≡ chunk_parts name first.codes
  pub stands : StandsAt text (AtEnding first.ending left) (standing c)
  pub around : HasSameOpen (standing b) (standing c)
  pub written : written_to c ≡ end_at c.line_end 0

-- all lines are written, of which the first has these nodes
pub record WritesAll {A : Type 0} (text : List ℕ) (name : Name) (first : BlockLine) (others : List BlockLine) (after : List LineRest) (front : Nodes)
    (b e : Walk A) : Type 0 where
  pub nodes : Nodes
  pub writes : Writes text b.out e.out nodes
  pub raw : AreRaw nodes
  pub parts : raw_parts text nodes ≡ flat_map (line_parts name) (own_lines (first ∷ others))
  pub stands : StandsAt text (AtEnding (last_ending (first ∷ others)) after) (standing e)
  pub around : HasSameOpen (standing b) (standing e)
  pub written : written_to e ≡ end_at e.line_end 0
  pub fill : (slots more : List Slot) → Fill Lines slots front more → TakesChunks name more → Fill Lines slots nodes more

module _ {A : Type 0} (text : List ℕ) where
  pub all_written : (name : Name) (cut : Rest → Rest) (first : BlockLine) (others : List BlockLine) (left after : List LineRest) (count : ℕ) (b c e : Walk A)
      → IsChunkName name → (one : WritesFirst text name first left b c) → count ≡ length others
      → AreTaken b.on.now (around (standing b)) (IsCutLine cut) others (Between left) (Between after)
      → WritesCutLines name cut count c e → WritesAll text name first others after one.nodes b e
  all_written name cut first others left after count b c e is_chunk one size taken writes =
      let taken_c = subst (λ (x : Constructs). AreTaken x (reverse (standing c).outermost) (IsCutLine cut) others (Between left) (Between after)) (sym one.around.0) (
      subst (λ (cs : List Container). AreTaken b.on.now (reverse cs) (IsCutLine cut) others (Between left) (Between after)) (sym one.around.1) taken
      ) in
      let more = writes text first.ending others left after size is_chunk one.stands one.written one.writes.order taken_c in
      record {
        nodes = append one.nodes more.nodes;
        writes = writes_both text b.out c.out e.out one.nodes more.nodes one.writes more.writes;
        raw = raw_append one.nodes more.nodes one.raw more.raw;
        parts =
            raw_parts_append text one.nodes more.nodes ∙ ap₂ (λ (ps qs : List RawPart). ps ++ qs) one.parts more.parts ∙ parts_own name first others;
        stands = more.stands;
        around = (more.around.0 ∙ one.around.0, more.around.1 ∙ one.around.1);
        written = more.written;
        fill = λ slots rest fill takes. fill_both fill (more.fill rest takes);
      }

  -- the lines after the first
  pub all_exact : (name : Name) (cut : Rest → Rest) (first : BlockLine) (others : List BlockLine) (left after : List LineRest) (count : ℕ) (b c e : Walk A)
      → IsChunkName name → (one : WritesFirst text name first left b c) → count ≡ length others
      → AreTaken b.on.now (around (standing b)) (IsCutLine cut) others (Between left) (Between after)
      → WritesCutPieces name cut count c e
      → WritesToEnding text (cut_lines c.on.now (standing c).outermost name cut count (left_at_ending (standing c))) c e
  all_exact name cut first others left after count b c e is_chunk one size taken writes =
      let taken_c = subst (λ (x : Constructs). AreTaken x (reverse (standing c).outermost) (IsCutLine cut) others (Between left) (Between after)) (sym one.around.0) (
      subst (λ (cs : List Container). AreTaken b.on.now (reverse cs) (IsCutLine cut) others (Between left) (Between after)) (sym one.around.1) taken
      ) in
      writes text first.ending others left after size is_chunk one.stands one.written one.writes.order taken_c

  -- an event around them, as the definition has it
  pub block_exact : (block chunk : Name) (cut : Rest → Rest) (columns count : ℕ) (rest : Rest) (a b c e d : Walk A)
      → ((r : Rest) → cut r ≡ outdent columns r) → same_name block n.Data ≡ false
      → Enters text block a.out b.out → written_to b ≡ written_to a → WritesPieces text (token chunk rest) b.out c.out → standing c ≡ standing b
      → WritesToEnding text (cut_lines c.on.now (standing c).outermost chunk cut count (left_at_ending (standing c))) c e
      → Exits text block e.out d.out → standing d ≡ standing e → written_to d ≡ written_to e
      → WritesToEnding text (inside block (and_then (whole_rest chunk (with_rest rest (left_in_line (standing b))))
      (raw_lines_written b.on.now (standing b).outermost chunk columns count))) a d
  block_exact block chunk cut columns count rest a b c e d cuts other enters end_b written_c same_c lines exits same_d end_d =
      let here = with_rest rest (left_in_line (standing b)) in
      let first : WritesToEnding text (whole_rest chunk here) b c = record { pieces = written_c; left = ap left_at_ending same_c } in
      let lines_b = subst (λ (w : Written). WritesToEnding text w c e)
      (ap (λ (s : Standing). cut_lines s.on s.outermost chunk cut count (left_at_ending (standing c))) same_c
      ∙ lines_are b.on.now (standing b).outermost chunk cut columns count (left_at_ending (standing c)) cuts) lines in
      let all = then_written text (whole_rest chunk here) (raw_lines_written b.on.now (standing b).outermost chunk columns count) b c e first lines_b in
      record {
        pieces =
            pieces_around text block (and_then (whole_rest chunk here) (raw_lines_written b.on.now (standing b).outermost chunk columns count)).pieces
            a.out b.out e.out d.out other enters end_b all.pieces exits end_d;
        left = ap left_at_ending same_d ∙ all.left;
      }
