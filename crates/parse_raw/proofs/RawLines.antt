-- What is written of the lines of a raw block, step by step (CommonMark 4.4 to 4.6).
use Rattle.std.proofs.Common.{◌≡◌, ℕ, zero, suc, ◌+◌, ◌-◌, ◌<◌, Bool, true, false, not, cond, List, [], ◌∷◌, ◌++◌, inl, inr, refl, sym, ap, ap₂}
use Rattle.std.proofs.Common.{subst, ◌∙◌, drop, take, length, map, arith}
use Rattle.parse_raw.proofs.Prelude.{append, AreRaw, at_ending, AtEnding, block_codes, bytes_of, cases_Bool, Chunk, chunk, chunk_parts, Code, code_byte}
use Rattle.parse_raw.proofs.Prelude.{cond-false, cond-true, drop-drop, End, end_at, ending_text, ends_in, eqb-true, false≢true, Follows, has_codes, html_chunk}
use Rattle.parse_raw.proofs.Prelude.{indent, is_tab_column, IsCharBoundary, IsChunkName, IsInOrder, IsLineOf, IsWrittenToRest, left_bytes, line_follows, LineRest, min, Name}
use Rattle.parse_raw.proofs.Prelude.{Nil, no_void, Node, Nodes, outdent, prefix_len, raw_part, raw_parts, RawPart, replicate, Rest, rest_of, rest_start}
use Rattle.parse_raw.proofs.Prelude.{rest_to_end, same_end, same_name, space, spaced_text_of, Standing, standing, StandsAt, tab_column, void_nodes, Walk}
use Rattle.parse_raw.proofs.Prelude.{whole, Within, Writes, writes_both, WritesCut, WritesUpTo, written_to}
use Rattle.std.proofs.Common.{◌≤◌, Some}
use Rattle.std.proofs.lemmas.List.{length-map}
use Rattle.engine_events.specs.declared.event.Name.TheVariants as n
use Rattle.event_grammar.specs.declared.slot.Between.TheVariants.{Lines}
use Rattle.event_grammar.specs.declared.slot.Form.TheVariants.{Plain}
use Rattle.event_grammar.specs.declared.slot.Slot.{Slot}
use Rattle.event_grammar.specs.Grammar.{row}
use Rattle.event_grammar.specs.Slots.{may_end, take_child}
use Rattle.parse_slots.specs.Left.{Fill, took}
use Rattle.parse_slots.proofs.Steps.{fill_both}
use Rattle.parse_slots.proofs.Voids.{void_again, void_between, void_taken}
use Rattle.text_lines.proofs.Codes.{no_bytes}
use Rattle.parse_raw.specs.RawLines.{TakesChunks}
use Rattle.parse_output.proofs.Characters.{characters_to}
use Rattle.parse_lines.proofs.Cuts.{line_end_cut}
use Rattle.parse_raw.proofs.Bytes.{columns_white, rest_fits}
use Rattle.parse_raw.proofs.Nodes.{IsRawName, ends_append, raw_append, raw_parts_append, raw_void, void_cases}
use Rattle.parse_raw.proofs.Raw.{rest_bytes, rest_size, void_node}
use Rattle.event_definition.specs.Pieces.{Pieces, token}
use Rattle.event_definition.specs.Written.{with_rest}
use Rattle.parse_pieces.specs.Written.{WritesPieces}
use Rattle.parse_lines.specs.Pieces.{left_in_line}
use Rattle.parse_raw.specs.RawLines.{cut_line}
use Rattle.parse_raw.proofs.Pieces.{cut_token, none_before, rest_token}

-- ---- the codes of what is left of a line

owed_front : (rest : Rest) → take (prefix_len is_tab_column rest) rest ≡ replicate (prefix_len is_tab_column rest) tab_column
owed_front [] = refl
owed_front (c ∷ cs) =
    elim (cases_Bool (is_tab_column c)) [
      | inl h ↦
          let k : prefix_len is_tab_column (c ∷ cs) ≡ suc (prefix_len is_tab_column cs) = cond-true (is_tab_column c) _ _ h ∙ omega arith in
          ap (λ (m : ℕ). take m (c ∷ cs)) k ∙ ap₂ (λ (x : ℕ) (xs : List ℕ). x ∷ xs) (eqb-true c tab_column h) (owed_front cs)
          ∙ ap (λ (m : ℕ). replicate m tab_column) (sym k)
      | inr h ↦
          let k : prefix_len is_tab_column (c ∷ cs) ≡ 0 = cond-false (is_tab_column c) _ _ h in
          ap (λ (m : ℕ). take m (c ∷ cs)) k ∙ ap (λ (m : ℕ). replicate m tab_column) (sym k)
    ]

codes_are : (rest : Rest) → block_codes rest ≡ replicate (prefix_len is_tab_column rest) tab_column ++ bytes_of rest
codes_are rest = ap (λ (xs : List ℕ). xs ++ bytes_of rest) (owed_front rest)

pub bytes_stay : (rest : Rest) → (map code_byte (bytes_of rest) ≡ bytes_of rest) × (bytes_of (bytes_of rest) ≡ bytes_of rest)
bytes_stay [] = (refl, refl)
bytes_stay (c ∷ cs) =
    let more = bytes_stay cs in
    elim (cases_Bool (is_tab_column c)) [
      | inl h ↦
          let none : bytes_of (c ∷ cs) ≡ bytes_of cs = ap (λ (t : Bool). cond (not t) (c ∷ bytes_of cs) (bytes_of cs)) h in
          (ap (map code_byte) none ∙ more.0 ∙ sym none, ap bytes_of none ∙ more.1 ∙ sym none)
      | inr h ↦
          let some : bytes_of (c ∷ cs) ≡ c ∷ bytes_of cs = ap (λ (t : Bool). cond (not t) (c ∷ bytes_of cs) (bytes_of cs)) h in
          let byte : code_byte c ≡ c = cond-false (is_tab_column c) space c h in (
            ap (map code_byte) some ∙ ap₂ (λ (x : ℕ) (xs : List ℕ). x ∷ xs) byte more.0 ∙ sym some,
            ap bytes_of some ∙ ap (λ (t : Bool). cond (not t) (c ∷ bytes_of (bytes_of cs)) (bytes_of (bytes_of cs))) h
                ∙ ap (λ (xs : List ℕ). c ∷ xs) more.1 ∙ sym some,
          )
    ]

columns_spaced : (n : ℕ) (bs : List ℕ) → map code_byte (replicate n tab_column ++ bs) ≡ replicate n space ++ map code_byte bs
columns_spaced zero bs = refl
columns_spaced (suc n) bs = ap (λ (xs : List ℕ). space ∷ xs) (columns_spaced n bs)

-- with a space for each column of a tab
codes_spaced : (rest : Rest) → map code_byte (block_codes rest) ≡ left_bytes rest
codes_spaced rest =
    let owed = prefix_len is_tab_column rest in
    ap (map code_byte) (codes_are rest) ∙ columns_spaced owed (bytes_of rest) ∙ ap (λ (xs : List ℕ). replicate owed space ++ xs) (bytes_stay rest).0

-- without these columns
codes_bytes : (rest : Rest) → bytes_of (block_codes rest) ≡ bytes_of rest
codes_bytes rest = ap bytes_of (codes_are rest) ∙ no_bytes (prefix_len is_tab_column rest) (bytes_of rest) ∙ (bytes_stay rest).1

codes_size : (rest : Rest) → length (block_codes rest) ≡ length (left_bytes rest)
codes_size rest = sym (length-map (block_codes rest) code_byte) ∙ ap length (codes_spaced rest)

no_codes : (rest : Rest) → has_codes (block_codes rest) ≡ false → rest ≡ []
no_codes [] h = refl
no_codes (c ∷ cs) h =
    elim (cases_Bool (is_tab_column c)) [
      | inl t ↦
          let k : prefix_len is_tab_column (c ∷ cs) ≡ suc (prefix_len is_tab_column cs) = cond-true (is_tab_column c) _ _ t ∙ omega arith in
          absurd (false≢true (sym h ∙ ap (λ (m : ℕ). has_codes (take m (c ∷ cs) ++ bytes_of (c ∷ cs))) k))
      | inr t ↦
          let k : prefix_len is_tab_column (c ∷ cs) ≡ 0 = cond-false (is_tab_column c) _ _ t in
          let some : bytes_of (c ∷ cs) ≡ c ∷ bytes_of cs = ap (λ (u : Bool). cond (not u) (c ∷ bytes_of cs) (bytes_of cs)) t in
          absurd (false≢true (sym h ∙ ap₂ (λ (m : ℕ) (xs : List ℕ). has_codes (take m (c ∷ cs) ++ xs)) k some))
    ]

-- something is left where there are codes
pub has_some : (rest : Rest) → (rest ≡ [] → ⊥) → has_codes (block_codes rest) ≡ true
has_some rest some = elim (cases_Bool (has_codes (block_codes rest))) [ inl h ↦ h | inr h ↦ absurd (some (no_codes rest h)) ]

no_has : (codes : List Code) → length codes ≡ 0 → has_codes codes ≡ false
no_has [] is = refl
no_has (c ∷ cs) is = absurd (omega arith)

-- ---- a node for them

chunk_some : (xs : List ℕ) → 0 < length xs → Chunk xs ∷ [] ≡ chunk xs
chunk_some [] some = absurd (omega arith)
chunk_some (x ∷ xs) some = refl

html_none : (codes : List Code) → length codes ≡ 0 → [] ≡ html_chunk codes
html_none [] is = refl
html_none (c ∷ cs) is = absurd (omega arith)

html_some : (codes : List Code) → 0 < length codes → Chunk (bytes_of codes) ∷ [] ≡ html_chunk codes
html_some [] some = absurd (omega arith)
html_some (c ∷ cs) some = refl

module _ (text before content after : List ℕ) (line_end m : ℕ) (line : IsLineOf text before content after) (end : line_end ≡ length before + length content) where
  abbrev left : Rest
  left = drop m (whole content)

  code_by : (name : Name) → same_name name n.Data ≡ false → ((node : Node) → raw_part text name node ≡ Chunk (spaced_text_of text node) ∷ [])
      → raw_parts text (void_nodes text name (rest_start line_end left) (end_at line_end 0)) ≡ chunk (map code_byte (block_codes left))
  code_by name other is =
      let bytes = rest_bytes text before content after line_end m name line end in
      let size = rest_size before content line_end m line.bytes end in
      void_cases (λ (ns : Nodes). raw_parts text ns ≡ chunk (map code_byte (block_codes left))) text name (rest_start line_end left) (end_at line_end 0) other
      (λ h. sym (ap chunk (codes_spaced left ∙ size.0 h)))
      (λ h.
      ap (λ (ps : List RawPart). ps ++ []) (is (void_node text name (rest_start line_end left) (end_at line_end 0)))
      ∙ ap (λ (bs : List ℕ). Chunk bs ∷ []) bytes.spaced ∙ chunk_some (left_bytes left) (size.1 h) ∙ sym (ap chunk (codes_spaced left)))

  html_by : raw_parts text (void_nodes text n.HtmlFlowData (rest_start line_end left) (end_at line_end 0)) ≡ html_chunk (block_codes left)
  html_by =
      let bytes = rest_bytes text before content after line_end m n.HtmlFlowData line end in
      let size = rest_size before content line_end m line.bytes end in
      let codes = codes_size left in
      void_cases (λ (ns : Nodes). raw_parts text ns ≡ html_chunk (block_codes left)) text n.HtmlFlowData (rest_start line_end left) (end_at line_end 0) refl
      (λ h. html_none (block_codes left) (codes ∙ ap length (size.0 h)))
      (λ h. ap (λ (bs : List ℕ). Chunk bs ∷ []) (bytes.own ∙ sym (codes_bytes left)) ∙ html_some (block_codes left) (omega (arith, codes, size.1 h)))

  front_by : raw_parts text (void_nodes text n.FrontmatterChunk (rest_start line_end left) (end_at line_end 0)) ≡ []
  front_by =
      void_cases (λ (ns : Nodes). raw_parts text ns ≡ []) text n.FrontmatterChunk (rest_start line_end left) (end_at line_end 0) refl (λ h. refl) (λ h. refl)

  -- where something is left, an event for it is there
  pub rest_apart : has_codes (block_codes left) ≡ true → same_end (end_at line_end 0) (rest_start line_end left) ≡ false
  rest_apart some =
      let size = rest_size before content line_end m line.bytes end in
      elim (cases_Bool (same_end (end_at line_end 0) (rest_start line_end left))) [
        | inl h ↦ absurd (false≢true (sym (no_has (block_codes left) (codes_size left ∙ ap length (size.0 h))) ∙ some))
        | inr h ↦ h
      ]

  raw_by : (name : Name) → IsRawName name → AreRaw (void_nodes text name (rest_start line_end left) (end_at line_end 0))
  raw_by name is = raw_void text name (rest_start line_end left) (end_at line_end 0) is

  abbrev HasParts : Name → Type 0
  HasParts name =
      (raw_parts text (void_nodes text name (rest_start line_end left) (end_at line_end 0)) ≡ chunk_parts name (block_codes left))
      × AreRaw (void_nodes text name (rest_start line_end left) (end_at line_end 0))

  -- what is left of a line, as a part of a raw block
  pub chunk_nodes : (name : Name) → IsChunkName name
      → (raw_parts text (void_nodes text name (rest_start line_end left) (end_at line_end 0)) ≡ chunk_parts name (block_codes left))
      × AreRaw (void_nodes text name (rest_start line_end left) (end_at line_end 0))
  chunk_nodes name (inl is) = subst (λ (x : Name). HasParts x) (sym is) (code_by n.CodeFlowChunk refl (λ node. refl), raw_by n.CodeFlowChunk (record { no_data = refl; no_definition = refl; no_code = refl; no_math = refl; unasked = refl }))
  chunk_nodes name (inr (inl is)) = subst (λ (x : Name). HasParts x) (sym is) (code_by n.MathFlowChunk refl (λ node. refl), raw_by n.MathFlowChunk (record { no_data = refl; no_definition = refl; no_code = refl; no_math = refl; unasked = refl }))
  chunk_nodes name (inr (inr (inl is))) = subst (λ (x : Name). HasParts x) (sym is) (html_by, raw_by n.HtmlFlowData (record { no_data = refl; no_definition = refl; no_code = refl; no_math = refl; unasked = refl }))
  chunk_nodes name (inr (inr (inr is))) = subst (λ (x : Name). HasParts x) (sym is) (front_by, raw_by n.FrontmatterChunk (record { no_data = refl; no_definition = refl; no_code = refl; no_math = refl; unasked = refl }))

-- ---- in a row of the grammar

abbrev IsChunk : Name → Type 0
IsChunk name = (same_name name n.Data ≡ false) × (may_end (row name Plain) ≡ true)

chunk_void : (name : Name) → IsChunkName name → IsChunk name
chunk_void name (inl is) = subst IsChunk (sym is) (refl, refl)
chunk_void name (inr (inl is)) = subst IsChunk (sym is) (refl, refl)
chunk_void name (inr (inr (inl is))) = subst IsChunk (sym is) (refl, refl)
chunk_void name (inr (inr (inr is))) = subst IsChunk (sym is) (refl, refl)

-- ---- in a walk

-- white space, up to a rest further on
space_raw : (text : List ℕ) (from to : End) → AreRaw (void_nodes text n.SpaceOrTab from to) × (raw_parts text (void_nodes text n.SpaceOrTab from to) ≡ [])
space_raw text from to = (
  raw_void text n.SpaceOrTab from to (record { no_data = refl; no_definition = refl; no_code = refl; no_math = refl; unasked = refl }),
  void_cases (λ (ns : Nodes). raw_parts text ns ≡ []) text n.SpaceOrTab from to refl (λ h. refl) (λ h. refl),
)

module _ {A : Type 0} (text : List ℕ) (name : Name) where
  -- what is left of a line after some columns, up to its ending
  pub record WritesRest (codes : List Code) (b d : Walk A) : Type 0 where
    pub nodes : Nodes
    pub is : nodes ≡ void_nodes text name (written_to b) (end_at b.line_end 0)
    pub writes : Writes text b.out d.out nodes
    pub raw : AreRaw nodes
    pub parts : raw_parts text nodes ≡ chunk_parts name codes
    pub fill : (slots : List Slot) → TakesChunks name slots → Fill Lines slots nodes slots
    -- where something is left, a row takes it
    pub taken : (slots more : List Slot) → has_codes codes ≡ true → take_child slots name ≡ Some (took Plain more) → Fill Lines slots nodes more

  pub rest_written : (b d : Walk A) (before content after : List ℕ) (m : ℕ) → IsLineOf text before content after → b.line_end ≡ length before + length content
      → IsCharBoundary text b.line_end → written_to b ≡ rest_start b.line_end (drop m (whole content)) → IsInOrder text b.out → IsChunkName name
      → WritesUpTo name (end_at b.line_end 0) b d → WritesRest (block_codes (drop m (whole content))) b d
  rest_written b d before content after m line end cut at order is_chunk writes =
      let follows = subst (λ (e : End). Follows text e (end_at b.line_end 0)) (sym at) (rest_to_end text before content after b.line_end m line end) in
      let utf8 = characters_to text b.out order (end_at b.line_end 0) follows cut in
      let nodes = chunk_nodes text before content after b.line_end m line end name is_chunk in
      let chunk = chunk_void name is_chunk in
      let is : void_nodes text name (rest_start b.line_end (drop m (whole content))) (end_at b.line_end 0)
      ≡ void_nodes text name (written_to b) (end_at b.line_end 0) = ap (λ (e : End). void_nodes text name e (end_at b.line_end 0)) (sym at) in
      record {
        nodes = void_nodes text name (written_to b) (end_at b.line_end 0);
        is = refl;
        writes =
            writes text order (record {
              follows = follows;
              bytes = λ apart. rest_fits text before content after b.line_end line end name m (written_to b) at is_chunk utf8;
            });
        raw = subst AreRaw is nodes.1;
        parts = ap (raw_parts text) (sym is) ∙ nodes.0;
        fill = λ slots takes.
            void_again Lines slots name Plain text (written_to b) (end_at b.line_end 0) chunk.0 takes.chunk chunk.1;
        taken = λ slots more some takes.
            void_taken Lines slots name Plain more text (written_to b) (end_at b.line_end 0)
            (ap (same_end (end_at b.line_end 0)) at ∙ rest_apart text before content after b.line_end m line end some) chunk.0 takes chunk.1;
      }

  -- all that is left of a line
  pub whole_written : (b d : Walk A) (here : LineRest) (left : List LineRest) → IsChunkName name → StandsAt text (Within here left) (standing b)
      → IsWrittenToRest b → IsInOrder text b.out → standing d ≡ standing b → written_to d ≡ end_at b.line_end 0
      → WritesUpTo name (end_at b.line_end 0) b d → WritesCut text name (λ rest. rest) here left b d
  whole_written b d here left is_chunk st at order same end writes =
      let from : written_to b ≡ rest_start b.line_end (drop st.columns (whole st.line.content)) =
      at ∙ ap (rest_start b.line_end) (st.rest ∙ st.suffix) in
      let all = rest_written b d st.line.before st.line.content (ending_text b.ending ++ b.left.now) st.columns st.line.parts st.line.end (line_end_cut text (standing b) st.line) from order is_chunk writes in
      record {
        nodes = all.nodes;
        writes = all.writes;
        raw = all.raw;
        parts = all.parts ∙ ap (λ (r : Rest). chunk_parts name (block_codes r)) (sym st.suffix);
        stands = subst (StandsAt text (AtEnding here.beside.ending left)) (sym same) (at_ending text here left (standing b) st);
        same = same;
        written = end ∙ ap (λ (s : Standing). end_at s.line_end 0) (sym same);
        spaced = λ some none. let is = no_codes here.rest none in absurd (omega (arith, some, ap length is));
        fill = all.fill;
        exact =
            subst (λ (ps : Pieces). WritesPieces text ps b.out d.out) (sym (none_before n.SpaceOrTab (rest_of b.rest) (token name (rest_of b.rest))))
            (subst (λ (r : Rest). WritesPieces text (token name r) b.out d.out) (sym (st.rest ∙ st.suffix))
            (rest_token text st.line.before st.line.content (ending_text b.ending ++ b.left.now) b.line_end st.line.parts st.line.end name st.columns b.out d.out from
            end (subst (λ (e : End). Writes text b.out d.out (void_nodes text name (written_to b) e)) (sym end) (subst (Writes text b.out d.out) all.is all.writes))));
      }

  -- what is left of a line after some columns of white space
  pub cut_written : (b c d : Walk A) (k : ℕ) (here : LineRest) (left : List LineRest) → IsChunkName name → StandsAt text (Within here left) (standing b)
      → IsWrittenToRest b → IsInOrder text b.out → standing c ≡ standing b → written_to c ≡ rest_start b.line_end (outdent k (rest_of b.rest))
      → WritesUpTo n.SpaceOrTab (rest_start b.line_end (outdent k (rest_of b.rest))) b c
      → standing d ≡ standing c → written_to d ≡ end_at c.line_end 0 → WritesUpTo name (end_at c.line_end 0) c d
      → WritesCut text name (outdent k) here left b d
  cut_written b c d k here left is_chunk st at order same_c to space same_d end writes =
      let j = min k (indent here.rest) in
      let before = st.line.before in
      let content = st.line.content in
      let columns = st.columns + j in
      let cut : outdent k here.rest ≡ drop columns (whole content) = ap (drop j) st.suffix ∙ drop-drop j st.columns (whole content) in
      let rest_is : outdent k (rest_of b.rest) ≡ drop columns (whole content) = ap (outdent k) st.rest ∙ cut in
      let from : written_to b ≡ rest_start b.line_end (drop st.columns (whole content)) = at ∙ ap (rest_start b.line_end) (st.rest ∙ st.suffix) in
      let after = ending_text b.ending ++ b.left.now in
      let follows = line_follows text before content after b.line_end st.columns columns st.line.parts st.line.end (omega arith) in
      let mid = rest_start b.line_end (outdent k (rest_of b.rest)) in
      let mid_is : rest_start b.line_end (drop columns (whole content)) ≡ mid = ap (rest_start b.line_end) (sym rest_is) in
      let few : j ≤ indent (drop st.columns (whole content)) =
      omega (arith, ap (λ (r : Rest). indent r) st.suffix) in
      let spaces = space text order (record {
        follows =
            subst (λ (e : End). Follows text e mid) (sym from) (
            subst (λ (e : End). Follows text (rest_start b.line_end (drop st.columns (whole content))) e) mid_is follows
            );
        bytes = λ apart. columns_white text before content after b.line_end st.line.parts st.line.end st.columns j (written_to b) mid from (sym mid_is) few;
      }) in
      let line_end : c.line_end ≡ b.line_end = ap (λ (s : Standing). s.line_end) same_c in
      let at_c : written_to c ≡ rest_start c.line_end (drop columns (whole content)) =
      to ∙ sym mid_is ∙ ap (λ (e : ℕ). rest_start e (drop columns (whole content))) (sym line_end) in
      let boundary : IsCharBoundary text c.line_end = subst (IsCharBoundary text) (sym line_end) (line_end_cut text (standing b) st.line) in
      let all = rest_written c d before content after columns st.line.parts (line_end ∙ st.line.end) boundary at_c spaces.order is_chunk writes in
      let space_nodes = void_nodes text n.SpaceOrTab (written_to b) mid in
      let raw = space_raw text (written_to b) mid in
      let same = same_d ∙ same_c in
      record {
        nodes = append space_nodes all.nodes;
        writes = writes_both text b.out c.out d.out space_nodes all.nodes spaces all.writes;
        raw = raw_append space_nodes all.nodes raw.0 all.raw;
        parts =
            raw_parts_append text space_nodes all.nodes ∙ ap₂ (λ (ps qs : List RawPart). ps ++ qs) raw.1 all.parts
            ∙ ap (λ (r : Rest). chunk_parts name (block_codes r)) (sym cut);
        stands = subst (StandsAt text (AtEnding here.beside.ending left)) (sym same) (at_ending text here left (standing b) st);
        same = same;
        written = end ∙ ap (λ (s : Standing). end_at s.line_end 0) (sym same_d);
        spaced = λ some none.
            let gone : drop columns (whole content) ≡ [] = sym cut ∙ no_codes (outdent k here.rest) none in
            let index : c.line_end - 0 ≡ c.line_end = omega arith in
            let here_end : written_to c ≡ end_at c.line_end 0 = at_c ∙ ap (rest_start c.line_end) gone ∙ ap (λ (e : ℕ). end_at e 0) index in
            let no_chunk : all.nodes ≡ Nil = all.is ∙ no_void text name (written_to c) (end_at c.line_end 0) here_end in
            let to_end : mid ≡ end_at b.line_end 0 = sym to ∙ here_end ∙ ap (λ (e : ℕ). end_at e 0) line_end in
            let size = rest_size before content b.line_end st.columns st.line.parts.bytes st.line.end in
            ends_append n.SpaceOrTab false space_nodes all.nodes
            ∙ ap (λ (ns : Nodes). ends_in n.SpaceOrTab (ends_in n.SpaceOrTab false space_nodes) ns) no_chunk
            ∙ void_cases (λ (ns : Nodes). ends_in n.SpaceOrTab false ns ≡ true) text n.SpaceOrTab (written_to b) mid refl
            (λ h.
            let nothing = size.0 (ap₂ (λ (x y : End). same_end x y) (sym to_end) (sym from) ∙ h) in
            let sizes = codes_size here.rest in
            let left_none : length (left_bytes here.rest) ≡ 0 = ap (λ (r : Rest). length (left_bytes r)) st.suffix ∙ ap length nothing in
            let is = no_codes here.rest (no_has (block_codes here.rest) (sizes ∙ left_none)) in
            absurd (omega (arith, some, ap length is)))
            (λ h. refl);
        fill = λ slots takes.
            fill_both (void_between Lines slots n.SpaceOrTab text (written_to b) mid refl takes.between.space refl refl) (all.fill slots takes);
        exact =
            subst (λ (r : Rest). WritesPieces text (cut_line name (outdent k) (with_rest r (left_in_line (standing b)))).pieces b.out d.out)
            (sym (st.rest ∙ st.suffix))
            (cut_token text before content after b.line_end st.line.parts st.line.end name st.columns (min k (indent (drop st.columns (whole content)))) b.out c.out d.out
            from
            (to ∙ ap (λ (r : Rest). rest_start b.line_end (outdent k r)) (st.rest ∙ st.suffix)
            ∙ ap (rest_start b.line_end) (drop-drop (min k (indent (drop st.columns (whole content)))) st.columns (whole content)))
            (end ∙ ap (λ (e : ℕ). end_at e 0) line_end)
            (subst (λ (e : End). Writes text b.out c.out (void_nodes text n.SpaceOrTab (written_to b) e)) (sym to) spaces)
            (subst (λ (e : End). Writes text c.out d.out (void_nodes text name (written_to c) e)) (sym end) (subst (Writes text c.out d.out) all.is all.writes)));
      }
