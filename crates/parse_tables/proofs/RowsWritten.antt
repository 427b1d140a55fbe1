-- The rows of a table are written, each on a line.
use Rattle.std.proofs.Common.{◌≡◌, ℕ, ◌+◌, ◌-◌, ◌<◌, not, List, [], ◌∷◌, ◌++◌, Option, length, get_or, replicate, reverse, suc, take, inl, inr, refl, sym, ap, ap₂, subst, ◌∙◌, arith, append_assoc}
use Rattle.parse_tables.proofs.Prelude.{after_first_bar, append, append-nil, AreCellsOf, AreEnding, AreOnNextLine, AreQuiet, AreRowNodes, AreTaken, around}
use Rattle.parse_tables.proofs.Prelude.{Around, Between, block_codes, BlockLine, bytes_of, cases_Bool, Cell, cells, cond-false, cond-true, Cons, Constructs}
use Rattle.parse_tables.proofs.Prelude.{Container, cut, End, end_at, end_in, enter_at, exit_at, filter-append, HasSameOpen, HoldSame, HoldsSame}
use Rattle.parse_tables.proofs.Prelude.{InAll, InSome, is_byte, is_tab_column, IsBefore, IsInOrder, IsOn, IsRowLine, IsRowNode, IsWrittenToRest, kids_of}
use Rattle.parse_tables.proofs.Prelude.{last_ending_or, line_cells, line_left, LineEnding, LineRest, Name, named, Nil, Node, Nodes, one, PassesLine}
use Rattle.parse_tables.proofs.Prelude.{piece_bytes, prefix_len, prefixed, Prefixed, Reading, Rest, rest_start, SpellCells, standing, Standing, StandsAt}
use Rattle.parse_tables.proofs.Prelude.{tab_column, void_nodes, Walk, Within, Writes, writes_around, writes_both, WritesFirstBar, WritesFirstCellsHere}
use Rattle.parse_tables.proofs.Prelude.{WritesFirstRows, WritesFirstRowsHere, WritesNextLine, WritesRowHere, WritesTo, WritesUpTo, written_to}
use Rattle.engine_events.specs.declared.event.Name.TheVariants as n
use Rattle.parse_output.proofs.Forests.{append-assoc as nodes_assoc}
use Rattle.parse_lines.specs.Ends.{line_after}
use Rattle.parse_raw.proofs.Bytes.{ending_token, line_ending_fits}
use Rattle.parse_raw.proofs.Endings.{ending_nodes}
use Rattle.parse_slots.proofs.Steps.{fill_both}
use Rattle.parse_references.proofs.Sound.{sound_around, sound_both, void_sound}
use Rattle.parse_tables.proofs.CellBytes.{AreLineCodes, cells_are}
use Rattle.parse_tables.proofs.Fills.{row_filled, space_part}
use Rattle.parse_tables.proofs.LineStarts.{before_rest}
use Rattle.parse_tables.proofs.Steps.{IsEntered, IsExited, before_after, before_both, before_none, before_token, open_both, same_open}
use Rattle.parse_tables.specs.Rows.{WritesNextRowHere}
use Rattle.parse_tables.proofs.CellNodes.{children_void, in_row_both, in_row_void, spell_after, spell_before}

-- ---- the bytes of a line

-- the columns that are left of a tab
abbrev front_columns : Rest → List ℕ
front_columns rest = take (prefix_len is_tab_column rest) rest

no_columns : (rest : Rest) → bytes_of (front_columns rest) ≡ []
no_columns [] = refl
no_columns (c ∷ cs) = elim (cases_Bool (is_tab_column c)) [
  | inl h ↦
      let size : prefix_len is_tab_column (c ∷ cs) ≡ suc (prefix_len is_tab_column cs) = cond-true (is_tab_column c) _ 0 h ∙ omega arith in
      ap (λ (k : ℕ). bytes_of (take k (c ∷ cs))) size
      ∙ cond-false (is_byte c) (c ∷ bytes_of (front_columns cs)) (bytes_of (front_columns cs)) (ap not h)
      ∙ no_columns cs
  | inr h ↦
      let size : prefix_len is_tab_column (c ∷ cs) ≡ 0 = cond-false (is_tab_column c) _ 0 h in
      ap (λ (k : ℕ). bytes_of (take k (c ∷ cs))) size
]

bytes_again : (rest : Rest) → bytes_of (bytes_of rest) ≡ bytes_of rest
bytes_again [] = refl
bytes_again (c ∷ cs) = elim (cases_Bool (is_byte c)) [
  | inl h ↦
      let is : bytes_of (c ∷ cs) ≡ c ∷ bytes_of cs = cond-true (is_byte c) _ _ h in
      ap bytes_of is ∙ cond-true (is_byte c) (c ∷ bytes_of (bytes_of cs)) (bytes_of (bytes_of cs)) h
      ∙ ap (λ (xs : List ℕ). c ∷ xs) (bytes_again cs) ∙ sym is
  | inr h ↦
      let is : bytes_of (c ∷ cs) ≡ bytes_of cs = cond-false (is_byte c) _ _ h in
      ap bytes_of is ∙ bytes_again cs ∙ sym is
]

-- a block has the bytes of what is left of a line
pub block_bytes : (rest : Rest) → bytes_of (block_codes rest) ≡ bytes_of rest
block_bytes rest =
    filter-append is_byte (front_columns rest) (bytes_of rest) ∙ ap₂ (λ (xs ys : List ℕ). xs ++ ys) (no_columns rest) (bytes_again rest)

-- a code is a byte or a column of a tab
all_codes : (codes : List ℕ) → AreLineCodes codes
all_codes [] = tt
all_codes (c ∷ cs) = (elim (cases_Bool (is_tab_column c)) [ inl h ↦ inr h | inr h ↦ inl (ap not h) ], all_codes cs)

-- ---- an event in a line

module _ {A : Type 0} (text : List ℕ) (ending : Option LineEnding) (left : List LineRest) where
  -- nodes up to the end of a line, in an event that was entered before them
  pub around_line : (a b c d : Walk A) (name : Name) (ns : Nodes) → IsInOrder text a.out → IsEntered name a b → HasSameOpen (standing b) (standing c)
      → Writes text b.out c.out ns → IsBefore text [] ending left c → IsExited name c d
      → WritesTo text [] ending left (cut (Around (enter_at text name (end_in a.out)) ns (exit_at text name (end_in c.out)))) a d
  around_line a b c d name ns order enters kept writes before exits =
      let entered = enters.enters text order in
      let exited = exits.exits text writes.order in
      let here : (end_in c.out).index + 0 ≡ (end_in c.out).index = omega arith in
      let place : end_in d.out ≡ end_at ((end_in c.out).index + 0) 0 = exits.end ∙ ap₂ end_at (sym here) before.bare in
      record {
        writes = writes_around text a.out b.out c.out d.out name ns entered writes exited;
        before = before_after text ending left c d [] [] before exits.stays exited.order place;
        around = open_both (standing a) (standing b) (standing d) (same_open text ending left a b enters.stays)
            (open_both (standing b) (standing c) (standing d) kept (same_open text ending left c d exits.stays));
      }

-- ---- a row

module _ {A : Type 0} (r : Reading) (line : BlockLine) (owed : ℕ) (bytes : List ℕ) (small : (k : ℕ) → get_or bytes k 0 < 256)
    (codes_are : line.codes ≡ replicate owed tab_column ++ bytes) where
  pub row_written : (old entered spaced barred celled all new : Walk A) → IsEntered n.GfmTableRow old entered → standing spaced ≡ standing entered
      → written_to spaced ≡ end_at (entered.line_end - length bytes) 0
      → WritesUpTo n.SpaceOrTab (end_at (entered.line_end - length bytes) 0) entered spaced
      → WritesFirstBar bytes spaced barred → WritesFirstCellsHere r (line_cells line) [] barred celled
      → standing all ≡ standing celled → written_to all ≡ end_at celled.line_end 0 → WritesUpTo n.SpaceOrTab (end_at celled.line_end 0) celled all
      → IsExited n.GfmTableRow all new → WritesRowHere r line old new
  row_written old entered spaced barred celled all new enters same end to first cells_written same_all end_all to_all exits =
      λ text here left at written order same_codes.
      let ending = here.beside.ending in
      let e = enters.enters text order in
      let own_bytes : bytes_of line.codes ≡ bytes = ap bytes_of codes_are ∙ piece_bytes owed bytes small in
      let rest_bytes : bytes ≡ bytes_of here.rest = sym own_bytes ∙ ap bytes_of same_codes ∙ block_bytes here.rest in
      let start = λ (xs : List ℕ). end_at (entered.line_end - length xs) 0 in
      let at_entered : StandsAt text (Within here left) (standing entered) = subst (StandsAt text (Within here left)) (sym enters.stays) at in
      let written_entered : IsWrittenToRest entered = enters.end ∙ written ∙ ap (λ (s : Standing). rest_start s.line_end s.rest) (sym enters.stays) in
      let space = before_rest text here left entered spaced at_entered written_entered e.order same (end ∙ ap start rest_bytes)
      (subst (λ (xs : List ℕ). WritesUpTo n.SpaceOrTab (start xs) entered spaced) rest_bytes to) in
      let from = written_to entered in
      let bare_end = start (bytes_of here.rest) in
      let ns = void_nodes text n.SpaceOrTab from bare_end in
      let bar = first text ending left (subst (λ (xs : List ℕ). IsBefore text xs ending left spaced) (sym rest_bytes) space.before) in
      let are = subst (λ (xs : List ℕ). AreCellsOf (line_cells line) (after_first_bar xs)) own_bytes
      (cells_are line.before line.codes (all_codes line.codes)) in
      let cs = cells_written text (after_first_bar bytes) ending left are bar.writes.before in
      let b = cs.writes.before in
      let last : end_at celled.line_end 0 ≡ end_at ((end_in celled.out).index + length cs.behind) 0 = ap (λ (k : ℕ). end_at k 0) (sym b.end) in
      let white = before_token text ending left celled all n.SpaceOrTab cs.behind [] (end_at celled.line_end 0) last (λ some. cs.ahead)
      (subst (λ (xs : List ℕ). IsBefore text xs ending left celled) (sym (append-nil cs.behind)) b) same_all end_all to_all in
      let behind = end_in celled.out in
      let line_end = end_at celled.line_end 0 in
      let ms = void_nodes text n.SpaceOrTab behind line_end in
      let w = before_both text ending left entered spaced all (bytes_of here.rest) [] ns (append bar.nodes (append cs.nodes ms)) space
      (before_both text ending left spaced barred all (after_first_bar bytes) [] bar.nodes (append cs.nodes ms) bar.writes
      (before_both text ending left barred celled all cs.behind [] cs.nodes ms cs.writes white)) in
      let kids = append ns (append bar.nodes (append cs.nodes ms)) in
      let row = in_row_both ns (append bar.nodes (append cs.nodes ms)) (in_row_void text n.SpaceOrTab from bare_end refl refl refl)
      (in_row_both bar.nodes (append cs.nodes ms) bar.in_row
      (in_row_both cs.nodes ms cs.in_row (in_row_void text n.SpaceOrTab behind line_end refl refl refl))) in
      let done : line_cells line ≡ cs.done = cs.all ∙ append-nil cs.done in
      let node = Around (enter_at text n.GfmTableRow (end_in old.out)) kids (exit_at text n.GfmTableRow (end_in all.out)) in
      record {
        node = node;
        is_row = record {
          name = refl;
          spell =
              subst (λ (xs : List Cell). SpellCells r text xs kids) (sym done)
              (spell_before r text cs.done ns (append bar.nodes (append cs.nodes ms)) (children_void text n.GfmTableCell n.SpaceOrTab from bare_end refl refl)
              (spell_before r text cs.done bar.nodes (append cs.nodes ms) bar.no_cell
              (spell_after r text cs.done cs.nodes ms (children_void text n.GfmTableCell n.SpaceOrTab behind line_end refl refl) cs.spell)));
          in_row = record {
            definitions = append-nil (named n.Definition kids) ∙ row.definitions;
            columns = append-nil (named n.GfmTableDelimiterCellValue kids) ∙ row.columns;
          };
          filled =
              row_filled node refl (fill_both (space_part text from bare_end) (fill_both bar.fill (fill_both cs.fill (space_part text behind line_end))));
          sound =
              let on = r.parse.constructs in
              let names = r.tables.names in
              sound_around on names text node refl
              (sound_both on names text ns (append bar.nodes (append cs.nodes ms)) (void_sound on names text n.SpaceOrTab from bare_end refl)
              (sound_both on names text bar.nodes (append cs.nodes ms) (bar.sound on names)
              (sound_both on names text cs.nodes ms cs.sound (void_sound on names text n.SpaceOrTab behind line_end refl))));
        };
        writes = around_line text ending left old entered all new n.GfmTableRow kids order enters w.around w.writes w.before exits;
      }

-- the same cells
pub same_row : (r : Reading) (text : List ℕ) (line line' : BlockLine) (node : Node) → HoldsSame line line' → IsRowNode r text line node
    → IsRowNode r text line' node
same_row r text line line' node same row = record {
  name = row.name;
  spell = subst (λ (cs : List Cell). SpellCells r text cs (kids_of node)) (ap₂ cells same.1 same.0) row.spell;
  in_row = row.in_row;
  filled = row.filled;
  sound = row.sound;
}

-- ---- the next line

-- The ending of a line is written, and nodes that spell nothing on the next line, which is begun.
pub record BeginsNext {A : Type 0} (text : List ℕ) (ending : Option LineEnding) (here : LineRest) (left : List LineRest) (a b : Walk A) : Type 0 where
  pub ends : Nodes
  pub are_ending : AreEnding text n.LineEnding ending ends
  pub quiet : Nodes
  pub are_quiet : AreQuiet quiet
  pub writes : Writes text a.out b.out (append ends quiet)
  pub stands : StandsAt text (Within here left) (standing b)
  pub written : IsWrittenToRest b
  pub around : HasSameOpen (standing a) (standing b)

module _ {A : Type 0} (text : List ℕ) where
  pub next_begun : (a b : Walk A) (ending : Option LineEnding) (next here : LineRest) (others : List LineRest) → IsBefore text [] ending (next ∷ others) a
      → prefixed a.on.now (around (standing a)) next ≡ InAll here → PassesLine (standing a) (standing b) → WritesNextLine a b
      → HasSameOpen (standing a) (standing b) → BeginsNext text ending here others a b
  next_begun a b ending next here others before goes passes writes kept =
      let to = line_after a in
      let st = before.at in
      let end = before.end in
      let place : written_to a ≡ end_at a.line_end 0 = ap₂ end_at (omega (arith, end)) before.bare in
      let done = writes text ending next others st before.order (ending_token text n.LineEnding a line_ending_fits st.line place) in
      let are = ending_nodes text n.LineEnding (standing a) refl st.line in
      record {
        ends = void_nodes text n.LineEnding (written_to a) to;
        are_ending = subst (λ (e : End). AreEnding text n.LineEnding ending (void_nodes text n.LineEnding e to)) (sym place)
            (subst (λ (x : Option LineEnding). AreEnding text n.LineEnding x (void_nodes text n.LineEnding (end_at a.line_end 0) to)) st.ending are);
        quiet = done.0;
        are_quiet = done.2;
        writes = done.1;
        stands = subst (λ (x : LineRest). StandsAt text (Within x others) (standing b)) (ap line_left goes) (passes text ending next others st);
        written = done.4;
        around = kept;
      }

  -- more nodes on that line
  pub on_next : (ending : Option LineEnding) (here : LineRest) (left : List LineRest) (a b : Walk A) (others : Nodes) (n : BeginsNext text ending here left a b)
      → AreOnNextLine text ending others (append (append n.ends n.quiet) others)
  on_next ending here left a b others n = record {
    ends = n.ends;
    are_ending = n.are_ending;
    quiet = n.quiet;
    are_quiet = n.are_quiet;
    all = nodes_assoc n.ends n.quiet others;
  }

-- ---- a row on the next line

pub next_row_written : {A : Type 0} (r : Reading) (line : BlockLine) (old begun new : Walk A) → PassesLine (standing old) (standing begun)
    → WritesNextLine old begun → HasSameOpen (standing old) (standing begun) → WritesRowHere r line begun new → WritesNextRowHere r line old new
next_row_written r line old begun new passes writes kept row = λ text before next here left b goes codes.
    let n = next_begun text old begun before next here left b goes passes writes kept in
    let w = row text here left n.stands n.written n.writes.order codes in
    record {
      node = w.node;
      is_row = w.is_row;
      nodes = append (append n.ends n.quiet) (one w.node);
      on_next = on_next text before here left old begun (one w.node) n;
      writes = record {
        writes = writes_both text old.out begun.out new.out (append n.ends n.quiet) (one w.node) n.writes w.writes.writes;
        before = w.writes.before;
        around = open_both (standing old) (standing begun) (standing new) n.around w.writes.around;
      };
    }

-- ---- rows, one after another

-- nodes up to the end of a line, and then up to the end of a later one
pub lines_both : {A : Type 0} (text : List ℕ) (ending last : Option LineEnding) (left after : List LineRest) (a b c : Walk A) (ns ms : Nodes)
    → WritesTo text [] ending left ns a b → WritesTo text [] last after ms b c → WritesTo text [] last after (append ns ms) a c
lines_both text ending last left after a b c ns ms first second = record {
  writes = writes_both text a.out b.out c.out ns ms first.writes second.writes;
  before = second.before;
  around = open_both (standing a) (standing b) (standing c) first.around second.around;
}

rows_more : (r : Reading) (text : List ℕ) (ending : Option LineEnding) (done : List BlockLine) (line : BlockLine) (ns ms : Nodes) (node : Node)
    → AreRowNodes r text ending done ns → AreOnNextLine text (last_ending_or ending done) (one node) ms → IsRowNode r text line node
    → AreRowNodes r text ending (done ++ line ∷ []) (append ns ms)
rows_more r text ending [] line ns ms node rows on row =
    (node, Nil, subst (λ xs. AreOnNextLine text ending (one node) (append xs ms)) (sym rows) on, row, refl)
rows_more r text ending (first ∷ done) line ns ms node rows on row =
    let here = rows.2 in (
      rows.0,
      append rows.1 ms,
      record {
        ends = here.ends;
        are_ending = here.are_ending;
        quiet = here.quiet;
        are_quiet = here.are_quiet;
        all = ap (λ xs. append xs ms) here.all ∙ nodes_assoc here.ends (append here.quiet (Cons rows.0 rows.1)) ms
            ∙ ap (append here.ends) (nodes_assoc here.quiet (Cons rows.0 rows.1) ms);
      },
      rows.3,
      rows_more r text first.ending done line rows.1 ms node rows.4 on row,
    )

last_more : (first : Option LineEnding) (done : List BlockLine) (line : BlockLine) → last_ending_or first (done ++ line ∷ []) ≡ line.ending
last_more first [] line = refl
last_more first (x ∷ done) line = last_more x.ending done line

module _ {A : Type 0} (r : Reading) (old : Walk A) where
  pub no_rows : (rows : List BlockLine) → WritesFirstRowsHere r rows rows old old
  no_rows rows = λ text ending left after taken same before are. record {
    done = [];
    later = taken;
    all = refl;
    same = same;
    left = left;
    ahead = are;
    nodes = Nil;
    writes = before_none text ending left old [] before;
    are_rows = refl;
  }

  more_rows : (now new : Walk A) (rows last : List BlockLine) (line : BlockLine) → WritesFirstRowsHere r rows (line ∷ last) old now
      → WritesNextRowHere r line now new → WritesFirstRowsHere r rows last old new
  more_rows now new rows last line first next = λ text ending left after taken same before are.
      one_more text ending after taken (first text ending left after taken same before are)
    where
      one_more : (text : List ℕ) (ending : Option LineEnding) (after : List LineRest) (taken : List BlockLine)
          → WritesFirstRows r text ending taken (line ∷ last) after old now → WritesFirstRows r text ending taken last after old new
      one_more text ending after taken w = by_later w.later w.left w.all w.same w.ahead w.writes
        where
          by_later : (later : List BlockLine) (left : List LineRest) → taken ≡ w.done ++ later → HoldSame (line ∷ last) later
              → AreTaken old.on.now (around (standing old)) (IsRowLine old.on.now) later (Between left) (Between after)
              → WritesTo text [] (last_ending_or ending w.done) left w.nodes old now → WritesFirstRows r text ending taken last after old new
          by_later [] left all same ahead writes = absurd same
          by_later (t ∷ ts) left all same ahead writes = on_line left ahead.0 ahead.1 ahead.2 ahead.3 ahead.4 writes
            where
              on_line : (left : List LineRest) (here : Prefixed) (others : List LineRest)
                  → IsOn old.on.now (around (standing old)) (Between left) here others → IsRowLine old.on.now here t
                  → AreTaken old.on.now (around (standing old)) (IsRowLine old.on.now) ts (Between others) (Between after)
                  → WritesTo text [] (last_ending_or ending w.done) left w.nodes old now → WritesFirstRows r text ending taken last after old new
              on_line [] here others is row more writes = absurd is
              on_line (following ∷ left) (InSome here) others is row more writes = absurd row
              on_line (following ∷ left) (InAll here) others is row more writes =
                  let kept = writes.around in
                  let goes : prefixed now.on.now (around (standing now)) following ≡ InAll here =
                  ap₂ (λ (on : Constructs) (cs : List Container). prefixed on (reverse cs) following) kept.0 kept.1 ∙ is.0 in
                  let codes : line.codes ≡ block_codes here.rest = same.0.0 ∙ ap (λ (l : BlockLine). l.codes) row.1 in
                  let n = next text (last_ending_or ending w.done) following here left writes.before goes codes in
                  let t_ending : t.ending ≡ here.beside.ending = ap (λ (l : BlockLine). l.ending) row.1 in
                  let ended : here.beside.ending ≡ last_ending_or ending (w.done ++ t ∷ []) = sym (last_more ending w.done t ∙ t_ending) in
                  record {
                    done = w.done ++ t ∷ [];
                    later = ts;
                    all = all ∙ sym (append_assoc w.done (t ∷ []) ts);
                    same = same.1;
                    left = others;
                    ahead = more;
                    nodes = append w.nodes n.nodes;
                    writes =
                        subst (λ (e : Option LineEnding). WritesTo text [] e others (append w.nodes n.nodes) old new) ended
                        (subst (λ (ls : List LineRest). WritesTo text [] here.beside.ending ls (append w.nodes n.nodes) old new) is.1
                        (lines_both text (last_ending_or ending w.done) here.beside.ending (following ∷ left) left old now new w.nodes n.nodes writes
                        n.writes));
                    are_rows = rows_more r text ending w.done t w.nodes n.nodes n.node w.are_rows n.on_next (same_row r text line t n.node same.0 n.is_row);
                  }

  pub rows_so_far : (now new : Walk A) (rows mid : List BlockLine) (line : BlockLine) (last : List BlockLine) → mid ≡ line ∷ last
      → WritesFirstRowsHere r rows mid old now → WritesNextRowHere r line now new → WritesFirstRowsHere r rows last old new
  rows_so_far now new rows mid line last is first next =
      more_rows now new rows last line (subst (λ (ls : List BlockLine). WritesFirstRowsHere r rows ls old now) is first) next

  -- all of them
  pub all_rows : (new : Walk A) (rows last : List BlockLine) → last ≡ [] → WritesFirstRowsHere r rows last old new → WritesFirstRowsHere r rows [] old new
  all_rows new rows last none first = subst (λ (ls : List BlockLine). WritesFirstRowsHere r rows ls old new) none first
