-- A table is written (GFM 4.10).
use Rattle.std.proofs.Common.{◌≡◌, ℕ, zero, suc, ◌-◌, ◌<◌, ◌≤◌, Bool, List, [], ◌∷◌, Option, None, Some, drop, get_or, length, take, refl, sym, ap, ap₂, subst, ◌∙◌, arith}
use Rattle.parse_tables.proofs.Prelude.{AlignKind, append, AreBody, AreTablesAlike, AreTaken, around, Around, AtEnding, bare, Between, block_codes, block_line}
use Rattle.parse_tables.proofs.Prelude.{BlockLine, bytes_of, delimiters, End, end_at, end_in, enter_at, exit_at, HoldSame, HoldsSame, InAll, IsHeadNode}
use Rattle.parse_tables.proofs.Prelude.{IsInOrder, IsOn, IsRowLine, IsWrittenToRest, last_ending_or, line_left, LineEnding, LineRest, named, Nil, Node, one}
use Rattle.parse_tables.proofs.Prelude.{own_lines, Piece, piece_line, piece_lines, Place, prefixed, Prefixed, read_table, Reading, standing, StandsAt, Table}
use Rattle.parse_tables.proofs.Prelude.{table_of, Walk, Within, WritesBodyHere, WritesHeadHere, WritesReadLeaf, written_to}
use Rattle.definition_text.specs.BlockLines.{last_ending}
use Rattle.definition_block.specs.Tree.{rest_line}
use Rattle.definition_page.specs.Page as page
use Rattle.engine_events.specs.declared.event.Name.TheVariants as n
use Rattle.event_grammar.specs.declared.slot.Between.TheVariants.{Lines}
use Rattle.event_grammar.specs.declared.slot.Form.TheVariants.{Plain}
use Rattle.parse_laid.specs.Leaves.{AreTable, EndsAt}
use Rattle.parse_references.proofs.Sound.{sound_around}
use Rattle.parse_raw.specs.Written.{WritesLeaf}
use Rattle.parse_raw.proofs.LeafNodes.{rest_within}
use Rattle.parse_leaves.proofs.Fills.{filled_up}
use Rattle.parse_leaves.proofs.RowLeaves.{own_size}
use Rattle.parse_leaves.proofs.TextLeaves.{none_alike}
use Rattle.parse_tables.proofs.Steps.{IsEntered, IsExited, open_both}
use Rattle.parse_tables.proofs.BodyWritten.{entered_open, entered_stands, entered_written, same_prefixed, same_taken}
use Rattle.parse_laid.proofs.DelimiterLines.{line_delimiters, row_delimiters}
use Rattle.parse_tables.proofs.Fills.{table_fill}
use Rattle.parse_tables.proofs.RowsWritten.{around_line, lines_both, same_row}
use Rattle.parse_tables.proofs.Sound.{table_sound}
use Rattle.parse_tables.proofs.TableNodes.{table_definitions, table_spells}

-- ---- pieces of a text as lines

taken_all : (size : ℕ) (ps : List Piece) → size ≡ length ps → take size ps ≡ ps
taken_all zero [] is = refl
taken_all (suc size) [] is = refl
taken_all zero (p ∷ ps) is = absurd (omega (arith, is))
taken_all (suc size) (p ∷ ps) is = ap (λ (xs : List Piece). p ∷ xs) (taken_all size ps (omega (arith, is)))

pub no_piece : (ps : List Piece) → length ps < 1 → piece_lines ps ≡ []
no_piece [] few = refl
no_piece (p ∷ ps) few = absurd (omega (arith, few))

pub first_piece : (ps : List Piece) (d : Piece) → 1 ≤ length ps → piece_line (get_or ps 0 d) ∷ piece_lines (take (length ps - 1) (drop 1 ps)) ≡ piece_lines ps
first_piece [] d some = absurd (omega (arith, some))
first_piece (p ∷ ps) d some = ap (λ (xs : List Piece). piece_line p ∷ piece_lines xs) (taken_all (length (p ∷ ps) - 1) ps (omega arith))

pub two_pieces : (ps : List Piece) (d : Piece) → 2 ≤ length ps
    → piece_line (get_or ps 0 d) ∷ piece_line (get_or ps 1 d) ∷ piece_lines (take (length ps - 2) (drop 2 ps)) ≡ piece_lines ps
two_pieces [] d some = absurd (omega (arith, some))
two_pieces (p ∷ []) d some = absurd (omega (arith, some))
two_pieces (p ∷ q ∷ ps) d some =
    ap (λ (xs : List Piece). piece_line p ∷ piece_line q ∷ piece_lines xs) (taken_all (length (p ∷ q ∷ ps) - 2) ps (omega arith))

-- ---- lines

-- lines that are the same without the ending of the last one hold the same
same_held : (ls taken : List BlockLine) → own_lines ls ≡ own_lines taken → HoldSame ls taken
same_held [] [] same = tt
same_held [] (t ∷ ts) same = let size = ap length same in absurd (omega (arith, size, own_size (t ∷ ts)))
same_held (l ∷ ls) [] same = let size = ap length same in absurd (omega (arith, size, own_size (l ∷ ls)))
same_held (l ∷ []) (t ∷ []) same =
    let first : block_line l.codes None l.before ≡ block_line t.codes None t.before = cc in
    ((ap (λ (x : BlockLine). x.codes) first, ap (λ (x : BlockLine). x.before) first), tt)
same_held (l ∷ []) (t ∷ next ∷ ts) same = let size = ap length same in absurd (omega (arith, size, own_size (t ∷ next ∷ ts)))
same_held (l ∷ next ∷ ls) (t ∷ []) same = let size = ap length same in absurd (omega (arith, size, own_size (l ∷ next ∷ ls)))
same_held (l ∷ second ∷ ls) (t ∷ next ∷ ts) same =
    let first : l ≡ t = cc in
    let others : own_lines (second ∷ ls) ≡ own_lines (next ∷ ts) = cc in
    ((ap (λ (x : BlockLine). x.codes) first, ap (λ (x : BlockLine). x.before) first), same_held (second ∷ ls) (next ∷ ts) others)

-- the same head
same_head : (r : Reading) (text : List ℕ) (line line' : BlockLine) (ending : Option LineEnding) (columns : List AlignKind) (node : Node) → HoldsSame line line'
    → IsHeadNode r text line ending columns node → IsHeadNode r text line' ending columns node
same_head r text line line' ending columns node same head = record {
  name = head.name;
  row = head.row;
  is_row = same_row r text line line' head.row same head.is_row;
  others = head.others;
  kids = head.kids;
  space = head.space;
  are_quiet = head.are_quiet;
  delimiters = head.delimiters;
  delimiters_name = head.delimiters_name;
  delimiters_filled = head.delimiters_filled;
  on_next = head.on_next;
  aligns = head.aligns;
  definitions = head.definitions;
}

-- ---- the table

module _ {A : Type 0} (r : Reading) (head row : BlockLine) (rows : List BlockLine) (old entered headed written new : Walk A)
    (enters : IsEntered n.GfmTable old entered) (head_written : WritesHeadHere r head entered headed) (body_written : WritesBodyHere r rows headed written)
    (exits : IsExited n.GfmTable written new) where
  module _ (text : List ℕ) (top : Bool) (here : LineRest) (left : List LineRest) (to : Place) (at : StandsAt text (Within here left) (standing old))
      (to_rest : IsWrittenToRest old) (order : IsInOrder text old.out) where
    -- the lines of the head, of the row of delimiters, and of the rows
    on_lines : (h d : BlockLine) (others : List BlockLine) (next below : LineRest) (after behind : List LineRest) (columns : List AlignKind)
        → own_lines (head ∷ row ∷ rows) ≡ own_lines (h ∷ d ∷ others) → left ≡ next ∷ behind → h.codes ≡ block_codes here.rest → h.ending ≡ here.beside.ending
        → prefixed old.on.now (around (standing old)) next ≡ InAll below → delimiters (bytes_of (bare below.rest)) ≡ Some columns
        → d.codes ≡ block_codes below.rest → d.ending ≡ below.beside.ending
        → AreTaken old.on.now (around (standing old)) (IsRowLine old.on.now) others (Between behind) (Between after)
        → to ≡ AtEnding (last_ending (h ∷ d ∷ others)) after
        → WritesLeaf r.parse.constructs r.tables.names text top (page.Table (read_table r (own_lines (head ∷ row ∷ rows)))) [] to old new
    on_lines h d others next below after behind columns lines left_is h_codes h_ending goes found d_codes d_ending ahead to_is =
        let same = same_held (head ∷ row ∷ rows) (h ∷ d ∷ others) lines in
        let to_entered = entered_open old entered enters in
        let at_left : StandsAt text (Within here (next ∷ behind)) (standing old) =
        subst (λ (ls : List LineRest). StandsAt text (Within here ls) (standing old)) left_is at in
        let hw = head_written text here next below behind columns (entered_stands old entered enters text here (next ∷ behind) at_left)
        (entered_written old entered enters to_rest) (enters.enters text order).order (same.0.0 ∙ h_codes)
        (same_prefixed (standing old) (standing entered) next (InAll below) to_entered goes) found in
        let to_headed = open_both (standing old) (standing entered) (standing headed) to_entered hw.writes.around in
        let bw = body_written text below.beside.ending behind after others same.1.1 hw.writes.before
        (same_taken (standing old) (standing headed) others (Between behind) (Between after) to_headed ahead) in
        let kids = append (one hw.node) bw.nodes in
        let last = last_ending_or below.beside.ending others in
        let w = lines_both text below.beside.ending last behind after entered headed written (one hw.node) bw.nodes hw.writes bw.writes in
        let from = end_in old.out in
        let end = end_in written.out in
        let node = Around (enter_at text n.GfmTable from) kids (exit_at text n.GfmTable end) in
        let all = around_line text last after old entered written new n.GfmTable kids order enters w.around w.writes w.before exits in
        let is_head : IsHeadNode r text h h.ending columns hw.node =
        subst (λ (e : Option LineEnding). IsHeadNode r text h e columns hw.node) (sym h_ending)
        (same_head r text head h here.beside.ending columns hw.node same.0 hw.is_head) in
        let is_body : AreBody r text d.ending others bw.nodes =
        subst (λ (e : Option LineEnding). AreBody r text e others bw.nodes) (sym d_ending) bw.are_body in
        let aligned : delimiters d.codes ≡ Some columns = ap delimiters d_codes ∙ line_delimiters below.rest ∙ found in
        let last_is : last ≡ last_ending (h ∷ d ∷ others) = ap (λ (e : Option LineEnding). last_ending_or e others) (sym d_ending) in
        let b = all.before in
        let new_end = b.end in
        let place : written_to new ≡ end_at new.line_end 0 = ap₂ end_at (omega (arith, new_end)) b.bare in
        record {
          before = Nil;
          are_quiet = tt;
          node = node;
          spells = record {
            is_block = refl;
            blocks = λ m m' are. (
              subst (λ (ls : List BlockLine). AreTablesAlike m m' (read_table r ls) (table_of r.tables.names text kids)) (sym lines)
                  (table_spells r text h d others columns hw.node bw.nodes is_head is_body m m' are aligned),
              tt,
            );
            definitions = λ m m' are.
                none_alike m m' r.tables.names text (named n.Definition kids) (table_definitions r text h d others columns hw.node bw.nodes is_head is_body);
            sound =
                sound_around r.parse.constructs r.tables.names text node refl
                (table_sound r text h h.ending d.ending columns others hw.node bw.nodes is_head is_body);
          };
          writes = all.writes;
          stands = subst (λ (p : Place). StandsAt text p (standing new)) (ap (λ (e : Option LineEnding). AtEnding e after) last_is ∙ sym to_is) b.at;
          around = all.around;
          written = place;
          starts = omega arith;
          begins = rest_within text old here left at to_rest;
          ends = ap (λ (e : End). e.index) (sym exits.end ∙ place);
          filled =
              filled_up Lines Plain n.GfmTable node refl (table_fill r text h h.ending d.ending columns others hw.node bw.nodes is_head is_body);
        }

    by_place : (h d : BlockLine) (others : List BlockLine) (next_lines : List LineRest) (below : LineRest) (after behind : List LineRest)
        (columns : List AlignKind) → own_lines (head ∷ row ∷ rows) ≡ own_lines (h ∷ d ∷ others) → left ≡ next_lines → h.codes ≡ block_codes here.rest
        → h.ending ≡ here.beside.ending → IsOn old.on.now (around (standing old)) (Between next_lines) (InAll below) behind
        → delimiters (bytes_of (bare below.rest)) ≡ Some columns → d.codes ≡ block_codes below.rest → d.ending ≡ below.beside.ending
        → AreTaken old.on.now (around (standing old)) (IsRowLine old.on.now) others (Between behind) (Between after)
        → to ≡ AtEnding (last_ending (h ∷ d ∷ others)) after
        → WritesLeaf r.parse.constructs r.tables.names text top (page.Table (read_table r (own_lines (head ∷ row ∷ rows)))) [] to old new
    by_place h d others [] below after behind columns lines left_is h_codes h_ending is found d_codes d_ending ahead to_is = absurd is
    by_place h d others (next ∷ more) below after behind columns lines left_is h_codes h_ending is found d_codes d_ending ahead to_is =
        on_lines h d others next below after behind columns lines (left_is ∙ ap (λ (ls : List LineRest). next ∷ ls) is.1) h_codes h_ending is.0 found d_codes
        d_ending ahead to_is

    by_taken : (taken : List BlockLine) (end : Place) → AreTable old.on.now (around (standing old)) taken (Within here left) end
        → own_lines (head ∷ row ∷ rows) ≡ own_lines taken → EndsAt taken end to
        → WritesLeaf r.parse.constructs r.tables.names text top (page.Table (read_table r (own_lines (head ∷ row ∷ rows)))) [] to old new
    by_taken [] end are lines ends = absurd are
    by_taken (h ∷ []) end are lines ends = absurd are
    by_taken (h ∷ d ∷ others) end are lines ends =
        let under = are.0 in
        let below = are.1 in
        let behind = are.2 in
        let columns = are.3 in
        let first = are.4 in
        let line_is : h ≡ rest_line here.rest here.beside =
        first.3.1 ∙ ap (λ (p : Prefixed). rest_line (line_left p).rest (line_left p).beside) (sym first.2.0) in
        let under_is : under ≡ Between left = sym first.4 ∙ ap Between (sym first.2.1) in
        by_place h d others left below ends.0 behind columns lines refl (ap (λ (l : BlockLine). l.codes) line_is) (ap (λ (l : BlockLine). l.ending) line_is)
        (subst (λ (p : Place). IsOn old.on.now (around (standing old)) p (InAll below) behind) under_is are.5)
        (row_delimiters old.on.now below.rest columns are.6) (ap (λ (l : BlockLine). l.codes) are.8) (ap (λ (l : BlockLine). l.ending) are.8)
        (subst (λ (p : Place). AreTaken old.on.now (around (standing old)) (IsRowLine old.on.now) others (Between behind) p) ends.1 are.9) ends.2

  pub table_written : (first : Bool) → WritesReadLeaf r first (Table (own_lines (head ∷ row ∷ rows))) [] old new
  table_written first = λ text top here left to at to_rest order by laid.
      by_taken text top here left to at to_rest order laid.0 laid.1 laid.2 laid.3 laid.4

-- fewer than two lines are no table
pub no_table : {A : Type 0} (r : Reading) (first : Bool) (ls : List BlockLine) (old new : Walk A) → length ls < 2
    → WritesReadLeaf r first (Table (own_lines ls)) [] old new
no_table {A} r first ls old new few =
    λ text top here left to at to_rest order by laid. none text top here left to laid.0 laid.1 laid.2 laid.3
  where
    none : (text : List ℕ) (top : Bool) (here : LineRest) (left : List LineRest) (to : Place) (taken : List BlockLine) (end : Place)
        → AreTable old.on.now (around (standing old)) taken (Within here left) end → own_lines ls ≡ own_lines taken
        → WritesLeaf r.parse.constructs r.tables.names text top (page.Table (read_table r (own_lines ls))) [] to old new
    none text top here left to [] end are lines = absurd are
    none text top here left to (h ∷ []) end are lines = absurd are
    none text top here left to (h ∷ d ∷ others) end are lines =
        let size = ap length lines in absurd (omega (arith, few, size, own_size ls, own_size (h ∷ d ∷ others)))
