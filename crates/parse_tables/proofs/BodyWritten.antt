-- The head and the body of a table are written.
use Rattle.std.proofs.Common.{◌≡◌, ℕ, List, [], ◌∷◌, ◌++◌, Option, reverse, refl, sym, ap, ap₂, subst, ◌∙◌}
use Rattle.parse_tables.proofs.Prelude.{append, append-nil, AreRowNodes, AreTaken, around, Around, Between, BlockLine, Constructs, Container, end_in, enter_at}
use Rattle.parse_tables.proofs.Prelude.{exit_at, HasSameOpen, HoldSame, InAll, InSome, IsBefore, IsOn, IsRowLine, IsWrittenToRest, last_ending_or, LineEnding}
use Rattle.parse_tables.proofs.Prelude.{LineRest, Nil, Nodes, one, PassesLine, Place, prefixed, Prefixed, Reading, rest_start, Standing, standing, StandsAt}
use Rattle.parse_tables.proofs.Prelude.{Walk, Within, Writes, writes_both, WritesBodyHere, WritesDelimiterRow, WritesFirstRows, WritesFirstRowsHere}
use Rattle.parse_tables.proofs.Prelude.{WritesHeadHere, WritesNextLine, WritesRowHere, WritesTo}
use Rattle.engine_events.specs.declared.event.Name.TheVariants as n
use Rattle.parse_tables.proofs.Steps.{IsEntered, IsExited, before_none, open_both}
use Rattle.parse_tables.specs.Tables.{WritesBody}
use Rattle.parse_tables.proofs.RowsWritten.{around_line, next_begun, on_next, same_row}

-- ---- after an event is entered

module _ {A : Type 0} {name : _} (old new : Walk A) (enters : IsEntered name old new) where
  pub entered_stands : (text : List ℕ) (here : LineRest) (left : List LineRest) → StandsAt text (Within here left) (standing old)
      → StandsAt text (Within here left) (standing new)
  entered_stands text here left at = subst (StandsAt text (Within here left)) (sym enters.stays) at

  pub entered_written : IsWrittenToRest old → IsWrittenToRest new
  entered_written written = enters.end ∙ written ∙ ap (λ (s : Standing). rest_start s.line_end s.rest) (sym enters.stays)

  pub entered_open : HasSameOpen (standing old) (standing new)
  entered_open = (ap (λ (s : Standing). s.on) enters.stays, ap (λ (s : Standing). s.outermost) enters.stays)

-- the same containers leave the same of a line
pub same_prefixed : (old new : Standing) (next : LineRest) (here : Prefixed) → HasSameOpen old new → prefixed old.on (around old) next ≡ here
    → prefixed new.on (around new) next ≡ here
same_prefixed old new next here kept goes =
    ap₂ (λ (on : Constructs) (cs : List Container). prefixed on (reverse cs) next) kept.0 kept.1 ∙ goes

pub same_taken : (old new : Standing) (ls : List BlockLine) (from to : Place) → HasSameOpen old new
    → AreTaken old.on (around old) (IsRowLine old.on) ls from to → AreTaken new.on (around new) (IsRowLine new.on) ls from to
same_taken old new ls from to kept are =
    subst (λ (cs : List Container). AreTaken new.on (reverse cs) (IsRowLine new.on) ls from to) (sym kept.1)
    (subst (λ (on : Constructs). AreTaken on (around old) (IsRowLine on) ls from to) (sym kept.0) are)

-- ---- the head

pub head_written : {A : Type 0} (r : Reading) (line : BlockLine) (old entered rowed begun delimited new : Walk A) → IsEntered n.GfmTableHead old entered
    → WritesRowHere r line entered rowed → PassesLine (standing rowed) (standing begun) → WritesNextLine rowed begun
    → HasSameOpen (standing rowed) (standing begun) → WritesDelimiterRow begun delimited → IsExited n.GfmTableHead delimited new
    → WritesHeadHere r line old new
head_written r line old entered rowed begun delimited new enters row passes writes kept delimiters exits =
    λ text here next below left columns at written order codes goes found.
    let to_entered = entered_open old entered enters in
    let w = row text here (next ∷ left) (entered_stands old entered enters text here (next ∷ left) at) (entered_written old entered enters written)
    (enters.enters text order).order codes in
    let to_rowed = open_both (standing old) (standing entered) (standing rowed) to_entered w.writes.around in
    let b = next_begun text rowed begun here.beside.ending next below left w.writes.before
    (same_prefixed (standing old) (standing rowed) next (InAll below) to_rowed goes) passes writes kept in
    let d = delimiters text below left columns b.stands b.written b.writes.order found in
    let under = append (append b.ends b.quiet) (append d.space (one d.node)) in
    let kids = append (one w.node) under in
    let all : Writes text entered.out delimited.out kids =
    writes_both text entered.out rowed.out delimited.out (one w.node) under w.writes.writes
    (writes_both text rowed.out begun.out delimited.out (append b.ends b.quiet) (append d.space (one d.node)) b.writes d.writes.writes) in
    let inside = open_both (standing entered) (standing rowed) (standing delimited) w.writes.around
    (open_both (standing rowed) (standing begun) (standing delimited) b.around d.writes.around) in
    record {
      node = Around (enter_at text n.GfmTableHead (end_in old.out)) kids (exit_at text n.GfmTableHead (end_in delimited.out));
      is_head = record {
        name = refl;
        row = w.node;
        is_row = w.is_row;
        others = under;
        kids = refl;
        space = d.space;
        are_quiet = d.are_quiet;
        delimiters = d.node;
        delimiters_name = d.name;
        delimiters_filled = d.filled;
        on_next = on_next text here.beside.ending below left rowed begun (append d.space (one d.node)) b;
        aligns = d.aligns;
        definitions = d.definitions;
      };
      writes = around_line text below.beside.ending left old entered delimited new n.GfmTableHead kids order enters inside all d.writes.before exits;
    }

-- ---- the body

-- rows that are all written
record AreRowsWritten {A : Type 0} (r : Reading) (text : List ℕ) (ending : Option LineEnding) (taken : List BlockLine) (after : List LineRest)
    (old new : Walk A) : Type 0 where
  nodes : Nodes
  writes : WritesTo text [] (last_ending_or ending taken) after nodes old new
  are_rows : AreRowNodes r text ending taken nodes

rows_done : {A : Type 0} (r : Reading) (text : List ℕ) (ending : Option LineEnding) (taken : List BlockLine) (after : List LineRest) (old new : Walk A)
    → WritesFirstRows r text ending taken [] after old new → AreRowsWritten r text ending taken after old new
rows_done {A} r text ending taken after old new w = by_later w.later w.all w.same w.ahead
  where
    by_later : (later : List BlockLine) → taken ≡ w.done ++ later → HoldSame [] later
        → AreTaken old.on.now (around (standing old)) (IsRowLine old.on.now) later (Between w.left) (Between after)
        → AreRowsWritten r text ending taken after old new
    by_later (t ∷ ts) all same ahead = absurd same
    by_later [] all same ahead =
        let left : w.left ≡ after = cc in
        let done : w.done ≡ taken = sym (all ∙ append-nil w.done) in
        record {
          nodes = w.nodes;
          writes = subst (λ (ls : List LineRest). WritesTo text [] (last_ending_or ending taken) ls w.nodes old new) left
              (subst (λ (ls : List BlockLine). WritesTo text [] (last_ending_or ending ls) w.left w.nodes old new) done w.writes);
          are_rows = subst (λ (ls : List BlockLine). AreRowNodes r text ending ls w.nodes) done w.are_rows;
        }

module _ {A : Type 0} (r : Reading) (old : Walk A) where
  pub no_body : WritesBodyHere r [] old old
  no_body = λ text ending left after taken same before are. none text ending left after taken same before are
    where
      none : (text : List ℕ) (ending : Option LineEnding) (left after : List LineRest) (taken : List BlockLine) → HoldSame [] taken
          → IsBefore text [] ending left old → AreTaken old.on.now (around (standing old)) (IsRowLine old.on.now) taken (Between left) (Between after)
          → WritesBody r text ending taken after old old
      none text ending left after (t ∷ ts) same before are = absurd same
      none text ending left after [] same before are =
          let ends : left ≡ after = cc in
          record {
            nodes = Nil;
            are_body = refl;
            writes = before_none text ending after old [] (subst (λ (ls : List LineRest). IsBefore text [] ending ls old) ends before);
          }

  pub body_written : (line : BlockLine) (others : List BlockLine) (begun entered rowed written new : Walk A) → PassesLine (standing old) (standing begun)
      → WritesNextLine old begun → HasSameOpen (standing old) (standing begun) → IsEntered n.GfmTableBody begun entered → WritesRowHere r line entered rowed
      → WritesFirstRowsHere r others [] rowed written → IsExited n.GfmTableBody written new → WritesBodyHere r (line ∷ others) old new
  body_written line others begun entered rowed written new passes writes kept enters row rows exits =
      λ text ending left after taken same before are. by_taken text ending left after taken same before are
    where
      by_taken : (text : List ℕ) (ending : Option LineEnding) (left after : List LineRest) (taken : List BlockLine) → HoldSame (line ∷ others) taken
          → IsBefore text [] ending left old → AreTaken old.on.now (around (standing old)) (IsRowLine old.on.now) taken (Between left) (Between after)
          → WritesBody r text ending taken after old new
      by_taken text ending left after [] same before are = absurd same
      by_taken text ending left after (t ∷ ts) same before are = on_line left are.0 are.1 before are.2 are.3 are.4
        where
          on_line : (left : List LineRest) (here : Prefixed) (behind : List LineRest) → IsBefore text [] ending left old
              → IsOn old.on.now (around (standing old)) (Between left) here behind → IsRowLine old.on.now here t
              → AreTaken old.on.now (around (standing old)) (IsRowLine old.on.now) ts (Between behind) (Between after)
              → WritesBody r text ending (t ∷ ts) after old new
          on_line [] here behind before is line_is more = absurd is
          on_line (next ∷ left) (InSome here) behind before is line_is more = absurd line_is
          on_line (next ∷ left) (InAll here) behind before is line_is more =
              let last = here.beside.ending in
              let t_ending : t.ending ≡ last = ap (λ (l : BlockLine). l.ending) line_is.1 in
              let b = next_begun text old begun ending next here left before is.0 passes writes kept in
              let to_entered = open_both (standing old) (standing begun) (standing entered) b.around (entered_open begun entered enters) in
              let w = row text here left (entered_stands begun entered enters text here left b.stands) (entered_written begun entered enters b.written)
              (enters.enters text b.writes.order).order (same.0.0 ∙ ap (λ (l : BlockLine). l.codes) line_is.1) in
              let to_rowed = open_both (standing old) (standing entered) (standing rowed) to_entered w.writes.around in
              let ahead = same_taken (standing old) (standing rowed) ts (Between left) (Between after) to_rowed
              (subst (λ (ls : List LineRest). AreTaken old.on.now (around (standing old)) (IsRowLine old.on.now) ts (Between ls) (Between after))
              (sym is.1) more) in
              let rs = rows_done r text last ts after rowed written (rows text last left after ts same.1 w.writes.before ahead) in
              let kids = append (one w.node) rs.nodes in
              let inside = open_both (standing entered) (standing rowed) (standing written) w.writes.around rs.writes.around in
              let all = writes_both text entered.out rowed.out written.out (one w.node) rs.nodes w.writes.writes rs.writes.writes in
              let body = Around (enter_at text n.GfmTableBody (end_in begun.out)) kids (exit_at text n.GfmTableBody (end_in written.out)) in
              let around_rows = around_line text (last_ending_or last ts) after begun entered written new n.GfmTableBody kids b.writes.order enters inside all
              rs.writes.before exits in
              let front = append b.ends b.quiet in
              let lines : WritesTo text [] (last_ending_or last ts) after (append front (one body)) old new =
              record {
                writes = writes_both text old.out begun.out new.out front (one body) b.writes around_rows.writes;
                before = around_rows.before;
                around = open_both (standing old) (standing begun) (standing new) b.around around_rows.around;
              } in
              record {
                nodes = append front (one body);
                are_body = (
                  body,
                  w.node,
                  rs.nodes,
                  on_next text ending here left old begun (one body) b,
                  refl,
                  refl,
                  same_row r text line t w.node same.0 w.is_row,
                  subst (λ (e : Option LineEnding). AreRowNodes r text e ts rs.nodes) (sym t_ending) rs.are_rows,
                );
                writes = subst (λ (e : Option LineEnding). WritesTo text [] (last_ending_or e ts) after (append front (one body)) old new) (sym t_ending) lines;
              }
