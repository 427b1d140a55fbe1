-- A row of delimiters is written part by part.
use Rattle.std.proofs.Common.{◌≡◌, ◌<◌, ℕ, suc, ◌+◌, ◌-◌, max, Bool, true, false, List, [], ◌∷◌, ◌++◌, drop, take, length, map, replicate, get_or, Option, refl, sym, ap, ap₂, subst, ◌∙◌, arith, inl, append_assoc}
use Rattle.parse_tables.proofs.Prelude.{AlignKind, alignment, append, append-nil, AreDelimiters, AreQuiet, Around, bar, bare, begins_other, bytes_of, colon_if}
use Rattle.parse_tables.proofs.Prelude.{column, cond-true, cond_both, cut, delimiters, End, end_at, end_in, enter_at, Err, exit_at, Exits, is_white, IsBefore}
use Rattle.parse_tables.proofs.Prelude.{IsInOrder, IsWrittenToRest, LineEnding, LineRest, map-append, Name, named, named_both, Nil, Node, Nodes}
use Rattle.parse_tables.proofs.Prelude.{none, Ok, one, OnOk, prefix_len, prefix_len-le-length, Rest, Result, same_end, same_name, slice_index, standing}
use Rattle.parse_tables.proofs.Prelude.{StandsAt, take-append-drop, true≢false, value_align, void_nodes, Walk, white, Within, WritesColumnHere}
use Rattle.parse_tables.proofs.Prelude.{WritesDelimiterRow, WritesTo, WritesUpTo, written_to}
use Rattle.std.specs.Prelude.{IfOk, Some}
use Rattle.std.proofs.lemmas.Bool.{false_from_ne_true}
use Rattle.std.proofs.lemmas.List.{length-take}
use Rattle.event_tokens.specs.Tokens.{is_token}
use Rattle.parse_lines.proofs.White.{all_prefix}
use Rattle.engine_events.specs.declared.event.Name.TheVariants as n
use Rattle.block_starts.specs.View.{rest_of}
use Rattle.parse_tables.specs.Columns.{FillColumns, WritesColumns, WritesPart, WritesPartHere}
use Rattle.parse_tables.proofs.ColumnNodes.{named_void}
use Rattle.parse_tables.proofs.Delimited.{row_delimited, some_columns}
use Rattle.parse_tables.proofs.Fills.{bar_columns, columns_both, delimiters_filled, no_columns, space_columns}
use Rattle.parse_tables.proofs.LineStarts.{before_bare}
use Rattle.parse_tables.proofs.Steps.{IsEntered, IsExited, IsToken, around_written, before_both, before_none, entered_before, token_written}

-- ---- what comes first

-- the shape of a delimiter and what is after it
pub record IsColumnFirst (bytes : List ℕ) (columns : List AlignKind) : Type 0 where
  pub first : Bool
  pub last : Bool
  pub n : ℕ
  pub bs : List ℕ
  pub more : List AlignKind
  pub shape : bytes ≡ colon_if first ++ (45 ∷ (replicate n 45 ++ (colon_if last ++ bs)))
  pub other : begins_other bs ≡ true
  pub all : columns ≡ alignment first last ∷ more
  pub rest : AreDelimiters bs more

not_here : (first : Bool) (b : ℕ) (bs more : List ℕ) → b ∷ bs ≡ colon_if first ++ (45 ∷ more) → (b ≡ 58 → ⊥) → (b ≡ 45 → ⊥) → ⊥
not_here true b bs more h a c = a (ap (λ (xs : List ℕ). get_or xs 0 0) h)
not_here false b bs more h a c = c (ap (λ (xs : List ℕ). get_or xs 0 0) h)

after_bar : (b : ℕ) (bs : List ℕ) (columns : List AlignKind) → b ≡ 124 → AreDelimiters (b ∷ bs) columns → AreDelimiters bs columns
after_bar b bs columns is (bar d) = d
after_bar b bs columns is (white w d) = absurd (true≢false (sym w ∙ ap is_white is))
after_bar b bs columns is (column first last n shape other d) =
    absurd (not_here first b bs _ shape (λ e. omega (arith, is, e)) (λ e. omega (arith, is, e)))

after_white : (bytes : List ℕ) (columns : List AlignKind) → AreDelimiters bytes columns → AreDelimiters (drop (prefix_len is_white bytes) bytes) columns
after_white bytes columns none = none
after_white bytes columns (bar d) = bar d
after_white bytes columns (white {b} {bs} w d) =
    let k = prefix_len is_white bs in
    let step : prefix_len is_white (b ∷ bs) ≡ suc k = cond-true (is_white b) _ 0 w ∙ omega arith in
    subst (λ (j : ℕ). AreDelimiters (drop j (b ∷ bs)) columns) (sym step) (after_white bs columns d)
after_white bytes columns (column {bs = bs} {aligns = more} first last n shape other d) =
    let k : prefix_len is_white bytes ≡ 0 = ap (prefix_len is_white) shape ∙ dark_first first _ in
    subst (λ (j : ℕ). AreDelimiters (drop j bytes) (alignment first last ∷ more)) (sym k) (column first last n shape other d)
  where
    dark_first : (first : Bool) (more : List ℕ) → prefix_len is_white (colon_if first ++ (45 ∷ more)) ≡ 0
    dark_first true more = refl
    dark_first false more = refl

column_first : (bytes : List ℕ) (columns : List AlignKind) → 0 < length bytes → (slice_index bytes 0 ≡ 124 → ⊥) → is_white (slice_index bytes 0) ≡ false
    → AreDelimiters bytes columns → IsColumnFirst bytes columns
column_first bytes columns some a w none = absurd (omega (arith, some))
column_first bytes columns some a w (bar d) = absurd (a refl)
column_first bytes columns some a w (white v d) = absurd (true≢false (sym v ∙ w))
column_first bytes columns some a w (column first last n shape other d) =
    record { first = first; last = last; n = n; bs = _; more = _; shape = shape; other = other; all = refl; rest = d }

none_left : (columns : List AlignKind) → AreDelimiters [] columns → columns ≡ []
none_left columns none = refl
none_left columns (column true last n shape other d) = absurd (cc)
none_left columns (column false last n shape other d) = absurd (cc)

dark_first : (bytes : List ℕ) → 0 < length bytes → prefix_len is_white bytes ≡ 0 → is_white (slice_index bytes 0) ≡ false
dark_first [] some h = absurd (omega (arith, some))
dark_first (b ∷ bs) some h =
    false_from_ne_true (is_white b) (λ w. let step = cond-true (is_white b) (1 + prefix_len is_white bs) 0 w in omega (arith, step, h))

-- ---- one part

module _ {A : Type 0} (w0 w1 : Walk A) (bytes : List ℕ) where
  -- a token that holds no delimiter
  token_columns : (text : List ℕ) (ending : Option LineEnding) (left : List LineRest) (name : Name) (size : ℕ) (front line : List ℕ) → IsToken name size w0 w1
      → size ≡ length front → is_token name front ≡ true → IsBefore text (front ++ line) ending left w0 → same_name name n.Data ≡ false → same_name name n.GfmTableDelimiterCellValue ≡ false
      → same_name name n.Definition ≡ false → FillColumns [] (void_nodes text name (end_in w0.out) (end_at ((end_in w0.out).index + size) 0))
      → WritesColumns text line ending left [] w0 w1
  token_columns text ending left name size front line t is may b no_data no_column no_definition fill =
      record {
        nodes = void_nodes text name (end_in w0.out) (end_at ((end_in w0.out).index + size) 0);
        writes = token_written text ending left w0 w1 name size front line t is (λ some. may) b;
        aligns =
            ap (map value_align) (named_void text n.GfmTableDelimiterCellValue name (end_in w0.out) (end_at ((end_in w0.out).index + size) 0) no_data no_column);
        definitions = named_void text n.Definition name (end_in w0.out) (end_at ((end_in w0.out).index + size) 0) no_data no_definition;
        fill = fill;
      }

  pub bar_part : slice_index bytes 0 ≡ 124 → IsToken n.GfmTableCellDivider 1 w0 w1 → WritesPartHere bytes 1 w0 w1
  bar_part is t = λ text ending left columns some d b. at_bytes bytes is some d text ending left b
    where
      at_bytes : (bs : List ℕ) {columns : List AlignKind} → slice_index bs 0 ≡ 124 → 0 < length bs → AreDelimiters bs columns
          → (text : List ℕ) (ending : Option LineEnding) (left : List LineRest) → IsBefore text bs ending left w0
          → WritesPart text bs 1 ending left columns w0 w1
      at_bytes [] is some d text ending left b = absurd (omega (arith, some))
      at_bytes (x ∷ bs) {columns} is some d text ending left b =
          record {
            some = omega arith;
            now = [];
            later = columns;
            all = refl;
            rest = after_bar x bs columns is d;
            writes =
                token_columns text ending left n.GfmTableCellDivider 1 (x ∷ []) bs t refl (ap (λ (y : ℕ). is_token n.GfmTableCellDivider (y ∷ [])) is) b refl refl refl
                (bar_columns text (end_in w0.out) (end_at ((end_in w0.out).index + 1) 0) (omega arith));
          }

  pub white_part : (size : ℕ) → size ≡ prefix_len is_white bytes → 0 < size → IsToken n.SpaceOrTab size w0 w1
      → WritesPartHere bytes size w0 w1
  white_part size is w t = λ text ending left columns some d b.
      let within = prefix_len-le-length is_white bytes in
      let front : length (take size bytes) ≡ size = omega (arith, length-take size bytes, is, within) in
      record {
        some = w;
        now = [];
        later = columns;
        all = refl;
        rest = subst (λ (k : ℕ). AreDelimiters (drop k bytes) columns) (sym is) (after_white bytes columns d);
        writes =
            token_columns text ending left n.SpaceOrTab size (take size bytes) (drop size bytes) t (sym front)
            (all_prefix is_white size bytes (omega (arith, is)))
            (subst (λ xs. IsBefore text xs ending left w0) (sym (take-append-drop size bytes)) b) refl refl refl
            (space_columns text (end_in w0.out) (end_at ((end_in w0.out).index + size) 0));
      }

  pub other_part : (size : ℕ) → (slice_index bytes 0 ≡ 124 → ⊥) → prefix_len is_white bytes ≡ 0 → WritesColumnHere bytes size w0 w1
      → WritesPartHere bytes size w0 w1
  other_part size a w h = λ text ending left columns some d b.
      let c = column_first bytes columns some a (dark_first bytes some w) d in
      let done = h text c.bs ending left c.first c.last c.n c.shape c.other b in
      record {
        some = done.some;
        now = alignment c.first c.last ∷ [];
        later = c.more;
        all = c.all;
        rest = subst (λ xs. AreDelimiters xs c.more) (sym done.rest) c.rest;
        writes = subst (λ xs. WritesColumns text xs ending left (alignment c.first c.last ∷ []) w0 w1) (sym done.rest) done.writes;
      }

-- what a call that succeeds gives
pub if_ok : {T E : Type 0} {P Q : T → Type 0} (r : Result T E) → ((t : T) → P t → Q t) → IfOk r P → IfOk r Q
if_ok (Ok t) f h = f t h
if_ok (Err e) f h = h

space_quiet : (text : List ℕ) (from to : End) → AreQuiet (void_nodes text n.SpaceOrTab from to)
space_quiet text from to =
    cond_both (same_end to from) Nil (cut (Around (enter_at text n.SpaceOrTab from) Nil (exit_at text n.SpaceOrTab to))) AreQuiet
    (λ _. tt) (λ _. (inl (refl, refl), tt))

-- ---- all parts

-- some parts of a row are written
pub record RowSoFar {A : Type 0} (text : List ℕ) (ending : Option LineEnding) (left : List LineRest) (columns : List AlignKind) (rest : List ℕ) (old now : Walk A)
    : Type 0 where
  pub bare_walk : Walk A
  pub entered : Walk A
  pub space : Nodes
  pub are_quiet : AreQuiet space
  pub bytes : List ℕ
  pub first : WritesTo text bytes ending left space old bare_walk
  pub enters : IsEntered n.GfmTableDelimiterRow bare_walk entered
  pub done : List AlignKind
  pub later : List AlignKind
  pub all : columns ≡ done ++ later
  pub ahead : AreDelimiters rest later
  pub written : WritesColumns text rest ending left done entered now

abbrev pub WritesRowSoFar : {A : Type 0} → List ℕ → Walk A → Walk A → Type 0
WritesRowSoFar rest old now =
    (text : List ℕ) (here : LineRest) (left : List LineRest) (columns : List AlignKind) → StandsAt text (Within here left) (standing old)
    → IsWrittenToRest old → IsInOrder text old.out → delimiters (bytes_of (bare here.rest)) ≡ Some columns
    → RowSoFar text here.beside.ending left columns rest old now

module _ {A : Type 0} (old : Walk A) where
  pub row_begins : (bare_walk entered : Walk A) (bytes : List ℕ) → bytes ≡ bytes_of (bare (rest_of old.rest)) → standing bare_walk ≡ standing old
      → written_to bare_walk ≡ end_at (old.line_end - length (bytes_of (bare (rest_of old.rest)))) 0
      → WritesUpTo n.SpaceOrTab (end_at (old.line_end - length (bytes_of (bare (rest_of old.rest)))) 0) old bare_walk
      → IsEntered n.GfmTableDelimiterRow bare_walk entered → WritesRowSoFar bytes old entered
  row_begins bare_walk entered bytes is same end writes enters = λ text here left columns at written order found.
      let rest : rest_of old.rest ≡ here.rest = at.rest in
      let bytes_is : bytes ≡ bytes_of (bare here.rest) = is ∙ ap (λ (r : Rest). bytes_of (bare r)) rest in
      let there = λ (r : Rest). end_at (old.line_end - length (bytes_of (bare r))) 0 in
      let first = before_bare text here left old bare_walk at written order same (end ∙ ap there rest)
      (subst (λ (r : Rest). WritesUpTo n.SpaceOrTab (there r) old bare_walk) rest writes) in
      let first_bytes : WritesTo text bytes here.beside.ending left (void_nodes text n.SpaceOrTab (written_to old) (there here.rest)) old bare_walk =
      subst (λ xs. WritesTo text xs here.beside.ending left (void_nodes text n.SpaceOrTab (written_to old) (there here.rest)) old bare_walk) (sym bytes_is) first in
      record {
        bare_walk = bare_walk;
        entered = entered;
        space = void_nodes text n.SpaceOrTab (written_to old) (there here.rest);
        are_quiet = space_quiet text (written_to old) (there here.rest);
        bytes = bytes;
        first = first_bytes;
        enters = enters;
        done = [];
        later = columns;
        all = refl;
        ahead = row_delimited bytes columns (ap delimiters bytes_is ∙ found);
        written = record {
          nodes = Nil;
          writes = before_none text here.beside.ending left entered bytes
              (entered_before text here.beside.ending left bare_walk entered n.GfmTableDelimiterRow bytes enters first_bytes.before);
          aligns = refl;
          definitions = refl;
          fill = no_columns;
        };
      }

  pub row_more : (now next : Walk A) (rest : List ℕ) (size : ℕ) → 0 < length rest → WritesPartHere rest size now next → WritesRowSoFar rest old now
      → WritesRowSoFar (drop (max size 1) rest) old next
  row_more now next rest size some part so_far = λ text here left columns at written order found.
      let s = so_far text here left columns at written order found in
      let p = part text here.beside.ending left s.later some s.ahead s.written.writes.before in
      let step : max size 1 ≡ size = omega (arith, p.some) in
      let moved : RowSoFar text here.beside.ending left columns (drop size rest) old next =
      record {
        bare_walk = s.bare_walk;
        entered = s.entered;
        space = s.space;
        are_quiet = s.are_quiet;
        bytes = s.bytes;
        first = s.first;
        enters = s.enters;
        done = s.done ++ p.now;
        later = p.later;
        all = s.all ∙ ap (λ xs. s.done ++ xs) p.all ∙ sym (append_assoc s.done p.now p.later);
        ahead = p.rest;
        written = record {
          nodes = append s.written.nodes p.writes.nodes;
          writes = before_both text here.beside.ending left s.entered now next rest (drop size rest) s.written.nodes p.writes.nodes s.written.writes p.writes.writes;
          aligns = ap (map value_align) (named_both n.GfmTableDelimiterCellValue s.written.nodes p.writes.nodes)
              ∙ map-append value_align (named n.GfmTableDelimiterCellValue s.written.nodes) (named n.GfmTableDelimiterCellValue p.writes.nodes)
              ∙ ap₂ (λ (xs ys : List AlignKind). xs ++ ys) s.written.aligns p.writes.aligns;
          definitions = named_both n.Definition s.written.nodes p.writes.nodes ∙ ap₂ (λ (xs ys : List Node). xs ++ ys) s.written.definitions p.writes.definitions;
          fill = columns_both s.done p.now s.written.nodes p.writes.nodes s.written.fill p.writes.fill;
        };
      } in
      subst (λ (k : ℕ). RowSoFar text here.beside.ending left columns (drop k rest) old next) (sym step) moved

  pub row_ends : (now new : Walk A) (rest : List ℕ) → length rest ≡ 0 → WritesRowSoFar rest old now → IsExited n.GfmTableDelimiterRow now new
      → WritesDelimiterRow old new
  row_ends now new rest size so_far exits = λ text here left columns at written order found.
      let s = so_far text here left columns at written order found in
      let done = no_rest rest size s.ahead in
      let ns = s.written.nodes in
      let row = around_written text here.beside.ending left s.bare_walk s.entered now new n.GfmTableDelimiterRow s.bytes rest ns s.first.before s.enters
      s.written.writes exits in
      let node = Around (enter_at text n.GfmTableDelimiterRow (end_in s.bare_walk.out)) ns (exit_at text n.GfmTableDelimiterRow (end_in now.out)) in
      let all_done : s.done ≡ columns = sym (append-nil s.done) ∙ ap (λ xs. s.done ++ xs) (sym done.1) ∙ sym s.all in
      record {
        space = s.space;
        are_quiet = s.are_quiet;
        node = node;
        name = refl;
        writes = subst (λ xs. WritesTo text xs here.beside.ending left (append s.space (one node)) old new) done.0
            (before_both text here.beside.ending left old s.bare_walk new s.bytes rest s.space (one node) s.first row);
        aligns = ap (map value_align) (append-nil (named n.GfmTableDelimiterCellValue ns)) ∙ s.written.aligns ∙ all_done;
        definitions = append-nil (named n.Definition ns) ∙ s.written.definitions;
        filled =
            delimiters_filled s.done node refl (λ empty. some_columns (bytes_of (bare here.rest)) columns found (sym all_done ∙ empty)) s.written.fill;
      }
    where
      no_rest : (rest : List ℕ) → length rest ≡ 0 → {later : List AlignKind} → AreDelimiters rest later → (rest ≡ []) × (later ≡ [])
      no_rest [] size {later} d = (refl, none_left later d)
      no_rest (b ∷ rest) size d = absurd (omega (arith, size))

-- the exit that comes last
pub row_ended : {T E A : Type 0} {name : Name} {a b : Walk A} {R : Type 0} (r : Result T E) → OnOk r (standing b ≡ standing a) → OnOk r (written_to b ≡ written_to a)
    → OnOk r ((text : List ℕ) → IsInOrder text a.out → Exits text name a.out b.out) → (IsExited name a b → R) → OnOk r R
row_ended (Ok t) stays end exits f = f (record { stays = stays; end = end; exits = exits })
row_ended (Err e) stays end exits f = tt
