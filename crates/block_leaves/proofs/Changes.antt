-- What is shown after a leaf goes on, starts or is closed.
use Rattle.std.proofs.Common.{◌≡◌, ℕ, ◌+◌, ◌-◌, ◌≤◌, ◌<◌, ◌==◌, get_or, List, [], ◌∷◌, ◌++◌, Option, Bool, true, false, refl, sym, ap, ◌∙◌, subst, take, drop}
use Rattle.std.proofs.Common.{length, append_assoc, arith, vec_len}
use Rattle.block_leaves.proofs.Prelude.{append-nil, AreRead, At, block_and_ending, block_rows, BlockLine, Blocks, close_leaf, Constructs, Container, drop-drop}
use Rattle.block_leaves.proofs.Prelude.{drop_all, Footnote, Indented, InText, is_nothing, join, join-assoc, join-nil, last_ending, Leaf, leaf_lines}
use Rattle.block_leaves.proofs.Prelude.{leaf_state, Leaves, length-append, length-drop, length-map, length-take, Level, LineEnding, lines_from, map, Nil}
use Rattle.block_leaves.proofs.Prelude.{OpenLeaf, own_lines, Piece, piece_line, piece_lines, row_size, row_value, rows_size, Shows, Single, spine, state_of}
use Rattle.block_leaves.proofs.Prelude.{take-map, take_all, Text}
use Rattle.std.proofs.lemmas.Bool.{eq-eqb, ne_eqb}
use Rattle.std.proofs.lemmas.List.{map-append, take-append-le, drop-append-le, drop-map}
use Rattle.std.proofs.lemmas.List.{take_more, get_or-drop, take-append-drop}
use Rattle.std.proofs.lemmas.List.Sums.{sum_by-append}
use Rattle.definition_block.specs.Container.{Quote}
use Rattle.block_rows.specs.declared.row.Row.{Row}
use Rattle.block_rows.specs.declared.row.Row.TheVariants as row
use Rattle.definition_block.specs.Tree.{Block, IndentedCode, Ending, Blank, one, container_block}
use Rattle.definition_block.specs.Tree.{blanks, is_ending, front}
use Rattle.block_rows.specs.Rows.{start_row, rows_of, rows_value, value_with}
use Rattle.block_state.specs.Spine.{Spine, level, rows_around}
use Rattle.block_state.specs.Waits.{enter_row, inside, outside}
use Rattle.block_state.specs.Shows.{LeafState, lone, AreWritten}
use Rattle.block_state.proofs.Shown.{left_count, left_shown}
use Rattle.block_state.proofs.Written.{with_block, with_ending, with_line, without_lines, with_enter, with_exit}

-- ---- leaves

pub enough_lines : {A : Type 0} (p : Leaves A) → rows_size p.rows.rows.items ≤ length (piece_lines p.pieces.items)
enough_lines p = omega (arith, length-map p.pieces.items piece_line, p.counted, p.enough, p.pieces.ok.0)

-- one more piece
pub piece_pushed : (old : List Piece) (p : Piece) (new : List Piece) (l : BlockLine) → new ≡ old ++ p ∷ [] → piece_line p ≡ l
    → piece_lines new ≡ piece_lines old ++ l ∷ []
piece_pushed old p new l pushed is = ap piece_lines pushed ∙ map-append piece_line old (p ∷ []) ∙ ap (λ x. piece_lines old ++ x ∷ []) is

-- ---- the same, by equations

pub written_as : (rows rows2 waiting waiting2 : List Row) (bare bare2 : Bool) (pool pool2 : List BlockLine) (around : List Level) (kids : Blocks)
    (left left2 : List BlockLine)
    → rows2 ≡ rows → waiting2 ≡ waiting → bare2 ≡ bare → pool2 ≡ pool → left2 ≡ left
    → AreWritten rows waiting bare pool around kids left → AreWritten rows2 waiting2 bare2 pool2 around kids left2
written_as rows rows2 waiting waiting2 bare bare2 pool pool2 around kids left left2 r w b p l h = record {
  rows_stand = ap (λ x. rows_value x pool2) r ∙ ap (rows_value rows) p ∙ h.rows_stand ∙ ap (value_with (rows_around around ++ rows_of (front kids))) (sym l);
  waiting_stand = ap (map lone) w ∙ h.waiting_stand;
  is_bare = b ∙ h.is_bare;
}

-- ---- the open leaf has one more line

pub shows_line : (rows waiting : List Row) (bare : Bool) (containers : List Container) (pool pool2 : List BlockLine) (state state2 : LeafState)
    (around : List Level) (kids : Blocks) (leaf leaf2 : OpenLeaf) (l : BlockLine)
    → rows_size rows ≤ length pool → pool2 ≡ pool ++ l ∷ [] → leaf_lines leaf2 ≡ leaf_lines leaf ++ l ∷ [] → state2 ≡ state_of leaf2
    → Shows rows waiting bare containers pool state (spine around kids leaf) → Shows rows waiting bare containers pool2 state2 (spine around kids leaf2)
shows_line rows waiting bare containers pool pool2 state state2 around kids leaf leaf2 l le more longer same h = record {
  written = written_as rows rows waiting waiting bare bare (pool ++ l ∷ []) pool2 around kids (leaf_lines leaf ++ l ∷ [])
      (leaf_lines leaf2) refl refl refl more longer
      (with_line rows waiting bare pool around kids (leaf_lines leaf) h.written l le);
  opened = h.opened;
  same_state = same;
}

-- ---- a block, and the ending of its last line

pub written_ended : (rows waiting : List Row) (bare : Bool) (pool : List BlockLine) (around : List Level) (kids : Blocks) (left : List BlockLine)
    → AreWritten rows waiting bare pool around kids left → (r : Row) (b : Block) (ending : Option LineEnding) → rows_size waiting ≡ 0
    → block_rows b ≡ row_value r left ∷ [] → is_ending b ≡ false
    → (rows2 waiting2 waiting3 : List Row) (bare2 : Bool) (left2 : List BlockLine) → rows2 ≡ (rows ++ waiting) ++ r ∷ [] → waiting2 ≡ []
    → waiting3 ≡ waiting2 ++ row.Ending ending ∷ [] → bare2 ≡ false → left2 ≡ drop (row_size r) left
    → AreWritten rows2 waiting3 bare2 pool around (join kids (block_and_ending b ending)) left2
written_ended rows waiting bare pool around kids left h r b ending none is other rows2 waiting2 waiting3 bare2 left2 rows_are none_wait waits is_bare left_are =
    let k = with_ending ((rows ++ waiting) ++ r ∷ []) [] false pool around (join kids (one b)) (drop (row_size r) left)
    (with_block rows waiting bare pool around kids left h r b none is other) (row.Ending ending) (Ending ending) refl refl in
    subst (λ (bs : Blocks). AreWritten rows2 waiting3 bare2 pool around bs left2) (join-assoc kids (one b) (one (Ending ending)))
    (written_as ((rows ++ waiting) ++ r ∷ []) rows2 (row.Ending ending ∷ []) waiting3 false bare2 pool pool around
    (join (join kids (one b)) (one (Ending ending))) (drop (row_size r) left) left2
    rows_are (waits ∙ ap (λ x. x ++ row.Ending ending ∷ []) none_wait) is_bare refl left_are k)

-- ---- the open leaf takes all lines that are left

pub all_left : (rows waiting : List Row) (bare : Bool) (pool : List BlockLine) (around : List Level) (kids : Blocks) (left : List BlockLine)
    → AreWritten rows waiting bare pool around kids left → rows_size rows ≤ length pool → rows_size rows + length left ≡ length pool
all_left rows waiting bare pool around kids left h le = left_count rows pool _ h.rows_stand le

-- ---- whether a paragraph is open

-- a leaf is text, of all lines that no row took
pub record TextLeft (from count : ℕ) (leaf : OpenLeaf) : Type 0 where
  pub ls : List BlockLine
  pub is : leaf ≡ Text ls
  pub left : from + length ls ≡ count

pub text_left : {A : Type 0} (p : Leaves A) (containers : List Container) (s : Spine) (count : ℕ) → AreRead p containers s → InText ≡ leaf_state p.leaf → count ≡ vec_len p.pieces
    → TextLeft p.lines_in_rows count s.leaf
text_left p containers s count h same len =
    of s.leaf (all_left p.rows.rows.items p.rows.waiting.items p.rows.bare (piece_lines p.pieces.items) s.around s.kids (leaf_lines s.leaf) h.written
    (enough_lines p)) (same ∙ h.same_state)
  where
    of : (leaf : OpenLeaf) → rows_size p.rows.rows.items + length (leaf_lines leaf) ≡ length (piece_lines p.pieces.items) → InText ≡ state_of leaf
        → TextLeft p.lines_in_rows count leaf
    of (Text ls) left is = record {
      ls = ls;
      is = refl;
      left = omega (arith, left, p.counted, length-map p.pieces.items piece_line, p.pieces.ok.0, len);
    }
    of leaf left is = let wrong = is in cc

pub nothing_is_open : (count len : ℕ) (ls : List BlockLine) → count + length ls ≡ len → (count == len) ≡ is_nothing (At (Text ls))
nothing_is_open count len [] h = eq-eqb count len (omega (arith, h))
nothing_is_open count len (x ∷ ls) h = ne_eqb count len (λ e. omega (arith, h, e))

-- ---- blank lines after indented code

abbrev pub blank_row : Piece → Row
blank_row piece = row.Blank piece.ending

-- their endings wait
pub with_blanks : (rows waiting : List Row) (bare : Bool) (pool : List BlockLine) (around : List Level) (kids : Blocks) (left : List BlockLine)
    (pieces : List Piece)
    → AreWritten rows waiting bare pool around kids left
    → AreWritten rows (waiting ++ map blank_row pieces) bare pool around (join kids (blanks (piece_lines pieces))) left
with_blanks rows waiting bare pool around kids left [] h =
    subst (λ (bs : Blocks). AreWritten rows (waiting ++ []) bare pool around bs left) (sym (join-nil kids))
    (subst (λ (w : List Row). AreWritten rows w bare pool around kids left) (sym (append-nil waiting)) h)
with_blanks rows waiting bare pool around kids left (p ∷ ps) h =
    let k = with_blanks rows (waiting ++ blank_row p ∷ []) bare pool around (join kids (one (Blank p.ending))) left ps
    (with_ending rows waiting bare pool around kids left h (blank_row p) (Blank p.ending) refl refl) in
    subst (λ (bs : Blocks). AreWritten rows (waiting ++ map blank_row (p ∷ ps)) bare pool around bs left)
    (join-assoc kids (one (Blank p.ending)) (blanks (piece_lines ps)))
    (subst (λ (w : List Row). AreWritten rows w bare pool around (join (join kids (one (Blank p.ending))) (blanks (piece_lines ps))) left)
    (append_assoc waiting (blank_row p ∷ []) (map blank_row ps)) k)

-- one more of them
pub blanks_more : (waiting0 waiting waiting2 : List Row) (pieces : List Piece) (start i : ℕ) (d : Piece) → start ≤ i → i < length pieces
    → waiting ≡ waiting0 ++ map blank_row (take (i - start) (drop start pieces)) → waiting2 ≡ waiting ++ blank_row (get_or pieces i d) ∷ []
    → waiting2 ≡ waiting0 ++ map blank_row (take (i + 1 - start) (drop start pieces))
blanks_more waiting0 waiting waiting2 pieces start i d le lt so_far pushed =
    let rest = drop start pieces in
    let n = i - start in
    let longer : i + 1 - start ≡ n + 1 = omega arith in
    let room : n < length rest = omega (arith, length-drop start pieces) in
    let place : start + n ≡ i = omega arith in
    let last : get_or rest n d ≡ get_or pieces i d = get_or-drop start pieces n d ∙ ap (λ k. get_or pieces k d) place in
    pushed ∙ ap (λ rs. rs ++ blank_row (get_or pieces i d) ∷ []) so_far
    ∙ append_assoc waiting0 (map blank_row (take n rest)) (blank_row (get_or pieces i d) ∷ [])
    ∙ ap (λ x. waiting0 ++ x) (
    ap (λ x. map blank_row (take n rest) ++ blank_row x ∷ []) (sym last)
    ∙ sym (map-append blank_row (take n rest) (get_or rest n d ∷ []))
    ∙ ap (map blank_row) (sym (take_more rest n d room) ∙ ap (λ k. take k rest) (sym longer)))

-- indented code is closed: its lines, its ending, and the endings of the blank lines after it
pub written_indented : (on : Constructs) (rows waiting : List Row) (bare : Bool) (pieces : List Piece) (around : List Level) (kids : Blocks)
    (ls pending : List BlockLine)
    → AreWritten rows waiting bare (piece_lines pieces) around kids (ls ++ pending) → rows_size rows ≤ length (piece_lines pieces) → rows_size waiting ≡ 0
    → (count n : ℕ) (ending : Option LineEnding) → count ≡ length ls → ending ≡ last_ending ls → n ≡ rows_size rows + count
    → (rows2 waiting2 waiting3 waiting4 : List Row) (bare2 : Bool) → rows2 ≡ (rows ++ waiting) ++ row.IndentedCode count ∷ [] → waiting2 ≡ []
    → waiting3 ≡ waiting2 ++ row.Ending ending ∷ []
    → waiting4 ≡ waiting3 ++ map blank_row (drop n pieces) → bare2 ≡ false → rows_size rows2 ≡ n
    → AreWritten rows2 waiting4 bare2 (piece_lines (take n pieces)) around (join kids (close_leaf on (Indented ls pending))) []
written_indented on rows waiting bare pieces around kids ls pending h le none count n ending all last n_is rows2 waiting2 waiting3 waiting4 bare2 rows_are
    none_wait waits blank is_bare taken =
    let pool = piece_lines pieces in
    let c = left_count rows pool _ h.rows_stand le in
    let code = Leaf (IndentedCode (own_lines ls)) in
    let front_lines : take count (ls ++ pending) ≡ ls = take-append-le count ls pending (omega (arith, all)) ∙ take_all count ls (omega (arith, all)) in
    let rest_lines : drop count (ls ++ pending) ≡ pending =
    drop-append-le count ls pending (omega (arith, all)) ∙ ap (λ x. x ++ pending) (drop_all count ls (omega (arith, all))) in
    let left_over : piece_lines (drop n pieces) ≡ pending =
    sym (drop-map piece_line n pieces) ∙ ap (λ k. drop k pool) n_is ∙ sym (drop-drop count (rows_size rows) pool)
    ∙ ap (drop count) (sym (left_shown rows pool _ h.rows_stand)) ∙ rest_lines in
    let ended_code = written_ended rows waiting bare pool around kids (ls ++ pending) h (row.IndentedCode count) code ending none
    (ap (λ x. Single (Leaf (IndentedCode (own_lines x))) ∷ []) (sym front_lines)) refl rows2 waiting2 waiting3 bare2 pending rows_are none_wait waits is_bare
    (sym rest_lines) in
    let with_all = with_blanks rows2 waiting3 bare2 pool around (join kids (block_and_ending code ending)) pending (drop n pieces) ended_code in
    let children : join (join kids (block_and_ending code ending)) (blanks (piece_lines (drop n pieces))) ≡ join kids (close_leaf on (Indented ls pending)) =
    join-assoc kids (block_and_ending code ending) (blanks (piece_lines (drop n pieces)))
    ∙ ap (λ e. join kids (join (block_and_ending code e) (blanks (piece_lines (drop n pieces))))) last
    ∙ ap (λ x. join kids (join (block_and_ending code (last_ending ls)) (blanks x))) left_over in
    let fits : rows_size rows2 ≤ length pool = omega (arith, taken, n_is, all, c, length-append ls pending) in
    subst (λ (bs : Blocks). AreWritten rows2 waiting4 bare2 (piece_lines (take n pieces)) around bs []) children
    (written_as rows2 rows2 (waiting3 ++ map blank_row (drop n pieces)) waiting4 bare2 bare2 (take (rows_size rows2) pool) (piece_lines (take n pieces)) around
    (join (join kids (block_and_ending code ending)) (blanks (piece_lines (drop n pieces)))) [] []
    refl blank refl (sym (take-map piece_line n pieces) ∙ ap (λ k. take k pool) (sym taken)) refl
    (without_lines rows2 (waiting3 ++ map blank_row (drop n pieces)) bare2 pool around
    (join (join kids (block_and_ending code ending)) (blanks (piece_lines (drop n pieces)))) pending with_all fits))

-- ---- a line alone, and a container

pub longer : (rows waiting : List Row) (bare : Bool) (pool : List BlockLine) (around : List Level) (kids : Blocks) (left : List BlockLine)
    → AreWritten rows waiting bare pool around kids left → (l : BlockLine) → rows_size rows ≤ length pool
    → AreWritten rows waiting bare (pool ++ l ∷ []) around kids (left ++ l ∷ [])
longer rows waiting bare pool around kids left h l le = with_line rows waiting bare pool around kids left h l le

pub enter_shown : (c : Container) (left : List BlockLine) → row_size (enter_row c) ≡ 0 → row_value (enter_row c) left ≡ start_row c
enter_shown (Footnote label) left none = absurd (omega (arith, none))
enter_shown c left none = refl

pub entered_as : (rows waiting : List Row) (bare : Bool) (pool : List BlockLine) (around : List Level) (kids : Blocks) (left : List BlockLine)
    → AreWritten rows waiting bare pool around kids left → (c : Container) → rows_size waiting ≡ 0 → row_value (enter_row c) left ≡ start_row c
    → (rows2 waiting2 : List Row) (bare2 : Bool) (left2 : List BlockLine) → rows2 ≡ (rows ++ waiting) ++ enter_row c ∷ [] → waiting2 ≡ [] → bare2 ≡ true
    → left2 ≡ drop (row_size (enter_row c)) left
    → AreWritten rows2 waiting2 bare2 pool (level c kids ∷ around) Nil left2
entered_as rows waiting bare pool around kids left h c none is rows2 waiting2 bare2 left2 r w b l =
    written_as ((rows ++ waiting) ++ enter_row c ∷ []) rows2 [] waiting2 true bare2 pool pool (level c kids ∷ around) Nil
    (drop (row_size (enter_row c)) left) left2 r w b refl l
    (with_enter rows waiting bare pool around kids left h (enter_row c) c none is)

none-inside : (n : ℕ) (waiting : List Row) → rows_size waiting ≡ 0 → rows_size (take n waiting) ≡ 0
none-inside n waiting none =
    omega (arith, none, ap rows_size (take-append-drop n waiting), sum_by-append row_size (take n waiting) (drop n waiting))

pub inside_none : (c : Container) (waiting : List Row) → rows_size waiting ≡ 0 → rows_size (inside c waiting) ≡ 0
inside_none Quote waiting none = none-inside (length waiting - 1) waiting none
inside_none c waiting none = refl

pub exited_as : (rows waiting : List Row) (bare : Bool) (pool : List BlockLine) (around : List Level) (l : Level) (kids : Blocks) (left : List BlockLine)
    → AreWritten rows waiting bare pool (l ∷ around) kids left → rows_size waiting ≡ 0
    → (rows2 waiting2 : List Row) (bare2 : Bool) (c : Container) → c ≡ l.container → rows2 ≡ (rows ++ inside c waiting) ++ row.Exit ∷ []
    → waiting2 ≡ outside c waiting → bare2 ≡ false
    → AreWritten rows2 waiting2 bare2 pool around (join l.before (container_block l.container kids)) left
exited_as rows waiting bare pool around l kids left h none rows2 waiting2 bare2 c is r w b =
    let same = l.container in
    written_as ((rows ++ inside same waiting) ++ row.Exit ∷ []) rows2 (outside same waiting) waiting2 false bare2 pool pool around
    (join l.before (container_block same kids)) left left
    (r ∙ ap (λ x. (rows ++ inside x waiting) ++ row.Exit ∷ []) is) (w ∙ ap (λ x. outside x waiting) is) b refl refl
    (with_exit rows waiting bare pool around same l.before kids left h (inside_none same waiting none))

pub blank_as : (rows waiting : List Row) (bare : Bool) (pool : List BlockLine) (around : List Level) (kids : Blocks)
    → AreWritten rows waiting bare pool around kids [] → (ending : Option LineEnding)
    → (rows2 waiting2 : List Row) (bare2 : Bool) → rows2 ≡ rows → waiting2 ≡ waiting ++ row.Blank ending ∷ [] → bare2 ≡ bare
    → AreWritten rows2 waiting2 bare2 pool around (join kids (one (Blank ending))) []
blank_as rows waiting bare pool around kids h ending rows2 waiting2 bare2 r w b =
    written_as rows rows2 (waiting ++ row.Blank ending ∷ []) waiting2 bare bare2 pool pool around (join kids (one (Blank ending))) [] [] r w b refl refl
    (with_ending rows waiting bare pool around kids [] h (row.Blank ending) (Blank ending) refl refl)

-- ---- whole lines are kept as one

-- the lines that are left are the last ones
pub lines_left : (rows waiting : List Row) (bare : Bool) (pool : List BlockLine) (around : List Level) (kids : Blocks) (left : List BlockLine)
    → AreWritten rows waiting bare pool around kids left → left ≡ drop (rows_size rows) pool
lines_left rows waiting bare pool around kids left h = left_shown rows pool _ h.rows_stand

pub lines_of : {A : Type 0} (p : Leaves A) (containers : List Container) (around : List Level) (kids : Blocks) (leaf : OpenLeaf) → AreRead p containers (spine around kids leaf)
    → leaf_lines leaf ≡ drop p.lines_in_rows (piece_lines p.pieces.items)
lines_of p containers around kids leaf h =
    let pool = piece_lines p.pieces.items in
    lines_left p.rows.rows.items p.rows.waiting.items p.rows.bare pool around kids (leaf_lines leaf) h.written ∙ ap (λ n. drop n pool) (sym p.counted)

-- also where they are a slice
pub lines_here : {A : Type 0} (p : Leaves A) (containers : List Container) (around : List Level) (kids : Blocks) (leaf : OpenLeaf) → AreRead p containers (spine around kids leaf)
    → (pieces : List Piece) → pieces ≡ p.pieces.items
    → leaf_lines leaf ≡ piece_lines (take (length pieces - p.lines_in_rows) (drop p.lines_in_rows pieces))
lines_here p containers around kids leaf h pieces same =
    lines_of p containers around kids leaf h ∙ ap (λ ps. drop p.lines_in_rows (piece_lines ps)) (sym same) ∙ sym (lines_from p.lines_in_rows pieces)

-- and the first of them are a slice
pub lines_first : {A : Type 0} (p : Leaves A) (containers : List Container) (around : List Level) (kids : Blocks) (leaf : OpenLeaf) → AreRead p containers (spine around kids leaf)
    → (pieces : List Piece) → pieces ≡ p.pieces.items
    → (count n : ℕ) → n ≡ count → take count (leaf_lines leaf) ≡ piece_lines (take n (drop p.lines_in_rows pieces))
lines_first p containers around kids leaf h pieces same count n is =
    ap (take count) (lines_of p containers around kids leaf h ∙ ap (λ ps. drop p.lines_in_rows (piece_lines ps)) (sym same) ∙ drop-map piece_line p.lines_in_rows pieces)
    ∙ take-map piece_line count (drop p.lines_in_rows pieces)
    ∙ ap (λ k. piece_lines (take k (drop p.lines_in_rows pieces))) (sym is)

-- another line in their place
pub whole_written : (rows waiting : List Row) (bare : Bool) (pool : List BlockLine) (around : List Level) (kids : Blocks) (left : List BlockLine)
    → AreWritten rows waiting bare pool around kids left → (l : BlockLine) → rows_size rows ≤ length pool
    → AreWritten rows waiting bare (take (rows_size rows) pool ++ l ∷ []) around kids (l ∷ [])
whole_written rows waiting bare pool around kids left h l le =
    let front = take (rows_size rows) pool in
    with_line rows waiting bare front around kids [] (without_lines rows waiting bare pool around kids left h le) l
    (omega (arith, length-take (rows_size rows) pool))
