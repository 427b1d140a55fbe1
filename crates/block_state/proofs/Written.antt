-- What is written after one more row, ending, container or line.
use Rattle.std.proofs.Common.{◌≡◌, ◌≤◌, ◌&&◌, Bool, true, false, List, [], ◌∷◌, ◌++◌, refl, sym, ap, ◌∙◌, append_assoc, length, take, drop}
use Rattle.std.specs.Prelude.{map}
use Rattle.std.proofs.lemmas.List.{append-nil, map-append}
use Rattle.definition_block.specs.Container.{Container}
use Rattle.block_rows.specs.declared.row.Row.{Row}
use Rattle.block_rows.specs.declared.row.Row.TheVariants as row
use Rattle.definition_text.specs.BlockLines.{BlockLine}
use Rattle.definition_block.specs.Tree.{Block, Blocks, Nil, Cons, join, one, is_ending, all_endings, front, trailing, container_block}
use Rattle.block_rows.specs.Rows.{Exit, start_row, block_rows, rows_of, row_value, rows_value, value_with, row_size, rows_size}
use Rattle.block_state.specs.Spine.{Level, level, rows_around}
use Rattle.block_state.specs.Waits.{inside, outside}
use Rattle.block_state.specs.Shows.{lone, is_nil, AreWritten}
use Rattle.block_state.proofs.Trees.{rows_of-join, rows_of-one, rows-split, front-more, front-block, trailing-more, trailing-block}
use Rattle.block_state.proofs.Ends.{holding, front-holds, trailing-holds, inside-rows, outside-rows}
use Rattle.block_state.proofs.Shown.{one_row_shown, more_lone, pool_more, cut_shown}

-- a list with a block isn't empty
nil-block : (bs : Blocks) (b : Block) → is_nil (join bs (one b)) ≡ false
nil-block Nil b = refl
nil-block (Cons c bs) b = refl

module _ (rows waiting : List Row) (bare : Bool) (pool : List BlockLine) (around : List Level) (kids : Blocks) (left : List BlockLine) where
  module _ (h : AreWritten rows waiting bare pool around kids left) where
    -- all that was read
    pub settled : rows_size waiting ≡ 0 → rows_value (rows ++ waiting) pool ≡ value_with (rows_around around ++ rows_of kids) left
    settled none =
        more_lone rows waiting pool _ h.rows_stand none
        ∙ ap (λ out. value_with out left)
        (append_assoc (rows_around around) (rows_of (front kids)) (map lone waiting)
        ∙ ap (λ x. rows_around around ++ x) (ap (λ x. rows_of (front kids) ++ x) h.waiting_stand ∙ sym (rows-split kids)))

    -- a block
    pub with_block : (r : Row) (b : Block) → rows_size waiting ≡ 0 → block_rows b ≡ row_value r left ∷ [] → is_ending b ≡ false
        → AreWritten ((rows ++ waiting) ++ r ∷ []) [] false pool around (join kids (one b)) (drop (row_size r) left)
    with_block r b none is other = record {
      rows_stand =
          one_row_shown (rows ++ waiting) pool r _ (settled none)
          ∙ ap (λ out. value_with out (drop (row_size r) left))
          (append_assoc (rows_around around) (rows_of kids) (row_value r left ∷ [])
          ∙ ap (λ x. rows_around around ++ x)
          (ap (λ x. rows_of kids ++ x) (sym (rows_of-one b ∙ is)) ∙ sym (rows_of-join kids (one b)) ∙ ap rows_of (sym (front-block kids b other))));
      waiting_stand = sym (ap rows_of (trailing-block kids b other));
      is_bare = sym (ap is_nil (front-block kids b other) ∙ nil-block kids b);
    }

    -- the ending of a line
    pub with_ending : (r : Row) (b : Block) → block_rows b ≡ lone r ∷ [] → is_ending b ≡ true
        → AreWritten rows (waiting ++ r ∷ []) bare pool around (join kids (one b)) left
    with_ending r b is ending =
        let all : all_endings (one b) ≡ true = ap (λ x. x && true) ending in
        record {
          rows_stand = h.rows_stand ∙ ap (λ x. value_with (rows_around around ++ rows_of x) left) (sym (front-more kids (one b) all));
          waiting_stand =
              map-append lone waiting (r ∷ [])
              ∙ ap (λ x. x ++ lone r ∷ []) h.waiting_stand
              ∙ ap (λ x. rows_of (trailing kids) ++ x) (sym (rows_of-one b ∙ is))
              ∙ sym (rows_of-join (trailing kids) (one b))
              ∙ ap rows_of (sym (trailing-more kids (one b) all));
          is_bare = h.is_bare ∙ ap is_nil (sym (front-more kids (one b) all));
        }

    -- the start of a container
    pub with_enter : (r : Row) (c : Container) → rows_size waiting ≡ 0 → row_value r left ≡ start_row c
        → AreWritten ((rows ++ waiting) ++ r ∷ []) [] true pool (level c kids ∷ around) Nil (drop (row_size r) left)
    with_enter r c none is = record {
      rows_stand =
          one_row_shown (rows ++ waiting) pool r _ (settled none)
          ∙ ap (λ x. value_with ((rows_around around ++ rows_of kids) ++ x ∷ []) (drop (row_size r) left)) is
          ∙ ap (λ out. value_with out (drop (row_size r) left)) (sym (append-nil ((rows_around around ++ rows_of kids) ++ start_row c ∷ [])));
      waiting_stand = refl;
      is_bare = refl;
    }

    -- one more line
    pub with_line : (l : BlockLine) → rows_size rows ≤ length pool → AreWritten rows waiting bare (pool ++ l ∷ []) around kids (left ++ l ∷ [])
    with_line l le = record {
      rows_stand = pool_more rows pool _ l le h.rows_stand;
      waiting_stand = h.waiting_stand;
      is_bare = h.is_bare;
    }

    -- without the lines that are left
    pub without_lines : rows_size rows ≤ length pool → AreWritten rows waiting bare (take (rows_size rows) pool) around kids []
    without_lines le = record {
      rows_stand = cut_shown rows pool _ le h.rows_stand;
      waiting_stand = h.waiting_stand;
      is_bare = h.is_bare;
    }

-- the end of a container
pub with_exit : (rows waiting : List Row) (bare : Bool) (pool : List BlockLine) (around : List Level) (c : Container) (before kids : Blocks)
    (left : List BlockLine)
    → AreWritten rows waiting bare pool (level c before ∷ around) kids left → rows_size (inside c waiting) ≡ 0
    → AreWritten ((rows ++ inside c waiting) ++ row.Exit ∷ []) (outside c waiting) false pool around (join before (container_block c kids)) left
with_exit rows waiting bare pool around c before kids left h none =
    let outer = rows_around around ++ rows_of before in
    let in_it = map lone (inside c waiting) in
    record {
      rows_stand =
          one_row_shown (rows ++ inside c waiting) pool row.Exit _ (more_lone rows (inside c waiting) pool _ h.rows_stand none)
          ∙ ap (λ out. value_with out left)
          (ap (λ x. x ++ Exit ∷ []) (append_assoc (outer ++ start_row c ∷ []) (rows_of (front kids)) in_it
          ∙ append_assoc outer (start_row c ∷ []) (rows_of (front kids) ++ in_it))
          ∙ append_assoc outer (start_row c ∷ (rows_of (front kids) ++ in_it)) (Exit ∷ [])
          ∙ append_assoc (rows_around around) (rows_of before) (start_row c ∷ ((rows_of (front kids) ++ in_it) ++ Exit ∷ []))
          ∙ ap (λ x. rows_around around ++ x)
          (ap (λ x. rows_of before ++ x) (sym (rows_of-one (holding c kids) ∙ inside-rows c kids waiting h.waiting_stand))
          ∙ sym (rows_of-join before (one (holding c kids)))
          ∙ ap rows_of (sym (front-holds before kids c))));
      waiting_stand = outside-rows c kids waiting h.waiting_stand ∙ ap rows_of (sym (trailing-holds before kids c));
      is_bare = sym (ap is_nil (front-holds before kids c) ∙ nil-block before (holding c kids));
    }
