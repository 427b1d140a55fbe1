-- How a container ends: what of the endings at its end stands in it.
use Rattle.std.proofs.Common.{◌≡◌, suc, ◌-◌, Bool, true, false, if◌then◌else◌, ◌&&◌, List, [], ◌∷◌, ◌++◌, refl, sym, ap, ◌∙◌, append_assoc, length, take, drop}
use Rattle.std.proofs.Common.{arith}
use Rattle.std.specs.Prelude.{map}
use Rattle.std.proofs.lemmas.Bool.{cond-true, and_parts}
use Rattle.std.proofs.lemmas.List.{append-nil, take-map, drop-map, length-map}
use Rattle.definition_block.specs.Container.{Container, Quote}
use Rattle.block_rows.specs.declared.row.Row.{Row}
use Rattle.definition_block.specs.Tree.{Block, Holds, Ending, Blank}
use Rattle.definition_block.specs.Tree.{Blocks, Nil, Cons, join, one, is_ending, all_endings, front, trailing, without_last, last_of, container_block}
use Rattle.block_rows.specs.Rows.{BlockRow, Single, Exit, start_row, block_rows, rows_of}
use Rattle.block_state.specs.Waits.{inside, outside}
use Rattle.block_state.specs.Shows.{lone}
use Rattle.block_state.proofs.Trees.{choose_if, join-assoc, trailing-all, front-more, front-block, trailing-more, trailing-block}

-- ---- the last ending of a quote

-- an ending has one row
ending_rows : (b : Block) → is_ending b ≡ true → block_rows b ≡ Single b ∷ []
ending_rows (Ending ending) h = refl
ending_rows (Blank ending) h = refl
ending_rows b h = let wrong : false ≡ true = h in cc

-- endings without the last, and the last
pub endings-last : (bs : Blocks) → all_endings bs ≡ true
    → (rows_of (without_last bs) ≡ take (length (rows_of bs) - 1) (rows_of bs)) × (rows_of (last_of bs) ≡ drop (length (rows_of bs) - 1) (rows_of bs))
endings-last Nil h = (refl, refl)
endings-last (Cons b Nil) h =
    let is : is_ending b ≡ true = (and_parts (is_ending b) true h).0 in
    let rows : rows_of (one b) ≡ Single b ∷ [] = append-nil (block_rows b) ∙ ending_rows b is in (
      ap rows_of (cond-true (is_ending b) Nil (one b) is) ∙ ap (λ (x : List BlockRow). take (length x - 1) x) (sym rows),
      ap rows_of (cond-true (is_ending b) (one b) Nil is) ∙ rows ∙ ap (λ (x : List BlockRow). drop (length x - 1) x) (sym rows),
    )
endings-last (Cons b (Cons c bs)) h =
    let parts = and_parts (is_ending b) (all_endings (Cons c bs)) h in
    let first = and_parts (is_ending c) (all_endings bs) parts.1 in
    let k = endings-last (Cons c bs) parts.1 in
    let rows = ending_rows b parts.0 in
    let next : rows_of (Cons c bs) ≡ Single c ∷ rows_of bs = ap (λ x. x ++ rows_of bs) (ending_rows c first.0) in
    let both : rows_of (Cons b (Cons c bs)) ≡ Single b ∷ (Single c ∷ rows_of bs) =
    ap (λ x. x ++ rows_of (Cons c bs)) rows ∙ ap (λ x. Single b ∷ x) next in
    let n = length (rows_of bs) in
    let count : length (Single b ∷ (Single c ∷ rows_of bs)) - 1 ≡ suc (length (Single c ∷ rows_of bs) - 1) = omega arith in (
      ap (λ x. x ++ rows_of (without_last (Cons c bs))) rows ∙ ap (λ x. Single b ∷ x) (k.0 ∙ ap (λ (x : List BlockRow). take (length x - 1) x) next)
          ∙ sym (ap (λ (x : List BlockRow). take (length x - 1) x) both ∙ ap (λ m. take m (Single b ∷ (Single c ∷ rows_of bs))) count),
      k.1 ∙ ap (λ (x : List BlockRow). drop (length x - 1) x) next
          ∙ sym (ap (λ (x : List BlockRow). drop (length x - 1) x) both ∙ ap (λ m. drop m (Single b ∷ (Single c ∷ rows_of bs))) count),
    )

-- the last of blocks is that of the endings at their end
without-front : (bs : Blocks) → rows_of (without_last bs) ≡ rows_of (front bs) ++ rows_of (without_last (trailing bs))
without-front Nil = refl
without-front (Cons b Nil) = single (is_ending b) refl
  where
    single : (x : Bool) → is_ending b ≡ x → rows_of (if x then Nil else one b)
        ≡ rows_of (if x && true then Nil else one b) ++ rows_of (without_last (if x && true then one b else Nil))
    single true h = sym (ap (λ (y : Bool). rows_of (if y then Nil else one b)) h)
    single false h = sym (append-nil (rows_of (one b)))
without-front (Cons b (Cons c bs)) = parts (all_endings (Cons b (Cons c bs))) (without-front (Cons c bs))
  where
    parts : (x : Bool) → rows_of (without_last (Cons c bs)) ≡ rows_of (front (Cons c bs)) ++ rows_of (without_last (trailing (Cons c bs)))
        → rows_of (Cons b (without_last (Cons c bs))) ≡ rows_of (if x then Nil else Cons b (front (Cons c bs)))
        ++ rows_of (without_last (if x then Cons b (Cons c bs) else trailing (Cons c bs)))
    parts true h = refl
    parts false h = ap (λ x. block_rows b ++ x) h
        ∙ sym (append_assoc (block_rows b) (rows_of (front (Cons c bs))) (rows_of (without_last (trailing (Cons c bs)))))

last-trailing : (bs : Blocks) → last_of bs ≡ last_of (trailing bs)
last-trailing Nil = refl
last-trailing (Cons b Nil) = single (is_ending b) refl
  where
    single : (x : Bool) → is_ending b ≡ x → (if x then one b else Nil) ≡ last_of (if x && true then one b else Nil)
    single true h = sym (ap (λ (y : Bool). if y then one b else Nil) h)
    single false h = refl
last-trailing (Cons b (Cons c bs)) = parts (all_endings (Cons b (Cons c bs))) (last-trailing (Cons c bs))
  where
    parts : (x : Bool) → last_of (Cons c bs) ≡ last_of (trailing (Cons c bs))
        → last_of (Cons c bs) ≡ last_of (if x then Cons b (Cons c bs) else trailing (Cons c bs))
    parts true h = refl
    parts false h = h

last-all : (bs : Blocks) → all_endings (last_of bs) ≡ true
last-all Nil = refl
last-all (Cons b Nil) = choose_if (λ (x : Blocks). all_endings x ≡ true) (is_ending b) (one b) Nil (λ h. ap (λ x. x && true) h) (λ h. refl)
last-all (Cons b (Cons c bs)) = last-all (Cons c bs)

-- ---- a container that ends

-- what stands in it, and after it
abbrev kept : Container → Blocks → Blocks
kept Quote kids = without_last kids
kept c kids = front kids

abbrev left_over : Container → Blocks → Blocks
left_over Quote kids = last_of kids
left_over c kids = trailing kids

abbrev pub holding : Container → Blocks → Block
holding c kids = Holds c (kept c kids)

holds_parts : (c : Container) (kids : Blocks) → container_block c kids ≡ join (one (holding c kids)) (left_over c kids)
holds_parts Quote kids = refl
holds_parts c kids = refl

left_over-all : (c : Container) (kids : Blocks) → all_endings (left_over c kids) ≡ true
left_over-all Quote kids = last-all kids
left_over-all c kids = trailing-all kids

pub front-holds : (before kids : Blocks) (c : Container) → front (join before (container_block c kids)) ≡ join before (one (holding c kids))
front-holds before kids c =
    ap (λ x. front (join before x)) (holds_parts c kids)
    ∙ ap front (sym (join-assoc before (one (holding c kids)) (left_over c kids)))
    ∙ front-more (join before (one (holding c kids))) (left_over c kids) (left_over-all c kids)
    ∙ front-block before (holding c kids) refl

pub trailing-holds : (before kids : Blocks) (c : Container) → trailing (join before (container_block c kids)) ≡ left_over c kids
trailing-holds before kids c =
    ap (λ x. trailing (join before x)) (holds_parts c kids)
    ∙ ap trailing (sym (join-assoc before (one (holding c kids)) (left_over c kids)))
    ∙ trailing-more (join before (one (holding c kids))) (left_over c kids) (left_over-all c kids)
    ∙ ap (λ x. join x (left_over c kids)) (trailing-block before (holding c kids) refl)

-- the endings that wait are those that stand in it and those after it
pub inside-rows : (c : Container) (kids : Blocks) (waiting : List Row) → map lone waiting ≡ rows_of (trailing kids)
    → block_rows (holding c kids) ≡ start_row c ∷ ((rows_of (front kids) ++ map lone (inside c waiting)) ++ Exit ∷ [])
inside-rows Quote kids waiting h =
    let n = length waiting - 1 in
    let count : length (rows_of (trailing kids)) - 1 ≡ n = ap (λ (x : List BlockRow). length x - 1) (sym h) ∙ ap (λ m. m - 1) (length-map waiting lone) in
    ap (λ x. start_row Quote ∷ (x ++ Exit ∷ []))
    (without-front kids
    ∙ ap (λ x. rows_of (front kids) ++ x) ((endings-last (trailing kids) (trailing-all kids)).0 ∙ ap (λ m. take m (rows_of (trailing kids))) count
    ∙ ap (take n) (sym h) ∙ take-map lone n waiting))
inside-rows c kids waiting h = ap (λ x. start_row c ∷ (x ++ Exit ∷ [])) (sym (append-nil (rows_of (front kids))))

pub outside-rows : (c : Container) (kids : Blocks) (waiting : List Row) → map lone waiting ≡ rows_of (trailing kids)
    → map lone (outside c waiting) ≡ rows_of (left_over c kids)
outside-rows Quote kids waiting h =
    let n = length waiting - 1 in
    let count : length (rows_of (trailing kids)) - 1 ≡ n = ap (λ (x : List BlockRow). length x - 1) (sym h) ∙ ap (λ m. m - 1) (length-map waiting lone) in
    sym (ap rows_of (last-trailing kids) ∙ (endings-last (trailing kids) (trailing-all kids)).1 ∙ ap (λ m. drop m (rows_of (trailing kids))) count
    ∙ ap (drop n) (sym h) ∙ drop-map lone n waiting)
outside-rows c kids waiting h = h
