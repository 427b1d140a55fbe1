-- Lists of blocks: the endings at their end.
use Rattle.std.proofs.Common.{◌≡◌, if◌then◌else◌, Bool, true, false, ◌&&◌, ◌++◌, refl, sym, ap, ◌∙◌, append_assoc}
use Rattle.std.proofs.lemmas.Bool.{cond-true, cond-false}
use Rattle.std.proofs.lemmas.List.{append-nil}
use Rattle.definition_block.specs.Tree.{Block, Blocks, Nil, Cons, join, one, is_ending, all_endings, front, trailing}
use Rattle.block_rows.specs.Rows.{block_rows, rows_of}

pub join-nil : (bs : Blocks) → join bs Nil ≡ bs
join-nil Nil = refl
join-nil (Cons b bs) = ap (Cons b) (join-nil bs)

pub join-assoc : (bs cs ds : Blocks) → join (join bs cs) ds ≡ join bs (join cs ds)
join-assoc Nil cs ds = refl
join-assoc (Cons b bs) cs ds = ap (Cons b) (join-assoc bs cs ds)

pub rows_of-join : (bs cs : Blocks) → rows_of (join bs cs) ≡ rows_of bs ++ rows_of cs
rows_of-join Nil cs = refl
rows_of-join (Cons b bs) cs = ap (λ x. block_rows b ++ x) (rows_of-join bs cs) ∙ sym (append_assoc (block_rows b) (rows_of bs) (rows_of cs))

pub rows_of-one : (b : Block) → rows_of (one b) ≡ block_rows b
rows_of-one b = append-nil (block_rows b)

-- ---- either of two

pub choose_if : {X : Type 0} (P : X → Type 0) (b : Bool) (x y : X) → (b ≡ true → P x) → (b ≡ false → P y) → P (if b then x else y)
choose_if P true x y h k = h refl
choose_if P false x y h k = k refl

-- ---- endings at the end

pub endings-join : (bs cs : Blocks) → all_endings cs ≡ true → all_endings (join bs cs) ≡ all_endings bs
endings-join Nil cs h = h
endings-join (Cons b bs) cs h = ap (λ x. is_ending b && x) (endings-join bs cs h)

and_false : (b : Bool) → (b && false) ≡ false
and_false true = refl
and_false false = refl

-- no list of endings ends with another block
pub endings-block : (bs : Blocks) (b : Block) → is_ending b ≡ false → all_endings (join bs (one b)) ≡ false
endings-block Nil b h = ap (λ x. x && true) h
endings-block (Cons c bs) b h = ap (λ x. is_ending c && x) (endings-block bs b h) ∙ and_false (is_ending c)

pub front-endings : (bs : Blocks) → all_endings bs ≡ true → front bs ≡ Nil
front-endings Nil h = refl
front-endings (Cons b bs) h = cond-true (all_endings (Cons b bs)) _ _ h

pub trailing-endings : (bs : Blocks) → all_endings bs ≡ true → trailing bs ≡ bs
trailing-endings Nil h = refl
trailing-endings (Cons b bs) h = cond-true (all_endings (Cons b bs)) _ _ h

-- more endings
pub front-more : (bs cs : Blocks) → all_endings cs ≡ true → front (join bs cs) ≡ front bs
front-more Nil cs h = front-endings cs h
front-more (Cons b bs) cs h =
    ap (λ (x : Bool). if x then Nil else Cons b (front (join bs cs))) (endings-join (Cons b bs) cs h)
    ∙ ap (λ x. if all_endings (Cons b bs) then Nil else Cons b x) (front-more bs cs h)

pub trailing-more : (bs cs : Blocks) → all_endings cs ≡ true → trailing (join bs cs) ≡ join (trailing bs) cs
trailing-more Nil cs h = trailing-endings cs h
trailing-more (Cons b bs) cs h =
    ap (λ (x : Bool). if x then Cons b (join bs cs) else trailing (join bs cs)) (endings-join (Cons b bs) cs h)
    ∙ ap (λ x. if all_endings (Cons b bs) then Cons b (join bs cs) else x) (trailing-more bs cs h)
    ∙ branches (all_endings (Cons b bs)) (Cons b bs) (trailing bs)
  where
    branches : (x : Bool) (ds es : Blocks) → (if x then join ds cs else join es cs) ≡ join (if x then ds else es) cs
    branches true ds es = refl
    branches false ds es = refl

-- another block at the end
pub front-block : (bs : Blocks) (b : Block) → is_ending b ≡ false → front (join bs (one b)) ≡ join bs (one b)
front-block Nil b h = cond-false (all_endings (one b)) _ _ (endings-block Nil b h)
front-block (Cons c bs) b h = cond-false (all_endings (Cons c (join bs (one b)))) _ _ (endings-block (Cons c bs) b h) ∙ ap (Cons c) (front-block bs b h)

pub trailing-block : (bs : Blocks) (b : Block) → is_ending b ≡ false → trailing (join bs (one b)) ≡ Nil
trailing-block Nil b h = cond-false (all_endings (one b)) _ _ (endings-block Nil b h)
trailing-block (Cons c bs) b h = cond-false (all_endings (Cons c (join bs (one b)))) _ _ (endings-block (Cons c bs) b h) ∙ trailing-block bs b h

pub trailing-all : (bs : Blocks) → all_endings (trailing bs) ≡ true
trailing-all Nil = refl
trailing-all (Cons b bs) = choose_if (λ (x : Blocks). all_endings x ≡ true) (all_endings (Cons b bs)) (Cons b bs) (trailing bs) (λ h. h) (λ h. trailing-all bs)

pub front-trailing : (bs : Blocks) → join (front bs) (trailing bs) ≡ bs
front-trailing Nil = refl
front-trailing (Cons b bs) =
    parts (all_endings (Cons b bs)) (front-trailing bs)
  where
    parts : (x : Bool) → join (front bs) (trailing bs) ≡ bs → join (if x then Nil else Cons b (front bs)) (if x then Cons b bs else trailing bs) ≡ Cons b bs
    parts true h = refl
    parts false h = ap (Cons b) h

pub rows-split : (bs : Blocks) → rows_of bs ≡ rows_of (front bs) ++ rows_of (trailing bs)
rows-split bs = ap rows_of (sym (front-trailing bs)) ∙ rows_of-join (front bs) (trailing bs)
