-- Lists only group.
use Rattle.std.proofs.Common.{◌≡◌, ◌≢◌, ℕ, eqb, [], ◌∷◌, ◌++◌, sym, refl, ap, ◌∙◌, inl, inr, append_assoc}
use Rattle.std.proofs.lemmas.Bool.{cases_Bool, cond-true, cond-false, eqb-true, eqb-false}
use Rattle.definition_block.specs.Tree.{Block, Holds, Items, Blocks, Nil, Cons, join, is_ending}
use Rattle.definition_block.specs.Lists.{endings_of, after_endings, item_marker, list_marker, list_items, rest_of, before_list, put_before, grouped_block}
use Rattle.definition_block.specs.Lists.{group_items}
use Rattle.block_rows.specs.Rows.{Exit, start_row, block_rows, rows_of}
use Rattle.laws_block.specs.GroupedRows.{ListsOnlyGroup}

rows-join : (bs cs : Blocks) → rows_of (join bs cs) ≡ rows_of bs ++ rows_of cs
rows-join Nil cs = refl
rows-join (Cons b bs) cs = ap (λ rows. block_rows b ++ rows) (rows-join bs cs) ∙ sym (append_assoc (block_rows b) (rows_of bs) (rows_of cs))

-- the endings at the front, and what follows them
rows_split : (bs : Blocks) → rows_of bs ≡ rows_of (endings_of bs) ++ rows_of (after_endings bs)
rows_split Nil = refl
rows_split (Cons b bs) = elim (cases_Bool (is_ending b)) [
  | inl e ↦
      ap (λ rows. block_rows b ++ rows) (rows_split bs)
      ∙ sym (append_assoc (block_rows b) (rows_of (endings_of bs)) (rows_of (after_endings bs)))
      ∙ sym (ap (λ x. rows_of x ++ rows_of (after_endings (Cons b bs))) (cond-true _ _ _ e)
      ∙ ap (λ x. rows_of (Cons b (endings_of bs)) ++ rows_of x) (cond-true _ _ _ e))
  | inr e ↦
      sym (ap (λ x. rows_of x ++ rows_of (after_endings (Cons b bs))) (cond-false _ _ _ e) ∙ ap rows_of (cond-false _ _ _ e))
]

-- the items of a list that comes first, and what follows it
rows_listed : (marker : ℕ) (bs : Blocks) → marker ≢ 0 → list_marker bs ≡ marker → rows_of bs ≡ rows_of (list_items bs) ++ rows_of (rest_of bs)
rows_listed marker Nil n e = absurd (n (sym e))
rows_listed marker (Cons (Items items) bs) n e = refl
rows_listed marker (Cons b bs) n e = absurd (n (sym e))

rows_before_list : (marker : ℕ) (item : Block) (bs : Blocks) → marker ≢ 0 → rows_of (before_list marker item bs) ≡ block_rows item ++ rows_of bs
rows_before_list marker item bs n =
    let list = after_endings bs in
    let endings = endings_of bs in
    elim (cases_Bool (eqb (list_marker list) marker)) [
      | inl e ↦
          ap rows_of (cond-true _ _ _ e)
          ∙ append_assoc (block_rows item) (rows_of (join endings (list_items list))) (rows_of (rest_of list))
          ∙ ap (λ rows. block_rows item ++ rows)
          (ap (λ rows. rows ++ rows_of (rest_of list)) (rows-join endings (list_items list))
          ∙ append_assoc (rows_of endings) (rows_of (list_items list)) (rows_of (rest_of list))
          ∙ ap (λ rows. rows_of endings ++ rows) (sym (rows_listed marker list n (eqb-true (list_marker list) marker e)))
          ∙ sym (rows_split bs))
      | inr e ↦ ap rows_of (cond-false _ _ _ e) ∙ append_assoc (block_rows item) [] (rows_of bs)
    ]

rows_before : (b : Block) (bs : Blocks) → rows_of (put_before b bs) ≡ block_rows b ++ rows_of bs
rows_before b bs = elim (cases_Bool (eqb (item_marker b) 0)) [
  | inl e ↦ ap rows_of (cond-true _ _ _ e)
  | inr e ↦ ap rows_of (cond-false _ _ _ e) ∙ rows_before_list (item_marker b) b bs (eqb-false (item_marker b) 0 e)
]

mutual
  block_only_groups : (b : Block) → block_rows (grouped_block b) ≡ block_rows b
  block_only_groups (Holds c kids) = ap (λ rows. start_row c ∷ (rows ++ Exit ∷ [])) (lists_only_group kids)
  block_only_groups b = refl

  pub lists_only_group : ListsOnlyGroup
  lists_only_group Nil = refl
  lists_only_group (Cons b bs) =
      rows_before (grouped_block b) (group_items bs)
      ∙ ap (λ rows. rows ++ rows_of (group_items bs)) (block_only_groups b)
      ∙ ap (λ rows. block_rows b ++ rows) (lists_only_group bs)
