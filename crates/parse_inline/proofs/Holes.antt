-- What becomes of the steps of a tree: the tree.
use Rattle.std.proofs.Common.{◌≡◌, Bool, true, false, ◌||◌, List, [], ◌∷◌, ◌++◌, map, refl, sym, ap, subst, ◌∙◌, append_assoc}
use Rattle.parse_inline.proofs.Prelude.{append-nil, AreLinkable, filled, Holds, Image, in_link, InlineLeaf, Inlines, Leaf, leaves, Link, or_parts, part, Step}
use Rattle.parse_inline.proofs.Prelude.{steps_of}
use Rattle.definition_inline.specs.Inline.{Literal, Inline, Span, Linked, Call, Nil, Cons}
use Rattle.event_meaning.specs.Texts.{append}
use Rattle.laws_inline.specs.NestedLinks.{is_leading, is_literal, is_nesting}
use Rattle.laws_inline.specs.Occurs.{has, part_has}
use Rattle.parse_written.specs.Laid.{Leaves, part_steps}
use Rattle.parse_inline.specs.Holes.{Hole, hole, IsLinkable}

pub parts_assoc : (is js ks : Inlines) → append (append is js) ks ≡ append is (append js ks)
parts_assoc Nil js ks = refl
parts_assoc (Cons i is) js ks = ap (Cons i) (parts_assoc is js ks)

pub parts_none : (is : Inlines) → append is Nil ≡ is
parts_none Nil = refl
parts_none (Cons i is) = ap (Cons i) (parts_none is)

-- ---- the tree

mutual
  filled_part : (i : Inline) (holes : List Hole) (kids : Inlines) (ss : List Step)
      → filled holes kids (part_steps i ++ ss) ≡ filled holes (append kids (part i)) ss
  filled_part (Leaf l) holes kids ss = refl
  filled_part (Call label) holes kids ss = refl
  filled_part (Span kind is) holes kids ss =
      let open_here = hole kids (Span kind) ∷ holes in
      ap (filled open_here Nil) (append_assoc (steps_of is) (Leaves ∷ []) ss) ∙ filled_parts is open_here Nil (Leaves ∷ ss)
  filled_part (Linked kind target is) holes kids ss =
      let open_here = hole kids (Linked kind target) ∷ holes in
      ap (filled open_here Nil) (append_assoc (steps_of is) (Leaves ∷ []) ss) ∙ filled_parts is open_here Nil (Leaves ∷ ss)

  filled_parts : (is : Inlines) (holes : List Hole) (kids : Inlines) (ss : List Step) → filled holes kids (steps_of is ++ ss) ≡ filled holes (append kids is) ss
  filled_parts Nil holes kids ss = ap (λ k. filled holes k ss) (sym (parts_none kids))
  filled_parts (Cons i is) holes kids ss =
      ap (filled holes kids) (append_assoc (part_steps i) (steps_of is) ss) ∙ filled_part i holes kids (steps_of is ++ ss)
      ∙ filled_parts is holes (append kids (part i)) ss ∙ ap (λ k. filled holes k ss) (parts_assoc kids (part i) is)

-- all of them
pub filled_whole : (is : Inlines) → filled [] Nil (steps_of is) ≡ is
filled_whole is = ap (filled [] Nil) (sym (append-nil (steps_of is))) ∙ filled_parts is [] Nil []

-- leaves
pub filled_held : (ls : List InlineLeaf) (holes : List Hole) (kids : Inlines) (ss : List Step)
    → filled holes kids (map Holds ls ++ ss) ≡ filled holes (append kids (leaves ls)) ss
filled_held [] holes kids ss = ap (λ k. filled holes k ss) (sym (parts_none kids))
filled_held (l ∷ ls) holes kids ss =
    filled_held ls holes (append kids (part (Leaf l))) ss ∙ ap (λ k. filled holes k ss) (parts_assoc kids (part (Leaf l)) (leaves ls))

-- ---- literals

leaf_linkable : (l : InlineLeaf) → is_literal l ≡ false → IsLinkable l
leaf_linkable (Literal kind text) none = absurd cc
leaf_linkable l none = tt

or_none : (b : Bool) → (b || false) ≡ b
or_none true = refl
or_none false = refl

in_span : (links : List Bool) → in_link (false ∷ links) ≡ true → in_link links ≡ true
in_span links e = sym (or_none (in_link links)) ∙ e

mutual
  linkable_part : (i : Inline) (links : List Bool) (ss : List Step) → part_has is_nesting i ≡ false → (in_link links ≡ true → part_has is_leading i ≡ false)
      → AreLinkable links ss → AreLinkable links (part_steps i ++ ss)
  linkable_part (Leaf l) links ss flat free p = (λ e. leaf_linkable l (free e), p)
  linkable_part (Call label) links ss flat free p = p
  linkable_part (Span kind kids) links ss flat free p =
      subst (AreLinkable (false ∷ links)) (sym (append_assoc (steps_of kids) (Leaves ∷ []) ss))
      (linkable_parts kids (false ∷ links) (Leaves ∷ ss) flat (λ e. free (in_span links e)) p)
  linkable_part (Linked Link target kids) links ss flat free p =
      let none = or_parts (has is_leading kids) (has is_nesting kids) flat in
      subst (AreLinkable (true ∷ links)) (sym (append_assoc (steps_of kids) (Leaves ∷ []) ss))
      (linkable_parts kids (true ∷ links) (Leaves ∷ ss) none.1 (λ e. none.0) p)
  linkable_part (Linked Image target kids) links ss flat free p =
      subst (AreLinkable (false ∷ links)) (sym (append_assoc (steps_of kids) (Leaves ∷ []) ss))
      (linkable_parts kids (false ∷ links) (Leaves ∷ ss) flat (λ e. free (in_span links e)) p)

  linkable_parts : (is : Inlines) (links : List Bool) (ss : List Step) → has is_nesting is ≡ false → (in_link links ≡ true → has is_leading is ≡ false)
      → AreLinkable links ss → AreLinkable links (steps_of is ++ ss)
  linkable_parts Nil links ss flat free p = p
  linkable_parts (Cons i is) links ss flat free p =
      let none = or_parts (part_has is_nesting i) (has is_nesting is) flat in
      subst (AreLinkable links) (sym (append_assoc (part_steps i) (steps_of is) ss))
      (linkable_part i links (steps_of is ++ ss) none.0 (λ e. (or_parts (part_has is_leading i) (has is_leading is) (free e)).0)
      (linkable_parts is links ss none.1 (λ e. (or_parts (part_has is_leading i) (has is_leading is) (free e)).1) p))

pub linkable_steps : (is : Inlines) → has is_nesting is ≡ false → AreLinkable [] (steps_of is)
linkable_steps is flat =
    let outside : in_link [] ≡ true → has is_leading is ≡ false = λ e. absurd cc in
    subst (AreLinkable []) (append-nil (steps_of is)) (linkable_parts is [] [] flat outside tt)

-- after leaves
pub linkable_held : (ls : List InlineLeaf) (links : List Bool) (ss : List Step) → AreLinkable links (map Holds ls ++ ss) → AreLinkable links ss
linkable_held [] links ss p = p
linkable_held (l ∷ ls) links ss p = linkable_held ls links ss p.1
