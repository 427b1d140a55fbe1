-- Leaves that are alike to what nodes spell.
use Rattle.std.proofs.Common.{◌≡◌, List, [], ◌∷◌, ℕ, map, refl, sym, ap, ◌∙◌}
use Rattle.parse_inline.proofs.Prelude.{ArePartsAlike, Around, Data, Escape, InlineLeaf, Inlines, inlines_of, Leaf, leaves, Meaning, Names, Nodes, part}
use Rattle.parse_inline.proofs.Prelude.{same_name, text_of, text_part, text_within, ◌||◌}
use Rattle.definition_inline.specs.Inline.{Nil, Cons}
use Rattle.event_grammar.specs.Trees as tree
use Rattle.parse_output.specs.Forest as forest
use Rattle.event_meaning.specs.Texts.{append}
use Rattle.engine_events.specs.declared.event.Name.TheVariants as n
use Rattle.std.specs.Prelude.{Bool}
use Rattle.parse_alike.specs.Inline.{leaf_parts}

pub append_none : (is : Inlines) → append is Nil ≡ is
append_none Nil = refl
append_none (Cons i is) = ap (Cons i) (append_none is)

pub append_append : (is js ks : Inlines) → append (append is js) ks ≡ append is (append js ks)
append_append Nil js ks = refl
append_append (Cons i is) js ks = ap (Cons i) (append_append is js ks)

-- nodes spell what they do one after another
pub inlines_append : (names : Names) (text : List ℕ) (linked : Bool) (ns ms : Nodes)
    → inlines_of names text linked (forest.append ns ms) ≡ append (inlines_of names text linked ns) (inlines_of names text linked ms)
inlines_append names text linked tree.Nil ms = refl
inlines_append names text linked (tree.Cons (Around enter kids exit) ns) ms =
    let here =
    text_part names text linked enter.name (text_of text (Around enter kids exit)) kids (text_within names text (linked || same_name enter.name n.Link) kids) in
    ap (append here) (inlines_append names text linked ns ms)
    ∙ sym (append_append here (inlines_of names text linked ns) (inlines_of names text linked ms))

module _ (m m' : Meaning) where
  -- a leaf, which may be cut at its line endings
  pub leaf_alike : (l : InlineLeaf) (js : Inlines) → js ≡ leaf_parts l → ArePartsAlike m m' (leaves (l ∷ [])) js
  leaf_alike l js is = (js, Nil, sym (append_none js), is, refl)

  -- bytes of data, and escapes
  pub data_alike : (bs : List ℕ) → ArePartsAlike m m' (leaves (map Data bs)) (leaves (map Data bs))
  data_alike [] = refl
  data_alike (b ∷ bs) = (part (Leaf (Data b)), leaves (map Data bs), refl, refl, data_alike bs)

  pub escapes_alike : (bs : List ℕ) → ArePartsAlike m m' (leaves (map Escape bs)) (leaves (map Escape bs))
  escapes_alike [] = refl
  escapes_alike (b ∷ bs) = (part (Leaf (Escape b)), leaves (map Escape bs), refl, refl, escapes_alike bs)
