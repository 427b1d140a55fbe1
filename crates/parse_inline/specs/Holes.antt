-- Inline structure in the making: the parts that are read of it from left to right, and what is open around them (CommonMark 6).
use Rattle.std.specs.Prelude.{◌≡◌, Bool, true, false, ◌||◌, List, [], ◌∷◌}
use Rattle.definition_inline.specs.Inline.{InlineLeaf, Literal, Link, Image, Inline, Leaf, Span, Linked, Call, Inlines, Nil}
use Rattle.event_meaning.specs.Texts.{append, part}
use Rattle.parse_written.specs.Laid.{Step, Holds, EntersSpan, EntersLinked, Leaves, HoldsCall}

-- what is open: the parts before it, and what it makes of those in it
pub record Hole : Type 0 where
  pub before : Inlines
  pub around : Inlines → Inline

abbrev pub hole : Inlines → (Inlines → Inline) → Hole
hole before around = record { before = before; around = around }

-- what parts become with the steps after them, where these are open, the innermost first
abbrev pub filled : List Hole → Inlines → List Step → Inlines
filled holes kids [] = kids
filled holes kids (Holds l ∷ steps) = filled holes (append kids (part (Leaf l))) steps
filled holes kids (HoldsCall label ∷ steps) = filled holes (append kids (part (Call label))) steps
filled holes kids (EntersSpan kind ∷ steps) = filled (hole kids (Span kind) ∷ holes) Nil steps
filled holes kids (EntersLinked kind target ∷ steps) = filled (hole kids (Linked kind target) ∷ holes) Nil steps
filled [] kids (Leaves ∷ steps) = kids
filled (h ∷ holes) kids (Leaves ∷ steps) = filled holes (append h.before (part (h.around kids))) steps

-- ---- literals stand in no link (CommonMark 6.3 and GFM 6.9)

-- whether one of what is open is a link
abbrev pub in_link : List Bool → Bool
in_link [] = false
in_link (is_link ∷ others) = in_link others || is_link

abbrev pub IsLinkable : InlineLeaf → Type 0
IsLinkable (Literal kind text) = ⊥
IsLinkable l = Unit {0}

-- in links, no step is a literal; it is known of what is open whether it is a link
abbrev pub AreLinkable : List Bool → List Step → Type 0
AreLinkable links [] = Unit {0}
AreLinkable links (Holds l ∷ steps) = (in_link links ≡ true → IsLinkable l) × AreLinkable links steps
AreLinkable links (HoldsCall label ∷ steps) = AreLinkable links steps
AreLinkable links (EntersSpan kind ∷ steps) = AreLinkable (false ∷ links) steps
AreLinkable links (EntersLinked Link target ∷ steps) = AreLinkable (true ∷ links) steps
AreLinkable links (EntersLinked Image target ∷ steps) = AreLinkable (false ∷ links) steps
AreLinkable [] (Leaves ∷ steps) = ⊥
AreLinkable (is_link ∷ links) (Leaves ∷ steps) = AreLinkable links steps
