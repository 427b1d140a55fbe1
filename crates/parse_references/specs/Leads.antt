-- Where links, images and calls of footnotes lead, in nodes and in inline structure, and that no link and no call is in a link (CommonMark 6.3).
use Rattle.std.specs.Prelude.{◌≡◌, ℕ, Bool, true, false, ◌&&◌, ◌||◌, List, map, is_some}
use Rattle.engine_events.specs.Names.{same_name, is_listed}
use Rattle.engine_events.specs.declared.event.Name.{Name}
use Rattle.engine_events.specs.declared.event.Name.TheVariants as n
use Rattle.definition_text.specs.Columns.{Code}
use Rattle.definition_text.specs.Content.{content_codes}
use Rattle.definition_inline.specs.Inline.{Target, Resource, Reference, LinkedKind, Link, Image, Inline, Leaf, Span, Linked, Call, Inlines}
use Rattle.definition_inline.specs.Inline as inline
use Rattle.definition_inline.specs.LabelMatch.{first_match}
use Rattle.event_grammar.specs.Grammar.{link_names}
use Rattle.event_grammar.specs.References.{leads_on, media_names}
use Rattle.event_grammar.specs.Trees.{Node, Nodes, Around, Nil, Cons}
use Rattle.parse_alike.specs.Targets.{AreLabelsAlike}

-- ---- nodes

-- none of these names is that of one of these, at any depth
abbrev mutual
  pub IsWithout : List Name → Node → Type 0
  IsWithout off (Around enter kids exit) = (is_listed off enter.name ≡ false) × AreWithout off kids

  pub AreWithout : List Name → Nodes → Type 0
  AreWithout off Nil = Unit {0}
  AreWithout off (Cons node ns) = IsWithout off node × AreWithout off ns

-- no link, image or call is among these, at any depth
abbrev pub IsBare : Node → Type 0
IsBare = IsWithout media_names

abbrev pub AreBare : Nodes → Type 0
AreBare = AreWithout media_names

-- each call of a footnote is bare inside: its label is a string
abbrev mutual
  pub HoldsBareCalls : Node → Type 0
  HoldsBareCalls (Around enter kids exit) = (same_name enter.name n.GfmFootnoteCall ≡ true → AreBare kids) × HoldBareCalls kids

  pub HoldBareCalls : Nodes → Type 0
  HoldBareCalls Nil = Unit {0}
  HoldBareCalls (Cons node ns) = HoldsBareCalls node × HoldBareCalls ns

-- These are the labels of the definitions of links, and of footnotes, of a text.
module _ (bytes : List ℕ) (links footnotes : List (List ℕ)) where
  abbrev mutual
    -- A node leads on, in a link or a call or outside: no link and no call is in another, and what needs a definition has one.
    pub LeadsOn : Bool → Node → Type 0
    LeadsOn linked (Around enter kids exit) =
        ((linked && is_listed link_names enter.name) ≡ false) × (leads_on bytes links footnotes enter.name kids ≡ true)
        × LeadOn (linked || is_listed link_names enter.name) kids

    pub LeadOn : Bool → Nodes → Type 0
    LeadOn linked Nil = Unit {0}
    LeadOn linked (Cons node ns) = LeadsOn linked node × LeadOn linked ns

-- ---- inline structure

abbrev pub is_link : LinkedKind → Bool
is_link Link = true
is_link Image = false

-- what a text is read by: whether a label is that of a definition of a link, and of a footnote
module _ (is_defined is_footnote : List Code → Bool) where
  abbrev pub TargetLeads : Target → Type 0
  TargetLeads (Resource destination title) = Unit {0}
  TargetLeads (Reference label) = is_defined label ≡ true

  abbrev mutual
    -- the same of a part, in a link or outside
    pub PartLeads : Bool → Inline → Type 0
    PartLeads linked (Leaf l) = Unit {0}
    PartLeads linked (Span kind kids) = PartsLead linked kids
    PartLeads linked (Linked kind target kids) = ((linked && is_link kind) ≡ false) × TargetLeads target × PartsLead (linked || is_link kind) kids
    PartLeads linked (Call label) = (linked ≡ false) × (is_footnote label ≡ true)

    pub PartsLead : Bool → Inlines → Type 0
    PartsLead linked inline.Nil = Unit {0}
    PartsLead linked (inline.Cons i is) = PartLeads linked i × PartsLead linked is

-- ---- labels

-- whether a label is one of these
abbrev pub is_among : List (List ℕ) → List Code → Bool
is_among labels label = is_some (first_match label (map content_codes labels))

-- what passes a test passes another one, by a label that matches
abbrev pub AreKept : (List Code → Bool) → (List Code → Bool) → Type 0
AreKept test other = (label label' : List Code) → AreLabelsAlike label label' → test label ≡ true → other label' ≡ true

-- all labels that a text is read by are among these
pub record AreLabelsOf (is_defined is_footnote : List Code → Bool) (links footnotes : List (List ℕ)) : Type 0 where
  pub defined : AreKept is_defined (is_among links)
  pub called : AreKept is_footnote (is_among footnotes)
