-- What is written of a construct that holds no other (CommonMark 2.4, 2.5, 6.1 and 6.5 to 6.8).
use Rattle.std.specs.Prelude.{◌≡◌, ℕ, Bool, false, true, List, [], ◌∷◌, ◌++◌, take}
use Rattle.markdown_options.specs.declared.configuration.Constructs.{Constructs}
use Rattle.markdown_options.specs.LineEndings.{ending_bytes}
use Rattle.markdown_options.specs.declared.line_ending.LineEnding.{LineEnding}
use Rattle.engine_events.specs.declared.event.Name.{Name}
use Rattle.engine_events.specs.declared.event.Name.TheVariants as n
use Rattle.definition_text.specs.Ascii.{greater_than, less_than}
use Rattle.definition_text.specs.Columns.{indent}
use Rattle.definition_text.specs.InlineCode.{InlineCode}
use Rattle.definition_inline.specs.CharacterReference.{Names}
use Rattle.definition_inline.specs.Inline.{InlineLeaf}
use Rattle.definition_page.specs.InlinePieces.{Meaning}
use Rattle.event_grammar.specs.Trees.{Nodes}
use Rattle.event_meaning.specs.Texts.{inlines_of, leaves}
use Rattle.parse_lines.specs.declared.walk.Walk.{Walk}
use Rattle.parse_lines.specs.InContent.{IsWhole, Stop, WritesInContent}
use Rattle.parse_references.specs.Sound.{AreSound}
use Rattle.parse_strings.specs.Plain.{ArePlain}
use Rattle.inline_leaves.specs.Leaves.{parts_of}
use Rattle.inline_leaves.specs.declared.leaf.LiteralKind.{LiteralKind}
use Rattle.inline_leaves.specs.declared.leaf.LiteralKind.TheVariants.{Www, Protocol, Email}
use Rattle.inline_leaves.specs.declared.leaf.LeafPart.{LeafPart}
use Rattle.inline_leaves.specs.declared.leaf.LeafPart.TheVariants.{Literal}
use Rattle.inline_rows.specs.View.{spelled_view}
use Rattle.inline_rows.specs.declared.row.SpelledLeaf.{SpelledLeaf}
use Rattle.parse_alike.specs.Inline.{ArePartsAlike}
use Rattle.parse_written.specs.Bytes.{AreBytesAt}
use Rattle.parse_inline.specs.Texts.{FillsText}

-- the names of a literal of a kind (GFM 6.9)
abbrev pub literal_names : LiteralKind → List Name
literal_names Www = n.GfmAutolinkLiteralWww ∷ []
literal_names Email = n.GfmAutolinkLiteralEmail ∷ []
literal_names Protocol = n.GfmAutolinkLiteralMailto ∷ n.GfmAutolinkLiteralXmpp ∷ n.GfmAutolinkLiteralProtocol ∷ []

-- the name of an address or a URI
abbrev pub address_name : Bool → Name
address_name true = n.AutolinkEmail
address_name false = n.AutolinkProtocol

-- the name of what stands between the brackets of a check (GFM 5.3)
abbrev pub check_name : Bool → Name
check_name true = n.GfmTaskListItemValueChecked
check_name false = n.GfmTaskListItemValueUnchecked

-- an address between `<` and `>` (CommonMark 6.5)
abbrev pub in_angles : List ℕ → List ℕ
in_angles address = less_than ∷ (address ++ greater_than ∷ [])

-- the spaces and tabs that bytes begin with, a line ending, and the spaces and tabs that the rest begins with (CommonMark 6.8)
abbrev pub line_end : List ℕ → LineEnding → List ℕ → List ℕ
line_end bytes ending rest = take (indent bytes) bytes ++ (ending_bytes ending ++ take (indent rest) rest)

-- a literal isn't in a link (GFM 6.9)
abbrev pub MayBeIn : Bool → LeafPart → Type 0
MayBeIn linked (Literal kind text) = linked ≡ false
MayBeIn linked part = Unit {0}

-- in a link and outside of links
abbrev pub Anywhere : Bool → Type 0
Anywhere linked = Unit {0}

-- nodes are written for these bytes, which spell leaves in a text in which these may be, and the bytes after them are ahead
pub record WritesFront {A : Type 0} (on : Constructs) (names : Names) (text front content : List ℕ) (MayBe : Bool → Type 0) (ls : List InlineLeaf)
    (stop : Stop) (old new : Walk A) : Type 0 where
  pub nodes : Nodes
  pub writes : WritesInContent text front nodes content stop old new
  pub whole : IsWhole new
  pub plain : ArePlain nodes
  pub spells : (linked : Bool) → MayBe linked → inlines_of names text linked nodes ≡ leaves ls
  pub fill : FillsText front nodes
  pub sound : AreSound on names text nodes

-- nodes are written for the first of these bytes, the others are ahead, and the nodes spell these leaves in a text in which they may be
pub record WritesLeaves {A : Type 0} (on : Constructs) (names : Names) (text bytes : List ℕ) (MayBe : Bool → Type 0) (ls : List InlineLeaf)
    (to : List InlineCode) (stop : Stop) (old new : Walk A) : Type 0 where
  pub front : List ℕ
  pub after : List ℕ
  pub parts : bytes ≡ front ++ after
  pub left : AreBytesAt after to
  pub nodes : Nodes
  pub writes : WritesInContent text front nodes after stop old new
  pub whole : IsWhole new
  pub plain : ArePlain nodes
  pub spells : (linked : Bool) → MayBe linked → (m m' : Meaning) → ArePartsAlike m m' (leaves ls) (inlines_of names text linked nodes)
  pub fill : FillsText front nodes
  pub sound : AreSound on names text nodes

-- a construct is written
abbrev pub WritesPart : {A : Type 0} → Constructs → Names → List ℕ → List ℕ → LeafPart → List InlineCode → Stop → Walk A → Walk A → Type 0
WritesPart on names text bytes part to stop old new = WritesLeaves on names text bytes (λ linked. MayBeIn linked part) (parts_of part) to stop old new

-- a construct that a list of events spells is written
abbrev pub WritesSpelled : {A : Type 0} → Constructs → Names → List ℕ → List ℕ → SpelledLeaf → List InlineCode → Stop → Walk A → Walk A → Type 0
WritesSpelled on names text bytes leaf to stop old new = WritesLeaves on names text bytes Anywhere (spelled_view leaf ∷ []) to stop old new
