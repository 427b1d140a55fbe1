-- What is known of some events beside their rows and what they spell. The grammar asks that calls of footnotes hold strings alone, that references decode, and
-- that a heading begins with at most six `#` (CommonMark 2.5 and 4.2, GFM footnotes). Where the page doesn't tell which construct made an event, that one is on.
-- Strings, raw HTML, paragraphs and the texts of headings hold something. Raw HTML in a text begins with a `<` (CommonMark 6.6).
use Rattle.std.specs.Prelude.{◌≡◌, ℕ, Bool, true, false, if◌then◌else◌, List, [], ◌∷◌, Option, None, Some, slice_index}
use Rattle.definition_text.specs.Ascii.{less_than}
use Rattle.markdown_options.specs.declared.configuration.Constructs.{Constructs}
use Rattle.engine_events.specs.Names.{is_listed, same_name}
use Rattle.engine_events.specs.declared.event.Name.{Name}
use Rattle.engine_events.specs.declared.event.Name.TheVariants as n
use Rattle.definition_inline.specs.CharacterReference.{Names}
use Rattle.event_grammar.specs.Facts.{decodes, is_size}
use Rattle.event_grammar.specs.InGrammar.{node_name}
use Rattle.event_grammar.specs.Points.{bytes_between, edge, spot_of}
use Rattle.event_grammar.specs.Trees.{Node, Nodes, Around, Nil, Cons}
use Rattle.event_tokens.specs.Shape.{full_names}
pub use Rattle.event_tokens.specs.Shape.{outside_strings}
use Rattle.parse_output.specs.Forest.{is_nil}
use Rattle.parse_references.specs.Leads.{AreWithout}

-- the names of events for whose children there is a rule beside their row
abbrev pub ruled_names : List Name
ruled_names = n.GfmFootnoteCall ∷ n.CharacterReference ∷ n.HeadingAtx ∷ n.HtmlText ∷ []

-- the names of events whose children are asked for more than their row: these, and those that hold something
abbrev pub holding_names : List Name
holding_names = n.GfmFootnoteCall ∷ n.CharacterReference ∷ n.HeadingAtx ∷ full_names

-- these, and the names of events whose construct the page doesn't tell
abbrev pub asked_names : List Name
asked_names =
    n.GfmFootnoteCall ∷ n.CharacterEscape ∷ n.CharacterReference ∷ n.GfmAutolinkLiteralEmail ∷ n.GfmAutolinkLiteralMailto ∷ n.GfmAutolinkLiteralProtocol
    ∷ n.GfmAutolinkLiteralWww ∷ n.GfmAutolinkLiteralXmpp ∷ n.HeadingAtx ∷ n.HeadingSetext ∷ n.CodeFenced ∷ n.MathFlow ∷ n.Frontmatter ∷ full_names

-- Whether the construct is on that makes events of this name, which the page doesn't tell. In a destination, a title or an info it has the characters of escapes
-- and references alone, and in the text of a link the bytes of literals. Raw HTML without data is nothing on it, nor is frontmatter. Both kinds of headings
-- print alike, and so do math and fenced code whose info is that of math, written with a character reference.
abbrev pub is_asked_on : Constructs → Name → Bool
is_asked_on on n.CharacterEscape = on.character_escape
is_asked_on on n.CharacterReference = on.character_reference
is_asked_on on n.GfmAutolinkLiteralEmail = on.gfm_autolink_literal
is_asked_on on n.GfmAutolinkLiteralMailto = on.gfm_autolink_literal
is_asked_on on n.GfmAutolinkLiteralProtocol = on.gfm_autolink_literal
is_asked_on on n.GfmAutolinkLiteralWww = on.gfm_autolink_literal
is_asked_on on n.GfmAutolinkLiteralXmpp = on.gfm_autolink_literal
is_asked_on on n.HtmlText = on.html_text
is_asked_on on n.HeadingAtx = on.heading_atx
is_asked_on on n.HeadingSetext = on.heading_setext
is_asked_on on n.CodeFenced = on.code_fenced
is_asked_on on n.MathFlow = on.math_flow
is_asked_on on n.Frontmatter = on.frontmatter
is_asked_on on name = true

module _ (names : Names) (text : List ℕ) where
  abbrev pub node_bytes : Node → List ℕ
  node_bytes (Around enter kids exit) = bytes_between text (spot_of enter) (spot_of exit)

  -- what stands before the next child: white space stands between children
  abbrev pub sibling_after : Option Name → Name → Option Name
  sibling_after sibling name = if same_name name n.SpaceOrTab then sibling else Some name

  -- the values among these children decode, where this sibling is before them
  abbrev pub Decode : Option Name → Nodes → Type 0
  Decode sibling Nil = Unit {0}
  Decode sibling (Cons node ns) =
      (same_name (node_name node) n.CharacterReferenceValue ≡ true → decodes names sibling (node_bytes node) ≡ true)
      × Decode (sibling_after sibling (node_name node)) ns

  -- the first sequence among these children has at most six bytes
  abbrev pub IsRank : Nodes → Type 0
  IsRank Nil = Unit {0}
  IsRank (Cons node ns) =
      (same_name (node_name node) n.HeadingAtxSequence ≡ true → is_size 6 (node_bytes node) ≡ true)
      × (same_name (node_name node) n.HeadingAtxSequence ≡ false → IsRank ns)

-- the first of these nodes begins at a `<`
abbrev pub BeginTag : List ℕ → Nodes → Type 0
BeginTag text Nil = Unit {0}
BeginTag text (Cons (Around enter kids exit) ns) = slice_index text (edge (spot_of enter)) ≡ less_than

module _ (on : Constructs) (names : Names) (text : List ℕ) where
  -- the construct of an event of a name is on, and its children are as the grammar asks
  pub record HoldsAsked (name : Name) (kids : Nodes) : Type 0 where
    pub is_on : is_asked_on on name ≡ true
    pub call : name ≡ n.GfmFootnoteCall → AreWithout outside_strings kids
    pub reference : name ≡ n.CharacterReference → Decode names text None kids
    pub heading : name ≡ n.HeadingAtx → IsRank names text kids
    pub html : name ≡ n.HtmlText → BeginTag text kids
    pub some : is_listed full_names name ≡ true → is_nil kids ≡ false

  abbrev mutual
    pub IsSound : Node → Type 0
    IsSound (Around enter kids exit) = HoldsAsked enter.name kids × AreSound kids

    pub AreSound : Nodes → Type 0
    AreSound Nil = Unit {0}
    AreSound (Cons node ns) = IsSound node × AreSound ns
