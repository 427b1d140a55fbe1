-- Texts: the inline structure that events spell (CommonMark 6).
use Rattle.std.specs.Prelude.{ℕ, Bool, true, false, ◌||◌, if◌then◌else◌, List, [], ◌∷◌, ◌++◌, Option, None, Some, is_some, map}
use Rattle.std.specs.List.{flat_map}
use Rattle.engine_events.specs.Names.{same_name, is_listed}
use Rattle.engine_events.specs.declared.event.Name.{Name}
use Rattle.engine_events.specs.declared.event.Name.TheVariants as n
use Rattle.definition_text.specs.Ascii.{space}
use Rattle.definition_text.specs.Columns.{Code as ContentCode}
use Rattle.definition_text.specs.Content.{content_codes, ending_code}
use Rattle.definition_text.specs.Lines.{TextLine, lines}
use Rattle.definition_inline.specs.CharacterReference.{Names}
use Rattle.definition_inline.specs.CodeText.{without_padding}
use Rattle.definition_inline.specs.Inline.{Target, Resource, Reference, LiteralKind, Www, Protocol, Email, InlineLeaf, Data, Escape, Character, Code, Math}
use Rattle.definition_inline.specs.Inline.{Autolink, Literal, Html, EscapedBreak, TrailingBreak, LineEnd, TaskCheck, Emphasis, Strong, Strikethrough, Mark}
use Rattle.definition_inline.specs.Inline.{Link, Image, Inline, Leaf, Span, Linked, Call, Inlines}
use Rattle.definition_inline.specs.Inline as inline
use Rattle.event_grammar.specs.InGrammar.{node_name}
use Rattle.event_grammar.specs.References.{own, own_label}
use Rattle.event_grammar.specs.Trees.{Node, Nodes, Around, Nil, Cons}
use Rattle.event_meaning.specs.Children.{child, inside_of, after_child, before_child, text_of, text_in, spaced_text_of}
use Rattle.event_meaning.specs.Strings.{reference_text_of, string_of, written}

abbrev pub append : Inlines → Inlines → Inlines
append inline.Nil others = others
append (inline.Cons i is) others = inline.Cons i (append is others)

abbrev pub part : Inline → Inlines
part i = inline.Cons i inline.Nil

-- leaves, one after another
abbrev pub leaves : List InlineLeaf → Inlines
leaves [] = inline.Nil
leaves (l ∷ ls) = inline.Cons (Leaf l) (leaves ls)

-- the events that hold the text of another
abbrev pub text_names : List Name
text_names =
    n.EmphasisText ∷ n.StrongText ∷ n.GfmStrikethroughText ∷ n.MarkText ∷ n.LabelText ∷ n.HeadingAtxText ∷ n.HeadingSetextText ∷ n.GfmTableCellText ∷ []

-- an ending is a leaf by its code; the same for the endings in a text
abbrev pub endings : List ℕ → Inlines
endings text = leaves (map LineEnd (content_codes text))

-- a piece of raw HTML that isn't empty
abbrev pub html_piece : List ℕ → List InlineLeaf
html_piece [] = []
html_piece (b ∷ bs) = Html (content_codes (b ∷ bs)) ∷ []

-- a line of raw HTML with all its bytes, and its ending
abbrev pub html_line : TextLine → List InlineLeaf
html_line line = html_piece line.content ++ map LineEnd (ending_code line.ending)

-- data of raw HTML is read line by line (CommonMark 2.1 and 6.6)
abbrev pub html_data : List ℕ → List InlineLeaf
html_data text = flat_map html_line (lines text)

module _ (names : Names) (bytes : List ℕ) where
  -- ---- code and math

  -- a line ending is a space in code, and columns of a tab are spaces
  abbrev pub code_part : Name → Node → List ℕ
  code_part n.LineEnding node = space ∷ []
  code_part n.CodeTextData node = spaced_text_of bytes node
  code_part n.MathTextData node = spaced_text_of bytes node
  code_part name node = []

  abbrev pub code_parts : Nodes → List ℕ
  code_parts Nil = []
  code_parts (Cons node ns) = code_part (node_name node) node ++ code_parts ns

  -- the text of code between its sequences (CommonMark 6.1)
  abbrev pub code_of : Name → Nodes → List ℕ
  code_of sequence kids = without_padding (code_parts (before_child sequence (after_child sequence kids)))

  -- ---- raw HTML: lines and endings, each by itself

  abbrev pub html_part : Name → List ℕ → Inlines
  html_part n.HtmlTextData text = leaves (html_data text)
  html_part n.LineEnding text = endings text
  html_part name text = inline.Nil

  abbrev pub html_parts : Nodes → Inlines
  html_parts Nil = inline.Nil
  html_parts (Cons node ns) = append (html_part (node_name node) (text_of bytes node)) (html_parts ns)

  -- ---- links

  -- an address with its brackets off: that of an email, or another
  abbrev pub autolink_of : Nodes → InlineLeaf
  autolink_of kids =
      if is_some (child n.AutolinkEmail kids) then Autolink true (text_in bytes n.AutolinkEmail kids)
      else Autolink false (text_in bytes n.AutolinkProtocol kids)

  -- what a string spells, as it is written, or nothing where there is none
  abbrev pub written_string : Option Node → List ContentCode
  written_string string = written (string_of names bytes (inside_of string))

  -- the destination and the title of a link or an image with a resource (CommonMark 6.3)
  abbrev pub resource_of : Nodes → Target
  resource_of kids = Resource (written_string (own n.ResourceDestinationString kids)) (Some (written_string (own n.ResourceTitleString kids)))

  abbrev pub label_or_none : Option (List ℕ) → List ContentCode
  label_or_none None = []
  label_or_none (Some label) = content_codes label

  -- the label of a link, an image or a call without a resource
  abbrev pub label_codes : Nodes → List ContentCode
  label_codes kids = label_or_none (own_label bytes kids)

  -- where a link or an image leads
  abbrev pub target_of : Nodes → Target
  target_of kids = if is_some (own n.Resource kids) then resource_of kids else Reference (label_codes kids)

  -- ---- parts

  -- a literal; in a link it is its text alone
  abbrev pub literal_of : Bool → LiteralKind → List ℕ → Inlines
  literal_of linked kind text = if linked then leaves (map Data text) else part (Leaf (Literal kind text))

  -- what an event in a text spells, where it is in a link or isn't, by its bytes, its children, and what the text in it spells
  abbrev pub text_part : Bool → Name → List ℕ → Nodes → Inlines → Inlines
  text_part linked n.Data text kids inner = leaves (map Data text)
  text_part linked n.LineEnding text kids inner = endings text
  text_part linked n.CharacterEscape text kids inner = leaves (map Escape (text_in bytes n.CharacterEscapeValue kids))
  text_part linked n.CharacterReference text kids inner = part (Leaf (Character (reference_text_of names bytes kids)))
  text_part linked n.Autolink text kids inner = part (Leaf (autolink_of kids))
  text_part linked n.GfmAutolinkLiteralWww text kids inner = literal_of linked Www text
  text_part linked n.GfmAutolinkLiteralEmail text kids inner = literal_of linked Email text
  text_part linked n.GfmAutolinkLiteralMailto text kids inner = literal_of linked Protocol text
  text_part linked n.GfmAutolinkLiteralProtocol text kids inner = literal_of linked Protocol text
  text_part linked n.GfmAutolinkLiteralXmpp text kids inner = literal_of linked Protocol text
  text_part linked n.CodeText text kids inner = part (Leaf (Code (code_of n.CodeTextSequence kids)))
  text_part linked n.MathText text kids inner = part (Leaf (Math (code_of n.MathTextSequence kids)))
  text_part linked n.HtmlText text kids inner = html_parts kids
  text_part linked n.HardBreakEscape text kids inner = part (Leaf EscapedBreak)
  text_part linked n.HardBreakTrailing text kids inner = part (Leaf TrailingBreak)
  text_part linked n.Emphasis text kids inner = part (Span Emphasis inner)
  text_part linked n.Strong text kids inner = part (Span Strong inner)
  text_part linked n.GfmStrikethrough text kids inner = part (Span Strikethrough inner)
  text_part linked n.Mark text kids inner = part (Span Mark inner)
  text_part linked n.Link text kids inner = part (Linked Link (target_of kids) inner)
  text_part linked n.Image text kids inner = part (Linked Image (target_of kids) inner)
  text_part linked n.GfmFootnoteCall text kids inner = part (Call (label_codes kids))
  text_part linked n.GfmTaskListItemCheck text kids inner = part (Leaf (TaskCheck (is_some (child n.GfmTaskListItemValueChecked kids))))
  text_part linked name text kids inner = inline.Nil

  abbrev mutual
    -- the parts of a text, one after another, where it is in a link or isn't
    pub inlines_of : Bool → Nodes → Inlines
    inlines_of linked Nil = inline.Nil
    inlines_of linked (Cons (Around enter kids exit) ns) =
        append
        (text_part linked enter.name (text_of bytes (Around enter kids exit)) kids (text_within (linked || same_name enter.name n.Link) kids))
        (inlines_of linked ns)

    -- what the text of an event with these children spells; that of a link is in its label
    pub text_within : Bool → Nodes → Inlines
    text_within linked Nil = inline.Nil
    text_within linked (Cons (Around enter kids exit) ns) =
        if is_listed text_names enter.name then inlines_of linked kids
        else (if same_name enter.name n.Label then text_within linked kids else text_within linked ns)
