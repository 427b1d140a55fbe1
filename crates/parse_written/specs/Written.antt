-- Inline structure as it is written in its content (CommonMark 6). A place of a content is given by the codes from there on, so a part is written from one
-- list of codes to another, which is what follows it.
use Rattle.std.specs.Prelude.{◌≡◌, ◌<◌, ℕ, Bool, true, false, ◌||◌, List, [], ◌∷◌, ◌++◌, Some, drop, length, codes, replicate}
use Rattle.markdown_options.specs.declared.configuration.Constructs.{Constructs}
use Rattle.markdown_options.specs.declared.configuration.ParseOptions.{ParseOptions}
use Rattle.definition_text.specs.Ascii.{right_bracket}
use Rattle.definition_text.specs.Columns.{Code}
use Rattle.definition_text.specs.Content.{text_before, is_eol}
use Rattle.definition_text.specs.InlineCode.{InlineCode, codes_of}
use Rattle.definition_inline.specs.Attention.{is_marker, run_size, is_whole, has_span_size}
use Rattle.definition_inline.specs.GfmStrikethrough.{is_tilde}
use Rattle.definition_inline.specs.HardBreak.{line_spaces_at}
use Rattle.definition_inline.specs.Inline.{Target, InlineLeaf, Data, Literal, SpanKind, Emphasis, Strong, Strikethrough, Mark, LinkedKind, Link, Image, Inline}
use Rattle.definition_inline.specs.Inline.{Leaf, Span, Linked, Call, Inlines, Nil, Cons, leaf, LiteralKind, Www, Protocol, Email}
use Rattle.definition_inline.specs.LabelEnd.{link_tail, label_end_at}
use Rattle.definition_inline.specs.Mark.{is_equals}
use Rattle.definition_inline.specs.Scan.{InlineContext, leaf_here}
use Rattle.event_tokens.specs.Tokens.{begins_address, begins_link, is_address}

-- ---- codes

-- these codes stand between two places
abbrev pub AreCodes : List Code → List InlineCode → List InlineCode → Type 0
AreCodes [] from to = from ≡ to
AreCodes (code ∷ others) [] to = ⊥
AreCodes (code ∷ others) (c ∷ cs) to = (c.code ≡ code) × AreCodes others cs to

-- codes that end no line
abbrev pub EndNoLine : List Code → Type 0
EndNoLine [] = Unit {0}
EndNoLine (code ∷ others) = (is_eol code ≡ false) × EndNoLine others

-- a text: a code or more, which end no line
pub record IsText (text : List Code) (from to : List InlineCode) : Type 0 where
  pub codes : AreCodes text from to
  pub some : 0 < length text
  pub inline : EndNoLine text

-- the text of a literal of a kind (GFM 6.9)
abbrev pub is_literal : LiteralKind → List Code → Bool
is_literal Www text = begins_link (codes "www.") text
is_literal Protocol text =
    begins_link (codes "http://") text
    || (begins_link (codes "https://") text || (begins_address (codes "mailto:") text || begins_address (codes "xmpp:") text))
is_literal Email text = is_address text

-- a literal, where they are read: its text
pub record IsLiteral (on : Constructs) (kind : LiteralKind) (link : List Code) (from to : List InlineCode) : Type 0 where
  pub is_on : on.gfm_autolink_literal ≡ true
  pub text : IsText link from to
  pub form : is_literal kind link ≡ true

-- spaces and tabs at the end of a line or of the content, which aren't printed and are no hard break (CommonMark 6.7 and 6.8)
pub record AreSpaces (on : Constructs) (from to : List InlineCode) : Type 0 where
  pub size : ℕ
  pub here : line_spaces_at on (codes_of from) ≡ Some (leaf [] size)
  pub after : to ≡ drop size from

-- ---- leaves

-- the leaf that the definition finds here
pub record IsFound (context : InlineContext) (part : InlineLeaf) (from to : List InlineCode) : Type 0 where
  pub size : ℕ
  pub here : leaf_here context from ≡ Some (leaf (part ∷ []) size)
  pub after : to ≡ drop size from

-- a byte and a literal are written as their text (GFM 6.9), any other leaf as the definition finds it (CommonMark 2.4, 2.5, 6.1 and 6.5 to 6.8)
abbrev pub IsLeafWritten : InlineContext → InlineLeaf → List InlineCode → List InlineCode → Type 0
IsLeafWritten context (Data b) from to = IsText (b ∷ []) from to
IsLeafWritten context (Literal kind text) from to = IsLiteral context.options.constructs kind text from to
IsLeafWritten context part from to = IsFound context part from to

-- ---- spans

-- the byte and the size of the sequences of a span: one of `*` or `_` for emphasis, two for strong emphasis (CommonMark 6.2); of `~` and `=` as many as a run
-- that forms a span may have (GFM 6.5)
abbrev pub IsSequence : ParseOptions → SpanKind → ℕ → ℕ → Type 0
IsSequence options Emphasis marker size = (is_whole marker ≡ false) × (size ≡ 1)
IsSequence options Strong marker size = (is_whole marker ≡ false) × (size ≡ 2)
IsSequence options Strikethrough marker size = (is_tilde marker ≡ true) × (has_span_size options marker size ≡ true)
IsSequence options Mark marker size = (is_equals marker ≡ true) × (has_span_size options marker size ≡ true)

-- the sequence that a span starts with; one of `~` or `=` is a whole run (CommonMark 6.2 and GFM 6.5)
pub record StartsSpan (options : ParseOptions) (kind : SpanKind) (marker size : ℕ) (from to : List InlineCode) : Type 0 where
  pub sized : IsSequence options kind marker size
  pub marks : is_marker options marker ≡ true
  pub whole : is_whole marker ≡ true → run_size marker from ≡ size
  pub codes : AreCodes (replicate size marker) from to

-- ---- links, images and calls

-- what a link or an image starts with (CommonMark 6.3 and 6.4)
abbrev pub linked_start : LinkedKind → List Code
linked_start Link = codes "["
linked_start Image = codes "!["

-- the `]` after the text of a link or an image, which stands inside of its label, and what the definition finds after it (CommonMark 6.3 and 6.4)
pub record EndsLinked (context : InlineContext) (target : Target) (inside from to : List InlineCode) : Type 0 where
  pub rest : List InlineCode
  pub bracket : AreCodes (right_bracket ∷ []) from rest
  pub size : ℕ
  pub tail : label_end_at context.is_defined (text_before (codes_of inside) (codes_of from)) (codes_of rest) ≡ Some (link_tail target size)
  pub after : to ≡ drop size rest

-- a call of a footnote (in neither standard)
abbrev pub call_codes : List Code → List Code
call_codes label = codes "[^" ++ (label ++ right_bracket ∷ [])

-- ---- parts

mutual
  -- one part
  pub data IsWritten (context : InlineContext) : Inline → List InlineCode → List InlineCode → Type 0 where
    AsLeaf : (part : InlineLeaf) (from to : List InlineCode) → IsLeafWritten context part from to → IsWritten context (Leaf part) from to
    -- what it holds stands between two equal sequences
    AsSpan : (kind : SpanKind) (kids : Inlines) (marker size : ℕ) (from inside end to : List InlineCode)
        → StartsSpan context.options kind marker size from inside → AreWritten context kids inside end → AreCodes (replicate size marker) end to
        → IsWritten context (Span kind kids) from to
    AsLinked : (kind : LinkedKind) (target : Target) (kids : Inlines) (from inside end to : List InlineCode) → AreCodes (linked_start kind) from inside
        → AreWritten context kids inside end → EndsLinked context target inside end to → IsWritten context (Linked kind target kids) from to
    AsCall : (label : List Code) (from to : List InlineCode) → AreCodes (call_codes label) from to → IsWritten context (Call label) from to

  -- parts, one after another
  pub data AreWritten (context : InlineContext) : Inlines → List InlineCode → List InlineCode → Type 0 where
    Nothing : (from : List InlineCode) → AreWritten context Nil from from
    Spaces : (is : Inlines) (from next to : List InlineCode) → AreSpaces context.options.constructs from next → AreWritten context is next to
        → AreWritten context is from to
    More : (i : Inline) (is : Inlines) (from mid to : List InlineCode) → IsWritten context i from mid → AreWritten context is mid to
        → AreWritten context (Cons i is) from to
