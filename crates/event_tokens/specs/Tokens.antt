-- Which bytes an event that holds no other may have, by its name: none, if its name may hold others. They are whole characters: those that need not be ASCII
-- are asked to be UTF-8. Only white space, data and chunks may have no bytes: these are columns of a tab.
use Rattle.std.specs.Prelude.{ℕ, Bool, true, false, not, ◌||◌, ◌&&◌, ◌==◌, leb, List, [], ◌∷◌, Option, None, Some, codes, length}
use Rattle.std.specs.Char.{is_ascii_alphanumeric, is_ascii_punctuation}
use Rattle.std.specs.List.{list_all, list_any}
use Rattle.std.specs.Str.{bytes_eq, is_utf8}
use Rattle.definition_text.specs.Ascii.{at_sign, less_than}
use Rattle.definition_text.specs.Bytes.{begins_with}
use Rattle.definition_text.specs.Columns.{is_white}
use Rattle.definition_text.specs.Content.{is_space}
use Rattle.definition_text.specs.Lines.{ends_line}
use Rattle.definition_inline.specs.Autolink.{email_end, uri_end}
use Rattle.definition_inline.specs.GfmAutolinkLiteral.{begins_caselessly}
use Rattle.engine_events.specs.declared.event.Name.{Name}
use Rattle.engine_events.specs.declared.event.Name.TheVariants as n
use Rattle.event_grammar.specs.Facts.{are_digits, is_ending, is_size}

-- ---- forms of bytes

pub data Form : Type 0 where
  -- whole characters
  Characters : Form
  -- one line ending
  Ending : Form
  -- a digit or more, and at most so many
  Number : ℕ → Form
  -- each byte is of a kind
  All : (ℕ → Bool) → Form
  -- a byte or more, and at most so many, each of a kind
  Most : ℕ → (ℕ → Bool) → Form
  -- the same byte, once or more
  Run : List ℕ → Form
  -- these bytes
  Only : List ℕ → Form
  -- at least so many bytes, each of a kind
  Least : ℕ → (ℕ → Bool) → Form
  -- bytes that pass a test
  Such : (List ℕ → Bool) → Form
  -- bytes of one form or of the other
  Either : Form → Form → Form
  -- bytes of both forms
  Both : Form → Form → Form

abbrev pub is_nothing : List ℕ → Bool
is_nothing [] = true
is_nothing (b ∷ bs) = false

abbrev pub is_among : List ℕ → ℕ → Bool
is_among codes b = list_any (λ c. b == c) codes

abbrev pub is_run : List ℕ → Bool
is_run [] = false
is_run (b ∷ bs) = list_all (λ c. c == b) bs

abbrev pub fits : Form → List ℕ → Bool
fits Characters bytes = is_utf8 bytes
fits Ending bytes = is_ending bytes
fits (Number most) bytes = are_digits most bytes
fits (All kind) bytes = list_all kind bytes
fits (Most most kind) bytes = is_size most bytes && list_all kind bytes
fits (Run marks) bytes = is_run bytes && list_all (is_among marks) bytes
fits (Only text) bytes = bytes_eq bytes text
fits (Least least kind) bytes = leb least (length bytes) && list_all kind bytes
fits (Such test) bytes = test bytes
fits (Either one other) bytes = fits one bytes || fits other bytes
fits (Both one other) bytes = fits one bytes && fits other bytes

-- one byte of these
abbrev pub one_of : List ℕ → Form
one_of codes = Most 1 (is_among codes)

-- characters that pass a test
abbrev pub text_such : (List ℕ → Bool) → Form
text_such test = Both Characters (Such test)

-- characters without a line ending
abbrev pub line : Form
line = Both Characters (All (λ b. not (ends_line b)))

-- no bytes
abbrev pub none : Form
none = Only []

-- ---- links

-- all was read
abbrev pub is_read : Option (List ℕ) → Bool
is_read None = false
is_read (Some rest) = is_nothing rest

-- an absolute URI (CommonMark 6.5)
abbrev pub is_uri : List ℕ → Bool
is_uri bytes = is_read (uri_end bytes)

-- an email address (CommonMark 6.5)
abbrev pub is_email : List ℕ → Bool
is_email bytes = is_read (email_end bytes)

-- a byte of a link with no brackets: neither white space nor `<` (GFM 6.9)
abbrev pub is_link_byte : ℕ → Bool
is_link_byte b = not (is_space b || (b == less_than))

-- such bytes that begin with a text, ignoring ASCII case
abbrev pub begins_link : List ℕ → List ℕ → Bool
begins_link text bytes = begins_caselessly text bytes && list_all is_link_byte bytes

-- such bytes with an `@`
abbrev pub is_address : List ℕ → Bool
is_address bytes = list_any (λ b. b == at_sign) bytes && list_all is_link_byte bytes

-- such bytes that begin with a protocol
abbrev pub begins_address : List ℕ → List ℕ → Bool
begins_address protocol bytes = begins_with protocol bytes && is_address bytes

-- ---- the table

abbrev pub token_form : Name → Form
token_form n.SpaceOrTab = All is_white
token_form n.LineEnding = Ending
token_form n.BlankLineEnding = Ending
token_form n.ByteOrderMark = Only (239 ∷ 187 ∷ 191 ∷ [])
token_form n.Data = line
-- containers
token_form n.BlockQuoteMarker = one_of (codes ">")
token_form n.ListItemValue = Number 9
token_form n.ListItemMarker = one_of (codes "-+*.)")
token_form n.GfmFootnoteDefinitionLabelMarker = one_of (codes "[]")
token_form n.GfmFootnoteDefinitionMarker = one_of (codes "^")
token_form n.DefinitionMarker = one_of (codes ":")
-- raw blocks
token_form n.FrontmatterSequence = Either (Only (codes "---")) (Only (codes "+++"))
token_form n.FrontmatterChunk = line
token_form n.ThematicBreakSequence = Run (codes "*-_")
token_form n.CodeFencedFenceSequence = Run (codes "`~")
token_form n.CodeFlowChunk = line
token_form n.MathFlowFenceSequence = Run (codes "$")
token_form n.MathFlowChunk = line
token_form n.HtmlFlowData = line
-- blocks with text
token_form n.HeadingAtxSequence = Run (codes "#")
token_form n.HeadingSetextUnderlineSequence = Run (codes "=-")
token_form n.DefinitionLabelMarker = one_of (codes "[]")
token_form n.DefinitionDestinationLiteralMarker = one_of (codes "<>")
token_form n.DefinitionTitleMarker = one_of (codes "\"'()")
token_form n.GfmTableCellDivider = one_of (codes "|")
token_form n.GfmTableDelimiterFiller = Run (codes "-")
token_form n.GfmTableDelimiterMarker = one_of (codes ":")
-- strings and texts
token_form n.CharacterEscapeMarker = one_of (codes "\\")
token_form n.CharacterEscapeValue = Most 1 is_ascii_punctuation
token_form n.CharacterReferenceMarker = one_of (codes "&")
token_form n.CharacterReferenceMarkerNumeric = one_of (codes "#")
token_form n.CharacterReferenceMarkerHexadecimal = one_of (codes "xX")
token_form n.CharacterReferenceMarkerSemi = one_of (codes ";")
token_form n.CharacterReferenceValue = Most 31 is_ascii_alphanumeric
token_form n.AutolinkMarker = one_of (codes "<>")
token_form n.AutolinkProtocol = text_such is_uri
token_form n.AutolinkEmail = text_such is_email
token_form n.GfmAutolinkLiteralWww = text_such (begins_link (codes "www."))
token_form n.GfmAutolinkLiteralProtocol = Both Characters (Either (Such (begins_link (codes "http://"))) (Such (begins_link (codes "https://"))))
token_form n.GfmAutolinkLiteralEmail = text_such is_address
token_form n.GfmAutolinkLiteralMailto = text_such (begins_address (codes "mailto:"))
token_form n.GfmAutolinkLiteralXmpp = text_such (begins_address (codes "xmpp:"))
token_form n.CodeTextSequence = Run (codes "`")
token_form n.CodeTextData = line
token_form n.MathTextSequence = Run (codes "$")
token_form n.MathTextData = line
token_form n.HtmlTextData = line
token_form n.EmphasisSequence = one_of (codes "*_")
token_form n.StrongSequence = Either (Only (codes "**")) (Only (codes "__"))
token_form n.GfmStrikethroughSequence = Most 2 (is_among (codes "~"))
token_form n.MarkSequence = Only (codes "==")
token_form n.HardBreakEscape = one_of (codes "\\")
token_form n.HardBreakTrailing = Least 2 (is_among (codes " "))
token_form n.LabelMarker = one_of (codes "[]")
token_form n.LabelImageMarker = one_of (codes "!")
token_form n.GfmFootnoteCallMarker = one_of (codes "^")
token_form n.GfmTaskListItemMarker = one_of (codes "[]")
token_form n.GfmTaskListItemValueChecked = one_of (codes "xX")
token_form n.GfmTaskListItemValueUnchecked = Either Ending (Most 1 is_white)
token_form n.ReferenceMarker = one_of (codes "[]")
token_form n.ResourceMarker = one_of (codes "()")
token_form n.ResourceDestinationLiteralMarker = one_of (codes "<>")
token_form n.ResourceTitleMarker = one_of (codes "\"'()")
-- what may hold others has no bytes if it holds nothing
token_form name = none

-- whether an event of a name may have these bytes
abbrev pub is_token : Name → List ℕ → Bool
is_token name bytes = fits (token_form name) bytes
