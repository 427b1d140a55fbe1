-- What the answers on a content stand for.
use Rattle.std.specs.Prelude.{if◌then◌else◌, ◌&&◌, ◌≡◌, ◌<◌, ◌≤◌, ◌+◌, ◌-◌, ℕ, true, List, [], ◌∷◌, Option, None, Some, drop, length, map, slice_index}
use Rattle.std.specs.Prelude.{IfSome}
use Rattle.markdown_options.specs.declared.configuration.Constructs.{Constructs}
use Rattle.definition_inline.specs.HardBreak.{is_trailing_break}
use Rattle.definition_text.specs.Ascii.{backslash, carriage_return, space}
use Rattle.definition_text.specs.Columns.{is_white}
use Rattle.definition_text.specs.Columns as columns
use Rattle.definition_text.specs.Content.{content_codes, line_ending_code}
use Rattle.definition_inline.specs.CharacterReference.{number_of, numbered_text}
use Rattle.definition_inline.specs.CodeText.{code_text}
use Rattle.definition_inline.specs.Inline as inline
use Rattle.definition_inline.specs.Inline.{InlineLeaf}
use Rattle.definition_inline.specs.Spans.{Token, Item}
use Rattle.inline_links.specs.Codes.{IsCut}
use Rattle.inline_leaves.specs.declared.leaf.Leaf.{Leaf}
use Rattle.inline_leaves.specs.declared.line_ending.Ending.{Ending}
use Rattle.inline_leaves.specs.declared.leaf.LiteralKind.{LiteralKind}
use Rattle.inline_leaves.specs.declared.leaf.LiteralKind.TheVariants.{Www, Protocol, Email}
use Rattle.inline_leaves.specs.declared.leaf.LeafPart.{LeafPart}
use Rattle.inline_leaves.specs.declared.leaf.LeafPart.TheVariants.{Escape, Character, Number, Code, Math, Unclosed, Autolink, Literal, Html, EscapedBreak}
use Rattle.inline_leaves.specs.declared.leaf.LeafPart.TheVariants.{TrailingBreak, LineEnd, Spaces}

-- what a literal leads to
abbrev pub kind_view : LiteralKind → inline.LiteralKind
kind_view Www = inline.Www
kind_view Protocol = inline.Protocol
kind_view Email = inline.Email

-- the parts that a construct makes
abbrev pub parts_of : LeafPart → List InlineLeaf
parts_of (Escape text) = map inline.Escape text.now
parts_of (Character text) = inline.Character text.now ∷ []
parts_of (Number radix digits) = inline.Character (numbered_text (number_of radix digits.now)) ∷ []
parts_of (Code text) = inline.Code (code_text (content_codes text.now)) ∷ []
parts_of (Math text) = inline.Math (code_text (content_codes text.now)) ∷ []
parts_of (Unclosed text) = map inline.Data text.now
parts_of (Autolink email text) = inline.Autolink email text.now ∷ []
parts_of (Literal kind text) = inline.Literal (kind_view kind) text.now ∷ []
parts_of (Html text) = inline.Html (content_codes text.now) ∷ []
parts_of EscapedBreak = inline.EscapedBreak ∷ []
parts_of TrailingBreak = inline.TrailingBreak ∷ []
parts_of (LineEnd ending) = inline.LineEnd (line_ending_code ending) ∷ []
parts_of Spaces = []

-- leaves among the parts of a container
abbrev pub leaf_items : List InlineLeaf → List Token
leaf_items parts = map Item (map inline.Leaf parts)

-- bytes of text among them
abbrev pub text_items : List ℕ → List Token
text_items bytes = leaf_items (map inline.Data bytes)

-- how many codes stand before the rest of a content
abbrev pub size_before : List ℕ → List ℕ → ℕ
size_before content rest = length (content_codes content) - length (content_codes rest)

-- the construct that a content begins with, if it begins with one
abbrev pub found_leaf : List ℕ → Option Leaf → Option inline.Found
found_leaf content None = None
found_leaf content (Some found) = Some (inline.leaf (parts_of found.part) (size_before content found.after.now))

-- what follows the first codes of a content, at least one
pub record IsAfter (content rest : List ℕ) : Type 0 where
  pub shorter : length rest < length content
  pub place : rest ≡ drop (length content - length rest) content
  pub fewer : length (content_codes rest) < length (content_codes content)
  pub codes : content_codes rest ≡ drop (size_before content rest) (content_codes content)

-- a construct, if one was found, leaves a rest of the content
abbrev pub LeavesRest : List ℕ → Option Leaf → Type 0
LeavesRest content found = IfSome found (λ leaf. IsAfter content leaf.after.now)

-- a place after an ASCII byte, and not inside a line ending
pub record IsEnd (content : List ℕ) (end : ℕ) : Type 0 where
  pub some : 0 < end
  pub within : end ≤ length content
  pub ascii : slice_index content (end - 1) < 128
  pub cut : IsCut content end

-- what an escaped byte makes
abbrev pub escape_leaf : Option ℕ → Option inline.Found
escape_leaf None = None
escape_leaf (Some byte) = Some (inline.leaf (inline.Escape byte ∷ []) 2)

-- a backslash, and a byte that it escapes
pub record IsEscape (bytes : List ℕ) (byte : ℕ) : Type 0 where
  pub within : 2 ≤ length bytes
  pub first : slice_index bytes 0 ≡ backslash
  pub escaped : slice_index bytes 1 ≡ byte
  pub visible : space < byte
  pub ascii : byte < 128

-- a line ending comes first: its code, and the bytes of it
pub record ReadsEnding (bytes : List ℕ) (found : Ending) : Type 0 where
  pub codes : content_codes bytes ≡ line_ending_code found.ending ∷ content_codes (drop found.size bytes)
  pub some : 0 < found.size
  pub within : found.size ≤ length bytes
  pub ascii : slice_index bytes (found.size - 1) < 128
  pub cut : IsCut bytes found.size

-- so many spaces and tabs come first
pub record IsWhite (bytes : List ℕ) (size : ℕ) : Type 0 where
  pub within : size ≤ length bytes
  pub indent : size ≡ columns.indent (content_codes bytes)
  pub bare : content_codes (drop size bytes) ≡ columns.bare (content_codes bytes)
  pub codes : length (content_codes bytes) ≡ size + length (content_codes (drop size bytes))
  pub passes : (k : ℕ) → k < size → is_white (slice_index bytes k) ≡ true

-- what spaces and tabs at a line's end make
abbrev pub spaces_parts : Constructs → List ℕ → List InlineLeaf
spaces_parts on content = if on.hard_break_trailing && is_trailing_break content then inline.TrailingBreak ∷ [] else []

-- the parts that a character makes
abbrev pub character_parts : List ℕ → List InlineLeaf
character_parts text = inline.Character text ∷ []

-- the first bytes, of which none is CR
pub record IsPlain (bytes : List ℕ) (size : ℕ) : Type 0 where
  pub within : size ≤ length bytes
  pub plain : (k : ℕ) → k < size → slice_index bytes k ≡ carriage_return → ⊥
