-- The form of each row of a leaf (CommonMark 2.4, 2.5, 6.1 and 6.5 to 6.8): which codes are at its place.
use Rattle.std.specs.Prelude.{◌≡◌, ℕ, true, List, [], ◌∷◌, drop}
use Rattle.std.specs.Char.{is_ascii_punctuation}
use Rattle.std.specs.List.{flat_map, list_all}
use Rattle.definition_text.specs.Ascii.{backslash, backtick, dollar}
use Rattle.definition_text.specs.Columns.{Code as ContentCode, indent}
use Rattle.definition_text.specs.Content.{content_codes, line_ending_code}
use Rattle.definition_text.specs.InlineCode.{InlineCode, codes_of}
use Rattle.definition_inline.specs.CharacterReference.{number_of, numbered_text}
use Rattle.definition_inline.specs.CodeText.{code_text}
use Rattle.definition_inline.specs.Scan.{InlineContext}
use Rattle.inline_leaves.specs.declared.leaf.LeafPart.{LeafPart}
use Rattle.inline_leaves.specs.declared.leaf.LeafPart.TheVariants.{Escape, Character, Number, Code, Math, Unclosed, Autolink, Literal, Html, EscapedBreak}
use Rattle.inline_leaves.specs.declared.leaf.LeafPart.TheVariants.{TrailingBreak, LineEnd, Spaces}
use Rattle.parse_written.specs.Leaves.{IsReference, IsRaw, IsAutolink, IsHtml, AreAllSpaces, IsLineEnd}
use Rattle.parse_written.specs.Written.{IsLiteral, IsText}
use Rattle.inline_leaves.specs.Leaves.{kind_view}
use Rattle.parse_written.specs.Rows.{IsData}

-- each byte after a backslash
abbrev pub escaped : List ℕ → List ℕ
escaped text = flat_map (λ b. backslash ∷ b ∷ []) text

-- escapes: ASCII punctuation, each after a backslash (CommonMark 2.4)
pub record AreEscapes (text : List ℕ) (from to : List InlineCode) : Type 0 where
  pub marked : IsData (escaped text) from to
  pub marks : list_all is_ascii_punctuation text ≡ true

-- a line ending after all spaces and tabs that come next, with those after it (CommonMark 6.8)
pub record EndsLine (code : ContentCode) (from to : List InlineCode) : Type 0 where
  pub start : List InlineCode
  pub spaces : start ≡ drop (indent (codes_of from)) from
  pub line : IsLineEnd code start to

abbrev pub HasPartForm : InlineContext → LeafPart → List InlineCode → List InlineCode → Type 0
HasPartForm context (Escape text) from to = AreEscapes text.now from to
HasPartForm context (Character text) from to = IsReference context text.now from to
HasPartForm context (Number radix digits) from to = IsReference context (numbered_text (number_of radix digits.now)) from to
HasPartForm context (Code text) from to = IsRaw backtick (code_text (content_codes text.now)) from to
HasPartForm context (Math text) from to = IsRaw dollar (code_text (content_codes text.now)) from to
HasPartForm context (Unclosed text) from to = IsData text.now from to
HasPartForm context (Autolink email text) from to = IsAutolink email text.now from to
HasPartForm context (Literal kind text) from to = IsLiteral context.options.constructs (kind_view kind) text.now from to
HasPartForm context (Html text) from to = IsHtml (content_codes text.now) from to
HasPartForm context EscapedBreak from to = IsText (backslash ∷ []) from to
HasPartForm context TrailingBreak from to = AreAllSpaces from to
HasPartForm context (LineEnd ending) from to = EndsLine (line_ending_code ending) from to
HasPartForm context Spaces from to = from ≡ to
