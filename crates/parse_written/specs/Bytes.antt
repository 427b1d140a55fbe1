-- Places of a content in its bytes: code that makes events counts bytes, the definition counts codes.
use Rattle.std.specs.Prelude.{◌≡◌, ◌<◌, ◌-◌, ◌==◌, ℕ, false, List, [], ◌∷◌, ◌++◌, Some, drop, length, take}
use Rattle.std.specs.List.{position_or_len}
use Rattle.markdown_options.specs.LineEndings.{ending_bytes}
use Rattle.markdown_options.specs.declared.line_ending.LineEnding.{LineEnding}
use Rattle.definition_text.specs.Ascii.{semicolon}
use Rattle.definition_text.specs.Columns.{indent}
use Rattle.definition_text.specs.Content.{content_codes}
use Rattle.definition_text.specs.InlineCode.{InlineCode, codes_of}
use Rattle.definition_text.specs.Runs.{run, after_run}
use Rattle.definition_inline.specs.CodeText.{code_text, run_of}

-- these bytes are at a place
abbrev pub AreBytesAt : List ℕ → List InlineCode → Type 0
AreBytesAt bytes at = codes_of at ≡ content_codes bytes

-- bytes begin with a text, and what follows it is at a place
pub record Passes (text bytes : List ℕ) (to : List InlineCode) : Type 0 where
  pub front : take (length text) bytes ≡ text
  pub left : AreBytesAt (drop (length text) bytes) to

-- bytes begin with a text, and these codes are left
pub record IsFront (text bytes rest : List ℕ) : Type 0 where
  pub front : take (length text) bytes ≡ text
  pub left : content_codes (drop (length text) bytes) ≡ rest

-- raw text between two runs of a byte, in bytes: it ends at the next run of as many, after which these codes are left (CommonMark 6.1)
pub record IsRawInBytes (marker : ℕ) (text bytes : List ℕ) (to : List InlineCode) : Type 0 where
  pub some : 0 < run marker bytes
  pub end : List ℕ
  pub next : run_of marker (run marker bytes) false (after_run marker bytes) ≡ Some end
  pub read : code_text (content_codes (take (length (after_run marker bytes) - length end) (after_run marker bytes))) ≡ text
  pub left : AreBytesAt (drop (run marker bytes) end) to

-- a reference in bytes: what is before the first `;`, and that
pub record IsReferenceInBytes (bytes : List ℕ) (to : List InlineCode) : Type 0 where
  pub written : List ℕ
  pub passes : Passes (written ++ semicolon ∷ []) bytes to
  pub first : position_or_len (λ b. b == semicolon) bytes ≡ length written

-- a line ending in bytes: all spaces and tabs, the ending, and all spaces and tabs after it
pub record EndsLineInBytes (ending : LineEnding) (bytes : List ℕ) (to : List InlineCode) : Type 0 where
  pub rest : List ℕ
  pub parts : drop (indent bytes) bytes ≡ ending_bytes ending ++ rest
  pub left : AreBytesAt (drop (indent rest) rest) to
