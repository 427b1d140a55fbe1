-- Fenced code (CommonMark 4.5).
use Rattle.std.specs.Prelude.{ℕ, Bool, not, if◌then◌else◌, ◌==◌, ◌&&◌, leb, List, Option, None, Some, take}
use Rattle.std.specs.List.{position_or_len, list_all}
use Rattle.markdown_options.specs.declared.configuration.Constructs.{Constructs}
use Rattle.definition_text.specs.Ascii.{backtick, tilde}
use Rattle.definition_text.specs.Columns.{Rest, bare, bytes_of, indent, is_white, trim}
use Rattle.definition_text.specs.Indents.{small_indent, outdent}
use Rattle.definition_text.specs.Runs.{run, after_run, is_run}

-- an opening fence: its byte, how many there are, the columns before it, and the word after it
pub record Fence : Type 0 where
  pub byte : ℕ
  pub run : ℕ
  pub indent : ℕ
  pub info : List ℕ

-- the first word of a text
abbrev pub first_word : List ℕ → List ℕ
first_word text = take (position_or_len is_white (trim text)) (trim text)

abbrev pub fence_by : ℕ → ℕ → ℕ → List ℕ → Fence
fence_by byte run columns after = record { byte = byte; run = run; indent = columns; info = first_word after }

-- at least three backticks with none in what follows them, or at least three tildes
abbrev pub fence_of : ℕ → List ℕ → Option Fence
fence_of columns text =
    if leb 3 (run backtick text) && list_all (λ b. not (b == backtick)) (after_run backtick text)
    then Some (fence_by backtick (run backtick text) columns (after_run backtick text))
    else (if leb 3 (run tilde text) then Some (fence_by tilde (run tilde text) columns (after_run tilde text)) else None)

-- the fence that opens here (CommonMark 4.5)
abbrev pub fence_start : Constructs → Rest → Option Fence
fence_start on rest = if on.code_fenced && small_indent on rest then fence_of (indent rest) (bytes_of (bare rest)) else None

-- whether the line closes the fence: a run of its byte, at least as long (CommonMark 4.5)
abbrev pub is_fence_end : Constructs → Fence → Rest → Bool
is_fence_end on fence rest = small_indent on rest && is_run fence.run fence.byte (bytes_of (bare rest))

-- a line of the content, which loses up to the fence's indent (CommonMark 4.5)
abbrev pub fence_line : Fence → Rest → Rest
fence_line fence rest = outdent fence.indent rest
