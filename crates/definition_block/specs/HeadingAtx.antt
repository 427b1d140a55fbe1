-- ATX headings (CommonMark 4.2).
use Rattle.std.specs.Prelude.{ℕ, ◌-◌, Bool, true, if◌then◌else◌, ◌==◌, ◌&&◌, leb, List, [], ◌∷◌, Option, None, Some, take, length, reverse}
use Rattle.std.specs.List.{suffix_len}
use Rattle.markdown_options.specs.declared.configuration.Constructs.{Constructs}
use Rattle.definition_text.specs.Ascii.{number_sign}
use Rattle.definition_text.specs.Columns.{Rest, bare, bytes_of, is_white, trim}
use Rattle.definition_text.specs.Indents.{small_indent}
use Rattle.definition_text.specs.Runs.{run, after_run}

-- a heading on one line: its rank, from 1 to 6, and its content
pub record Atx : Type 0 where
  pub rank : ℕ
  pub content : List ℕ

abbrev pub atx : ℕ → List ℕ → Atx
atx rank content = record { rank = rank; content = content }

-- white space, or nothing
abbrev pub begins_apart : List ℕ → Bool
begins_apart [] = true
begins_apart (b ∷ bs) = is_white b

abbrev pub ends_apart : List ℕ → Bool
ends_apart text = begins_apart (reverse text)

-- a text without the run of `#` at its end
abbrev pub without_run : List ℕ → List ℕ
without_run text = take (length text - suffix_len (λ b. b == number_sign) text) text

-- a run of `#` at the end closes a heading where white space or nothing stands before it
abbrev pub without_closing : List ℕ → List ℕ
without_closing text = if ends_apart (without_run text) then trim (without_run text) else text

abbrev pub atx_of : List ℕ → Option Atx
atx_of text =
    let rank = run number_sign text in
    if leb 1 rank && leb rank 6 && begins_apart (after_run number_sign text) then Some (atx rank (without_closing (trim (after_run number_sign text))))
    else None

-- the heading that the line is: 1 to 6 `#`, and white space or the line's end (CommonMark 4.2)
abbrev pub heading_atx : Constructs → Rest → Option Atx
heading_atx on rest = if on.heading_atx && small_indent on rest then atx_of (bytes_of (bare rest)) else None
