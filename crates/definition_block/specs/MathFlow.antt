-- Blocks of math: fenced code with two dollars or more in place of backticks, and no info of its own (in neither standard).
use Rattle.std.specs.Prelude.{ℕ, not, if◌then◌else◌, ◌==◌, ◌&&◌, leb, List, Option, None, Some, codes}
use Rattle.std.specs.List.{list_all}
use Rattle.markdown_options.specs.declared.configuration.Constructs.{Constructs}
use Rattle.definition_text.specs.Ascii.{dollar}
use Rattle.definition_text.specs.Columns.{Rest, bare, bytes_of, indent}
use Rattle.definition_text.specs.Indents.{small_indent}
use Rattle.definition_text.specs.Runs.{run, after_run}
use Rattle.definition_block.specs.CodeFenced.{Fence}

-- the info that math has in place of one that is written
abbrev pub math_info : List ℕ
math_info = codes "math math-display"

-- at least two dollars with none in what follows them, which says nothing
abbrev pub math_fence_of : ℕ → List ℕ → Option Fence
math_fence_of columns text =
    if leb 2 (run dollar text) && list_all (λ b. not (b == dollar)) (after_run dollar text)
    then Some (record { byte = dollar; run = run dollar text; indent = columns; info = math_info })
    else None

-- the fence of math that opens here
abbrev pub math_start : Constructs → Rest → Option Fence
math_start on rest = if on.math_flow && small_indent on rest then math_fence_of (indent rest) (bytes_of (bare rest)) else None
