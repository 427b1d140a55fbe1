-- Code spans (CommonMark 6.1): a run of n backticks, a text, and the next run of exactly n. Math is the same with dollars.
use Rattle.std.specs.Prelude.{ℕ, ◌+◌, ◌-◌, Bool, false, if◌then◌else◌, not, ◌==◌, ◌&&◌, ◌||◌, List, [], ◌∷◌, Option, None, Some, map, take, drop, length}
use Rattle.std.specs.Prelude.{slice_index}
use Rattle.std.specs.List.{list_any}
use Rattle.markdown_options.specs.declared.configuration.Constructs.{Constructs}
use Rattle.definition_text.specs.Ascii.{space, dollar, backtick}
use Rattle.definition_text.specs.Columns.{Code as ContentCode, is_tab_column}
use Rattle.definition_text.specs.Runs.{run, after_run}
use Rattle.definition_text.specs.Content.{is_eol, Part, up_to}
use Rattle.definition_inline.specs.Inline.{InlineLeaf, Found, leaf, Data, Code, Math}

-- the rest from the first run of exactly n of a byte on; whether that byte stands before is given (CommonMark 6.1)
abbrev pub run_of : ℕ → ℕ → Bool → List ContentCode → Option (List ContentCode)
run_of marker n within [] = None
run_of marker n within (c ∷ cs) =
    if not within && (run marker (c ∷ cs) == n) then Some (c ∷ cs) else run_of marker n (c == marker) cs

-- a line ending is a space in code, and so is a column that is left of a tab (CommonMark 6.1)
abbrev pub code_space : ContentCode → ℕ
code_space code = if is_eol code || is_tab_column code then space else code

-- a space at each end, and not only spaces (CommonMark 6.1)
abbrev pub is_padded : List ℕ → Bool
is_padded text = (slice_index text 0 == space) && ((slice_index text (length text - 1) == space) && list_any (λ b. not (b == space)) text)

-- without one space at each end, where there are both and something between (CommonMark 6.1)
abbrev pub without_padding : List ℕ → List ℕ
without_padding text = if is_padded text then take (length text - 2) (drop 1 text) else text

-- the text of a code span (CommonMark 6.1)
abbrev pub code_text : List ContentCode → List ℕ
code_text text = without_padding (map code_space text)

-- what runs of this byte hold: math between dollars, otherwise code (CommonMark 6.1)
abbrev pub raw_part : ℕ → List ContentCode → InlineLeaf
raw_part marker text = if marker == dollar then Math (code_text text) else Code (code_text text)

-- the span between a run of n of this byte and its end, where that is found; otherwise these bytes are text (CommonMark 6.1)
abbrev pub raw_leaf : ℕ → ℕ → List ContentCode → Option Part → Found
raw_leaf marker n content None = leaf (map Data (take n content)) n
raw_leaf marker n content (Some found) = leaf (raw_part marker found.text ∷ []) (n + length found.text + n)

-- a run of this byte, where it may open a span: it ends at the next run of exactly as many (CommonMark 6.1)
abbrev pub raw_at : ℕ → Bool → List ContentCode → Option Found
raw_at marker may_open content =
    let n = run marker content in
    let rest = after_run marker content in
    if may_open && not (n == 0) then Some (raw_leaf marker n content (up_to rest (run_of marker n false rest))) else None

-- a run of backticks, which may open a code span (CommonMark 6.1)
abbrev pub code_text_at : Constructs → List ContentCode → Option Found
code_text_at on content = raw_at backtick on.code_text content
