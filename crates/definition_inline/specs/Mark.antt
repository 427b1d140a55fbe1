-- Runs of equals signs, which may form marked text, as in `==a==`: an extension, in neither CommonMark nor GFM.
use Rattle.std.specs.Prelude.{ℕ, Bool, ◌==◌}
use Rattle.definition_text.specs.Ascii.{equals}

-- the byte of runs that may form marked text
abbrev pub is_equals : ℕ → Bool
is_equals marker = marker == equals

-- the size of a run of equals signs that may form a span: two
abbrev pub is_mark_size : ℕ → Bool
is_mark_size size = size == 2
