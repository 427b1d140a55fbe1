-- The next of some bytes, or of those at which marked text or a literal may begin (GFM 6.9).
use Rattle.std.specs.Prelude.{ℕ, ◌+◌, Bool, ◌&&◌, ◌||◌, List, length, slice_index}
use Rattle.definition_inline.specs.Mark.{is_equals}
use Rattle.text_search.specs.Sets.{holds}
use Rattle.inline_text.specs.declared.letters.StopBytes.{StopBytes}
use Rattle.inline_text.specs.Letters.{is_extra_or_letters, IsFirst}

-- `=` where marked text is on, or the extra byte or the first of two letters where literals are on
abbrev pub is_more : Bool → Bool → ℕ → ℕ → ℕ → Bool
is_more has_literals has_marks extra b next = (has_marks && is_equals b) || (has_literals && is_extra_or_letters extra b next)

-- one of these stands at a place of bytes, or a byte of a set
abbrev pub stops_with : Bool → Bool → StopBytes → List ℕ → ℕ → Bool
stops_with has_literals has_marks stops bytes k =
    holds stops.set (slice_index bytes k) || is_more has_literals has_marks stops.extra (slice_index bytes k) (slice_index bytes (k + 1))

-- so many bytes come before the first
abbrev pub IsStopWith : Bool → Bool → StopBytes → List ℕ → ℕ → Type 0
IsStopWith has_literals has_marks stops bytes stop = IsFirst (stops_with has_literals has_marks stops bytes) (length bytes) stop
