-- The next of some bytes, or two letters that a literal may begin with (GFM 6.9).
use Rattle.std.specs.Prelude.{◌≡◌, ◌<◌, ◌≤◌, ◌+◌, ◌-◌, ℕ, Bool, true, false, if◌then◌else◌, ◌==◌, ◌&&◌, ◌||◌, List, length, slice_index}
use Rattle.std.specs.Char.{to_ascii_lowercase}
use Rattle.text_search.specs.Sets.{holds}
use Rattle.inline_text.specs.declared.letters.StopBytes.{StopBytes}

abbrev pub small_h : ℕ
small_h = 104

abbrev pub small_t : ℕ
small_t = 116

abbrev pub small_w : ℕ
small_w = 119

-- a literal may begin with two bytes: `ww` or `ht`, in either case
abbrev pub are_letters : ℕ → ℕ → Bool
are_letters b next =
    ((to_ascii_lowercase b == small_w) && (to_ascii_lowercase next == small_w)) || ((to_ascii_lowercase b == small_h) && (to_ascii_lowercase next == small_t))

-- the first of two bytes is this one, or a literal may begin with the two
abbrev pub is_extra_or_letters : ℕ → ℕ → ℕ → Bool
is_extra_or_letters extra b next = (b == extra) || are_letters b next

-- a byte is one of a set or, where literals are on, the extra one or the first of two letters
abbrev pub stops_here : Bool → StopBytes → ℕ → ℕ → Bool
stops_here has_literals stops b next = holds stops.set b || (has_literals && is_extra_or_letters stops.extra b next)

-- the same at a place of bytes
abbrev pub stops_at : Bool → StopBytes → List ℕ → ℕ → Bool
stops_at has_literals stops bytes k = stops_here has_literals stops (slice_index bytes k) (slice_index bytes (k + 1))

-- so many of these places come before the first that stops
pub record IsFirst (stops : ℕ → Bool) (limit first : ℕ) : Type 0 where
  pub within : first ≤ limit
  pub free : (k : ℕ) → k < first → stops k ≡ false
  pub hit : first < limit → stops first ≡ true

-- so many bytes do
abbrev pub IsStop : Bool → StopBytes → List ℕ → ℕ → Type 0
IsStop has_literals stops bytes stop = IsFirst (stops_at has_literals stops bytes) (length bytes) stop

-- a byte is one of a set, or the extra one
abbrev pub is_stop_byte : StopBytes → ℕ → Bool
is_stop_byte stops b = holds stops.set b || (b == stops.extra)

-- the end of bytes, or the last of them, if a search stops at it
abbrev pub end_before : StopBytes → List ℕ → ℕ
end_before stops bytes = if is_stop_byte stops (slice_index bytes (length bytes - 1)) then length bytes - 1 else length bytes

-- so many of 16 bytes from a place on do
abbrev pub IsRunFrom : StopBytes → List ℕ → ℕ → ℕ → Type 0
IsRunFrom stops bytes at run = IsFirst (λ k. stops_at true stops bytes (at + k)) 16 run

-- the same of 16 bytes and of those that follow each of them
abbrev pub IsRun : StopBytes → List ℕ → List ℕ → ℕ → Type 0
IsRun stops here next run = IsFirst (λ k. stops_here true stops (slice_index here k) (slice_index next k)) 16 run

-- and of the extra byte and letters alone
abbrev pub IsLetterRun : ℕ → List ℕ → List ℕ → ℕ → Type 0
IsLetterRun extra here next run = IsFirst (λ k. is_extra_or_letters extra (slice_index here k) (slice_index next k)) 16 run
