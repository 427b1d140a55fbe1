-- Where lines start (CommonMark 2.1).
use Rattle.std.specs.Prelude.{ℕ, ◌+◌, Bool, false, not, ◌==◌, nat_le, ◌&&◌, ◌||◌, if◌then◌else◌, List, [], ◌∷◌, Option, None, Some, slice_get}

abbrev pub is_feed : Option ℕ → Bool
is_feed None = false
is_feed (Some b) = b == 10

-- whether a byte, with the one after it, is the last of a line ending: LF, or CR without LF after it
abbrev pub ends_here : ℕ → Option ℕ → Bool
ends_here b after = (b == 10) || ((b == 13) && not (is_feed after))

-- where lines start after the endings of these bytes, the first of which stands at `at`
abbrev pub line_starts : ℕ → List ℕ → List ℕ
line_starts at [] = []
line_starts at (b ∷ bs) = if ends_here b (slice_get bs 0) then (at + 1) ∷ line_starts (at + 1) bs else line_starts (at + 1) bs

abbrev pub before_or_at : ℕ → ℕ → Bool
before_or_at offset start = nat_le start offset

abbrev pub last_or : ℕ → List ℕ → ℕ
last_or start [] = start
last_or start (x ∷ xs) = last_or x xs
