-- Which bytes a set holds.
use Rattle.std.specs.Prelude.{ℕ, ◌-◌, Bool, if◌then◌else◌, ◌==◌, ◌||◌, ◌%◌, List, ◌++◌, take, drop, length, slice_index}
use Rattle.std.specs.Int.{w64, trailing_zeros}
use Rattle.text_search.specs.declared.set.ByteSet.{ByteSet}

-- a byte is what one of the two tables has for its lower half
abbrev pub holds : ByteSet → ℕ → Bool
holds set byte = (byte == slice_index set.first (byte % 16)) || (byte == slice_index set.second (byte % 16))

-- the place of the lowest bit that is set, or n
abbrev pub first_set : ℕ → ℕ → ℕ
first_set mask n = if mask == 0 then n else trailing_zeros w64 mask

-- the first eight and the last eight of some bytes
abbrev pub ends : List ℕ → List ℕ
ends bytes = take 8 bytes ++ take 8 (drop (length bytes - 8) bytes)
