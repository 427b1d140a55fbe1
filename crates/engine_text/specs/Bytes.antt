-- Characters of bytes that need not be UTF-8.
use Rattle.std.specs.Prelude.{ℕ, ◌+◌, ◌-◌, Bool, nat_le, nat_lt, ◌&&◌, if◌then◌else◌, List, length, take, drop, slice_get, Option, None, Some}
use Rattle.std.specs.List.{suffix_len}
use Rattle.std.specs.Str.{chars, is_utf8}

-- so many bytes has a character that begins with this one
abbrev pub width : ℕ → ℕ
width b = if nat_lt b 192 then 1 else if nat_lt b 224 then 2 else if nat_lt b 240 then 3 else 4

-- a byte in a character of several, but not its first
abbrev pub goes_on : ℕ → Bool
goes_on b = nat_le 128 b && nat_lt b 192

-- the first character of a text, if that is UTF-8
abbrev pub first_code : List ℕ → Option ℕ
first_code text = if is_utf8 text then slice_get (chars text) 0 else None

-- the character of these bytes that begins with this one
abbrev pub led_by : Option ℕ → List ℕ → Option ℕ
led_by None rest = None
led_by (Some b) rest = first_code (take (width b) rest)

-- the character that begins at an index
abbrev pub code_after : List ℕ → ℕ → Option ℕ
code_after bytes index = led_by (slice_get bytes index) (drop index bytes)

-- where the last character of bytes begins
abbrev pub last_start : List ℕ → ℕ
last_start front = length front - (suffix_len goes_on front + 1)

-- the character that ends where bytes end
abbrev pub last_code : List ℕ → Option ℕ
last_code front = first_code (drop (last_start front) front)

-- the character that ends at an index
abbrev pub code_before : List ℕ → ℕ → Option ℕ
code_before bytes index = last_code (take index bytes)
