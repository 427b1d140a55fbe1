-- Which bytes are of a class.
use Rattle.std.specs.Prelude.{ℕ, Bool, ◌==◌, ◌%◌, ◌/◌, bit_and, slice_index}
use Rattle.text_search.specs.declared.class.ByteClass.{ByteClass}

-- what the two tables have for the halves of a byte shares no bit
abbrev pub is_outside : ByteClass → ℕ → Bool
is_outside class byte = bit_and (slice_index class.lower (byte % 16)) (slice_index class.upper (byte / 16)) == 0
