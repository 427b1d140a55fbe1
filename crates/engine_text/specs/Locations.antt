-- Lines and columns of offsets.
use Rattle.std.specs.Prelude.{◌≡◌, ℕ, ◌+◌, ◌-◌, nat_le, if◌then◌else◌, List, length, Option, None, Some}
use Rattle.std.specs.List.{filter}
use Rattle.engine_text.specs.declared.location.Location.{Location}
use Rattle.markdown_options.specs.declared.unist.Point.{Point}
use Rattle.engine_text.specs.Lines.{before_or_at, last_or, line_starts}

-- where the lines start that start at or before an offset, but for the first
abbrev pub starts_to : List ℕ → ℕ → List ℕ
starts_to bytes offset = filter (before_or_at offset) (line_starts 0 bytes)

-- the line is one more than the endings that end at or before the offset, the column one more than the bytes since the last of them; none past the text's end
abbrev pub point_at : List ℕ → ℕ → Option Point
point_at bytes offset =
    if nat_le offset (length bytes)
    then (let p : Point = record { line = length (starts_to bytes offset) + 1; column = (offset - last_or 0 (starts_to bytes offset)) + 1; offset = offset } in
    Some p)
    else None

-- a location is that of this text
pub record Locates {A : Type 0} (location : Location A) (bytes : List ℕ) : Type 0 where
  pub starts : location.starts.items ≡ line_starts 0 bytes
  pub size : location.size ≡ length bytes
