-- What a slice stands for.
use Rattle.std.specs.Prelude.{ℕ, List, ◌++◌, replicate}
use Rattle.engine_text.specs.declared.slice.Slice.{Slice}

-- the bytes, between the columns of tabs that are cut at the ends, as spaces
abbrev pub serialization : Slice → List ℕ
serialization slice = replicate slice.before 32 ++ slice.bytes.now ++ replicate slice.after 32
