-- Which bytes are of a pair.
use Rattle.std.specs.Prelude.{ℕ, Bool, ◌==◌, ◌||◌}
use Rattle.text_search.specs.declared.pair.BytePair.{BytePair}

abbrev pub is_of_pair : BytePair → ℕ → Bool
is_of_pair pair byte = (byte == pair.first) || (byte == pair.second)
