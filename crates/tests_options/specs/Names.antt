-- The names of the tables that tests hand in.
use Rattle.std.specs.Prelude.{ℕ, List, Option, Some, None, codes, bytes_eq, if◌then◌else◌}

-- what a name stands for: `and`, `q` and `j` for `&`, `"` and `ja`
abbrev pub stands_for : List ℕ → Option (List ℕ)
stands_for name =
    if bytes_eq name (codes "and") then Some (codes "&")
    else if bytes_eq name (codes "q") then Some (codes "\"")
    else if bytes_eq name (codes "j") then Some (codes "ja")
    else None
