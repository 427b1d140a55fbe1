-- What is added to a text.
use Rattle.std.specs.Prelude.{◌≡◌, ◌++◌, ℕ, List, OnOk, Result, String, string_bytes}

-- these bytes and no others are added, unless memory ran out
abbrev pub Prints : {A B C : Type 0} → Result B C → String A → String A → List ℕ → Type 0
Prints result old new bytes = OnOk result (string_bytes new ≡ string_bytes old ++ bytes)
