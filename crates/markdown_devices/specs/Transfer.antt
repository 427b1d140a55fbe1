-- What a run reads and writes.
use Rattle.std.specs.Prelude.{◌≡◌, ℕ, ◌+◌, Bool, nat_lt, ◌<◌, List, length, take, Option, IfSome, IsSomeAnd}
use Rattle.std.specs.Bool.{MatchBool}
use Rattle.std.specs.Str.{IsUtf8}
use Rattle.std.specs.Io.KnownBytes.{Appends}

-- what was written is a beginning of these bytes
abbrev pub AppendsBeginning : Option (List ℕ) → Option (List ℕ) → List ℕ → Type 0
AppendsBeginning old new bytes = (n : ℕ) × Appends old new (take n bytes)

-- a reader that tells its bytes gave more than so many
abbrev pub TellsMore : ℕ → Option (List ℕ) → Option (List ℕ) → Type 0
TellsMore most old new = IsSomeAnd old (λ text. IsSomeAnd new (λ rest. most + length rest < length text))

-- it is refused exactly where more bytes than the most were read
abbrev pub RefusesPast : ℕ → Option (List ℕ) → Option (List ℕ) → Bool → Type 0
RefusesPast most old new refused =
    IfSome old (λ text. IfSome new (λ rest. refused ≡ nat_lt (most + length rest) (length text)))

-- it is refused exactly where the text is not UTF-8
abbrev pub RefusesUtf8 : List ℕ → Bool → Type 0
RefusesUtf8 text refused = MatchBool refused (¬ IsUtf8 text) (IsUtf8 text)
