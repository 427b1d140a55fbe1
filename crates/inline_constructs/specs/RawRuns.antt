-- Runs of a byte, and where the last one of each size ends.
use Rattle.std.specs.Prelude.{◌≡◌, ◌<◌, ◌≤◌, ◌==◌, ℕ, false, nat_lt, if◌then◌else◌, List, [], ◌∷◌, None, drop, length}
use Rattle.definition_inline.specs.CodeText.{run_of}
use Rattle.definition_text.specs.Ascii.{backtick, dollar}
use Rattle.definition_text.specs.Runs.{run}
use Rattle.inline_constructs.specs.declared.raw_runs.LastRun.{LastRun}
use Rattle.inline_constructs.specs.declared.raw_runs.RawMarker.{RawMarker}
use Rattle.inline_constructs.specs.declared.raw_runs.RawMarker.TheVariants.{Backtick, Dollar}

-- the byte that raw text stands between
abbrev pub marker_byte : RawMarker → ℕ
marker_byte Backtick = backtick
marker_byte Dollar = dollar

-- where the last run of a size ends, by a list that is ascending by size; 0 if there is none
abbrev pub last_end : List LastRun → ℕ → ℕ
last_end [] size = 0
last_end (r ∷ rs) size = if nat_lt r.size size then last_end rs size else if r.size == size then r.end else 0

-- from where the last run of a size ends on, but not inside of a run, there is no other of that size
abbrev pub AreLastRuns : ℕ → List ℕ → List LastRun → Type 0
AreLastRuns marker content runs =
    (size at : ℕ) → 0 < size → at ≤ length content → run marker (drop at content) ≡ 0 → last_end runs size ≤ at
    → run_of marker size false (drop at content) ≡ None
