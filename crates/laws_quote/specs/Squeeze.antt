-- A page without the line endings beside its tags.
use Rattle.std.specs.Prelude.{ℕ, if◌then◌else◌, ◌==◌, List, [], ◌∷◌, ◌++◌, Option, None, Some, unwrap_or}
use Rattle.std.specs.List.{fold}
use Rattle.std.specs.Option.{option_map}
use Rattle.definition_text.specs.Ascii.{less_than, greater_than}
use Rattle.definition_text.specs.Lines.{ends_line}

-- what is kept of the bytes so far, and the run of CR and LF after that; none where it is dropped whatever follows it, at the start and after `>`
pub record SqueezeState : Type 0 where
  pub kept : List ℕ
  pub run : Option (List ℕ)

abbrev pub kept_and_run : List ℕ → Option (List ℕ) → SqueezeState
kept_and_run kept run = record { kept = kept; run = run }

-- the run that is kept before this byte: before `<` none is
abbrev pub run_before : ℕ → Option (List ℕ) → List ℕ
run_before b run = if b == less_than then [] else unwrap_or run []

-- the run after a byte that isn't one of its own
abbrev pub run_after : ℕ → Option (List ℕ)
run_after b = if b == greater_than then None else Some []

-- one more byte
abbrev pub with_byte : SqueezeState → ℕ → SqueezeState
with_byte s b =
    if ends_line b then kept_and_run s.kept (option_map (λ run. run ++ b ∷ []) s.run)
    else kept_and_run (s.kept ++ (run_before b s.run ++ b ∷ [])) (run_after b)

-- more bytes
abbrev pub with_bytes : SqueezeState → List ℕ → SqueezeState
with_bytes s bytes = fold with_byte s bytes

abbrev pub nothing_yet : SqueezeState
nothing_yet = kept_and_run [] None

-- bytes without each whole run of CR and LF that stands at their start or end, after `>` or before `<`
abbrev pub squeeze : List ℕ → List ℕ
squeeze bytes = (with_bytes nothing_yet bytes).kept
