-- What has its parts one after another: a definition, a resource, the start of a footnote definition.
use Rattle.std.specs.Prelude.{if◌then◌else◌, ◌==◌, List, [], ◌∷◌, Option, None, Some}
use Rattle.definition_text.specs.Columns.{Code}

-- a part, where it is there, and what follows it
abbrev pub after_part : {A B : Type 0} → Option A → (A → Option B) → Option B
after_part None next = None
after_part (Some part) next = next part

-- this code, where it comes first, and what follows it
abbrev pub after_code : {A : Type 0} → Code → List Code → (List Code → Option A) → Option A
after_code code [] next = None
after_code code (c ∷ cs) next = if c == code then next cs else None
