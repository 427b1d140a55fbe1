-- Calls of footnotes in front of a text.
use Rattle.std.specs.Prelude.{ℕ, List, [], ◌∷◌, ◌++◌}
use Rattle.std.specs.List.{flat_map}
use Rattle.format_pages.specs.Front.{body, front}

-- `[^label]`
abbrev pub call : List ℕ → List ℕ
call label = 91 ∷ 94 ∷ (label ++ 93 ∷ [])

-- a line of calls of these footnotes and a blank line, or nothing if there are none
abbrev pub calls : List (List ℕ) → List ℕ
calls [] = []
calls (label ∷ labels) = flat_map call (label ∷ labels) ++ 10 ∷ 10 ∷ []

-- a text with these bytes after its byte order mark and its frontmatter
abbrev pub with_calls : List ℕ → List ℕ → List ℕ
with_calls bytes text = front text ++ (bytes ++ body text)
