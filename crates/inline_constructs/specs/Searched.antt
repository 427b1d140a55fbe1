-- What a content's end lacks.
use Rattle.std.specs.Prelude.{◌≡◌, ◌-◌, ℕ, List, None, drop, length}
use Rattle.definition_inline.specs.HtmlText.{after_text}

-- a text stands nowhere in so many bytes at a content's end
abbrev pub Lacks : List ℕ → List ℕ → ℕ → Type 0
Lacks text content size = after_text text (drop (length content - size) content) ≡ None
