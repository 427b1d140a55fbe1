-- Places of a content.
use Rattle.std.specs.Prelude.{◌≡◌, ◌<◌, ◌≤◌, ◌-◌, ℕ, List, ◌∷◌, ◌++◌, drop, length, take}
use Rattle.definition_text.specs.Content.{content_codes}
use Rattle.inline_links.specs.declared.code.Code.{Code}

-- a place that isn't inside a line ending: the codes are those before it and those from it on
abbrev pub IsCut : List ℕ → ℕ → Type 0
IsCut content at = content_codes content ≡ content_codes (take at content) ++ content_codes (drop at content)

-- the code at a place, and where the next one begins
pub record ReadsCode (content : List ℕ) (at : ℕ) (read : Code) : Type 0 where
  pub codes : content_codes (drop at content) ≡ read.code ∷ content_codes (drop read.next content)
  pub forward : at < read.next
  pub within : read.next ≤ length content
  pub cut : IsCut content read.next

-- what follows the first bytes of a content
pub record IsRest (content rest : List ℕ) : Type 0 where
  pub within : length rest ≤ length content
  pub place : rest ≡ drop (length content - length rest) content

-- what follows the first bytes of a content, at least one
pub record IsShorterRest (content rest : List ℕ) : Type 0 where
  pub shorter : length rest < length content
  pub place : rest ≡ drop (length content - length rest) content
