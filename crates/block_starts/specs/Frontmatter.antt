-- What a text after a frontmatter stands for.
use Rattle.std.specs.Prelude.{ℕ, List, Option, None, Some}
use Rattle.std.proofs.Common.{Bor}
use Rattle.definition_text.specs.Lines.{TextLine, lines}

-- its lines, if there is one
abbrev pub lines_if : Option (Bor (List ℕ)) → Option (List TextLine)
lines_if None = None
lines_if (Some text) = Some (lines text.now)
