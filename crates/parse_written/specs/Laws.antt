-- Inline structure is written in its content (CommonMark 6).
use Rattle.std.specs.Prelude.{List, [], ◌∷◌}
use Rattle.definition_text.specs.Ascii.{right_bracket}
use Rattle.definition_text.specs.Content.{text_before}
use Rattle.definition_text.specs.InlineCode.{InlineCode, codes_of}
use Rattle.definition_inline.specs.Inline.{Target, InlineLeaf, Inlines}
use Rattle.definition_inline.specs.Scan.{InlineContext, inlines, inlines_from, without_indent}
use Rattle.parse_written.specs.Laid.{steps_of, AreLaid}
use Rattle.parse_written.specs.Leaves.{HasForm}
use Rattle.parse_written.specs.Tails.{HasTail}
use Rattle.parse_written.specs.Written.{AreCodes, EndsLinked, IsLeafWritten, AreWritten}

-- the inline structure of a content is written in it, from its first code that is no space or tab to its end (CommonMark 6)
abbrev pub WrittenLaw : Type 0
WrittenLaw = (context : InlineContext) (content : List InlineCode) → AreWritten context (inlines context content) (without_indent content) []

-- that of a content that begins anywhere is written in it, from its first code to its end
abbrev pub WrittenFromLaw : Type 0
WrittenFromLaw = (context : InlineContext) (content : List InlineCode) → AreWritten context (inlines_from context content) content []

-- what is written from one place to another is so from left to right, too
abbrev pub LaidLaw : Type 0
LaidLaw =
    (context : InlineContext) (is : Inlines) (from to : List InlineCode) → AreWritten context is from to → AreLaid context [] (steps_of is) from to

-- a leaf has its form where it is written
abbrev pub LeafLaw : Type 0
LeafLaw = (context : InlineContext) (part : InlineLeaf) (from to : List InlineCode) → IsLeafWritten context part from to → HasForm context part from to

-- what follows the text of a link or an image has its form: the `]`, and a resource, a label, `[]` or nothing
abbrev pub TailLaw : Type 0
TailLaw =
    (context : InlineContext) (target : Target) (inside from to : List InlineCode) → EndsLinked context target inside from to
    → (rest : List InlineCode) × AreCodes (right_bracket ∷ []) from rest × HasTail (text_before (codes_of inside) (codes_of from)) target rest to
