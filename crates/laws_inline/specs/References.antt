-- Labels of references and of calls of footnotes (CommonMark 6.3 and 6.4).
use Rattle.std.specs.Prelude.{◌≡◌, ℕ, Bool, false, not, List}
use Rattle.definition_text.specs.InlineCode.{InlineCode}
use Rattle.definition_inline.specs.Inline.{Target, Resource, Reference, Inline, Linked, Call}
use Rattle.definition_inline.specs.Scan.{InlineContext, inlines}
use Rattle.laws_inline.specs.Occurs.{has}

-- the label of no definition
abbrev pub is_undefined : (List ℕ → Bool) → Target → Bool
is_undefined is_defined (Resource destination title) = false
is_undefined is_defined (Reference label) = not (is_defined label)

-- a link or an image that leads to the label of no definition, or a call of the label of no footnote
abbrev pub leads_nowhere : (List ℕ → Bool) → (List ℕ → Bool) → Inline → Bool
leads_nowhere is_defined is_footnote (Linked kind target kids) = is_undefined is_defined target
leads_nowhere is_defined is_footnote (Call label) = not (is_footnote label)
leads_nowhere is_defined is_footnote i = false

-- what is no label of a definition forms no reference, and what is no label of a footnote no call, at any level of nesting (CommonMark 6.3 and 6.4)
abbrev pub ReferencesAreDefined : Type 0
ReferencesAreDefined =
    (context : InlineContext) (content : List InlineCode) → has (leads_nowhere context.is_defined context.is_footnote) (inlines context content) ≡ false
