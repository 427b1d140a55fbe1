-- Inline structure from left to right as it is written in its content: leaves, starts and ends, each at its place (CommonMark 6). This is for code that goes
-- over rows and keeps what is open in a stack.
use Rattle.std.specs.Prelude.{◌≡◌, ◌⊎◌, ℕ, List, [], ◌∷◌, ◌++◌, replicate}
use Rattle.markdown_options.specs.declared.configuration.Constructs.{Constructs}
use Rattle.definition_text.specs.Columns.{Code}
use Rattle.definition_text.specs.InlineCode.{InlineCode}
use Rattle.definition_inline.specs.Inline.{Target, InlineLeaf, LineEnd, SpanKind, LinkedKind, Inline, Leaf, Span, Linked, Call, Inlines, Nil, Cons}
use Rattle.definition_inline.specs.Scan.{InlineContext}
use Rattle.parse_written.specs.Written.{AreCodes, AreSpaces, IsLeafWritten, StartsSpan, linked_start, EndsLinked, call_codes}

-- a leaf; the start of a span, and of a link or an image with where it leads; the end of the innermost one; a call of a footnote
pub data Step : Type 0 where
  Holds : InlineLeaf → Step
  EntersSpan : SpanKind → Step
  EntersLinked : LinkedKind → Target → Step
  Leaves : Step
  HoldsCall : List Code → Step

abbrev mutual
  pub part_steps : Inline → List Step
  part_steps (Leaf part) = Holds part ∷ []
  part_steps (Span kind kids) = EntersSpan kind ∷ (steps_of kids ++ Leaves ∷ [])
  part_steps (Linked kind target kids) = EntersLinked kind target ∷ (steps_of kids ++ Leaves ∷ [])
  part_steps (Call label) = HoldsCall label ∷ []

  pub steps_of : Inlines → List Step
  steps_of Nil = []
  steps_of (Cons i is) = part_steps i ++ steps_of is

-- what is open: a span, with the byte and the size of its sequences; a link or an image, with where it leads and the codes from its text on
pub data Open : Type 0 where
  OpenSpan : ℕ → ℕ → Open
  OpenLinked : Target → List InlineCode → Open

-- nothing, or spaces that aren't printed
abbrev pub MayBeSpaces : Constructs → List InlineCode → List InlineCode → Type 0
MayBeSpaces on from to = (from ≡ to) ⊎ AreSpaces on from to

-- a leaf; such spaces may stand before a line ending (CommonMark 6.8)
abbrev pub IsLeafLaid : InlineContext → InlineLeaf → List InlineCode → List InlineCode → Type 0
IsLeafLaid context (LineEnd code) from to =
    (start : List InlineCode) × MayBeSpaces context.options.constructs from start × IsLeafWritten context (LineEnd code) start to
IsLeafLaid context part from to = IsLeafWritten context part from to

-- steps, one after another, where these are open, the innermost first; at the end all are closed, and such spaces may be left
abbrev pub AreLaid : InlineContext → List Open → List Step → List InlineCode → List InlineCode → Type 0
AreLaid context [] [] from to = MayBeSpaces context.options.constructs from to
AreLaid context (o ∷ os) [] from to = ⊥
AreLaid context os (Holds part ∷ steps) from to =
    (next : List InlineCode) × IsLeafLaid context part from next × AreLaid context os steps next to
AreLaid context os (HoldsCall label ∷ steps) from to =
    (next : List InlineCode) × AreCodes (call_codes label) from next × AreLaid context os steps next to
AreLaid context os (EntersSpan kind ∷ steps) from to =
    (marker : ℕ) × (size : ℕ) × (next : List InlineCode) × StartsSpan context.options kind marker size from next
    × AreLaid context (OpenSpan marker size ∷ os) steps next to
AreLaid context os (EntersLinked kind target ∷ steps) from to =
    (next : List InlineCode) × AreCodes (linked_start kind) from next × AreLaid context (OpenLinked target next ∷ os) steps next to
AreLaid context [] (Leaves ∷ steps) from to = ⊥
AreLaid context (OpenSpan marker size ∷ os) (Leaves ∷ steps) from to =
    (next : List InlineCode) × AreCodes (replicate size marker) from next × AreLaid context os steps next to
AreLaid context (OpenLinked target inside ∷ os) (Leaves ∷ steps) from to =
    (next : List InlineCode) × EndsLinked context target inside from next × AreLaid context os steps next to
