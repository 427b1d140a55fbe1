-- Rows of steps.
use Rattle.std.proofs.Common.{◌≡◌, List, [], ◌∷◌, ◌++◌, map, refl, sym, ap, ◌∙◌}
use Rattle.std.proofs.lemmas.List.{map-append}
use Rattle.definition_inline.specs.Inline.{Target, LinkTexts, Inline, Leaf, Span, Linked, Call, Inlines, Nil, Cons}
use Rattle.inline_rows.specs.InlineRows.{part_rows, inline_rows, EnterSpan, EnterLinked, Leave}
use Rattle.inline_rows.specs.InlineRows as seen
use Rattle.parse_written.specs.Laid.{Step, Leaves, part_steps, steps_of}
use Rattle.parse_written.specs.RowLaws.{RowsOfSteps}
use Rattle.parse_written.specs.Rows.{step_row}

module _ (leads : Target → LinkTexts) where
  abbrev rows_by : List Step → List seen.InlineRow
  rows_by ss = map (step_row leads) ss

  -- what is held, and its end
  held : (rows : List seen.InlineRow) (ss : List Step) → rows ≡ rows_by ss → rows ++ Leave ∷ [] ≡ rows_by (ss ++ Leaves ∷ [])
  held rows ss is = ap (λ xs. xs ++ Leave ∷ []) is ∙ sym (map-append (step_row leads) ss (Leaves ∷ []))

  mutual
    of_part : (i : Inline) → part_rows leads i ≡ rows_by (part_steps i)
    of_part (Leaf part) = refl
    of_part (Span kind kids) = ap (λ xs. EnterSpan kind ∷ xs) (held (inline_rows leads kids) (steps_of kids) (of_parts kids))
    of_part (Linked kind target kids) =
        ap (λ xs. EnterLinked kind (leads target) ∷ xs) (held (inline_rows leads kids) (steps_of kids) (of_parts kids))
    of_part (Call label) = refl

    of_parts : (is : Inlines) → inline_rows leads is ≡ rows_by (steps_of is)
    of_parts Nil = refl
    of_parts (Cons i is) =
        ap (λ xs. xs ++ inline_rows leads is) (of_part i) ∙ ap (λ xs. rows_by (part_steps i) ++ xs) (of_parts is)
        ∙ sym (map-append (step_row leads) (part_steps i) (steps_of is))

pub rows_of_steps : RowsOfSteps
rows_of_steps leads is = of_parts leads is
