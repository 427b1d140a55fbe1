use Rattle.std.proofs.Common.{◌≡◌, ◌++◌, ◌∷◌, [], List, Option, None, Some, refl, sym, ap, ◌∙◌, subst, take}
use Rattle.block_targets.proofs.Prelude.{alone, BlockLine, Definition, HasContents, map, on_ok_weaker, piece_line, piece_lines, Row, row_definitions}
use Rattle.block_targets.proofs.Prelude.{row_value}
use Rattle.std.proofs.lemmas.List.{take-map}
use Rattle.definition_text.specs.BlockLines.{own_lines}
use Rattle.block_rows.specs.Rows.{Single, definition_on, definition_value}
use Rattle.block_targets.proofs.contents.DefinitionContents.block.Goals as goal

-- a row of a definition stands for one
one_alone : (ls : List BlockLine) (o : Option Definition) → row_definitions (Single (definition_value ls o)) ≡ alone o ∷ []
one_alone ls None = refl
one_alone ls (Some d) = refl

pub returns-in-Definition : goal.returns-in-Definition
returns-in-Definition g c = record {
  read = λ ds h.
      let count = c.in-Definition.count in
      let lines = c.args.lines.now in
      on_ok_weaker c.definition.result
      (subst (λ x. HasContents c.definition.new.self (ds ++ x))
      (ap (λ ls. alone (definition_on ls) ∷ []) (sym (take-map piece_line count lines))
      ∙ sym (one_alone (own_lines (take count (map piece_line lines))) (definition_on (take count (map piece_line lines))))
      ∙ ap (λ (r : Row). row_definitions (row_value r (piece_lines lines))) (sym c.in-Definition.is)))
      (c.definition.ensures.read ds h);
}
