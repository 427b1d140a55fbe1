use Rattle.std.proofs.Common.{◌≡◌, ℕ, ◌++◌, List, sym, ap, ◌∙◌, subst, take}
use Rattle.std.specs.Prelude.{OnOk, map}
use Rattle.std.proofs.lemmas.List.{take-map}
use Rattle.definition_text.specs.BlockLines.{own_lines}
use Rattle.text_pieces.specs.Pieces.{piece_line, piece_lines}
use Rattle.block_rows.specs.Rows.{definition_on, row_value}
use Rattle.block_rows.specs.declared.row.Row.{Row}
use Rattle.format_pages.specs.Hidden.{definitions_in, row_texts, texts_on}
use Rattle.format_pages.proofs.Rows.{definition_row}
use Rattle.format_pages.proofs.hidden.Hidden.row.Goals as goal

pub returns-in-Definition-clause-definitions : goal.returns-in-Definition-clause-definitions
returns-in-Definition-clause-definitions c =
    let count = c.in-Definition.count in
    let lines = c.args.lines.now in
    subst (λ (more : List (List ℕ)). OnOk c.definition.result (definitions_in c.definition.new.self ≡ definitions_in c.args.self.now ++ more))
    (ap (λ ls. texts_on (definition_on ls)) (sym (take-map piece_line count lines))
    ∙ sym (definition_row (own_lines (take count (map piece_line lines))) (definition_on (take count (map piece_line lines))))
    ∙ ap (λ (r : Row). row_texts (row_value r (piece_lines lines))) (sym c.in-Definition.is))
    c.definition.ensures.definitions
