use Rattle.std.proofs.Common.{◌≡◌, ℕ, ◌++◌, ◌∷◌, [], List, sym, ap, ◌∙◌, subst, take}
use Rattle.parse_events.proofs.Prelude.{defined_in, definition_on, normal_labels, OnOk, own_label, own_lines, piece_line, piece_lines, Row, row_definitions}
use Rattle.parse_events.proofs.Prelude.{row_value}
use Rattle.std.specs.Prelude.{map}
use Rattle.std.proofs.lemmas.List.{take-map}
use Rattle.parse_events.proofs.LabelRows.{one_label}
use Rattle.parse_events.proofs.labels.Labels.row.Goals as goal

pub returns-in-Definition-clause-defined : goal.returns-in-Definition-clause-defined
returns-in-Definition-clause-defined g c =
    let count = c.in-Definition.count in
    let lines = c.args.lines.now in
    subst (λ (more : List (List ℕ)). OnOk c.definition.result (defined_in c.definition.new.self ≡ defined_in c.args.self.now ++ more))
    (ap (λ ls. own_label (definition_on ls) ∷ []) (sym (take-map piece_line count lines))
    ∙ sym (one_label (own_lines (take count (map piece_line lines))) (definition_on (take count (map piece_line lines))))
    ∙ ap (λ (r : Row). normal_labels (row_definitions (row_value r (piece_lines lines)))) (sym c.in-Definition.is))
    c.definition.ensures.defined
