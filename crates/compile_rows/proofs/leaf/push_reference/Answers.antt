use Rattle.std.proofs.Common.{◌∙◌, ◌∷◌, [], ℕ, List, sym, ap}
use Rattle.compile_rows.proofs.Prelude.{Character, Part, reference_by, rows_view, unwrap_or}
use Rattle.compile_rows.proofs.Pushed.{along, hexadecimal, decimal, named}
use Rattle.compile_rows.proofs.leaf.push_reference.Goals as goal

pub returns-then-has : goal.returns-then-has
returns-then-has g c at =
    along c.push_number.result (rows_view at c.push_number.new.rows.items) (rows_view at c.args.rows.now.items) _
    (Part (Character (reference_by (g.T.Tables.reference_of c.args.texts.now.tables.now) c.args.texts.now.bytes.now c.args.events.now)) ∷ [])
    (hexadecimal (g.T.Tables.reference_of c.args.texts.now.tables.now) c.args.texts.now.bytes.now c.args.events.now _ c.value_of-value.ensures
    (sym c.has.ensures ∙ c.if-has.true)) (c.push_number.ensures at)

pub returns-then-has-2 : goal.returns-then-has-2
returns-then-has-2 g c at =
    along c.push_number-then-has-2.result (rows_view at c.push_number-then-has-2.new.rows.items) (rows_view at c.args.rows.now.items) _
    (Part (Character (reference_by (g.T.Tables.reference_of c.args.texts.now.tables.now) c.args.texts.now.bytes.now c.args.events.now)) ∷ [])
    (decimal (g.T.Tables.reference_of c.args.texts.now.tables.now) c.args.texts.now.bytes.now c.args.events.now _ c.value_of-value.ensures
    (sym c.has.ensures ∙ c.if-has.false) (sym c.has-else-has.ensures ∙ c.if-has-2.true)) (c.push_number-then-has-2.ensures at)

pub returns-else-has-2 : goal.returns-else-has-2
returns-else-has-2 g c at =
    along c.push_part.result (rows_view at c.push_part.new.rows.items) (rows_view at c.args.rows.now.items) _
    (Part (Character (reference_by (g.T.Tables.reference_of c.args.texts.now.tables.now) c.args.texts.now.bytes.now c.args.events.now)) ∷ [])
    (named (g.T.Tables.reference_of c.args.texts.now.tables.now) c.args.texts.now.bytes.now c.args.events.now _
    (c.named_text.ensures ∙ ap (λ (z : List ℕ). unwrap_or ((g.T.Tables.reference_of c.args.texts.now.tables.now) z) []) c.value_of-value.ensures)
    (sym c.has.ensures ∙ c.if-has.false)
    (sym c.has-else-has.ensures ∙ c.if-has-2.false)) (c.push_part.ensures at)
