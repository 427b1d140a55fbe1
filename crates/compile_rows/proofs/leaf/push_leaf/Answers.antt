use Rattle.std.proofs.Common.{◌∙◌, ◌∷◌, [], ℕ, List, sym, ap, map}
use Rattle.compile_rows.proofs.Prelude.{autolink_by, Character, data_rows, ending_rows, Escape, Event, html_after, leaf_rows, literal_kind, literal_rows, Part}
use Rattle.compile_rows.proofs.Prelude.{reference_by, rows_view, valid, value_of}
use Rattle.engine_events.specs.declared.event.Name.TheVariants as n
use Rattle.compile_rows.specs.declared.leaf.LeafKind.{LeafKind}
use Rattle.compile_rows.specs.Leaves.{leaf_kind_rows}
use Rattle.compile_rows.proofs.Pushed.{along}
use Rattle.compile_rows.proofs.leaf.push_leaf.Goals as goal

pub returns-in-Data : goal.returns-in-Data
returns-in-Data g c at =
    along c.push_text.result (rows_view at c.push_text.new.rows.items) (rows_view at c.args.rows.now.items) _
    (leaf_rows (g.T.Tables.reference_of c.args.texts.now.tables.now) c.args.texts.now.bytes.now c.args.linked c.args.name c.args.events.now)
    (ap (λ (z : List ℕ). data_rows (valid z)) c.text_first.ensures
    ∙ ap (λ (z : LeafKind). leaf_kind_rows (g.T.Tables.reference_of c.args.texts.now.tables.now) c.args.texts.now.bytes.now z c.args.linked c.args.name
    c.args.events.now) (sym c.in-Data.is ∙ c.leaf_of.ensures)) (c.push_text.ensures at)

pub returns-in-Ending : goal.returns-in-Ending
returns-in-Ending g c at =
    along c.push_ending.result (rows_view at c.push_ending.new.rows.items) (rows_view at c.args.rows.now.items) _
    (leaf_rows (g.T.Tables.reference_of c.args.texts.now.tables.now) c.args.texts.now.bytes.now c.args.linked c.args.name c.args.events.now)
    (ap ending_rows c.text_first-in-Ending.ensures
    ∙ ap (λ (z : LeafKind). leaf_kind_rows (g.T.Tables.reference_of c.args.texts.now.tables.now) c.args.texts.now.bytes.now z c.args.linked c.args.name
    c.args.events.now) (sym c.in-Ending.is ∙ c.leaf_of.ensures)) (c.push_ending.ensures at)

pub returns-in-Escape : goal.returns-in-Escape
returns-in-Escape g c at =
    along c.push_escape.result (rows_view at c.push_escape.new.rows.items) (rows_view at c.args.rows.now.items) _
    (leaf_rows (g.T.Tables.reference_of c.args.texts.now.tables.now) c.args.texts.now.bytes.now c.args.linked c.args.name c.args.events.now)
    (ap (λ (z : List Event). map Part (map Escape (value_of c.args.texts.now.bytes.now n.CharacterEscapeValue z))) c.inside.ensures
    ∙ ap (λ (z : LeafKind). leaf_kind_rows (g.T.Tables.reference_of c.args.texts.now.tables.now) c.args.texts.now.bytes.now z c.args.linked c.args.name
    c.args.events.now) (sym c.in-Escape.is ∙ c.leaf_of.ensures)) (c.push_escape.ensures at)

pub returns-in-Reference : goal.returns-in-Reference
returns-in-Reference g c at =
    along c.push_reference.result (rows_view at c.push_reference.new.rows.items) (rows_view at c.args.rows.now.items) _
    (leaf_rows (g.T.Tables.reference_of c.args.texts.now.tables.now) c.args.texts.now.bytes.now c.args.linked c.args.name c.args.events.now)
    (ap (λ (z : List Event). Part (Character (reference_by (g.T.Tables.reference_of c.args.texts.now.tables.now) c.args.texts.now.bytes.now z)) ∷ [])
    c.inside-in-Reference.ensures
    ∙ ap (λ (z : LeafKind). leaf_kind_rows (g.T.Tables.reference_of c.args.texts.now.tables.now) c.args.texts.now.bytes.now z c.args.linked c.args.name
    c.args.events.now) (sym c.in-Reference.is ∙ c.leaf_of.ensures)) (c.push_reference.ensures at)

pub returns-in-Autolink : goal.returns-in-Autolink
returns-in-Autolink g c at =
    along c.push_autolink.result (rows_view at c.push_autolink.new.rows.items) (rows_view at c.args.rows.now.items) _
    (leaf_rows (g.T.Tables.reference_of c.args.texts.now.tables.now) c.args.texts.now.bytes.now c.args.linked c.args.name c.args.events.now)
    (ap (λ (z : List Event). Part (autolink_by c.args.texts.now.bytes.now z) ∷ []) c.inside-in-Autolink.ensures
    ∙ ap (λ (z : LeafKind). leaf_kind_rows (g.T.Tables.reference_of c.args.texts.now.tables.now) c.args.texts.now.bytes.now z c.args.linked c.args.name
    c.args.events.now) (sym c.in-Autolink.is ∙ c.leaf_of.ensures)) (c.push_autolink.ensures at)

pub returns-in-Html : goal.returns-in-Html
returns-in-Html g c at =
    along c.push_html.result (rows_view at c.push_html.new.rows.items) (rows_view at c.args.rows.now.items) _
    (leaf_rows (g.T.Tables.reference_of c.args.texts.now.tables.now) c.args.texts.now.bytes.now c.args.linked c.args.name c.args.events.now)
    (ap (λ (z : List Event). html_after c.args.texts.now.bytes.now 0 z) c.inside-in-Html.ensures
    ∙ ap (λ (z : LeafKind). leaf_kind_rows (g.T.Tables.reference_of c.args.texts.now.tables.now) c.args.texts.now.bytes.now z c.args.linked c.args.name
    c.args.events.now) (sym c.in-Html.is ∙ c.leaf_of.ensures)) (c.push_html.ensures at)

pub returns-in-EscapedBreak : goal.returns-in-EscapedBreak
returns-in-EscapedBreak g c at =
    along c.push_part.result (rows_view at c.push_part.new.rows.items) (rows_view at c.args.rows.now.items) _
    (leaf_rows (g.T.Tables.reference_of c.args.texts.now.tables.now) c.args.texts.now.bytes.now c.args.linked c.args.name c.args.events.now)
    (
    ap (λ (z : LeafKind). leaf_kind_rows (g.T.Tables.reference_of c.args.texts.now.tables.now) c.args.texts.now.bytes.now z c.args.linked c.args.name
    c.args.events.now) (sym c.in-EscapedBreak.is ∙ c.leaf_of.ensures)) (c.push_part.ensures at)

pub returns-in-TrailingBreak : goal.returns-in-TrailingBreak
returns-in-TrailingBreak g c at =
    along c.push_part-in-TrailingBreak.result (rows_view at c.push_part-in-TrailingBreak.new.rows.items) (rows_view at c.args.rows.now.items) _
    (leaf_rows (g.T.Tables.reference_of c.args.texts.now.tables.now) c.args.texts.now.bytes.now c.args.linked c.args.name c.args.events.now)
    (
    ap (λ (z : LeafKind). leaf_kind_rows (g.T.Tables.reference_of c.args.texts.now.tables.now) c.args.texts.now.bytes.now z c.args.linked c.args.name
    c.args.events.now) (sym c.in-TrailingBreak.is ∙ c.leaf_of.ensures)) (c.push_part-in-TrailingBreak.ensures at)

pub returns-in-Other : goal.returns-in-Other
returns-in-Other g c at =
    along c.push_literal.result (rows_view at c.push_literal.new.rows.items) (rows_view at c.args.rows.now.items) _
    (leaf_rows (g.T.Tables.reference_of c.args.texts.now.tables.now) c.args.texts.now.bytes.now c.args.linked c.args.name c.args.events.now)
    (ap (λ (z : List ℕ). literal_rows c.args.linked (literal_kind c.args.name) (valid z)) c.text_first-in-Other.ensures
    ∙ ap (λ (z : LeafKind). leaf_kind_rows (g.T.Tables.reference_of c.args.texts.now.tables.now) c.args.texts.now.bytes.now z c.args.linked c.args.name
    c.args.events.now) (sym c.in-Other.is ∙ c.leaf_of.ensures)) (c.push_literal.ensures at)
