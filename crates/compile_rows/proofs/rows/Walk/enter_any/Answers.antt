use Rattle.std.proofs.Common.{◌≡◌, ◌∙◌, ◌++◌, refl, sym, ap, subst, drop, List}
use Rattle.compile_rows.proofs.Prelude.{enter_rows, Event, first_raw, InlineRow, OnOk, raws_view, rows_view, sequence_of, Walk}
use Rattle.compile_rows.proofs.Ahead.{enter_left, strings_of, raw_of}
use Rattle.compile_rows.proofs.rows.Walk.enter_any.Goals as goal

pub returns-clause-left : goal.returns-clause-left
returns-clause-left g c leads at others raws left =
    let names = g.T.Tables.reference_of c.args.texts.now.tables.now in
    let bytes = c.args.texts.now.bytes.now in
    enter_left c.args.strings.now at names bytes leads c.args.name (drop 1 c.args.events.now) c.args.self.now _ others raws _ left
    (ap (λ (w : Walk g.row.A.Denot). w.targets) c.raw_text-raw_text.ensures.same
    ∙ ap (λ (w : Walk g.row.A.Denot). w.targets) c.next_target-target.ensures.next)
    (c.raw_text-raw_text.ensures.left raws
    (ap (λ (w : Walk g.row.A.Denot). drop w.raw_texts (raws_view c.args.strings.now)) c.next_target-target.ensures.next
    ∙ left.raws
    ∙ ap (λ (z : List Event). first_raw bytes (sequence_of c.args.name) z raws) (sym c.inside.ensures)))

pub returns-clause-rows : goal.returns-clause-rows
returns-clause-rows g c leads at others raws left =
    let names = g.T.Tables.reference_of c.args.texts.now.tables.now in
    let bytes = c.args.texts.now.bytes.now in
    let in_link = c.args.texts.now.linked in
    subst (λ (z : List InlineRow). OnOk c.push_entered.result (rows_view at c.push_entered.new.rows.items
    ≡ z ++ enter_rows names bytes leads in_link c.args.self.now.place c.args.name c.args.events.now))
    (ap (λ (w : Walk g.row.A.Denot). rows_view at w.rows.items) c.raw_text-raw_text.ensures.same
    ∙ ap (λ (w : Walk g.row.A.Denot). rows_view at w.rows.items) c.next_target-target.ensures.next)
    (c.push_entered.ensures leads at
    (strings_of c.args.strings.now at names bytes leads c.args.name (drop 1 c.args.events.now) c.args.self.now _ others _ left refl
    c.next_target-target.ensures.number
    (c.raw_text-raw_text.ensures.text raws
    (ap (λ (w : Walk g.row.A.Denot). drop w.raw_texts (raws_view c.args.strings.now)) c.next_target-target.ensures.next
    ∙ left.raws
    ∙ ap (λ (z : List Event). first_raw bytes (sequence_of c.args.name) z raws) (sym c.inside.ensures))
    ∙ ap (λ (z : List Event). raw_of bytes (sequence_of c.args.name) z) c.inside.ensures)))
