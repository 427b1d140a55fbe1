use Rattle.std.proofs.Common.{◌≡◌, ◌+◌, ◌-◌, ◌++◌, ap, ◌∙◌, refl, arith, length, take, drop}
use Rattle.inline_rows.proofs.Prelude.{length-append, length-drop, length-map, length-take-le, rows_view, start_row}
use Rattle.inline_rows.proofs.Writes.{parts_are, told_is}
use Rattle.inline_rows.proofs.tell.tell_run.Goals as goal

pub returns-clause-told : goal.returns-clause-told
returns-clause-told c leads at bytes =
    let old = c.args.rows.now in
    let spans = c.args.spans in
    let fits = c.requires in
    let closed = length spans.closed.now in
    let is_closed : length (take closed old) ≡ closed = length-take-le closed old (omega arith) in
    let first_count = c.fill.ensures.len in
    let between_count = c.fill-2.ensures.len in
    let is_opened : length c.start_spans.new.rows ≡ length spans.opened.now =
    ap length c.start_spans.ensures ∙ length-map spans.opened.now (start_row c.args.marker) in
    let is_between : length c.fill-2.new.self ≡ length old - length spans.opened.now - (closed + spans.text) =
    between_count
    ∙ length-take-le (length old - length spans.opened.now - (closed + spans.text)) (drop (closed + spans.text) (c.fill.new.self ++ drop closed old))
    (omega (
      arith,
      length-drop (closed + spans.text) (c.fill.new.self ++ drop closed old),
      length-append c.fill.new.self (drop closed old),
      length-drop closed old,
    )) in
    ap (rows_view at)
    (parts_are old c.fill.new.self c.fill-2.new.self c.start_spans.new.rows closed spans.text (length spans.opened.now)
    (first_count ∙ is_closed) is_opened fits is_between)
    ∙ told_is leads at old c.fill.new.self c.fill-2.new.self c.start_spans.new.rows spans _ _ _ c.args.marker fits is_closed c.fill.ensures.after
    c.fill-2.ensures.after c.start_spans.ensures refl bytes
