use Rattle.std.proofs.Common.{◌≡◌, ◌+◌, ◌-◌, ◌∷◌, drop, length, refl, sym, ap, subst, ◌∙◌, arith}
use Rattle.parse_inline.proofs.Prelude.{AreHeld, inlines_from, IsReadBy, leave_all, length-drop, open_around, Setting, still_open}
use Rattle.std.proofs.lemmas.List.{drop_more}
use Rattle.parse_inline.proofs.AllRows.{IsOver, all_written, drop_past, goes_first, goes_on, goes_over, no_more}
use Rattle.parse_inline.proofs.Calls.{on_ok_both}
use Rattle.parse_inline.proofs.Held.{held_less, none_held}
use Rattle.parse_inline.proofs.LeavingAll.{leave_last}
use Rattle.parse_inline.proofs.rows.push_rows.Goals as goal

pub loop-row-init : goal.loop-row-init
loop-row-init g c =
    let reading = c.args.reading.now in
    let walk = c.args.walk.now in
    let none = c.clear.ensures.items in
    record {
      around = ap (λ os. open_around os walk) none;
      held = subst (λ os. AreHeld os (still_open walk)) (sym none) (none_held (still_open walk) c.requires.text);
      goes = goes_first reading.on.now (g.T.Tables.reference_of reading.tables.now) reading.content.now c.args.rows.now c.clear.new.self.items walk none;
    }

pub loop-row-preserved : goal.loop-row-preserved
loop-row-preserved g c =
    let reading = c.args.reading.now in
    let rows = c.args.rows.now in
    let i = c.loop-row.row-index in
    let row = c.row-item.result in
    let pushed = c.in_ok-push_row.ensures in
    record {
      around = pushed.open ∙ c.loop-row.invariant.around;
      held = pushed.held;
      goes =
          goes_on reading.on.now (g.T.Tables.reference_of reading.tables.now) reading.content.now rows i row c.loop-row.open.items c.push_row.new.open.items
          c.args.walk.now c.loop-row.walk c.push_row.new.walk
          (drop_more rows i row c.loop-row-test.true ∙ ap (λ r. r ∷ drop (i + 1) rows) (sym c.row-item.is)) c.loop-row.invariant.goes pushed.written;
    }

pub loop-held-init : goal.loop-held-init
loop-held-init g c =
    let reading = c.args.reading.now in
    let rows = c.args.rows.now in
    let i = c.loop-row.row-index in
    record {
      around = c.loop-row.invariant.around;
      held = c.loop-row.invariant.held;
      over =
          goes_over reading.on.now (g.T.Tables.reference_of reading.tables.now) reading.content.now rows (drop i rows) c.loop-row.open.items c.args.walk.now
          c.loop-row.walk (drop_past rows i c.loop-row-test.false) c.loop-row.invariant.goes;
    }

pub loop-held-preserved : goal.loop-held-preserved
loop-held-preserved g c =
    let reading = c.args.reading.now in
    let names = g.T.Tables.reference_of reading.tables.now in
    let rows = c.args.rows.now in
    let kept = c.pop.new.self.items in
    let o = c.in-Some.held in
    let old = c.loop-held.walk in
    let marks = still_open old in
    let items = c.in-Some.ensures.items in
    let left = c.in_ok-leave.ensures.open in
    record {
      around =
          ap (leave_all kept) left ∙ sym (leave_last kept o marks) ∙ ap (λ os. leave_all os marks) (sym items) ∙ c.loop-held.invariant.around;
      held = subst (AreHeld kept) (sym left) (held_less kept o marks (subst (λ os. AreHeld os marks) items c.loop-held.invariant.held));
      over =
          no_more reading.on.now names reading.content.now rows kept kept o c.args.walk.now old c.leave.new.walk
          (subst (λ os. IsOver reading.on.now names reading.content.now rows os c.args.walk.now old) items c.loop-held.invariant.over);
    }

pub returns-clause-written : goal.returns-clause-written
returns-clause-written g c =
    on_ok_both c.text.result
    (λ stays written. λ context leads at text bytes from stop on names texts same st.
    let all = c.args.reading.now.content.now in
    let s : Setting =
    record { context = context; leads = leads; at = at; text = text; content = all; bytes = bytes; is = inlines_from context from; stop = stop } in
    let by : IsReadBy c.args.reading.now.on.now (g.T.Tables.reference_of c.args.reading.now.tables.now) all s =
    record { read_on = on; read_names = names; texts = texts; over = refl } in
    let now = c.loop-held.walk in
    let d = c.loop-held.invariant.over.over s from by refl same st in
    let long : length d.left ≡ length all - now.place = ap length d.stands.ahead ∙ length-drop now.place all in
    let size : c.saturating_sub-left.result ≡ length d.left = omega (arith, c.saturating_sub-left.ensures, c.place.ensures, long) in
    all_written s c.args.walk.now c.loop-held.open.items now c.text.new.self c.saturating_sub-left.result d size (stays, written))
    c.text.ensures.stays c.text.ensures.written
