use Rattle.std.proofs.Common.{◌∙◌, ◌++◌, List, ap, arith, length, refl}
use Rattle.compile_rows.proofs.Prelude.{InlineRow, place, raws_by, rows_by, rows_view, targets_by}
use Rattle.compile_rows.specs.declared.rows.Mode.TheVariants.{Text}
use Rattle.compile_rows.proofs.RowLoops.{HasRead, enter_left, exit_left, enter_on, exit_on, left_over, none_on}
use Rattle.compile_rows.proofs.RowsLaw.{rows_law}
use Rattle.compile_rows.proofs.rows.text_rows.Goals as goal
use Rattle.compile_rows.proofs.rows.text_rows.Goals.{in-Enter+in_ok-enter-in-Enter, in-Exit+in_ok-exit-in-Exit}

pub loop-event-preserved : goal.loop-event-preserved
loop-event-preserved g c =
    let names = g.T.Tables.reference_of c.args.texts.now.tables.now in
    let bytes = c.args.texts.now.bytes.now in
    let in_link = c.args.texts.now.linked in
    let events = c.args.events.now in
    let strings = c.args.strings.now in
    let walk = c.loop-event.walk in
    let own = c.loop-event.rest.now in
    let event = c.in-Some.event.now in
    let after = c.in-Some.after.now in
    let split = c.in-Some.ensures.cases.0 in
    let known = c.loop-event.invariant in
    let size = ap length split in
    let read : HasRead names bytes in_link strings events c.match-event.walk after =
    elim c.match-event.branch [
      | in-Enter+in_ok-enter-in-Enter w ↦ rw (w.walk-is)
          (record {
            skipped = omega (arith, size, known.skipped, w.enter.ensures.skipped);
            links = omega (arith, size, known.links, w.enter.ensures.links);
            targets = omega (arith, size, known.targets, w.enter.ensures.targets);
            raw_texts = omega (arith, size, known.raw_texts, w.enter.ensures.raw_texts);
            left =
                λ leads at spelled.
                w.enter.ensures.left leads at (targets_by names bytes leads after) (raws_by bytes after)
                (enter_left names bytes leads event after own split at strings walk (known.left leads at spelled) w.in-Enter.is);
            read =
                λ leads at spelled.
                enter_on names bytes leads event after own split in_link walk.place _ (rows_view at walk.rows.items) _ _ w.in-Enter.is
                w.enter.ensures.place
                (w.in_ok-enter-in-Enter.ensures.rows leads at (targets_by names bytes leads after) (raws_by bytes after)
                (enter_left names bytes leads event after own split at strings walk (known.left leads at spelled) w.in-Enter.is))
                (known.read leads at spelled);
          })
      | in-Exit+in_ok-exit-in-Exit w ↦ rw (w.walk-is)
          (record {
            skipped = omega (arith, size, known.skipped, w.exit.ensures.skipped);
            links = omega (arith, size, known.links, w.exit.ensures.links);
            targets = omega (arith, size, known.targets, w.exit.ensures.targets);
            raw_texts = omega (arith, size, known.raw_texts, w.exit.ensures.raw_texts);
            left =
                λ leads at spelled.
                exit_left names bytes leads event after own split at strings walk (known.left leads at spelled) _ w.in-Exit.is w.exit.ensures.targets
                w.exit.ensures.raw_texts;
            read =
                λ leads at spelled.
                exit_on names bytes leads event after own split in_link walk.place _ (rows_view at walk.rows.items) _ _ w.in-Exit.is
                w.exit.ensures.place (w.in_ok-exit-in-Exit.ensures.rows at) (known.read leads at spelled);
          })
    ] in
    let next = c.match-event.walk in
    let over = c.pass_over-skipped.ensures in
    record {
      skipped = omega (arith, over.fits, read.skipped);
      links = omega (arith, over.shorter, read.links);
      targets = omega (arith, over.shorter, read.targets);
      raw_texts = omega (arith, over.shorter, read.raw_texts);
      left =
          λ leads at spelled.
          left_over names bytes leads at strings next _ after c.pass_over-skipped.result.1.now refl refl (over.targets names bytes leads) (over.raws bytes)
          (read.left leads at spelled);
      read =
          λ leads at spelled.
          ap (λ (z : List InlineRow). rows_view at next.rows.items ++ z) (over.rows names bytes leads in_link next.place.mode next.place.links)
          ∙ read.read leads at spelled;
    }

pub returns-clause-rows : goal.returns-clause-rows
returns-clause-rows g c leads at spelled =
    none_on (g.T.Tables.reference_of c.args.texts.now.tables.now) c.args.texts.now.bytes.now leads c.args.texts.now.linked c.loop-event.walk.place
    c.loop-event.rest.now (rows_view at c.loop-event.walk.rows.items) _ c.in_default.ensures.cases (c.loop-event.invariant.read leads at spelled)

pub returns-clause-structure : goal.returns-clause-structure
returns-clause-structure g c leads at ns is nodes texts endings spelled =
    let names = g.T.Tables.reference_of c.args.texts.now.tables.now in
    let bytes = c.args.texts.now.bytes.now in
    none_on names bytes leads c.args.texts.now.linked c.loop-event.walk.place c.loop-event.rest.now (rows_view at c.loop-event.walk.rows.items) _
    c.in_default.ensures.cases (c.loop-event.invariant.read leads at spelled)
    ∙ ap (rows_by names bytes leads c.args.texts.now.linked (place Text 0 0)) is
    ∙ rows_law names bytes leads c.args.texts.now.linked ns nodes texts endings
