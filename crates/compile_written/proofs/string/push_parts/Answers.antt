use Rattle.std.proofs.Common.{◌++◌, ◌∙◌, ap, List, string_bytes, arith, get_or}
use Rattle.compile_written.proofs.Prelude.{Event, formed, no_event, part_text, take_rest}
use Rattle.compile_written.proofs.StringLoops.{part_on, enter_on, exit_on, zero_is, zero_not}
use Rattle.compile_written.proofs.string.push_parts.Goals as goal
use Rattle.compile_written.proofs.string.push_parts.Goals.{in-Enter, then-depth-eq0+in_ok-push_part-in-Enter, else-depth-eq0, in-Exit+else-depth-eq0-2}

pub loop-index-preserved : goal.loop-index-preserved
loop-index-preserved g c =
    let names = g.T.Tables.reference_of c.args.tables.now in
    let bytes = c.args.bytes.now in
    let form = c.args.form in
    let events = c.args.events.now in
    let i = c.loop-index.index in
    let d = c.loop-index.depth in
    let old = string_bytes c.loop-index.out in
    let bound = c.loop-index.invariant.counted in
    let read = c.loop-index.invariant.read in
    elim c.match-event.branch [
      | in-Enter w ↦ elim w.if-depth-eq0.branch [
        | then-depth-eq0+in_ok-push_part-in-Enter v ↦ rw (w.out-is, w.depth-is, v.out-is)
            (record {
              counted = omega (arith, bound);
              read = part_on names bytes form events i d old _ _ c.loop-index-test.true w.in-Enter.is (zero_is d v.if-depth-eq0.true)
                  (v.in_ok-push_part-in-Enter.ensures
                  ∙ ap (λ (z : List Event). old ++ formed form (part_text names bytes (get_or events i no_event).name z)) (take_rest events i)) read;
            })
        | else-depth-eq0 v ↦ rw (w.out-is, w.depth-is, v.out-is)
            (record {
              counted = omega (arith, bound);
              read = enter_on names bytes form events i d old _ c.loop-index-test.true w.in-Enter.is (zero_not d v.if-depth-eq0.false) read;
            })
      ]
      | in-Exit+else-depth-eq0-2 w ↦ rw (w.out-is, w.depth-is)
          (record {
            counted = omega (arith, bound);
            read = exit_on names bytes form events i d old _ c.loop-index-test.true w.in-Exit.is (zero_not d w.if-depth-eq0-2.false) read;
          })
    ]
