use Rattle.std.proofs.Common.{◌++◌, ◌∙◌, ap, ℕ, List, arith, get_or}
use Rattle.std.proofs.lemmas.List.{take_rest}
use Rattle.compile_rows.proofs.Prelude.{html_part_rows, no_event, rows_view, text_first}
use Rattle.compile_rows.proofs.HtmlLoops.{part_on, enter_on, exit_on, ends_on, none_on, zero_is, zero_not}
use Rattle.compile_rows.proofs.leaf.push_html.Goals as goal
use Rattle.compile_rows.proofs.leaf.push_html.Goals.{in-Enter, then-depth-eq0+in_ok-push_html_part-in-Enter, else-depth-eq0, in-Exit+else-depth-eq0-2}

pub returns-then-depth-eq0-2 : goal.returns-then-depth-eq0-2
returns-then-depth-eq0-2 g c at =
    ends_on c.args.bytes.now c.args.events.now c.loop-index.index c.loop-index.depth _ _ c.loop-index-test.true c.in-Exit.is
    (zero_is c.loop-index.depth c.if-depth-eq0-2.true) (c.loop-index.invariant.read at)

pub loop-index-preserved : goal.loop-index-preserved
loop-index-preserved g c =
    let bytes = c.args.bytes.now in
    let events = c.args.events.now in
    let i = c.loop-index.index in
    let d = c.loop-index.depth in
    let bound = c.loop-index.invariant.counted in
    let read = c.loop-index.invariant.read in
    elim c.match-event.branch [
      | in-Enter w ↦ elim w.if-depth-eq0.branch [
        | then-depth-eq0+in_ok-push_html_part-in-Enter v ↦ rw (w.rows-is, w.depth-is, v.rows-is)
            (record {
              counted = omega (arith, bound);
              read =
                  λ at.
                  part_on bytes events i d (rows_view at c.loop-index.rows.items) _ _ c.loop-index-test.true w.in-Enter.is (zero_is d v.if-depth-eq0.true)
                  (v.in_ok-push_html_part-in-Enter.ensures at
                  ∙ ap (λ (z : List ℕ). rows_view at c.loop-index.rows.items ++ html_part_rows (get_or events i no_event).name z)
                  (v.text_first.ensures ∙ ap (text_first bytes) (take_rest events i))) (read at);
            })
        | else-depth-eq0 v ↦ rw (w.rows-is, w.depth-is, v.rows-is)
            (record {
              counted = omega (arith, bound);
              read =
                  λ at.
                  enter_on bytes events i d (rows_view at c.loop-index.rows.items) _ c.loop-index-test.true w.in-Enter.is (zero_not d v.if-depth-eq0.false)
                  (read at);
            })
      ]
      | in-Exit+else-depth-eq0-2 w ↦ rw (w.rows-is, w.depth-is)
          (record {
            counted = omega (arith, bound);
            read =
                λ at.
                exit_on bytes events i d (rows_view at c.loop-index.rows.items) _ c.loop-index-test.true w.in-Exit.is (zero_not d w.if-depth-eq0-2.false)
                (read at);
          })
    ]

pub returns : goal.returns
returns g c at =
    none_on c.args.bytes.now c.args.events.now c.loop-index.index c.loop-index.depth _ _ c.loop-index-test.false (c.loop-index.invariant.read at)
