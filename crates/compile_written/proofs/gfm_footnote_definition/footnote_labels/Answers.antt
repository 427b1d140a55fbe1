use Rattle.std.proofs.Common.{◌∙◌, ap, refl, sym, subst, arith, List}
use Rattle.std.specs.Prelude.{IfOk}
use Rattle.compile_written.proofs.Prelude.{Code, Event, HasLabels, notes_after}
use Rattle.engine_events.specs.declared.event.Kind.TheVariants as kinds
use Rattle.compile_written.specs.GfmFootnoteDefinition.{holder_views}
use Rattle.compile_written.proofs.FootnoteLaw.{footnotes_law}
use Rattle.compile_written.proofs.FootnoteLoops.{start_notes, knows_more, knows_all}
use Rattle.compile_written.proofs.NoFootnotes.{no_footnotes}
use Rattle.compile_written.proofs.gfm_footnote_definition.footnote_labels.Goals as goal
use Rattle.compile_written.proofs.gfm_footnote_definition.footnote_labels.Goals.{in-Enter+in_ok-enter-in-Enter, in-Exit+in_ok-exit-in-Exit}

pub loop-index-init : goal.loop-index-init
loop-index-init g c =
    let bytes = c.args.bytes.now in
    let events = c.args.events.now in
    record {
      skipped = omega arith;
      counted = omega arith;
      known = (
        start_notes,
        record {
          has_labels = c.in_ok-new.ensures;
          counted = refl;
          inner = c.document.ensures bytes events;
          outer = ap (holder_views bytes events) c.new-3.ensures.items;
          skipped = refl;
        },
        refl,
      );
    }

pub loop-index-preserved : goal.loop-index-preserved
loop-index-preserved g c =
    let bytes = c.args.bytes.now in
    let events = c.args.events.now in
    let i = c.loop-index.index in
    let old = c.loop-index.walk in
    let before = c.loop-index.invariant in
    elim c.match-event.branch [
      | in-Enter+in_ok-enter-in-Enter w ↦ rw w.walk-is
          (record {
            skipped = omega (arith, before.skipped, w.enter.ensures.skipped);
            counted = omega (arith, before.counted, w.enter.ensures.count);
            known =
                knows_more bytes events i kinds.Enter old w.enter.new.self c.loop-index-test.true w.in-Enter.is
                (λ s h. w.in_ok-enter-in-Enter.ensures.notes bytes events s h) before.known;
          })
      | in-Exit+in_ok-exit-in-Exit w ↦ rw w.walk-is
          (record {
            skipped = omega (arith, before.skipped, w.exit.ensures.skipped);
            counted = omega (arith, before.counted, w.exit.ensures.count);
            known =
                knows_more bytes events i kinds.Exit old w.exit.new.self c.loop-index-test.true w.in-Exit.is
                (λ s h. w.in_ok-exit-in-Exit.ensures.notes s h) before.known;
          })
    ]

pub returns : goal.returns
returns g c = λ names top ns nodes is.
    let bytes = c.args.bytes.now in
    let events = c.args.events.now in
    subst (HasLabels c.loop-index.walk.labels)
    (ap (λ (es : List Event). (notes_after bytes start_notes es).ended) is ∙ footnotes_law names bytes top ns nodes)
    (knows_all bytes events c.loop-index.index c.loop-index.walk (omega (arith, c.loop-index-test.false)) c.loop-index.invariant.known)

pub returns-then-not-has_definition : goal.returns-then-not-has_definition
returns-then-not-has_definition g c = λ names top ns nodes is.
    let bytes = c.args.bytes.now in
    subst (λ (ended : List (List Code)). IfOk c.new.result (λ table. HasLabels table ended))
    (sym (no_footnotes bytes c.args.events.now (sym c.has_definition.ensures ∙ c.if-not-has_definition.true))
    ∙ ap (λ (es : List Event). (notes_after bytes start_notes es).ended) is
    ∙ footnotes_law names bytes top ns nodes)
    c.new.ensures
