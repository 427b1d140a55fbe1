use Rattle.std.proofs.Common.{◌∙◌, sym}
use Rattle.markdown_links.proofs.Definitions.{front_same, front_more}
use Rattle.markdown_links.proofs.definition.Definitions.read.Goals as goal
use Rattle.markdown_links.proofs.definition.Definitions.read.Goals.{then-is_definition+in_ok-read_label+in_ok-add, else-is_definition}

pub loop-place-preserved : goal.loop-place-preserved
loop-place-preserved g c =
    let bytes = c.args.bytes.now in
    let events = c.args.events.now in
    let spans = c.args.spans.now in
    let i = c.loop-place.place in
    let before = c.loop-place.invariant in
    elim c.if-is_definition.branch [
      | then-is_definition+in_ok-read_label+in_ok-add w ↦ rw w.found-is
          (front_more bytes events spans i _ w.add.new.self before.0 w.deref.result.now c.loop-place-test.true
          (sym c.is_definition.ensures ∙ w.if-is_definition.true) (w.deref.ensures.value ∙ w.in_ok-read_label.ensures)
          (w.in_ok-add.ensures before.0 before.1) before.2)
      | else-is_definition w ↦ rw w.found-is
          (front_same bytes events spans i _ c.loop-place.found c.loop-place-test.true (sym c.is_definition.ensures ∙ w.if-is_definition.false) before)
    ]
