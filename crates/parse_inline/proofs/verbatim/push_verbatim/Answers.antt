use Rattle.std.proofs.Common.{◌≡◌, ◌+◌, ◌<◌, ◌∙◌, ap, drop, length, refl, subst, sym, arith}
use Rattle.parse_inline.proofs.Prelude.{IsUtf8}
use Rattle.std.proofs.lemmas.List.{drop-drop, drop_all}
use Rattle.parse_inline.specs.Rows.{PassesLines}
use Rattle.parse_inline.proofs.VerbatimLines.{after_utf8, break_done, feed_next, line_done, line_size, lines_begin}
use Rattle.parse_inline.proofs.verbatim.push_verbatim.Goals as goal

pub by_line-init : goal.by_line-init
by_line-init g c =
    let on = c.args.reading.now.on.now in
    let names = g.T.Tables.reference_of c.args.reading.now.tables.now in
    let content = c.args.reading.now.content.now in
    let text = c.args.text.now in
    let walk = c.args.walk.now in
    record {
      opened = refl;
      utf8 = c.as_bytes-rest.ensures.utf8;
      passed = subst (λ bs. PassesLines on names content text bs walk walk) (sym c.as_bytes-rest.ensures.value) (lines_begin on names content text walk);
    }

pub by_line-preserved : goal.by_line-preserved
by_line-preserved g c =
    let on = c.args.reading.now.on.now in
    let names = g.T.Tables.reference_of c.args.reading.now.tables.now in
    let content = c.args.reading.now.content.now in
    let text = c.args.text.now in
    let rest = c.by_line.rest.now in
    let first = c.args.walk.now in
    let sized : c.next_far-size.result ≡ line_size rest = c.next_far-size.ensures in
    let some : line_size rest < length rest = omega (arith, sized, c.if-size-rest.false) in
    let after : c.bytes_from-rest.result.now ≡ drop (line_size rest + 1) rest =
    c.bytes_from-rest.ensures.rest ∙ ap (drop 1) (c.bytes_from.ensures.rest ∙ ap (λ k. drop k rest) sized) ∙ drop-drop 1 (line_size rest) rest in
    let line = line_done on names content text rest c.next_far-size.result first c.by_line.walk c.data.new.self sized c.by_line.invariant.utf8
    (c.in_ok-data.ensures.stays, c.in_ok-data.ensures.written) c.by_line.invariant.passed in
    record {
      opened = c.in_ok-push_leaf.ensures.open ∙ c.in_ok-data.ensures.open ∙ c.by_line.invariant.opened;
      utf8 = subst IsUtf8 (sym after) (after_utf8 rest c.by_line.invariant.utf8 some);
      passed =
          subst (λ bs. PassesLines on names content text bs first c.push_leaf.new.walk) (sym after)
          (break_done on names content text (drop (line_size rest) rest) (drop (line_size rest + 1) rest) first c.data.new.self c.push_leaf.new.walk
          (feed_next rest some) c.in_ok-push_leaf.ensures.written line);
    }

pub returns-then-size-rest-clause-written : goal.returns-then-size-rest-clause-written
returns-then-size-rest-clause-written g c =
    let on = c.args.reading.now.on.now in
    let names = g.T.Tables.reference_of c.args.reading.now.tables.now in
    let content = c.args.reading.now.content.now in
    let text = c.args.text.now in
    let rest = c.by_line.rest.now in
    let sized : c.next_far-size.result ≡ line_size rest = c.next_far-size.ensures in
    subst (λ bs. PassesLines on names content text bs c.args.walk.now c.data.new.self)
    (drop_all (line_size rest) rest (omega (arith, sized, c.if-size-rest.true)))
    (line_done on names content text rest c.next_far-size.result c.args.walk.now c.by_line.walk c.data.new.self sized c.by_line.invariant.utf8
    (c.in_ok-data.ensures.stays, c.in_ok-data.ensures.written) c.by_line.invariant.passed)
