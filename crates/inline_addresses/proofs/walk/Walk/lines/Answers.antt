use Rattle.std.proofs.Common.{◌≡◌, ◌+◌, ◌++◌, ◌∷◌, ◌∙◌, ap, arith, drop, length, refl, subst, sym, take}
use Rattle.inline_addresses.proofs.Prelude.{data_rows, IsUtf8, length-drop, lines_rows, linked_rows, Part, rows_view}
use Rattle.definition_inline.specs.Inline.{LineEnd}
use Rattle.inline_addresses.specs.Addresses.{EndsLine}
use Rattle.inline_addresses.proofs.LineEnding.{feed_ahead, feed_end, feed_next, feed_within, last_walked, leaf_depth, left_over, line_walked, next_split}
use Rattle.inline_addresses.proofs.walk.Walk.lines.Goals as goal

pub loop-end-init : goal.loop-end-init
loop-end-init g c = record {
  utf8 = c.utf8.text;
  depth = refl;
  within = c.requires.next.within;
  fewer = omega arith;
  text = next_split c.args.self.now.text.now c.args.self.now.size c.args.text.now c.requires.next;
  rows = λ at rest. refl;
}

pub other-requires-clause-next : goal.other-requires-clause-next
other-requires-clause-next g c =
    let walk = c.loop-end.self in
    let rest = c.loop-end.rest.now in
    let ends = subst (λ bs. EndsLine bs c.in-Some.end) c.as_bytes.ensures.value c.in-Some.ensures in
    feed_next walk.text.now rest _ walk.size c.in-Some.end c.loop-end.invariant.within ends c.loop-end.invariant.text

pub rest_from-rest-requires : goal.rest_from-rest-requires
rest_from-rest-requires g c =
    let ends = subst (λ bs. EndsLine bs c.in-Some.end) c.as_bytes.ensures.value c.in-Some.ensures in
    feed_end c.loop-end.rest.now c.in-Some.end (subst IsUtf8 c.as_bytes.ensures.value c.as_bytes.ensures.utf8) ends

pub loop-end-preserved : goal.loop-end-preserved
loop-end-preserved g c =
    let walk = c.loop-end.self in
    let rest = c.loop-end.rest.now in
    let end = c.in-Some.end in
    let later = drop (length c.args.text.now) (drop c.args.self.now.size c.args.self.now.text.now) in
    let ends = subst (λ bs. EndsLine bs end) c.as_bytes.ensures.value c.in-Some.ensures in
    let kept = c.loop-end.invariant in
    let next = c.in_ok-other.ensures in
    let left = c.rest_from-rest.ensures in
    let text =
    next.text ∙ ap (drop 1) (feed_ahead walk.text.now rest later walk.size end ends kept.text) ∙ ap (λ l. l ++ later) (sym left) in
    record {
      utf8 = c.rest_from-rest.utf8;
      depth = next.open ∙ leaf_depth walk.depth _ ∙ kept.depth;
      within = feed_within c.other.new.self.text.now c.rest_from-rest.result.now later c.other.new.self.size next.within text;
      fewer = omega (arith, next.size, ends.within, kept.fewer, ap length left ∙ length-drop (end + 1) rest);
      text = text;
      rows = λ at more.
          next.rows at (lines_rows c.rest_from-rest.result.now ++ more)
          ∙ ap (λ l. rows_view at walk.rows.items ++ l)
          (ap (λ l. linked_rows walk.depth (take (walk.size + end) walk.text.now) (Part (LineEnd 10) ∷ (lines_rows l ++ more))) left
          ∙ line_walked walk.depth walk.text.now rest later walk.size kept.text end more ends)
          ∙ kept.rows at more;
    }

pub returns-clause-text : goal.returns-clause-text
returns-clause-text g c =
    let walk = c.loop-end.self in
    let rest = c.loop-end.rest.now in
    left_over walk.text.now rest _ walk.size c.loop-end.invariant.text

pub returns-clause-rows : goal.returns-clause-rows
returns-clause-rows g c at more =
    let walk = c.loop-end.self in
    let rest = c.loop-end.rest.now in
    let none = subst (λ bs. lines_rows bs ≡ data_rows bs) c.as_bytes.ensures.value c.in_default.ensures in
    ap (λ l. rows_view at walk.rows.items ++ l) (last_walked walk.depth walk.text.now rest _ walk.size c.loop-end.invariant.text more none)
    ∙ c.loop-end.invariant.rows at more
