use Rattle.std.proofs.Common.{◌+◌, ◌-◌, false, arith, refl, inl, sym, ap, ◌∙◌}
use Rattle.parse_output.proofs.Prelude.{columns_before, end_at, spot, spot_at}
use Rattle.parse_output.proofs.Ends.{place_reached, spot_reached}
use Rattle.parse_output.proofs.Plain.{one_passed, passed_at_once, plain_within}
use Rattle.parse_output.proofs.spot.Place.pass.Goals as goal

pub returns-then-index-plain-clause-goes_on : goal.returns-then-index-plain-clause-goes_on
returns-then-index-plain-clause-goes_on c =
    let text = c.args.text.now in
    let s = c.args.self.now.spot in
    record {
      spot = passed_at_once text s c.args.plain.now c.args.index c.if-from-ge-MARK_MAX.true c.requires.plain c.if-from-index.true c.if-index-plain.true;
      onward = record {
        forward = omega (arith, c.if-from-index.true);
        within = plain_within text s.index c.args.plain.now c.args.index c.if-from-index.true c.if-index-plain.true c.requires.plain;
        columns = λ same. absurd (omega (arith, same, c.if-from-index.true));
      };
      whole = inl refl;
    }

pub returns-then-index-plain-clause-end : goal.returns-then-index-plain-clause-end
returns-then-index-plain-clause-end c = λ from at follows.
    let text = c.args.text.now in
    let s = c.args.self.now.spot in
    let to = end_at c.args.index c.args.owed in
    let there = spot s.line (s.column + (c.args.index - s.index)) c.args.index false in
    place_reached text from to there 0 follows
    (spot_reached text from to c.args.self.now there at follows
    (passed_at_once text s c.args.plain.now c.args.index c.if-from-ge-MARK_MAX.true c.requires.plain c.if-from-index.true c.if-index-plain.true))
    (λ owes. ap (columns_before there) (sym c.if-owed-eq0.true))

pub returns-then-is_line_feed-clause-goes_on : goal.returns-then-is_line_feed-clause-goes_on
returns-then-is_line_feed-clause-goes_on c =
    let text = c.args.text.now in
    let s = c.args.self.now.spot in
    let there = c.after_line_feed-self.result in
    record {
      spot = c.after_line_feed-self.ensures.same
          ∙ one_passed text s 10 c.if-from-ge-MARK_MAX-2.true (c.if-is_line_feed.ensures.within refl) (c.if-is_line_feed.ensures.byte refl)
          ∙ ap (λ k. spot_at text k s) (sym c.after_line_feed-self.ensures.index);
      onward = record {
        forward = omega (arith, c.after_line_feed-self.ensures.index);
        within = omega (arith, c.after_line_feed-self.ensures.index, (c.if-is_line_feed.ensures.within refl));
        columns = λ same. absurd (omega (arith, same, c.after_line_feed-self.ensures.index));
      };
      whole = inl refl;
    }

pub returns-then-is_line_feed-clause-end : goal.returns-then-is_line_feed-clause-end
returns-then-is_line_feed-clause-end c = λ from at follows.
    let text = c.args.text.now in
    let s = c.args.self.now.spot in
    let to = end_at c.args.index c.args.owed in
    let there = c.after_line_feed-self.result in
    place_reached text from to there 0 follows
    (spot_reached text from to c.args.self.now there at follows
    (c.after_line_feed-self.ensures.same
    ∙ one_passed text s 10 c.if-from-ge-MARK_MAX-2.true (c.if-is_line_feed.ensures.within refl) (c.if-is_line_feed.ensures.byte refl)
    ∙ ap (λ k. spot_at text k s) (sym (c.if-is_line_feed.ensures.one refl))))
    (λ owes. ap (columns_before there) (sym c.if-owed-eq0-2.true))
