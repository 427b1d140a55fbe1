use Rattle.std.proofs.Common.{◌∙◌, ◌+◌, ℕ, List, sym, ap, subst, get_or, drop}
use Rattle.compile_strings.proofs.Prelude.{Event, HaveRaws, no_event, raws_by, raws_next, take_rest}
use Rattle.compile_strings.proofs.PassLaw.{raws_are}
use Rattle.compile_strings.proofs.spelled.SpelledStrings.join_raw_texts.Goals as goal
use Rattle.compile_strings.proofs.spelled.SpelledStrings.join_raw_texts.Goals.{in-Some+in_ok-join_raw_text, in_default}

pub loop-index-preserved : goal.loop-index-preserved
loop-index-preserved g c =
    let bytes = c.args.bytes.now in
    let events = c.args.events.now in
    let i = c.loop-index.index in
    let e = get_or events i no_event in
    let others = raws_by bytes (drop (i + 1) events) in
    let next = raws_are events bytes i c.loop-index-test.true
    ∙ ap (λ (z : List Event). raws_next bytes e.kind e.name z others) (sym (take_rest events (i + 1))) in
    let after = c.next_raw-index-in-loop-index.ensures.raws bytes in
    elim c.match-joined_sequence.branch [
      | in-Some+in_ok-join_raw_text w ↦ rw (w.self-is, w.columns-is)
          (record {
            counted = w.join_raw_text.ensures.counted;
            raws =
                λ raws have.
                subst (λ (z : List (List ℕ)). HaveRaws w.join_raw_text.new.self z raws) (sym after)
                (w.in_ok-join_raw_text.ensures.raws others raws
                (subst (λ (z : List (List ℕ)). HaveRaws c.loop-index.self z raws) (next ∙ sym (w.in-Some.ensures others)) (c.loop-index.invariant.raws raws have)));
            targets = w.join_raw_text.ensures.targets ∙ c.loop-index.invariant.targets;
            within = c.next_raw-index-in-loop-index.ensures.within.1;
          })
      | in_default w ↦ rw (w.self-is, w.columns-is)
          (record {
            counted = c.loop-index.invariant.counted;
            raws =
                λ raws have.
                subst (λ (z : List (List ℕ)). HaveRaws c.loop-index.self z raws) (next ∙ sym (w.in_default.ensures others) ∙ sym after)
                (c.loop-index.invariant.raws raws have);
            targets = c.loop-index.invariant.targets;
            within = c.next_raw-index-in-loop-index.ensures.within.1;
          })
    ]
