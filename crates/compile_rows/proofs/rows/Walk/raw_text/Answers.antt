use Rattle.std.proofs.Common.{◌≡◌, ◌∙◌, [], false, sym, ap, Some, None}
use Rattle.compile_rows.proofs.Prelude.{option_map, raw_after, raws_view, sequence_of}
use Rattle.compile_rows.proofs.Ahead.{next_is, joined_as, raw_as}
use Rattle.compile_strings.proofs.WholeLaw.{whole_law}
use Rattle.compile_rows.proofs.rows.Walk.raw_text.Goals as goal

pub returns-in-Some-clause-text : goal.returns-in-Some-clause-text
returns-in-Some-clause-text g c raws h =
    let sequence = c.in_ok-sequence.sequence in
    let named : sequence_of c.args.name ≡ Some sequence = sym c.sequence_of.ensures ∙ c.in_ok-sequence.was in
    raw_as c.args.bytes.now c.args.name sequence c.args.events.now raws c.text_of.result.now named
    (c.text_of.ensures
    ∙ whole_law c.args.bytes.now sequence c.args.name c.args.events.now c.in-Some.piece.now named
    (sym c.whole_piece.ensures ∙ ap (option_map (λ piece. piece.now)) c.in-Some.is))

pub returns-in-None-clause-text : goal.returns-in-None-clause-text
returns-in-None-clause-text g c raws h =
    let sequence = c.in_ok-sequence.sequence in
    let named : sequence_of c.args.name ≡ Some sequence = sym c.sequence_of.ensures ∙ c.in_ok-sequence.was in
    raw_as c.args.bytes.now c.args.name sequence c.args.events.now raws c.raw_text.result.now named
    (c.raw_text.ensures
    ∙ next_is (raws_view c.args.strings.now) c.args.self.now.raw_texts [] (raw_after c.args.bytes.now sequence false 0 c.args.events.now) raws
    (h
    ∙ joined_as c.args.bytes.now c.args.name sequence c.args.events.now raws None named
    (sym (ap (option_map (λ piece. piece.now)) c.in-None.is) ∙ c.whole_piece.ensures)))
