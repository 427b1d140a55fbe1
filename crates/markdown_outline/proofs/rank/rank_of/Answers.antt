use Rattle.std.proofs.Common.{◌≡◌, ◌≤◌, ◌∙◌, ℕ, true, false, List, length, sym, ap, subst}
use Rattle.std.proofs.lemmas.Bool.{cond-false, cond-true}
use Rattle.engine_events.specs.Names.{same_name}
use Rattle.engine_events.specs.declared.event.Name.TheVariants as n
use Rattle.event_meaning.specs.Blocks.{heading_atx_of, heading_setext_of, underline_rank}
use Rattle.event_meaning.specs.Children.{kids_in, text_in}
use Rattle.compile_blocks.proofs.Ranks.{size_parts}
use Rattle.compile_raw.proofs.Sound.{kids_sound}
use Rattle.markdown_outline.specs.Rank.{rank_of}
use Rattle.markdown_outline.proofs.rank.rank_of.Goals as goal

pub returns-then-eq : goal.returns-then-eq
returns-then-eq c = λ names kids sound events size.
    let bytes = c.args.bytes.now in
    let name = c.args.name in
    let sequence = text_in bytes n.HeadingAtxSequence kids in
    let is : same_name name n.HeadingAtx ≡ true = sym c.eq.ensures ∙ c.if-eq.true in
    let fits = size_parts sequence (size is) in
    let piece : c.piece_in-sequence.result.now ≡ sequence = c.piece_in-sequence.ensures kids sound.nodes events in
    c.sequence_rank.ensures (subst (λ (bs : List ℕ). 1 ≤ length bs) (sym piece) fits.0) (subst (λ (bs : List ℕ). length bs ≤ 6) (sym piece) fits.1)
    ∙ ap length piece
    ∙ ap rank_of (sym (cond-true (same_name name n.HeadingAtx) (heading_atx_of names bytes kids) (heading_setext_of names bytes kids) is))

pub returns : goal.returns
returns c = λ names kids sound events size.
    let bytes = c.args.bytes.now in
    let name = c.args.name in
    let underline = kids_in n.HeadingSetextUnderline kids in
    let inner = kids_sound bytes n.HeadingSetextUnderline kids sound in
    let is : same_name name n.HeadingAtx ≡ false = sym c.eq.ensures ∙ c.if-eq.false in
    c.underline_rank.ensures
    ∙ ap (underline_rank names bytes) (c.piece_in-line.ensures underline inner.nodes (c.kids_in-underline.ensures kids sound.nodes events))
    ∙ ap rank_of (sym (cond-false (same_name name n.HeadingAtx) (heading_atx_of names bytes kids) (heading_setext_of names bytes kids) is))
