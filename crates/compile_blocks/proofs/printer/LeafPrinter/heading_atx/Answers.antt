use Rattle.std.proofs.Common.{◌≡◌, ◌≤◌, ◌∙◌, ℕ, false, List, length, sym, ap, subst}
use Rattle.compile_blocks.proofs.Prelude.{Heading, heading_atx_of, in_bytes, Inlines, inlines_of, layout_after, leaf_block_pieces, OnOk, page_view, PageLeaf}
use Rattle.compile_blocks.proofs.Prelude.{text_in, text_kids}
use Rattle.engine_events.specs.declared.event.Name.TheVariants as n
use Rattle.compile_blocks.proofs.Ranks.{size_parts}
use Rattle.compile_blocks.proofs.printer.LeafPrinter.heading_atx.Goals as goal
use Rattle.compile_blocks.proofs.TextKids.{text_law, text_sound}

pub returns-clause-printed : goal.returns-clause-printed
returns-clause-printed g c = λ m ds place kids meant size events sound.
    let names = g.T.Tables.reference_of c.args.source.now.tables.now in
    let bytes = c.args.source.now.checked.bytes.now in
    let page = c.args.self.now.page in
    let text = text_kids kids in
    let sequence = text_in bytes n.HeadingAtxSequence kids in
    let fits = size_parts sequence size in
    let piece : c.piece_in-sequence.result.now ≡ sequence =
    c.piece_in-sequence.ensures kids sound.nodes events ∙ ap (λ (bs : List ℕ). text_in bs n.HeadingAtxSequence kids) c.bytes.ensures in
    let rank : c.rank_of.result ≡ length sequence =
    c.rank_of.ensures.size (subst (λ (bs : List ℕ). 1 ≤ length bs) (sym piece) fits.0) (subst (λ (bs : List ℕ). length bs ≤ 6) (sym piece) fits.1)
    ∙ ap length piece in
    let is : Heading c.rank_of.result (inlines_of names bytes false text) ≡ heading_atx_of names bytes kids =
    ap (λ (r : ℕ). Heading r (inlines_of names bytes false text)) rank
    ∙ ap (λ (x : Inlines). Heading (length sequence) x) (sym (text_law names bytes false kids)) in
    subst (λ (leaf : PageLeaf). OnOk c.heading.result (page_view c.heading.new.self.page
    ≡ layout_after m.compile page.default_ending (page_view page) (in_bytes (leaf_block_pieces m place leaf))))
    is (c.heading.ensures.printed m ds place text meant (c.text_within.ensures kids sound.nodes events) (text_sound bytes kids sound))
