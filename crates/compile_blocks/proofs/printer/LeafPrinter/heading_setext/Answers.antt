use Rattle.std.proofs.Common.{◌≡◌, ◌∙◌, ℕ, false, List, sym, ap, subst}
use Rattle.compile_blocks.proofs.Prelude.{Heading, heading_setext_of, in_bytes, Inlines, inlines_of, layout_after, leaf_block_pieces, OnOk, page_view}
use Rattle.compile_blocks.proofs.Prelude.{PageLeaf, text_in, text_kids}
use Rattle.engine_events.specs.declared.event.Name.TheVariants as n
use Rattle.event_meaning.specs.Blocks.{underline_rank}
use Rattle.event_meaning.specs.Children.{kids_in}
use Rattle.compile_raw.proofs.Sound.{kids_sound}
use Rattle.compile_blocks.proofs.printer.LeafPrinter.heading_setext.Goals as goal
use Rattle.compile_blocks.proofs.TextKids.{text_law, text_sound}

pub returns-clause-printed : goal.returns-clause-printed
returns-clause-printed g c = λ m ds place kids meant events sound.
    let names = g.T.Tables.reference_of c.args.source.now.tables.now in
    let bytes = c.args.source.now.checked.bytes.now in
    let page = c.args.self.now.page in
    let text = text_kids kids in
    let underline = kids_in n.HeadingSetextUnderline kids in
    let line = text_in bytes n.HeadingSetextUnderlineSequence underline in
    let inner = kids_sound bytes n.HeadingSetextUnderline kids sound in
    let rank : c.underline_rank.result ≡ underline_rank names bytes line =
    c.underline_rank.ensures.line
    ∙ ap (underline_rank names bytes)
    (c.piece_in-line.ensures underline inner.nodes (c.kids_in-underline.ensures kids sound.nodes events)
    ∙ ap (λ (bs : List ℕ). text_in bs n.HeadingSetextUnderlineSequence underline) c.bytes.ensures) in
    let is : Heading c.underline_rank.result (inlines_of names bytes false text) ≡ heading_setext_of names bytes kids =
    ap (λ (r : ℕ). Heading r (inlines_of names bytes false text)) rank
    ∙ ap (λ (x : Inlines). Heading (underline_rank names bytes line) x) (sym (text_law names bytes false kids)) in
    subst (λ (leaf : PageLeaf). OnOk c.heading.result (page_view c.heading.new.self.page
    ≡ layout_after m.compile page.default_ending (page_view page) (in_bytes (leaf_block_pieces m place leaf))))
    is (c.heading.ensures.printed m ds place text meant (c.text_within.ensures kids sound.nodes events) (text_sound bytes kids sound))
