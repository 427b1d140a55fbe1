use Rattle.std.proofs.Common.{◌≡◌, ◌∙◌, ◌∷◌, false, ap, subst}
use Rattle.compile_blocks.proofs.Prelude.{in_bytes, inline_pieces, inlines_of, layout_after, OnOk, page_view, Piece}
use Rattle.markdown_compile_options.specs.declared.configuration.CompileOptions.{CompileOptions}
use Rattle.compile_blocks.proofs.Laid.{named_start, plain_heading_laid}
use Rattle.compile_blocks.proofs.printer.LeafPrinter.start_heading.Goals as goal

pub returns-then-source-clause-printed : goal.returns-then-source-clause-printed
returns-then-source-clause-printed g c = λ m ds kids meant events sound.
    let names = g.T.Tables.reference_of c.args.source.now.tables.now in
    let is = inlines_of names c.args.source.now.checked.bytes.now false kids in
    let page = c.args.self.now.page in
    subst (λ (start : Piece). OnOk c.named_text.result (page_view c.named_text.new.page
    ≡ layout_after m.compile page.default_ending (page_view page) (in_bytes (start ∷ inline_pieces m is))))
    (named_start m c.args.rank is (ap (λ (o : CompileOptions). o.heading_ids) meant.compile ∙ c.if-source.true))
    (c.named_text.ensures.printed m ds kids meant events sound)

pub returns-clause-printed : goal.returns-clause-printed
returns-clause-printed g c = λ m ds kids meant events sound.
    let names = g.T.Tables.reference_of c.args.source.now.tables.now in
    let is = inlines_of names c.args.source.now.checked.bytes.now false kids in
    let page = c.args.self.now.page in
    subst (λ x. OnOk c.text.result (page_view c.text.new.page ≡ x))
    (plain_heading_laid m page.default_ending c.heading_tag.new.self.default_ending c.args.rank (page_view page) (page_view c.heading_tag.new.self) is
    (ap (λ (o : CompileOptions). o.heading_ids) meant.compile ∙ c.if-source.false)
    c.in_ok-heading_tag.ensures.default c.in_ok-heading_tag.ensures.printed)
    (c.text.ensures.printed m ds kids meant events sound)
