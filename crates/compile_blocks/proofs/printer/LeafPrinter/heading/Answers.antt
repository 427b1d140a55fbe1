use Rattle.std.proofs.Common.{◌≡◌, false, subst}
use Rattle.compile_blocks.proofs.Prelude.{inlines_of, OnOk, page_view}
use Rattle.compile_blocks.proofs.Laid.{heading_laid}
use Rattle.compile_blocks.proofs.printer.LeafPrinter.heading.Goals as goal

pub returns-clause-printed : goal.returns-clause-printed
returns-clause-printed g c = λ m ds place kids meant events sound.
    let names = g.T.Tables.reference_of c.args.source.now.tables.now in
    let bytes = c.args.source.now.checked.bytes.now in
    let page = c.args.self.now.page in
    subst (λ x. OnOk c.heading_tag.result (page_view c.heading_tag.new.self ≡ x))
    (heading_laid m place page.default_ending c.fresh.new.self.default_ending c.args.rank (page_view page) (page_view c.fresh.new.self)
    (page_view c.start_heading.new.self.page) (inlines_of names bytes false kids) c.in_ok-fresh.ensures.default c.in_ok-fresh.ensures.printed
    (c.in_ok-start_heading.ensures.printed m ds kids meant events sound))
    c.heading_tag.ensures.printed
