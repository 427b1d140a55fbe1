use Rattle.std.proofs.Common.{◌≡◌, ◌∷◌, ◌∙◌, Bool, false, if◌then◌else◌, sym, ap, subst, codes}
use Rattle.compile_blocks.proofs.Prelude.{bare_tag, element, Fresh, in_bytes, inline_pieces, inlines_of, layout_after, OnOk, page_view}
use Rattle.compile_blocks.proofs.Laid.{paragraph_laid}
use Rattle.compile_blocks.proofs.printer.LeafPrinter.paragraph.Goals as goal

pub returns-then-tight-clause-printed : goal.returns-then-tight-clause-printed
returns-then-tight-clause-printed g c = λ m ds place kids meant tight events sound.
    let names = g.T.Tables.reference_of c.args.source.now.tables.now in
    let bytes = c.args.source.now.checked.bytes.now in
    let page = c.args.self.now.page in
    let ps = inline_pieces m (inlines_of names bytes false kids) in
    subst (λ (t : Bool). OnOk c.text.result (page_view c.text.new.page
    ≡ layout_after m.compile page.default_ending (page_view page) (in_bytes (if t then ps else Fresh ∷ element (bare_tag (codes "p")) ps))))
    (sym (tight ∙ c.if-tight.true)) (c.text.ensures.printed m ds kids meant events sound)

pub returns-clause-printed : goal.returns-clause-printed
returns-clause-printed g c = λ m ds place kids meant tight events sound.
    let names = g.T.Tables.reference_of c.args.source.now.tables.now in
    let bytes = c.args.source.now.checked.bytes.now in
    let page = c.args.self.now.page in
    let ps = inline_pieces m (inlines_of names bytes false kids) in
    subst (λ x. OnOk c.say.result (page_view c.say.new.self ≡ x))
    (paragraph_laid m.compile page.default_ending c.fresh_tag.new.self.default_ending (page_view page) (page_view c.fresh_tag.new.self)
    (page_view c.text-2.new.page) ps c.in_ok-fresh_tag.ensures.default c.in_ok-fresh_tag.ensures.printed
    (c.in_ok-text.ensures.printed m ds kids meant events sound)
    ∙ ap (λ (t : Bool). layout_after m.compile page.default_ending (page_view page) (in_bytes (if t then ps else Fresh ∷ element (bare_tag (codes "p")) ps)))
    (sym (tight ∙ c.if-tight.false)))
    c.say.ensures.printed
