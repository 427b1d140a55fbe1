use Rattle.std.proofs.Common.{◌≡◌, ap, ◌∙◌, subst}
use Rattle.html_blocks.proofs.Prelude.{codes, document_by, ending_bytes, ending_text, layout_after, LineEnding, OnOk, page_view, piece_line, row_bytes}
use Rattle.html_blocks.proofs.Prelude.{with_bytes, with_tag}
use Rattle.html_rows.proofs.GfmTableLemmas.{head_laid}
use Rattle.html_blocks.proofs.gfm_table.table_head.Goals as goal

pub returns-clause-printed : goal.returns-clause-printed
returns-clause-printed g c = λ ds has clear.
    let d = document_by g.T.Tables c.args.texts.now ds in
    let o = d.options.compile in
    let e = c.args.page.now.default_ending in
    let default = ending_bytes e in
    let line = piece_line c.args.line.now in
    let aligns = c.args.aligns.now in
    let start = page_view c.args.page.now in
    let ps = row_bytes d (codes "th") aligns line in
    let row =
    c.in_ok-table_line.ensures.printed ds has clear
    ∙ ap (λ (x : LineEnding). layout_after o x (page_view c.say.new.self) ps) c.in_ok-say.ensures.default
    ∙ ap (λ x. layout_after o e x ps) c.in_ok-say.ensures.printed in
    let ended = c.in_ok-push_ending.ensures.printed ∙ ap (with_bytes (ending_text line.ending)) row in
    subst (λ x. OnOk c.fresh_tag.result (page_view c.fresh_tag.new.self ≡ x))
    (ap (λ (x : LineEnding). with_tag (ending_bytes x) (codes "</thead>") (page_view c.push_ending.new.self))
    (c.in_ok-push_ending.ensures.default ∙ c.in_ok-table_line.ensures.default ∙ c.in_ok-say.ensures.default)
    ∙ ap (with_tag default (codes "</thead>")) ended
    ∙ head_laid default d aligns line start)
    c.fresh_tag.ensures.printed
