use Rattle.std.proofs.Common.{◌≡◌, ◌∷◌, ◌-◌, List, false, sym, ap, ◌∙◌, subst, get_or, take, drop, length}
use Rattle.html_blocks.proofs.Prelude.{AlignKind, AreClear, BlockLine, codes, document_by, ending_bytes, layout_after, LineEnding, no_piece, OnOk, own_lines}
use Rattle.html_blocks.proofs.Prelude.{page_view, piece_line, piece_lines, with_tag}
use Rattle.std.proofs.lemmas.List.{take_rest}
use Rattle.definition_block.specs.Tree.{Table}
use Rattle.definition_page.specs.GfmTable.{line_aligns}
use Rattle.definition_page.specs.Read.{on_page}
use Rattle.html_rows.specs.GfmTable.{head_bytes, body_bytes}
use Rattle.html_bytes.specs.Html.{leaf_bytes}
use Rattle.html_leaves.specs.Prints.{with_fresh}
use Rattle.html_rows.proofs.GfmTableLemmas.{table_laid, two_lines}
use Rattle.html_blocks.proofs.gfm_table.table.Goals as goal

pub returns-clause-printed : goal.returns-clause-printed
returns-clause-printed g c = λ ds has clear.
    let d = document_by g.T.Tables c.args.texts.now ds in
    let o = d.options.compile in
    let e = c.args.page.now.default_ending in
    let default = ending_bytes e in
    let out = page_view c.args.page.now in
    let lines = c.args.lines.now in
    let head = piece_line (get_or lines 0 no_piece) in
    let second = piece_line (get_or lines 1 no_piece) in
    let ls = piece_lines (drop 2 lines) in
    let slice = take (length lines - 2) (drop 2 lines) in
    let two : piece_lines lines ≡ head ∷ second ∷ ls = two_lines lines no_piece c.requires in
    let clean : AreClear (head ∷ second ∷ ls) = subst AreClear two clear in
    let same_rows : piece_lines slice ≡ ls = ap piece_lines (take_rest lines 2) in
    let start = with_fresh default (with_tag default (codes "<table>") out) in
    let first = c.in_ok-fresh_tag.ensures.default in
    let later = c.in_ok-fresh.ensures.default ∙ first in
    let started =
    c.in_ok-fresh.ensures.printed
    ∙ ap (λ (x : LineEnding). with_fresh (ending_bytes x) (page_view c.fresh_tag.new.self)) first
    ∙ ap (with_fresh default) c.in_ok-fresh_tag.ensures.printed in
    let columns = c.deref.result.now in
    let same_columns = c.deref.ensures.value ∙ c.in_ok-read_delimiters.ensures in
    let headed =
    c.in_ok-table_head.ensures.printed ds has clean.0
    ∙ ap (λ (x : LineEnding). layout_after o x (page_view c.fresh.new.self) (head_bytes d columns head)) later
    ∙ ap (λ x. layout_after o e x (head_bytes d columns head)) started
    ∙ ap (λ (all : List AlignKind). layout_after o e start (head_bytes d all head)) same_columns in
    let after_head = layout_after o e start (head_bytes d (line_aligns second) head) in
    let others = c.deref-2.result.now in
    let same_others = c.deref-2.ensures.value ∙ c.in_ok-read_delimiters.ensures in
    let rows = own_lines (piece_lines slice) in
    let bodied =
    c.in_ok-table_body.ensures.printed ds has (subst AreClear (sym same_rows) clean.1.1)
    ∙ ap (λ (x : LineEnding). layout_after o x (page_view c.table_head.new.page) (body_bytes d others second.ending rows))
    (c.in_ok-table_head.ensures.default ∙ later)
    ∙ ap (λ x. layout_after o e x (body_bytes d others second.ending rows)) headed
    ∙ ap (λ (all : List AlignKind). layout_after o e after_head (body_bytes d all second.ending rows)) same_others
    ∙ ap (λ (left : List BlockLine). layout_after o e after_head (body_bytes d (line_aligns second) second.ending (own_lines left))) same_rows in
    subst (λ x. OnOk c.fresh_tag-2.result (page_view c.fresh_tag-2.new.self ≡ x))
    (ap (λ (x : LineEnding). with_tag (ending_bytes x) (codes "</table>") (page_view c.table_body.new.page))
    (c.in_ok-table_body.ensures.default ∙ c.in_ok-table_head.ensures.default ∙ later)
    ∙ ap (with_tag default (codes "</table>")) bodied
    ∙ table_laid default d head second ls out
    ∙ ap (λ (all : List BlockLine). layout_after o e out (leaf_bytes d on_page false (Table (own_lines all)))) (sym two))
    c.fresh_tag-2.ensures.printed
