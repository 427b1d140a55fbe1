use Rattle.std.proofs.Common.{◌≡◌, ◌∷◌, [], List, ℕ, sym, ap, ◌∙◌, subst, string_bytes}
use Rattle.compile_raw.proofs.Prelude.{Chunk, html_of, Name, node_name, OnOk, page_view, raw_lines, raw_part, RawPart, same_name, valid, with_bytes}
use Rattle.engine_events.specs.declared.event.Name.TheVariants as n
use Rattle.compile_levels.proofs.ChildLaw.{reads_name}
use Rattle.html_bytes.specs.Layout.{with_text}
use Rattle.html_footnotes.specs.Output.{output_view}
use Rattle.html_leaves.proofs.Laid.{text_laid}
use Rattle.compile_raw.proofs.Pieces.{valid_text}
use Rattle.compile_raw.proofs.RawParts.{html_part}
use Rattle.compile_raw.proofs.raw.push_html_part.Goals as goal

pub returns-then-eq-2-clause-printed : goal.returns-then-eq-2-clause-printed
returns-then-eq-2-clause-printed g c = λ node h text plain.
    let bytes = c.args.bytes.now in
    let options = c.args.options.now in
    let page = page_view c.args.page.now in
    let named = ap (λ (x : Name). same_name x n.HtmlFlowData) (reads_name c.args.node.now node h) ∙ sym c.eq-else-eq.ensures ∙ c.if-eq-2.true in
    let all : html_of options (raw_lines (Chunk c.text_of.result.now ∷ [])) ≡ html_of options (raw_lines (raw_part bytes (node_name node) node)) =
    ap (λ (x : List ℕ). html_of options (raw_lines (Chunk x ∷ []))) (c.text_of.ensures ∙ ap valid (c.piece_of.ensures node h) ∙ valid_text bytes node text)
    ∙ sym (ap (λ (x : List RawPart). html_of options (raw_lines x)) (html_part bytes node (node_name node) named)) in
    subst (λ (x : List ℕ). OnOk c.push_html_text.result (with_text page (string_bytes c.push_html_text.new.out) ≡ with_bytes x page)) all
    (text_laid c.push_html_text.result (output_view c.args.page.now.out) _ _ c.push_html_text.ensures)
