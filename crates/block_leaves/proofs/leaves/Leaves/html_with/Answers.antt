use Rattle.std.proofs.Common.{◌≡◌, ◌++◌, ◌∷◌, [], Option, None, sym, ap, ◌∙◌, subst}
use Rattle.block_leaves.proofs.Prelude.{AreRead, block_and_ending, Blocks, cond-false, cond-true, Html, InHtml, join, join-nil, last_ending}
use Rattle.block_leaves.proofs.Prelude.{last_ending_or-more, Leaf, leaf_state, LineEnding, number_of, on_ok_weaker, OpenHtml, own_lines, piece_lines}
use Rattle.block_leaves.proofs.Prelude.{rest_line, rest_of, Shows, spine, spine_after, Text, Tree}
use Rattle.definition_block.specs.HtmlFlow.{html_ends_here}
use Rattle.block_leaves.proofs.Changes as changes
use Rattle.markdown_options.specs.Defaults.{no_constructs}
use Rattle.block_leaves.proofs.leaves.Leaves.html_with.Goals as goal

pub returns-then-html_ends_here : goal.returns-then-html_ends_here
returns-then-html_ends_here g c =
    on_ok_weaker c.close_html.result (λ reads. λ leaf ls is containers around kids h.
    let p = c.args.self.now in
    let r = rest_of c.args.rest.now in
    let e = c.args.beside in
    let kind = number_of c.args.kind in
    let l = rest_line r e in
    let more = ls ++ l ∷ [] in
    let last : last_ending more ≡ e.ending = last_ending_or-more None ls l in
    let k = changes.shows_line p.rows.rows.items p.rows.waiting.items p.rows.bare containers (piece_lines p.pieces.items)
    (piece_lines c.push.new.self.items) (leaf_state p.leaf) (InHtml kind e.ending) around kids leaf (OpenHtml kind more) l
    (changes.enough_lines p) (changes.piece_pushed p.pieces.items c.piece.result c.push.new.self.items l c.in_ok-push.ensures.items c.piece.ensures)
    (ap (λ x. x ++ l ∷ []) (sym is)) (ap (InHtml kind) (sym last)) h in
    subst (λ (t : Tree). AreRead c.close_html.new.self containers (spine_after around kids t))
    (sym (cond-true (html_ends_here kind r) _ _ (sym c.html_ends_here.ensures ∙ c.if-html_ends_here.true)))
    (subst (λ (x : Option LineEnding). AreRead c.close_html.new.self containers (spine around (join kids (block_and_ending (Leaf (Html (own_lines more))) x)) (Text [])))
    last (reads no_constructs kind more (sym last) containers around kids k)))
    c.close_html.ensures

pub returns : goal.returns
returns g c = λ leaf ls is containers around kids h.
    let p = c.args.self.now in
    let r = rest_of c.args.rest.now in
    let e = c.args.beside in
    let kind = number_of c.args.kind in
    let l = rest_line r e in
    let more = ls ++ l ∷ [] in
    let last : last_ending more ≡ e.ending = last_ending_or-more None ls l in
    let k = changes.shows_line p.rows.rows.items p.rows.waiting.items p.rows.bare containers (piece_lines p.pieces.items)
    (piece_lines c.push.new.self.items) (leaf_state p.leaf) (InHtml kind e.ending) around kids leaf (OpenHtml kind more) l
    (changes.enough_lines p) (changes.piece_pushed p.pieces.items c.piece.result c.push.new.self.items l c.in_ok-push.ensures.items c.piece.ensures)
    (ap (λ x. x ++ l ∷ []) (sym is)) (ap (InHtml kind) (sym last)) h in
    subst (λ (t : Tree). Shows p.rows.rows.items p.rows.waiting.items p.rows.bare containers (piece_lines c.push.new.self.items)
    (InHtml kind e.ending) (spine_after around kids t))
    (sym (cond-false (html_ends_here kind r) _ _ (sym c.html_ends_here.ensures ∙ c.if-html_ends_here.false)))
    (subst (λ (bs : Blocks). Shows p.rows.rows.items p.rows.waiting.items p.rows.bare containers (piece_lines c.push.new.self.items)
    (InHtml kind e.ending) (spine around bs (OpenHtml kind more))) (sym (join-nil kids)) k)
