use Rattle.std.proofs.Common.{◌≡◌, ◌++◌, ℕ, List, map, reverse, string_bytes, ap, ◌∙◌}
use Rattle.html_footnotes.proofs.Prelude.{Call, call_view, latest_call, NoteCalls, on_ok_weaker, pieces_html}
use Rattle.definition_page.specs.GfmLabelStartFootnote.{call_pieces}
use Rattle.html_bytes.specs.Layout.{LayoutState, layout_state}
use Rattle.html_footnotes.proofs.output.Output.call.Goals as goal

pub returns : goal.returns
returns g c = λ default.
    let page = c.args.self.now in
    let options = c.args.compile.now in
    let outer = reverse (map string_bytes page.outer.items) in
    let notes = map string_bytes page.notes.items in
    let text : Call → List ℕ = λ call. string_bytes page.html ++ pieces_html (call_pieces options call) in
    let laid : List NoteCalls → LayoutState = λ called. layout_state (text (latest_call c.args.place 1 called)) outer notes called page.slugs in
    on_ok_weaker c.push_call.result (λ (e : string_bytes c.push_call.new.out ≡ text (call_view c.latest.result)).
    ap (λ t. layout_state t outer notes c.count.new.self page.slugs) (e ∙ ap text c.latest.ensures) ∙ ap laid c.in_ok-count.ensures.called)
    c.push_call.ensures
