use Rattle.std.proofs.Common.{◌≡◌, ◌&&◌, ◌||◌, not, Bool, false, Some, is_some, codes, sym, ap, ◌∙◌, subst}
use Rattle.compile_raw.proofs.Prelude.{after_child, before_child, child, ending_bytes, ends_in, fenced_end, fenced_lines, FencedCode, in_bytes, layout_after}
use Rattle.compile_raw.proofs.Prelude.{LayoutState, leaf_block_pieces, LineEnding, OnOk, page_view, raw_parts}
use Rattle.engine_events.specs.declared.event.Name.TheVariants as n
use Rattle.compile_raw.proofs.FencedLaid.{fenced_laid}
use Rattle.compile_raw.proofs.math_flow.push_math_flow.Goals as goal

pub returns-clause-printed : goal.returns-clause-printed
returns-clause-printed g c = λ names m place ns top are e.
    let page = c.args.page.now in
    let default = ending_bytes page.default_ending in
    let options = m.compile in
    let after = after_child n.MathFlowFence ns in
    let closed = is_some (child n.MathFlowFence after) in
    let parts = raw_parts c.args.bytes.now (before_child n.MathFlowFence after) in
    let spaced = not closed && ends_in n.SpaceOrTab false (before_child n.MathFlowFence after) in
    let lines = fenced_lines (not (place.top || closed) || spaced) parts in
    subst (λ (x : LayoutState). OnOk c.push_fenced.result (page_view c.push_fenced.new.page ≡ x))
    (ap (λ (d : LineEnding). layout_after options d (page_view c.fresh_tag.new.self) (fenced_end place closed lines)) c.in_ok-fresh_tag.ensures.default
    ∙ ap (λ (x : LayoutState). layout_after options page.default_ending x (fenced_end place closed lines)) c.in_ok-fresh_tag.ensures.printed
    ∙ sym (fenced_laid options default m place (Some (codes "math math-display")) closed lines (page_view page))
    ∙ ap (λ (b : Bool). layout_after options page.default_ending (page_view page)
    (in_bytes (leaf_block_pieces m place (FencedCode (Some (codes "math math-display")) closed (fenced_lines (not (b || closed) || spaced) parts))))) (sym top))
    (c.push_fenced.ensures.printed options place ns top are e)
