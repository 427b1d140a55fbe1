use Rattle.std.proofs.Common.{◌≡◌, ◌&&◌, ◌||◌, not, Bool, false, is_some, sym, ap, ◌∙◌, subst}
use Rattle.compile_raw.proofs.Prelude.{after_child, before_child, child, ending_bytes, ends_in, fenced_end, fenced_lines, FencedCode, in_bytes, info_of}
use Rattle.compile_raw.proofs.Prelude.{kids_in, layout_after, LayoutState, leaf_block_pieces, LineEnding, OnOk, page_view, raw_parts}
use Rattle.engine_events.specs.declared.event.Name.TheVariants as n
use Rattle.compile_raw.proofs.FencedLaid.{fenced_laid}
use Rattle.compile_raw.proofs.Sound.{kids_sound}
use Rattle.compile_raw.proofs.code_fenced.push_code_fenced.Goals as goal

pub returns-clause-printed : goal.returns-clause-printed
returns-clause-printed g c = λ m place ns top are e.
    let page = c.args.page.now in
    let default = ending_bytes page.default_ending in
    let bytes = c.args.bytes.now in
    let names = g.T.Tables.reference_of c.args.tables.now in
    let options = m.compile in
    let kids = kids_in n.CodeFencedFence ns in
    let after = after_child n.CodeFencedFence ns in
    let closed = is_some (child n.CodeFencedFence after) in
    let parts = raw_parts bytes (before_child n.CodeFencedFence after) in
    let spaced = not closed && ends_in n.SpaceOrTab false (before_child n.CodeFencedFence after) in
    let lines = fenced_lines (not (place.top || closed) || spaced) parts in
    let info = info_of names bytes (child n.CodeFencedFenceInfo kids) in
    subst (λ (x : LayoutState). OnOk c.push_fenced.result (page_view c.push_fenced.new.page ≡ x))
    (ap (λ (d : LineEnding). layout_after options d (page_view c.push_code_tags.new.page) (fenced_end place closed lines)) c.in_ok-push_code_tags.ensures.default
    ∙ ap (λ (x : LayoutState). layout_after options page.default_ending x (fenced_end place closed lines))
    (c.in_ok-push_code_tags.ensures.printed kids (kids_sound bytes n.CodeFencedFence ns are) (c.kids_in-fence.ensures ns are.nodes e))
    ∙ sym (fenced_laid options default m place info closed lines (page_view page))
    ∙ ap (λ (b : Bool). layout_after options page.default_ending (page_view page)
    (in_bytes (leaf_block_pieces m place (FencedCode info closed (fenced_lines (not (b || closed) || spaced) parts))))) (sym top))
    (c.push_fenced.ensures.printed options place ns top are e)
