use Rattle.std.proofs.Common.{◌≡◌, ◌&&◌, ◌||◌, not, Bool, false, is_some, sym, ap, ◌∙◌, subst}
use Rattle.compile_raw.proofs.Prelude.{after_child, before_child, child, ending_bytes, ends_in, fenced_close, fenced_lines, layout_after, LayoutState}
use Rattle.compile_raw.proofs.Prelude.{LineEnding, OnOk, page_view, raw_parts}
use Rattle.engine_events.specs.declared.event.Name.TheVariants as n
use Rattle.compile_raw.proofs.FencedLaid.{laid, end_laid}
use Rattle.compile_raw.proofs.Sound.{after_sound, before_sound}
use Rattle.compile_raw.proofs.code_fenced.push_fenced.Goals as goal
use Rattle.compile_raw.proofs.code_fenced.push_fenced.Goals.{then-top, else-top}

pub returns-clause-printed : goal.returns-clause-printed
returns-clause-printed g c = λ options place ns top are e.
    let page = c.args.page.now in
    let default = ending_bytes page.default_ending in
    let bytes = c.args.bytes.now in
    let fence = c.args.fence in
    let after = after_child fence ns in
    let closed = is_some (child fence after) in
    let is_closed = c.between_fences-closed.ensures.closed ns are.nodes e in
    let between = before_child fence after in
    let spaced = not closed && ends_in n.SpaceOrTab false between in
    let lines = fenced_lines (not (place.top || closed) || spaced) (raw_parts bytes between) in
    let found_lines = c.between_fences-closed.ensures.lines ns are.nodes e in
    let found = c.between_fences-closed.result.0 in
    let is_whole : c.if-top.whole ≡ (c.args.top || found) = elim c.if-top.branch [
      | then-top w ↦ w.whole-is ∙ w.if-top.true ∙ ap (λ (t : Bool). t || found) (sym w.if-top.true)
      | else-top w ↦ w.whole-is ∙ ap (λ (t : Bool). t || found) (sym w.if-top.false)
    ] in
    let whole = is_whole ∙ ap (λ (b : Bool). b || found) top ∙ ap (λ (b : Bool). place.top || b) is_closed in
    let sound = before_sound bytes fence after (after_sound bytes fence ns are) in
    let is_spaced = c.is_spaced-spaced.ensures between sound.nodes found_lines ∙ ap (λ (b : Bool). not b && ends_in n.SpaceOrTab false between) is_closed in
    let printed : page_view c.push_fenced_lines.new.page ≡ laid options default place closed lines (page_view page) =
    c.in_ok-push_fenced_lines.ensures.printed options place closed between whole sound found_lines
    ∙ ap (λ (b : Bool). laid options default place closed (fenced_lines (not (place.top || closed) || b) (raw_parts bytes between)) (page_view page)) is_spaced in
    subst (λ (x : LayoutState). OnOk c.push_fenced_end.result (page_view c.push_fenced_end.new.page ≡ x))
    (ap (λ (d : LineEnding). layout_after options d (page_view c.push_fenced_lines.new.page) (fenced_close found)) c.in_ok-push_fenced_lines.ensures.default
    ∙ ap (λ (b : Bool). layout_after options page.default_ending (page_view c.push_fenced_lines.new.page) (fenced_close b)) is_closed
    ∙ ap (λ (x : LayoutState). layout_after options page.default_ending x (fenced_close closed)) printed
    ∙ sym (end_laid options default place closed lines (page_view page)))
    (c.push_fenced_end.ensures.printed options)
