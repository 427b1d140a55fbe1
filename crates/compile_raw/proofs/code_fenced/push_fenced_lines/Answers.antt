use Rattle.std.proofs.Common.{◌≡◌, ◌&&◌, ◌||◌, Bool, true, ap, ◌∙◌, subst}
use Rattle.compile_raw.proofs.Prelude.{ending_bytes, has_any, last_end, LayoutState, LineEnding, lines_behind, OnOk, page_view, raw_parts}
use Rattle.compile_raw.proofs.FencedLaid.{ended}
use Rattle.compile_raw.proofs.code_fenced.push_fenced_lines.Goals as goal

pub returns-clause-printed : goal.returns-clause-printed
returns-clause-printed g c = λ options place closed ns whole are e.
    let page = c.args.page.now in
    let default = ending_bytes page.default_ending in
    let parts = raw_parts c.args.bytes.now ns in
    let spaced = c.args.spaced in
    let passed = c.in_ok-passed.passed in
    let line = passed.line || (spaced && passed.some) in
    let has_some = c.in_ok-passed.ensures.some ns are e in
    let has_line =
    ap (λ (b : Bool). b || (spaced && passed.some)) (c.in_ok-passed.ensures.line ns are e) ∙ ap (λ (b : Bool). has_any (lines_behind true parts) || (spaced && b)) has_some in
    subst (λ (x : LayoutState). OnOk c.push_last_end.result (page_view c.push_last_end.new.page ≡ x))
    (ap (λ (d : LineEnding). last_end (ending_bytes d) c.args.whole line passed.some (page_view c.push_code.new.page)) c.in_ok-passed.ensures.default
    ∙ ap (last_end default c.args.whole line passed.some) (c.in_ok-passed.ensures.printed ns are e)
    ∙ ended options default place closed spaced (page_view page) c.args.whole line passed.some parts whole has_line has_some)
    c.push_last_end.ensures.printed
