use Rattle.std.proofs.Common.{List, ℕ, ◌∙◌, sym, ap, subst}
use Rattle.std.specs.List.Sorted.{IsNonDecreasing}
use Rattle.std.proofs.lemmas.Result.{IfOk-weaker}
use Rattle.state_parser.specs.LastLines.{AreLastLines, is_last_blank}
use Rattle.state_parser.specs.LastLinesLaws.{filled_lines_rise}
use Rattle.state_parser.specs.Merge.{put_together}
use Rattle.state_parser.specs.MergeLaws.{is_merged}
use Rattle.state_parser.proofs.merge.merge.Goals as goal

pub last_lines-requires : goal.last_lines-requires
last_lines-requires g c =
    subst IsNonDecreasing (sym (c.deref.ensures.value ∙ c.in_ok-lines.ensures)) (filled_lines_rise c.args.sources.now.flow.now c.args.end)

pub returns : goal.returns
returns g c =
    let document = c.args.sources.now.document.now in
    let flow = c.args.sources.now.flow.now in
    let spans = c.args.sources.now.spans.now in
    let end = c.args.end in
    let last = c.in_ok-last.last.items in
    let blank = c.is_last_blank-blank.result in
    let late = subst (λ (ls : List ℕ). AreLastLines ls spans last) c.deref.ensures.value c.in_ok-last.ensures in
    let is_blank = c.is_last_blank-blank.ensures ∙ ap (λ (ls : List ℕ). is_last_blank ls end) c.deref-2.ensures.value in
    IfOk-weaker c.put_together.result _ _ (λ events h.
    is_merged document flow spans end c.in_ok-lines.lines.items last blank events.items c.in_ok-lines.ensures late is_blank
    (h ∙ ap (λ (ls : List ℕ). put_together document flow spans ls blank end) c.deref-3.ensures.value)) c.put_together.ensures
