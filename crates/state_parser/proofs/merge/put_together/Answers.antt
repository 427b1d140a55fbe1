use Rattle.std.proofs.Common.{◌∙◌, length, ap}
use Rattle.std.specs.List.{fold}
use Rattle.state_parser.specs.Merge.{steps}
use Rattle.state_parser.specs.Merged.{Merging, line_left, pushed}
use Rattle.state_parser.proofs.merge.put_together.Goals as goal

pub returns : goal.returns
returns g c =
    let document = c.args.sources.now.document.now in
    let all = steps document c.args.sources.now.flow.now c.args.sources.now.spans.now c.args.last.now (length document) 0 0 0 in
    let pushes = c.in_ok-push_all.ensures ∙ ap (λ (m : Merging). fold pushed m all) c.in_ok-merged.ensures in
    ap (λ (m : Merging). m.events) (c.in_ok-end.ensures ∙ ap (line_left 0 c.args.blank c.args.end) pushes)
