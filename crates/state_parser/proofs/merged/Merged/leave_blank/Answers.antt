use Rattle.std.proofs.Common.{◌≡◌, ◌∙◌, ℕ, OnOk, ap, subst}
use Rattle.state_parser.specs.Merged.{before_left, merged_seen, white_start}
use Rattle.state_parser.proofs.merged.Merged.leave_blank.Goals as goal

pub returns : goal.returns
returns g c =
    let before = merged_seen c.args.self.now in
    let after = merged_seen c.leave_before.new.self in
    let start = c.white_start-start.ensures ∙ ap white_start c.deref.ensures.value in
    subst (λ (n : ℕ). OnOk c.leave_before.result (after ≡ before_left n c.args.kept c.args.point before)) start c.leave_before.ensures
