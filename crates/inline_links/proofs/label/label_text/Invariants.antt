use Rattle.std.proofs.Common.{◌≡◌, ◌≤◌, ◌-◌, length, drop, false}
use Rattle.inline_links.proofs.Prelude.{content_codes, IsCut, label_end}
use Rattle.inline_links.proofs.label.label_text.Given as goal

abbrev pub invariant-loop-read : goal.invariant-loop-read
invariant-loop-read l = record {
  within : l.end ≤ length l.content;
  cut : IsCut l.content l.end;
  same : label_end l.escaped (content_codes (drop l.end l.content)) ≡ label_end false (content_codes l.content);
}

abbrev pub decreases-loop-read : goal.decreases-loop-read
decreases-loop-read l = length l.content - l.end
