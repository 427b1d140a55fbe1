use Rattle.std.proofs.Common.{◌≡◌, ◌≤◌, ◌-◌, length, drop, ◌+◌, false}
use Rattle.inline_links.proofs.Prelude.{content_codes, label_size}
use Rattle.inline_links.proofs.label.label_size.Given as goal

abbrev pub invariant-loop-read : goal.invariant-loop-read
invariant-loop-read l = record {
  within : l.at ≤ length l.text;
  few : l.size ≤ l.at;
  sizes : l.size + label_size l.start (content_codes (drop l.at l.text)) ≡ label_size false (content_codes l.text);
}

abbrev pub decreases-loop-read : goal.decreases-loop-read
decreases-loop-read l = length l.text - l.at
