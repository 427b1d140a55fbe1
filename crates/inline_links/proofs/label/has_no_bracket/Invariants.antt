use Rattle.std.proofs.Common.{◌≡◌, ◌≤◌, ◌-◌, length, drop, false}
use Rattle.inline_links.proofs.Prelude.{content_codes, has_no_bracket}
use Rattle.inline_links.proofs.label.has_no_bracket.Given as goal

abbrev pub invariant-loop-read : goal.invariant-loop-read
invariant-loop-read l = record {
  within : l.at ≤ length l.text;
  same : has_no_bracket l.escaped (content_codes (drop l.at l.text)) ≡ has_no_bracket false (content_codes l.text);
}

abbrev pub decreases-loop-read : goal.decreases-loop-read
decreases-loop-read l = length l.text - l.at
