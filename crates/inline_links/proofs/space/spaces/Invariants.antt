use Rattle.std.proofs.Common.{◌≡◌, ◌≤◌, ◌-◌, length, drop}
use Rattle.inline_links.proofs.Prelude.{after_spaces, content_codes}
use Rattle.inline_links.proofs.space.spaces.Given as goal

abbrev pub invariant-loop-read : goal.invariant-loop-read
invariant-loop-read l = record {
  within : l.at ≤ length l.content;
  same : after_spaces (content_codes (drop l.at l.content)) ≡ after_spaces (content_codes l.content);
}

abbrev pub decreases-loop-read : goal.decreases-loop-read
decreases-loop-read l = length l.content - l.at
