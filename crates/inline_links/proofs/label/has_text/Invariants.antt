use Rattle.std.proofs.Common.{◌≡◌, ◌≤◌, ◌-◌, length, drop}
use Rattle.inline_links.proofs.Prelude.{content_codes}
use Rattle.definition_inline.specs.Label.{has_text}
use Rattle.inline_links.proofs.label.has_text.Given as goal

abbrev pub invariant-loop-read : goal.invariant-loop-read
invariant-loop-read l = record {
  within : l.at ≤ length l.text;
  same : has_text (content_codes (drop l.at l.text)) ≡ has_text (content_codes l.text);
}

abbrev pub decreases-loop-read : goal.decreases-loop-read
decreases-loop-read l = length l.text - l.at
