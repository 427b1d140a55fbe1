use Rattle.std.proofs.Common.{◌≡◌, ◌≤◌, ◌-◌, length, drop, false}
use Rattle.inline_links.proofs.Prelude.{content_codes, IsCut, title_end}
use Rattle.inline_links.proofs.title.title_text.Given as goal

abbrev pub invariant-loop-read : goal.invariant-loop-read
invariant-loop-read l = record {
  within : l.end ≤ length l.content;
  cut : IsCut l.content l.end;
  same : title_end l.close l.escaped l.start (content_codes (drop l.end l.content)) ≡ title_end l.close false false (content_codes l.content);
}

abbrev pub decreases-loop-read : goal.decreases-loop-read
decreases-loop-read l = length l.content - l.end
