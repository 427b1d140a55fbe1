use Rattle.std.proofs.Common.{ℕ, string_bytes, ◌-◌, ◌≤◌, ◌<◌, get_or, length}
use Rattle.definition_page.specs.Urls.{sanitize}
use Rattle.html_escape.proofs.Waiting.{IsPrintedAt}
use Rattle.html_escape.proofs.url.push_sanitized.Given as goal

-- the bytes that wait are kept, so they are ASCII; what was printed, they, and what the others are printed as, are what the URL is printed as
abbrev pub invariant-loop-at : goal.invariant-loop-at
invariant-loop-at g l = record {
  in_order : l.start ≤ l.at;
  within : l.at ≤ length l.url;
  kept : (k : ℕ) → l.start ≤ k → k < l.at → get_or l.url k 0 < 128;
  printed : IsPrintedAt sanitize l.url (string_bytes l.initial.out) (string_bytes l.out) l.start l.at;
}

abbrev pub decreases-loop-at : goal.decreases-loop-at
decreases-loop-at g l = length l.url - l.at
