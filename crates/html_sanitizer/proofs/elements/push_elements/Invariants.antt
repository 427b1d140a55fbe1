use Rattle.std.proofs.Common.{length, string_bytes}
use denote.Text.{Utf8}
use denote.Shadow.{shadow}
use Rattle.html_sanitizer.proofs.Nameless.{IsInRun}
use Rattle.html_sanitizer.proofs.elements.push_elements.Given as goal

-- the elements that are left make the run of the page
abbrev pub invariant-loop-inside : goal.invariant-loop-inside
invariant-loop-inside g l = shadow (Utf8 l.rest) × IsInRun l.page (string_bytes l.fn.out) (string_bytes l.out) l.rest

abbrev pub decreases-loop-inside : goal.decreases-loop-inside
decreases-loop-inside g l = length l.rest
