use Rattle.std.proofs.Common.{◌≡◌, ◌++◌, length}
use denote.Text.{Utf8}
use denote.Shadow.{shadow}
use Rattle.html_sanitizer.specs.Attributes.{cut, rest_after, attributes_of}
use Rattle.html_sanitizer.proofs.attributes.read_attributes.Given as goal

-- what was read, and what the rest has, is what the text has; and what follows is the same
abbrev pub invariant-loop-start : goal.invariant-loop-start
invariant-loop-start g l = shadow (Utf8 l.rest)
    × (attributes_of l.written.items ++ cut (length l.rest) l.rest ≡ attributes_of l.fn.written.items ++ cut (length l.text) l.text)
    × (rest_after (length l.rest) l.rest ≡ rest_after (length l.text) l.text)

abbrev pub decreases-loop-start : goal.decreases-loop-start
decreases-loop-start g l = length l.rest
