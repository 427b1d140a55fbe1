use Rattle.std.proofs.Common.{◌≡◌, drop}
use Rattle.inline_tags.specs.Places.{rest_after}
use Rattle.inline_tags.specs.Views.{place_of}
use Rattle.inline_tags.proofs.tags.rest_after.Given as goal

-- what is left has the answer
abbrev pub invariant-loop-i : goal.invariant-loop-i
invariant-loop-i l = rest_after (place_of l.place) (drop l.i l.bytes) ≡ rest_after (place_of l.fn.start) l.bytes
