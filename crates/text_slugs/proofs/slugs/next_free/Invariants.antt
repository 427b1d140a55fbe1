use Rattle.std.proofs.Common.{ℕ, ◌+◌, List}
use Rattle.text_slugs.specs.Slugs.{AreTaken, HasSlugs}
use Rattle.text_slugs.proofs.slugs.next_free.Given as goal

abbrev pub invariant-loop-before : goal.invariant-loop-before
invariant-loop-before g l = (taken : List (List ℕ)) → HasSlugs l.numbers taken → AreTaken taken l.slug (l.fn.last + 1) → AreTaken taken l.slug (l.before + 1)
