use Rattle.std.proofs.Common.{◌≡◌, ◌≤◌, ℕ, length}
use Rattle.definition_text.specs.Content.{content_codes}
use Rattle.state_left.specs.Left.{cut_most}
use Rattle.state_left.proofs.paragraph.is_left.Given as goal

-- what is left after some more cuts, enough of them, is left of the whole
abbrev pub invariant-loop-found : goal.invariant-loop-found
invariant-loop-found l =
    (most : ℕ) × (length l.rest ≤ most) × (cut_most most (content_codes l.rest) ≡ cut_most (length l.text) (content_codes l.text))

abbrev pub decreases-loop-found : goal.decreases-loop-found
decreases-loop-found l = length l.rest
