use Rattle.std.proofs.Common.{◌≡◌, ◌≤◌, length}
use denote.Shadow.{shadow}
use denote.Text.{Utf8}
use Rattle.definition_text.specs.Lines.{lines}
use Rattle.definition_block.specs.Frontmatter.{after_metadata_fence}
use Rattle.block_starts.proofs.frontmatter.after_metadata_fence.Given as goal

-- the lines so far are no fences
abbrev pub invariant-loop-rest : goal.invariant-loop-rest
invariant-loop-rest l = record {
  same : after_metadata_fence l.byte (lines l.rest) ≡ after_metadata_fence l.byte (lines l.text);
  within : length l.rest ≤ length l.text;
  text : shadow (Utf8 l.rest);
}

abbrev pub decreases-loop-rest : goal.decreases-loop-rest
decreases-loop-rest l = length (lines l.rest)
