use Rattle.std.proofs.Common.{◌≡◌, ◌<◌, ◌≤◌, ◌+◌, get_or, length, take}
use Rattle.std.specs.List.{suffix_len}
use Rattle.definition_inline.specs.GfmAutolinkLiteral.{is_user_byte}
use Rattle.inline_literals.proofs.address.user_bytes.Given as goal

-- what was passed so far is of the suffix of such bytes
abbrev pub invariant-loop-start : goal.invariant-loop-start
invariant-loop-start l = record {
  in_range : l.start ≤ length l.before;
  first : l.start < length l.before → get_or l.before l.start 0 < 128;
  cut : l.start + suffix_len is_user_byte l.before ≡ length l.before + suffix_len is_user_byte (take l.start l.before);
}

abbrev pub decreases-loop-start : goal.decreases-loop-start
decreases-loop-start l = l.start
