use Rattle.std.proofs.Common.{◌≡◌, ◌+◌, drop}
use Rattle.std.specs.List.{prefix_len}
use Rattle.definition_text.specs.Bytes.{is_letter_or_digit}
use Rattle.block_starts.proofs.html_flow.split_name.Given as goal

-- the bytes so far are of the name
abbrev pub invariant-loop-i : goal.invariant-loop-i
invariant-loop-i l = l.i + prefix_len is_letter_or_digit (drop l.i l.bytes) ≡ prefix_len is_letter_or_digit l.bytes
