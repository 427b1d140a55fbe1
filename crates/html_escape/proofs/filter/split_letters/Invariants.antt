use Rattle.std.proofs.Common.{◌≡◌, ◌+◌, drop}
use Rattle.std.specs.List.{prefix_len}
use Rattle.definition_text.specs.Bytes.{is_letter}
use Rattle.html_escape.proofs.filter.split_letters.Given as goal

-- the bytes so far are letters
abbrev pub invariant-loop-i : goal.invariant-loop-i
invariant-loop-i l = l.i + prefix_len is_letter (drop l.i l.bytes) ≡ prefix_len is_letter l.bytes
