use Rattle.std.proofs.Common.{◌≡◌, ◌+◌, drop}
use Rattle.inline_constructs.proofs.Prelude.{is_of, prefix_len}
use Rattle.inline_constructs.proofs.byte_class.prefix_size.Given as goal

-- the bytes so far are of the class
abbrev pub invariant-loop-i : goal.invariant-loop-i
invariant-loop-i l = l.i + prefix_len (is_of l.class) (drop l.i l.bytes) ≡ prefix_len (is_of l.class) l.bytes
