use Rattle.std.proofs.Common.{◌≡◌, ◌++◌, drop, map, string_bytes}
use Rattle.std.specs.Char.{to_ascii_lowercase}
use Rattle.inline_labels.proofs.label.push_ascii.Given as goal

abbrev pub invariant-loop-byte : goal.invariant-loop-byte
invariant-loop-byte g l =
    string_bytes l.normal ++ map to_ascii_lowercase (drop l.byte-index l.word) ≡ string_bytes l.fn.normal ++ map to_ascii_lowercase l.word
