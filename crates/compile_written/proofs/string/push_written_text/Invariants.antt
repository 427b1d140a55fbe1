use Rattle.std.proofs.Common.{◌≤◌, string_bytes}
use Rattle.compile_written.proofs.Prelude.{IsCharBoundary}
use Rattle.compile_written.proofs.Waiting.{IsWrittenAt}
use Rattle.compile_written.proofs.string.push_written_text.Given as goal

-- what was appended, the bytes that wait, and what is left to write, are the written text
abbrev pub invariant-loop-index : goal.invariant-loop-index
invariant-loop-index g l =
    record {
      in_order : l.start ≤ l.index;
      boundary : IsCharBoundary l.text l.start;
      written : IsWrittenAt l.text (string_bytes l.initial.out) (string_bytes l.out) l.start l.index;
    }
