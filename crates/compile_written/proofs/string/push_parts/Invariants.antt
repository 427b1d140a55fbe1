use Rattle.std.proofs.Common.{◌≡◌, ◌≤◌, ◌++◌, drop, string_bytes}
use Rattle.compile_written.proofs.Prelude.{formed, parts_after}
use Rattle.compile_written.proofs.string.push_parts.Given as goal

-- what was appended, with the parts that are left, is all
abbrev pub invariant-loop-index : goal.invariant-loop-index
invariant-loop-index g l =
    let names = g.T.Tables.reference_of l.tables in
    record {
      counted : l.depth ≤ l.index;
      read : string_bytes l.out ++ formed l.form (parts_after names l.bytes l.depth (drop l.index l.events))
          ≡ string_bytes l.initial.out ++ formed l.form (parts_after names l.bytes 0 l.events);
    }
