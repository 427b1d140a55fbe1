use Rattle.std.proofs.Common.{◌≡◌, ◌+◌, drop}
use Rattle.html_inline.proofs.Prelude.{bar_escape_at}
use Rattle.html_inline.proofs.gfm_table.bar_escape_place.Given as goal

-- no backslash so far escapes a bar
abbrev pub invariant-loop-i : goal.invariant-loop-i
invariant-loop-i l = bar_escape_at l.bytes ≡ l.i + bar_escape_at (drop l.i l.bytes)
