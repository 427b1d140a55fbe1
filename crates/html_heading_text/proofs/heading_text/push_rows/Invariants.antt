use Rattle.std.proofs.Common.{◌≤◌, drop, string_bytes}
use Rattle.html_heading_text.proofs.HeadingTexts.{SaysAll}
use Rattle.html_heading_text.proofs.heading_text.push_rows.Given as goal

abbrev pub invariant-loop-row : goal.invariant-loop-row
invariant-loop-row g l =
    SaysAll l.endings (string_bytes l.initial.out) (string_bytes l.out) l.silent (drop l.row-index l.rows) l.rows × (l.silent ≤ l.row-index)
