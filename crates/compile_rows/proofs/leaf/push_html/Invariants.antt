use Rattle.std.proofs.Common.{◌≡◌, ◌≤◌, ◌++◌, ℕ, drop}
use Rattle.compile_rows.proofs.Prelude.{html_after, LinkTexts, rows_view}
use Rattle.compile_rows.proofs.leaf.push_html.Given as goal

-- the rows so far, with those of the events that are left, are all
abbrev pub invariant-loop-index : goal.invariant-loop-index
invariant-loop-index g l =
    record {
      counted : l.depth ≤ l.index;
      read : (at : ℕ → LinkTexts)
          → rows_view at l.rows.items ++ html_after l.bytes l.depth (drop l.index l.events)
          ≡ rows_view at l.initial.rows.items ++ html_after l.bytes 0 l.events;
    }
