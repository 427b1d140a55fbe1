use Rattle.std.proofs.Common.{◌≡◌, ◌++◌, string_bytes, take}
use Rattle.inline_addresses.proofs.Prelude.{rows_text}
use Rattle.inline_addresses.proofs.walk.push_texts.Given as goal

-- the texts of the rows so far stand there
abbrev pub invariant-loop-row : goal.invariant-loop-row
invariant-loop-row g l = string_bytes l.text ≡ string_bytes l.initial.text ++ rows_text (take l.row-index l.rows)
