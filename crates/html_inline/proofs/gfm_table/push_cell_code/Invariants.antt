use Rattle.std.proofs.Common.{◌≡◌, ◌++◌, length, string_bytes}
use denote.Text.{Utf8}
use denote.Shadow.{shadow}
use Rattle.html_inline.proofs.Prelude.{cell_code, encode}
use Rattle.html_inline.proofs.gfm_table.push_cell_code.Given as goal

-- what was printed, and what is printed for the rest, is what is printed for the code
abbrev pub invariant-loop-rest : goal.invariant-loop-rest
invariant-loop-rest g l =
    shadow (Utf8 l.rest) × (string_bytes l.out ++ encode (cell_code l.rest) ≡ string_bytes l.initial.out ++ encode (cell_code l.code))

abbrev pub decreases-loop-rest : goal.decreases-loop-rest
decreases-loop-rest g l = length l.rest
