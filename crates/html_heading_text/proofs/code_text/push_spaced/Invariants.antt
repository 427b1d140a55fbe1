use Rattle.std.proofs.Common.{◌≡◌, ◌++◌, length, string_bytes}
use denote.Text.{Utf8}
use denote.Shadow.{shadow}
use Rattle.html_heading_text.specs.CodeBytes.{spaces_for_endings}
use Rattle.html_heading_text.proofs.code_text.push_spaced.Given as goal

-- what was printed, and what is printed for the rest, is what is printed for the text
abbrev pub invariant-loop-rest : goal.invariant-loop-rest
invariant-loop-rest g l = shadow (Utf8 l.rest)
    × (string_bytes l.out ++ spaces_for_endings l.rest ≡ string_bytes l.initial.out ++ spaces_for_endings l.code)

abbrev pub decreases-loop-rest : goal.decreases-loop-rest
decreases-loop-rest g l = length l.rest
