use Rattle.std.proofs.Common.{◌≡◌, ◌++◌, length, string_bytes}
use denote.Text.{Utf8}
use denote.Shadow.{shadow}
use Rattle.html_inline.proofs.Prelude.{form_bytes, text_of}
use Rattle.html_inline.proofs.string.push_formed_string.Given as goal

-- what was printed, and what the rest stands for, is what the string stands for
abbrev pub invariant-loop-rest : goal.invariant-loop-rest
invariant-loop-rest g l = shadow (Utf8 l.rest) × (string_bytes l.out ++ form_bytes l.form (text_of l.on (g.T.Tables.reference_of l.tables) l.rest)
    ≡ string_bytes l.initial.out ++ form_bytes l.form (text_of l.on (g.T.Tables.reference_of l.tables) l.string))

abbrev pub decreases-loop-rest : goal.decreases-loop-rest
decreases-loop-rest g l = length l.rest
