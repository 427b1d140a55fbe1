use Rattle.std.proofs.Common.{◌≡◌, ◌++◌, string_bytes}
use Rattle.html_footnotes.proofs.Prelude.{backs_pieces, pieces_html}
use Rattle.html_footnotes.proofs.gfm_footnote_definition.push_backs.Given as goal

-- the ways back so far are printed
abbrev pub invariant-loop-count : goal.invariant-loop-count
invariant-loop-count g l = string_bytes l.out ≡ string_bytes l.initial.out ++ pieces_html (backs_pieces l.compile l.label l.count)
