use Rattle.std.proofs.Common.{◌≡◌, ◌++◌, length, string_bytes}
use Rattle.html_inline.proofs.Prelude.{content_codes, flat_map, html_lines, html_says, later_bytes, say_bytes}
use denote.Text.{Utf8}
use denote.Shadow.{shadow}
use Rattle.html_inline.proofs.html_text.push_html_text.Given as goal

-- what was printed, and what is printed for the later lines, is what is printed for all
abbrev pub invariant-loop-rest : goal.invariant-loop-rest
invariant-loop-rest g l = shadow (Utf8 l.rest) × (string_bytes l.out ++ flat_map (later_bytes l.described l.compile) (html_lines (content_codes l.rest))
    ≡ string_bytes l.fn.out ++ say_bytes (html_says l.described l.compile (content_codes l.html)))

abbrev pub decreases-loop-rest : goal.decreases-loop-rest
decreases-loop-rest g l = length l.rest
