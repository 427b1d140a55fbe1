use Rattle.std.proofs.Common.{◌≡◌, ◌++◌, length, string_bytes}
use denote.Text.{Utf8}
use denote.Shadow.{shadow}
use Rattle.std.specs.Option.{option_map}
use Rattle.html_safe_page.specs.Reader.{read_text}
use Rattle.html_sanitizer.proofs.elements.push_read.Given as goal

-- what was read, and what the rest is read as, is what the text is read as
abbrev pub invariant-loop-rest : goal.invariant-loop-rest
invariant-loop-rest g l = shadow (Utf8 l.rest) × (option_map (λ t. string_bytes l.out ++ t) (read_text l.rest) ≡ read_text l.text)

abbrev pub decreases-loop-rest : goal.decreases-loop-rest
decreases-loop-rest g l = length l.rest
