use Rattle.std.proofs.Common.{◌≡◌, ◌++◌, string_bytes, length}
use Rattle.std.specs.Str.{IsUtf8}
use Rattle.html_sanitizer.specs.Urls.{replaced}
use Rattle.html_sanitizer.proofs.urls.push_replaced.Given as goal

-- what was printed, and what the rest makes, is what the text makes
abbrev pub invariant-loop-before : goal.invariant-loop-before
invariant-loop-before g l = record {
  utf8 : IsUtf8 l.rest;
  printed : string_bytes l.out ++ replaced l.character l.replacement l.rest ≡ replaced l.character l.replacement l.text;
}

abbrev pub decreases-loop-before : goal.decreases-loop-before
decreases-loop-before g l = length l.rest
