use Rattle.std.proofs.Common.{◌≡◌, ◌++◌, length, string_bytes}
use Rattle.std.specs.Str.{IsUtf8}
use Rattle.html_heading_text.specs.HeadingLines.{lines_say}
use Rattle.html_heading_text.proofs.heading_text.push_lines.Given as goal

-- what was appended, and what the rest says, is what the text says
abbrev pub invariant-loop-line : goal.invariant-loop-line
invariant-loop-line g l = record {
  utf8 : IsUtf8 l.rest;
  said : string_bytes l.out ++ lines_say l.endings l.rest ≡ string_bytes l.initial.out ++ lines_say l.endings l.text;
}

abbrev pub decreases-loop-line : goal.decreases-loop-line
decreases-loop-line g l = length l.rest
