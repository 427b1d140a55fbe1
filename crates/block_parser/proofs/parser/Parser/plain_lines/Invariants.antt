use Rattle.std.proofs.Common.{length}
use denote.Text.{Utf8}
use denote.Shadow.{shadow}
use Rattle.block_parser.proofs.Prelude.{HasRead}
use Rattle.block_parser.proofs.PlainLines.{PlainSoFar}
use Rattle.block_parser.proofs.parser.Parser.plain_lines.Given as goal

-- the lines so far are plain, and were read
abbrev pub invariant-loop-content : goal.invariant-loop-content
invariant-loop-content g l = shadow (Utf8 l.rest) × PlainSoFar l.on l.text l.rest (HasRead l.initial.self) l.self

abbrev pub decreases-loop-content : goal.decreases-loop-content
decreases-loop-content g l = length l.rest
