use Rattle.std.proofs.Common.{◌≡◌, ◌++◌, string_bytes, length}
use Rattle.std.specs.Str.{IsUtf8}
use Rattle.definition_inline.specs.Decoded.{decode}
use Rattle.inline_references.proofs.parse.push_decoded.Given as goal

-- what was printed, and what the rest is decoded to, is what the text is decoded to
abbrev pub invariant-loop-before : goal.invariant-loop-before
invariant-loop-before g l = record {
  utf8 : IsUtf8 l.rest;
  printed : string_bytes l.out ++ decode (g.T.Tables.reference_of l.tables) l.rest
      ≡ string_bytes l.initial.out ++ decode (g.T.Tables.reference_of l.tables) l.value;
}

abbrev pub decreases-loop-before : goal.decreases-loop-before
decreases-loop-before g l = length l.rest
