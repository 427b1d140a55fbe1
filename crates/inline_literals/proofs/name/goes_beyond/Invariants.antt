use Rattle.std.proofs.Common.{◌≡◌, ◌++◌, drop, take}
use Rattle.definition_text.specs.Content.{content_codes}
use Rattle.definition_inline.specs.GfmAutolinkLiteral.{literal_run}
use Rattle.inline_leaves.specs.Leaves.{IsPlain}
use Rattle.inline_literals.proofs.name.goes_beyond.Given as goal

-- the bytes so far belong to the literal
abbrev pub invariant-loop-i : goal.invariant-loop-i
invariant-loop-i l = record {
  so_far : literal_run (content_codes l.after) ≡ take l.i l.after ++ literal_run (content_codes (drop l.i l.after));
  plain : IsPlain l.after l.i;
}
