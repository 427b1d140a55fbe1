use Rattle.std.proofs.Common.{◌≡◌, min, take}
use Rattle.definition_inline.specs.CharacterReference.{number_of}
use Rattle.html_heading_text.proofs.Numbers.{greatest}
use Rattle.html_heading_text.proofs.character_reference.number_of.Given as goal

-- the number that the digits so far spell
abbrev pub invariant-loop-digit : goal.invariant-loop-digit
invariant-loop-digit l = l.number ≡ min (number_of l.radix (take l.digit-index l.digits)) greatest
