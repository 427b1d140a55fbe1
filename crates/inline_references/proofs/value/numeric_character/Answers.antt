use Rattle.std.proofs.Common.{ap, sym, ◌∙◌}
use Rattle.definition_inline.specs.CharacterReference.{character_of}
use Rattle.std.specs.Str.Parse.{digits_value}
use Rattle.inline_references.proofs.Values.{without_sign, small_radix, same_number}
use Rattle.inline_references.proofs.value.numeric_character.Goals as goal

pub returns : goal.returns
returns c =
    let plain = without_sign c.args.radix c.args.digits.now (small_radix c.args.radix c.requires.radix) c.requires.digits.numeral in
    c.character_of.ensures ∙ ap character_of (c.in-Ok.ensures.value.1 ∙ ap (digits_value c.args.radix) plain ∙ sym (same_number c.args.radix c.args.digits.now))
