-- A character that an ending cuts.
use Rattle.std.proofs.Common.{cond, refl, ap}
use Rattle.markdown_options.specs.declared.beside.Kind.TheVariants.{Punctuation, Other}
use Rattle.laws_endings.specs.Laws.{CutCharacterLaw}

pub cut_character_law : CutCharacterLaw
cut_character_law is_punctuation end h = (refl, ap (λ is. cond is Punctuation Other) h)
