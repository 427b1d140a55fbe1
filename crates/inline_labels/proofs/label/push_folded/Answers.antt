use Rattle.std.proofs.Common.{sym, ◌∙◌}
use Rattle.std.proofs.lemmas.Iterator.Adapters.{items_from_extend}
use Rattle.std.proofs.lemmas.Str.{Chars-gives, encodes-chars}
use Rattle.std.specs.Str.{chars}
use Rattle.std.specs.Str.Iter.{chars_steps}
use Rattle.caseless.specs.CaseFold.{CaseFoldSteps}
use Rattle.caseless.proofs.CaselessLemmas.{Spells-CaseFold}
use Rattle.inline_labels.proofs.label.push_folded.Goals as goal

pub returns : goal.returns
returns g c =
    let text = c.args.text.now in
    let spelled = Chars-gives (chars text) c.chars.result (encodes-chars text c.utf8.text ∙ sym c.chars.ensures.rest) in
    items_from_extend {steps = CaseFoldSteps chars_steps} {s = c.default_case_fold.result} c.extend.result c.extend.ensures.ran
    (record { runs = Spells-CaseFold (c.default_case_fold.ensures.text (chars text) spelled) })
