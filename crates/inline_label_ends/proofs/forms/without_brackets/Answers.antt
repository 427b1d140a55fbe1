use Rattle.std.proofs.Common.{◌≡◌, ◌∷◌, [], arith, sym, ◌∙◌}
use Rattle.std.proofs.lemmas.Bool.{cond-false}
use Rattle.definition_text.specs.Content.{content_codes}
use Rattle.definition_text.specs.Bytes.{begins_with}
use Rattle.inline_leaves.specs.Leaves.{size_before}
use Rattle.inline_label_ends.proofs.Rests.{no_brackets}
use Rattle.inline_label_ends.proofs.forms.without_brackets.Goals as goal

pub returns-in-None-clause-size : goal.returns-in-None-clause-size
returns-in-None-clause-size c =
    let xs = c.args.rest.now in
    let none : size_before xs xs ≡ 0 = omega arith in
    none ∙ sym (cond-false (begins_with (91 ∷ 93 ∷ []) (content_codes xs)) 2 0 (no_brackets xs c.in-None.ensures.cases))
