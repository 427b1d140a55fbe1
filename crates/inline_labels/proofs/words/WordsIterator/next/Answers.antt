use Rattle.std.proofs.Common.{◌≡◌, ◌<◌, ◌∷◌, take, drop, length, sym, ap, ap₂, ◌∙◌, arith}
use Rattle.std.proofs.lemmas.Bool.{eqb-true, eqb-false}
use Rattle.definition_inline.specs.LabelMatch.{words}
use Rattle.inline_labels.proofs.FirstWord.{first_word, no_words}
use Rattle.inline_labels.proofs.words.WordsIterator.next.Goals as goal

pub returns-then-is_empty-clause-steps : goal.returns-then-is_empty-clause-steps
returns-then-is_empty-clause-steps c =
    let rest = c.without_white-label.result.now in
    let none : length rest ≡ 0 = eqb-true (length rest) 0 (sym c.is_empty.ensures ∙ c.if-is_empty.true) in
    let e = no_words c.args.self.now.label.now (ap length (sym c.without_white-label.ensures) ∙ none) in
    (e, e)

pub returns-clause-steps : goal.returns-clause-steps
returns-clause-steps c =
    let rest = c.without_white-label.result.now in
    let some : 0 < length rest = omega (arith, eqb-false (length rest) 0 (sym c.is_empty.ensures ∙ c.if-is_empty.false)) in
    first_word c.args.self.now.label.now rest c.without_white-label.ensures some
    ∙ ap (λ n. take n rest ∷ words (drop n rest)) (sym c.word_size.ensures.size)
    ∙ ap₂ (λ word left. word ∷ words left) (sym c.split_at.ensures.front) (sym c.split_at.ensures.back)

pub returns-clause-goes : goal.returns-clause-goes
returns-clause-goes c = let e = ap length (returns-clause-steps c) in record { on = λ _. (tt, tt, omega (arith, e)); keeps = tt; rests = λ _. tt }
