use Rattle.std.proofs.Common.{◌≡◌, ◌<◌, ◌≤◌, ◌∙◌, [], ◌∷◌, List, false, true, get_or, length, refl, sym, arith}
use Rattle.inline_content.proofs.Prelude.{eq-eqb, ne_eqb, Piece}
use Rattle.inline_content.specs.Lines.{is_one_line}
use Rattle.inline_content.proofs.Lined.{one_line}
use Rattle.inline_content.proofs.line.line_content.Goals as goal

several : (pieces : List Piece) → (length pieces ≡ 1 → ⊥) → is_one_line pieces ≡ false
several [] h = refl
several (line ∷ []) h = absurd (h refl)
several (line ∷ next ∷ others) h = refl

alone : (pieces : List Piece) (d : Piece) → length pieces ≡ 1 → (get_or pieces 0 d).owed ≤ 0 → is_one_line pieces ≡ true
alone [] d one none = absurd (omega (arith, one))
alone (line ∷ []) d one none = eq-eqb line.owed 0 (omega (arith, none))
alone (line ∷ next ∷ others) d one none = absurd (omega (arith, one))

owed : (pieces : List Piece) (d : Piece) → length pieces ≡ 1 → 0 < (get_or pieces 0 d).owed → is_one_line pieces ≡ false
owed [] d one some = absurd (omega (arith, one))
owed (line ∷ []) d one some = ne_eqb line.owed 0 (λ none. omega (arith, none, some))
owed (line ∷ next ∷ others) d one some = absurd (omega (arith, one))

pub returns-then-lines-ne1-clause-alone : goal.returns-then-lines-ne1-clause-alone
returns-then-lines-ne1-clause-alone c = sym (several c.args.lines.now c.if-lines-ne1.true)

pub returns-then-line-gt0-clause-alone : goal.returns-then-line-gt0-clause-alone
returns-then-line-gt0-clause-alone c = sym (owed c.args.lines.now _ c.if-lines-ne1.false c.if-line-gt0.true)

pub returns-clause-alone : goal.returns-clause-alone
returns-clause-alone c = sym (alone c.args.lines.now _ c.if-lines-ne1.false c.if-line-gt0.false)

pub returns-clause-content : goal.returns-clause-content
returns-clause-content c = λ p h.
    let own = c.text_content.ensures in
    own.view p ∙ one_line p c.args.after c.args.lines.now _ own.bytes c.if-lines-ne1.false (omega (arith, c.if-line-gt0.false)) h
