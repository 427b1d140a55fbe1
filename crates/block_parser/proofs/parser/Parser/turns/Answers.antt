use Rattle.std.proofs.Common.{◌≡◌, ◌∷◌, None, Some, refl, sym, ◌∙◌}
use Rattle.block_parser.proofs.Prelude.{AreLines, container_views, HasRead, heading_tree, IsText, open_text, rest_of, spine_at, turns}
use Rattle.block_parser.proofs.Steps as steps
use Rattle.block_parser.proofs.Interrupting as interrupting
use Rattle.block_parser.proofs.parser.Parser.turns.Goals as goal

pub returns-then-not-interrupts-clause-turned : goal.returns-then-not-interrupts-clause-turned
returns-then-not-interrupts-clause-turned g c = λ around kids away e deep clean h.
    let p = c.args.self.now in
    let not_here = sym (c.interrupts.ensures around kids away deep h) ∙ c.if-not-interrupts.true in
    steps.turns_nothing c.args.on.now (rest_of c.args.rest.now) e away (interrupting.nothing_here p c.args.depth around kids away deep h not_here)

pub returns-then-branch-clause-turned : goal.returns-then-branch-clause-turned
returns-then-branch-clause-turned g c = λ around kids away e deep clean h.
    let p = c.args.self.now in
    let on = c.args.on.now in
    let r = rest_of c.args.rest.now in
    let rank = c.in-Some.rank in
    let is = sym c.underline.ensures ∙ c.in-Some.is in
    let here = interrupting.text_is_here p c.args.depth around kids away deep h
    (sym (c.interrupts.ensures around kids away deep h) ∙ c.if-not-interrupts.false) in
    steps.text_leaf_here (λ x. AreLines (open_text x) → HasRead p (spine_at around kids x) → turns on x r e ≡ heading_tree on (Some rank) x e)
    away here.depth_is here.text
    (λ l ls are reads. steps.turns_some on r e (l ∷ ls) rank is (sym (c.in_ok-leaves_text.ensures.left (container_views p.open.items) around kids (l ∷ ls) are reads) ∙ c.if-branch.true))
    clean h

pub returns-then-branch-clause-here : goal.returns-then-branch-clause-here
returns-then-branch-clause-here g c = λ rank around kids away deep h is.
    let p = c.args.self.now in
    let here = interrupting.text_is_here p c.args.depth around kids away deep h
    (sym (c.interrupts.ensures around kids away deep h) ∙ c.if-not-interrupts.false) in
    steps.text_leaf_here IsText away here.depth_is here.text (λ l ls. refl)

pub returns-else-branch-clause-turned : goal.returns-else-branch-clause-turned
returns-else-branch-clause-turned g c = λ around kids away e deep clean h.
    let p = c.args.self.now in
    let on = c.args.on.now in
    let r = rest_of c.args.rest.now in
    let rank = c.in-Some.rank in
    let is = sym c.underline.ensures ∙ c.in-Some.is in
    let here = interrupting.text_is_here p c.args.depth around kids away deep h
    (sym (c.interrupts.ensures around kids away deep h) ∙ c.if-not-interrupts.false) in
    steps.text_leaf_here (λ x. AreLines (open_text x) → HasRead p (spine_at around kids x) → turns on x r e ≡ None) away here.depth_is here.text
    (λ l ls are reads. steps.turns_none on r e (l ∷ ls) rank is (sym (c.in_ok-leaves_text.ensures.left (container_views p.open.items) around kids (l ∷ ls) are reads) ∙ c.if-branch.false))
    clean h
