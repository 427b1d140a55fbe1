use Rattle.std.proofs.Common.{◌≡◌, true, false, refl, sym, ◌∙◌, rules, arith}
use Rattle.std.proofs.lemmas.Bool.{cond-true, cond-false}
use Rattle.std.proofs.lemmas.Iterator.{YieldsList-from_slice, IsFirst-from_position, index_from_first}
use borrow.Author.Tests.{tests}
use Rattle.std.specs.List.{prefix_len}
use Rattle.definition_text.specs.Columns.{is_white}
use Rattle.text_bytes.proofs.front.white_size.Goals as goal

pub returns-clause-size : goal.returns-clause-size
returns-clause-size c =
    let first =
    IsFirst-from_position _ _ _ (λ x. is_white x ≡ false) (λ x. is_white x ≡ true) c.position.ensures.ran (YieldsList-from_slice c.args.bytes.now cc)
    (λ x q k. search (rules, tests))
    (λ x q k. search (rules, tests)) in
    c.unwrap_or.ensures
    ∙ sym (index_from_first (prefix_len is_white) (λ x. is_white x ≡ false) (λ x. is_white x ≡ true) refl (λ x xs h. cond-false (is_white x) _ _ h)
    (λ x xs h. cond-true (is_white x) _ _ h ∙ omega arith) c.args.bytes.now c.position.result first)
