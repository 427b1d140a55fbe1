use Rattle.std.proofs.Common.{◌≡◌, true, false, not, refl, sym, ap, ◌∙◌, rules, arith}
use Rattle.parse_strings.proofs.Prelude.{cond-false, cond-true}
use Rattle.std.proofs.lemmas.Iterator.{YieldsList-from_slice, IsFirst-from_position, index_from_first}
use borrow.Author.Tests.{tests}
use Rattle.std.specs.List.{position_or_len}
use Rattle.parse_strings.specs.References.{is_semicolon}
use Rattle.parse_strings.proofs.character_reference.before_semicolon.Goals as goal

pub returns : goal.returns
returns c =
    let first =
    IsFirst-from_position _ _ _ (λ x. is_semicolon x ≡ true) (λ x. is_semicolon x ≡ false) c.position.ensures.ran (YieldsList-from_slice c.args.bytes.now cc)
    (λ x q k. search (rules, tests))
    (λ x q k. search (rules, tests)) in
    c.unwrap_or.ensures
    ∙ sym (index_from_first (position_or_len is_semicolon) (λ x. is_semicolon x ≡ true) (λ x. is_semicolon x ≡ false) refl
    (λ x xs h. cond-false (not (is_semicolon x)) _ _ (ap not h))
    (λ x xs h. cond-true (not (is_semicolon x)) _ _ (ap not h) ∙ omega arith) c.args.bytes.now c.position.result first)
