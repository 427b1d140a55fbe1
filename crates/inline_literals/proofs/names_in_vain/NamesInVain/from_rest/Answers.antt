use Rattle.std.proofs.Common.{◌≡◌, ◌-◌, ◌+◌, drop, length, ap, sym, ◌∙◌, arith}
use Rattle.std.proofs.lemmas.List.{drop-drop}
use Rattle.inline_literals.specs.Literals.{size_after}
use Rattle.inline_literals.proofs.names_in_vain.NamesInVain.from_rest.Goals as goal

pub returns : goal.returns
returns c = λ p content rest vain left few most within.
    let after = c.args.after.now in
    let k = length after - left in
    let from = length content - length after in
    let count : from + k ≡ length content - left = omega (arith, most, rest.within) in
    let same : drop k after ≡ drop (length content - left) content =
    ap (drop k) rest.place ∙ drop-drop k from content ∙ ap (λ n. drop n content) count in
    ap (size_after p) (sym same) ∙ vain k (omega (arith, few))
