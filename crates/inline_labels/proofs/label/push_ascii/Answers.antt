use Rattle.std.proofs.Common.{[], ◌≡◌, ◌++◌, drop, map, string_bytes, sym, ap, ◌∙◌}
use Rattle.std.specs.Char.{to_ascii_lowercase}
use Rattle.std.proofs.lemmas.List.{append-nil, drop_all}
use Rattle.inline_labels.proofs.Ascii.{folded_ascii}
use Rattle.inline_labels.proofs.label.push_ascii.Goals as goal

pub returns : goal.returns
returns g c =
    let word = c.args.word.now in
    let none : drop c.loop-byte.byte-index word ≡ [] = drop_all c.loop-byte.byte-index word c.loop-byte-test.false in
    sym (append-nil (string_bytes c.loop-byte.normal))
    ∙ ap (λ left. string_bytes c.loop-byte.normal ++ map to_ascii_lowercase left) (sym none)
    ∙ c.loop-byte.invariant
    ∙ ap (λ folded. string_bytes c.args.normal.now ++ folded) (sym (folded_ascii word c.requires))
