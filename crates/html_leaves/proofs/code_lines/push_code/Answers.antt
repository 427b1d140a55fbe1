use Rattle.std.proofs.Common.{◌≡◌, ◌++◌, ℕ, ◌<◌, string_bytes, sym, ap, ◌∙◌, subst, append_assoc, get_or, arith}
use Rattle.html_leaves.proofs.Prelude.{encode, OnOk, replicate}
use Rattle.html_leaves.proofs.Owed.{code_owed}
use Rattle.html_leaves.proofs.code_lines.push_code.Goals as goal

pub returns : goal.returns
returns g c =
    let start = string_bytes c.args.out.now in
    let text = c.args.text.now in
    let bytes : (k : ℕ) → get_or text k 0 < 256 = λ k. omega (arith, c.type_inv.text k) in
    let spaces = replicate c.args.owed 32 in
    subst (λ x. OnOk c.push_encoded.result (string_bytes c.push_encoded.new.out ≡ x))
    (ap (λ x. x ++ encode text) c.in_ok-push_columns.ensures
    ∙ append_assoc start spaces (encode text)
    ∙ ap (λ x. start ++ x) (sym (code_owed c.args.owed text bytes)))
    c.push_encoded.ensures
