use Rattle.std.proofs.Common.{◌≡◌, ◌++◌, ℕ, ◌<◌, false, string_bytes, sym, subst, get_or, arith}
use Rattle.html_leaves.proofs.Prelude.{OnOk, raw_bytes}
use Rattle.html_leaves.proofs.Owed.{bytes_owed}
use Rattle.html_leaves.proofs.html_flow.push_html_line.Goals as goal

pub returns : goal.returns
returns g c = λ owed.
    let text = c.args.text.now in
    let bytes : (k : ℕ) → get_or text k 0 < 256 = λ k. omega (arith, c.type_inv.text k) in
    subst (λ x. OnOk c.push_html.result (string_bytes c.push_html.new.out ≡ string_bytes c.args.out.now ++ raw_bytes false c.args.options.now x))
    (sym (bytes_owed owed text bytes)) c.push_html.ensures
