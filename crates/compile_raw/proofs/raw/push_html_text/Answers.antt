use Rattle.std.proofs.Common.{◌≡◌, ◌<◌, ◌++◌, ℕ, List, get_or, string_bytes, sym, subst, arith}
use Rattle.compile_raw.proofs.Prelude.{OnOk}
use Rattle.compile_raw.proofs.RawParts.{chunk_html}
use Rattle.compile_raw.proofs.raw.push_html_text.Goals as goal

pub returns : goal.returns
returns g c =
    let text = c.args.text.now in
    let bytes : (k : ℕ) → get_or text k 0 < 256 = λ k. omega (arith, c.type_inv.text k) in
    subst (λ (x : List ℕ). OnOk c.push_html.result (string_bytes c.push_html.new.out ≡ string_bytes c.args.out.now ++ x))
    (sym (chunk_html c.args.options.now text bytes))
    c.push_html.ensures
