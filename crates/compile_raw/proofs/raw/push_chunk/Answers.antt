use Rattle.std.proofs.Common.{◌≡◌, ◌<◌, ◌++◌, ℕ, List, string_bytes, get_or, sym, ap, ◌∙◌, subst, append_assoc, arith}
use Rattle.compile_raw.proofs.Prelude.{encode, OnOk, replicate}
use Rattle.compile_raw.proofs.RawLaid.{chunk_said}
use Rattle.compile_raw.proofs.raw.push_chunk.Goals as goal

pub returns : goal.returns
returns g c =
    let start = string_bytes c.args.out.now in
    let text = c.args.text.now in
    let bytes : (k : ℕ) → get_or text k 0 < 256 = λ k. omega (arith, c.type_inv.text k) in
    let front = replicate c.args.before 32 in
    let back = replicate c.args.after 32 in
    subst (λ (x : List ℕ). OnOk c.push_columns-2.result (string_bytes c.push_columns-2.new.content ≡ x))
    (ap (λ (x : List ℕ). x ++ back) (c.in_ok-push_encoded.ensures ∙ ap (λ (x : List ℕ). x ++ encode text) c.in_ok-push_columns.ensures)
    ∙ ap (λ (x : List ℕ). x ++ back) (append_assoc start front (encode text))
    ∙ append_assoc start (front ++ encode text) back
    ∙ ap (λ (x : List ℕ). start ++ x) (sym (chunk_said c.args.before c.args.after text bytes)))
    c.push_columns-2.ensures
