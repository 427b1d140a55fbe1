use Rattle.std.proofs.Common.{◌≡◌, ◌++◌, ℕ, ◌<◌, cond, List, string_bytes, sym, ap, ◌∙◌, append_assoc, get_or, arith}
use Rattle.std.specs.Prelude.{replicate, Result, Ok, Err, OnOk}
use Rattle.std.specs.Result.{is_ok}
use Rattle.definition_text.proofs.CodeBytes.{owed_bytes}
use Rattle.text_pieces.proofs.content.push_line.Goals as goal

pub returns : goal.returns
returns g c =
    let start = string_bytes c.args.content.now in
    let text = c.args.text.now in
    let bytes : (k : ℕ) → get_or text k 0 < 256 = λ k. omega (arith, c.type_inv.text k) in
    let spaces = replicate c.args.owed 32 in
    let more = ap (λ x. x ++ text) c.in_ok-push_columns.ensures ∙ append_assoc start spaces text
    ∙ ap (λ x. start ++ x) (sym (owed_bytes c.args.owed text bytes)) in
    where_ok (string_bytes c.push_columns.new.content) c.push_str.result c.push_str.ensures.bytes more
  where
    where_ok : {T E : Type 0} {now then want : List ℕ} (other : List ℕ) (r : Result T E) → now ≡ cond (is_ok r) then other → then ≡ want → OnOk r (now ≡ want)
    where_ok other (Ok x) is same = is ∙ same
    where_ok other (Err e) is same = tt
