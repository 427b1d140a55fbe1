use Rattle.std.proofs.Common.{◌≡◌, ◌++◌, ◌∙◌, sym, subst, ℕ, List, OnOk, string_bytes}
use Rattle.compile_written.proofs.Prelude.{formed}
use Rattle.compile_written.proofs.FormedTexts.{text_valid, no_valid}
use Rattle.compile_written.proofs.string.push_piece.Goals as goal

pub returns-in-Ok : goal.returns-in-Ok
returns-in-Ok g c =
    subst (λ (z : List ℕ). OnOk c.push_formed.result (string_bytes c.push_formed.new.out ≡ string_bytes c.args.out.now ++ formed c.args.form z))
    (c.in-Ok.ensures.cases.0 ∙ sym (text_valid c.args.piece.now c.in-Ok.ensures.cases.1))
    c.push_formed.ensures

pub returns-in-Err : goal.returns-in-Err
returns-in-Err g c = no_valid c.args.form (string_bytes c.args.out.now) c.args.piece.now c.in-Err.ensures.cases.0
