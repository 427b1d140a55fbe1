use Rattle.std.proofs.Common.{◌≡◌, ◌++◌, List, ℕ, string_bytes, subst}
use Rattle.std.specs.Prelude.{OnOk}
use Rattle.html_escape.proofs.Printed.{replaced_text}
use Rattle.html_escape.proofs.encode.push_text.Goals as goal

pub returns : goal.returns
returns g c =
    subst (λ (printed : List ℕ). OnOk c.push_replaced.result (string_bytes c.push_replaced.new.out ≡ string_bytes c.args.out.now ++ printed))
    (replaced_text c.args.html c.args.text.now) c.push_replaced.ensures
