use Rattle.std.proofs.Common.{◌≡◌, ◌++◌, List, ℕ, string_bytes, sym, ap, ◌∙◌, subst, rules}
use Rattle.html_heading_text.specs.Forms.{form_bytes}
use Rattle.std.specs.Prelude.{OnOk}
use Rattle.html_heading_text.proofs.FormedText.{formed_bytes}
use Rattle.html_heading_text.proofs.form.push_formed.Goals as goal

pub returns-in-Bytes : goal.returns-in-Bytes
returns-in-Bytes g c =
    let text = c.args.text.now in
    let printed : OnOk c.push_str.result (string_bytes c.push_str.new.self ≡ string_bytes c.args.out.now ++ text) = search rules in
    subst (λ (s : List ℕ). OnOk c.push_str.result (string_bytes c.push_str.new.self ≡ string_bytes c.args.out.now ++ s))
    (sym (ap (λ f. form_bytes f text) c.in-Bytes.is ∙ formed_bytes text)) printed
